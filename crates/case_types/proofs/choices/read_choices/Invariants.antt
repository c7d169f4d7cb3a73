use Rattle.std.proofs.Common.{◌≡◌, drop}
use Rattle.elab_meaning.specs.Parts.{judged}
use Rattle.unit_meaning.specs.Cases as spec
use Rattle.case_types.specs.Choices.{fine}
use Rattle.case_types.proofs.choices.read_choices.Given as goal

abbrev pub invariant-loop-choice : goal.invariant-loop-choice
invariant-loop-choice l =
    let rest = spec.choices l.setting l.scope l.context l.kind l.seen (drop l.choice-index l.choices) l.notes in
    let whole = spec.choices l.setting l.scope l.context l.kind l.fn.seen l.choices l.fn.notes in
    record {
      notes : rest.0 ≡ whole.0;
      seen : rest.1.0 ≡ whole.1.0;
      told : spec.beside l.fine rest.1.1 ≡ whole.1.1;
      stands : judged fine l.fine ≡ l.fine;
    }
