use Rattle.std.proofs.Common.{◌≡◌, drop}
use Rattle.elab_meaning.specs.Parts.{both}
use Rattle.unit_meaning.specs.Simultaneous as spec
use Rattle.statement_parts.specs.Lists.{joined}
use Rattle.simultaneous_types.proofs.alternatives.case_arms.Given as goal

abbrev pub invariant-loop-alternative : goal.invariant-loop-alternative
invariant-loop-alternative l =
    let rest = spec.case_arms l.setting l.scope l.kind l.seen (drop l.alternative-index l.alternatives) l.notes in
    let whole = spec.case_arms l.setting l.scope l.kind l.fn.seen l.alternatives l.fn.notes in
    record {
      notes : rest.0 ≡ whole.0;
      seen : rest.1.0 ≡ whole.1.0;
      told : both joined l.all rest.1.1 ≡ whole.1.1;
    }
