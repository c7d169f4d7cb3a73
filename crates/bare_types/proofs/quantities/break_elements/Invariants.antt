use Rattle.std.proofs.Common.{◌≡◌, drop}
use Rattle.elab_meaning.specs.Parts.{both}
use Rattle.unit_meaning.specs.Settings.{listed}
use Rattle.unit_meaning.specs.Bare as spec
use Rattle.statement_parts.specs.Lists.{joined}
use Rattle.bare_types.proofs.quantities.break_elements.Given as goal

abbrev pub invariant-loop-element : goal.invariant-loop-element
invariant-loop-element l =
    let rest = listed (spec.break_element l.setting l.scope) (drop l.element-index l.elements) l.notes in
    let whole = listed (spec.break_element l.setting l.scope) l.elements l.fn.notes in
    record {
      notes : rest.0 ≡ whole.0;
      told : both joined l.all rest.1 ≡ whole.1;
    }
