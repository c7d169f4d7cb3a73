use Rattle.std.proofs.Common.{◌≡◌, drop}
use Rattle.elab_meaning.specs.Parts.{both}
use Rattle.unit_meaning.specs.Settings.{listed}
use Rattle.unit_meaning.specs.Simultaneous as spec
use Rattle.statement_parts.specs.Lists.{joined}
use Rattle.equation_types.proofs.equations.pairs.Given as goal

abbrev pub invariant-loop-equation : goal.invariant-loop-equation
invariant-loop-equation l =
    let rest = listed (spec.pair l.setting l.scope) (drop l.equation-index l.equations) l.notes in
    let whole = listed (spec.pair l.setting l.scope) l.equations l.fn.notes in
    record {
      notes : rest.0 ≡ whole.0;
      told : both joined l.all rest.1 ≡ whole.1;
    }
