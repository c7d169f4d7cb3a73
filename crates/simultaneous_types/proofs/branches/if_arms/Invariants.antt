use Rattle.std.proofs.Common.{◌≡◌, drop}
use Rattle.elab_meaning.specs.Parts.{both}
use Rattle.unit_meaning.specs.Settings.{listed}
use Rattle.unit_meaning.specs.Simultaneous as spec
use Rattle.statement_parts.specs.Lists.{joined}
use Rattle.simultaneous_types.proofs.branches.if_arms.Given as goal

abbrev pub invariant-loop-branch : goal.invariant-loop-branch
invariant-loop-branch l =
    let rest = listed (spec.if_arm l.setting l.scope) (drop l.branch-index l.branches) l.notes in
    let whole = listed (spec.if_arm l.setting l.scope) l.branches l.fn.notes in
    record {
      notes : rest.0 ≡ whole.0;
      told : both joined l.all rest.1 ≡ whole.1;
    }
