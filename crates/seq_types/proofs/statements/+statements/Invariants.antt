use Rattle.std.proofs.Common.{◌≡◌, map, drop}
use Rattle.elab_meaning.specs.Parts.{both}
use Rattle.unit_meaning.specs.Sequential as spec
use Rattle.statement_parts.specs.Lists.{joined}
use Rattle.seq_types.specs.Parts.{branch_of, alternative_of}
use Rattle.seq_types.proofs.statements.+statements.Given as goal

abbrev pub invariant-body-loop-written : goal.invariant-body-loop-written
invariant-body-loop-written l =
    let rest = spec.body (map (spec.statement_of l.setting) (drop l.written-index l.statements)) l.scope l.spot l.number l.draft in
    let whole = spec.body (map (spec.statement_of l.setting) l.statements) l.fn.scope l.spot 0 l.fn.draft in
    record {
      draft : rest.0 ≡ whole.0;
      told : both joined l.all rest.1 ≡ whole.1;
      scope : l.scope ≡ l.fn.scope;
    }

abbrev pub invariant-branches-loop-arm : goal.invariant-branches-loop-arm
invariant-branches-loop-arm l =
    let rest = spec.branches (map (branch_of l.setting) (drop l.arm-index l.arms)) l.scope l.spot l.statement l.number l.draft in
    let whole = spec.branches (map (branch_of l.setting) l.arms) l.fn.scope l.spot l.statement 0 l.fn.draft in
    record {
      draft : rest.0 ≡ whole.0;
      told : both joined l.all rest.1 ≡ whole.1;
      scope : l.scope ≡ l.fn.scope;
    }

abbrev pub invariant-alternatives-loop-arm : goal.invariant-alternatives-loop-arm
invariant-alternatives-loop-arm l =
    let rest = spec.alternatives (map (alternative_of l.setting) (drop l.arm-index l.arms)) l.scope l.spot l.statement l.number l.kind l.seen l.draft in
    let whole = spec.alternatives (map (alternative_of l.setting) l.arms) l.fn.scope l.spot l.statement 0 l.kind l.fn.seen l.fn.draft in
    record {
      draft : rest.0 ≡ whole.0;
      seen : rest.1.0 ≡ whole.1.0;
      told : both joined l.all rest.1.1 ≡ whole.1.1;
      scope : l.scope ≡ l.fn.scope;
    }
