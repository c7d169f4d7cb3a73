use Rattle.std.proofs.Common.{◌∙◌, map, sym, subst}
use Rattle.unit_meaning.specs.Sequential as spec
use Rattle.simple_types.specs.Drafts.{FindsIn}
use Rattle.seq_types.specs.Parts.{branch_of, alternative_of}
use Rattle.seq_types.proofs.Folds.{case_read}
use Rattle.seq_types.proofs.Steps.{branches_step, alternatives_step}
use Rattle.seq_types.proofs.statements.+statements.Goals as goal

pub branches-loop-arm-preserved : goal.branches-loop-arm-preserved
branches-loop-arm-preserved t c =
    let step = branches_step (branch_of c.args.setting.now) c.args.arms.now c.loop-arm.arm-index c.arm-item.result c.loop-arm.scope c.branch-alloc.new.scope c.args.scope.now c.args.spot.now c.in_ok-way.way c.args.statement c.loop-arm.number c.in_ok-number.number c.loop-arm.draft c.branch-alloc.new.draft _ c.loop-arm.all c.in_ok-all.all _ c.in_ok-one.one c.loop-arm-test.true c.arm-item.is c.in_ok-way.ensures c.in_ok-one.ensures.found.0 c.in_ok-one.ensures.found.1 c.in_ok-one.ensures.scope c.in_ok-all.ensures c.in_ok-number.ensures c.loop-arm.invariant.draft c.loop-arm.invariant.told c.loop-arm.invariant.scope in
    record { draft = step.0; told = step.1.0; scope = step.1.1 }

pub alternatives-loop-arm-preserved : goal.alternatives-loop-arm-preserved
alternatives-loop-arm-preserved t c =
    let step = alternatives_step (alternative_of c.args.setting.now) c.args.arms.now c.loop-arm.arm-index c.arm-item.result c.loop-arm.scope c.alternative.new.scope c.args.scope.now c.args.spot.now c.in_ok-way.way c.args.statement c.loop-arm.number c.in_ok-number.number c.args.kind.now c.loop-arm.seen c.alternative.new.seen _ c.loop-arm.draft c.alternative.new.draft _ c.loop-arm.all c.in_ok-all.all _ c.in_ok-one.one c.loop-arm-test.true c.arm-item.is c.in_ok-way.ensures c.in_ok-one.ensures.found.0 c.in_ok-one.ensures.seen c.in_ok-one.ensures.found.1 c.in_ok-one.ensures.scope c.in_ok-all.ensures c.in_ok-number.ensures c.loop-arm.invariant.draft c.loop-arm.invariant.seen c.loop-arm.invariant.told c.loop-arm.invariant.scope in
    record { draft = step.0; seen = step.1.0; told = step.1.1.0; scope = step.1.1.1 }

pub for_body-returns-clause-scope : goal.for_body-returns-clause-scope
for_body-returns-clause-scope t c = c.leave_loop.ensures c.args.scope.now c.args.name.number c.args.parameter (c.in_ok-inner.ensures.scope ∙ c.in_ok-enter_loop.ensures.region)

pub statement-returns-in-Case-clause-found : goal.statement-returns-in-Case-clause-found
statement-returns-in-Case-clause-found t c =
    subst (λ s. FindsIn (spec.statement_of c.args.setting.now s c.args.scope.now c.args.spot.now c.args.number c.args.draft.now) c.case_statement.result c.case_statement.new.draft) (sym c.in-Case.is)
    (subst (λ read. FindsIn read c.case_statement.result c.case_statement.new.draft) (sym (case_read c.args.setting.now c.in-Case.place c.in-Case.expr c.in-Case.arms c.args.scope.now c.args.spot.now c.args.number c.args.draft.now))
    (subst (λ all. FindsIn (spec.whole c.in-Case.place (spec.case_statement c.args.setting.now c.in-Case.expr (map (alternative_of c.args.setting.now) all) c.args.scope.now c.args.spot.now c.args.number c.args.draft.now)) c.case_statement.result c.case_statement.new.draft) c.as_slice-in-Case.ensures c.case_statement.ensures.found))
