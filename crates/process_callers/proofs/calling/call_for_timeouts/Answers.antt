use Rattle.std.proofs.Common.{◌≡◌, Some, ℕ, List, ◌∙◌, sym, subst, arith}
use Rattle.std.specs.Prelude.{position}
use Rattle.agenda.specs.Times.{is_time}
use Rattle.process_callers.proofs.Hearing.{IsCalling, found_smaller, calling_more, calling_done}
use Rattle.process_callers.proofs.calling.call_for_timeouts.Goals as goal

pub loop-process-smaller : goal.loop-process-smaller
loop-process-smaller c =
    let at : position (λ time. is_time time c.args.now) c.loop-process.timeouts ≡ Some c.in-Some.process = sym c.first_at.ensures ∙ c.in-Some.is in
    found_smaller c.args.now c.in-Some.process c.loop-process.timeouts c.forget.new.self at c.forget.ensures

pub loop-process-preserved : goal.loop-process-preserved
loop-process-preserved c =
    let at : position (λ time. is_time time c.args.now) c.loop-process.timeouts ≡ Some c.in-Some.process = sym c.first_at.ensures ∙ c.in-Some.is in
    subst (λ (l : List ℕ). IsCalling c.args.now c.args.timeouts.now c.args.called.now.items c.forget.new.self l) (sym c.in_ok-push.ensures.items)
    (calling_more c.args.now c.in-Some.process c.args.timeouts.now c.args.called.now.items c.loop-process.timeouts c.forget.new.self c.loop-process.called.items at c.forget.ensures c.loop-process.invariant)

pub returns-clause-left : goal.returns-clause-left
returns-clause-left c = (calling_done c.args.now c.args.timeouts.now c.args.called.now.items c.loop-process.timeouts c.loop-process.called.items (sym c.first_at.ensures ∙ c.in_default.is) c.loop-process.invariant).0

pub returns-clause-calls : goal.returns-clause-calls
returns-clause-calls c = (calling_done c.args.now c.args.timeouts.now c.args.called.now.items c.loop-process.timeouts c.loop-process.called.items (sym c.first_at.ensures ∙ c.in_default.is) c.loop-process.invariant).1
