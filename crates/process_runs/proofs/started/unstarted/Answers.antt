use Rattle.std.proofs.Common.{◌+◌, sym, subst, List, arith}
use Rattle.process_runs.specs.Kept.{Kept}
use Rattle.process_runs.proofs.Nexts.{got}
use Rattle.process_runs.proofs.Starts.{Laid, laid_first, laid_on, laid_all, unstarted_is}
use Rattle.process_runs.proofs.started.unstarted.Goals as goal

pub loop-process-init : goal.loop-process-init
loop-process-init c = subst (λ (ks : List Kept). Laid c.args.processes.now ks 0) (sym c.new-all.ensures.items) (laid_first c.args.processes.now)

pub loop-process-preserved : goal.loop-process-preserved
loop-process-preserved c =
    subst (λ (ks : List Kept). Laid c.args.processes.now ks (c.loop-process.process-index + 1)) (sym c.in_ok-push.ensures.items)
    (laid_on c.args.processes.now c.loop-process.all.items c.loop-process.process-index c.process-item.result c.in_ok-new.field-0 c.loop-process.invariant
    (got c.args.processes.now c.loop-process.process-index c.process-item.result c.process-item.result c.loop-process-test.true (sym c.process-item.is))
    (unstarted_is c.process-item.result c.in_ok-new.field-0 c.in_ok-new.ensures))

pub returns : goal.returns
returns c = laid_all c.args.processes.now c.loop-process.all.items c.loop-process.process-index (omega arith) c.loop-process.invariant
