use Rattle.std.proofs.Common.{length, sym, ap, ◌∙◌, arith}
use Rattle.flat_design.specs.declared.objects.Process.{Process}
use Rattle.process_callers.proofs.Having.{built_none, built_more, have_callers, process_at}
use Rattle.process_callers.proofs.callers.Callers.new.Goals as goal

pub loop-k-preserved : goal.loop-k-preserved
loop-k-preserved c =
    let at = process_at c.args.flat.now.processes c.processes-processes.result.now c.loop-k.k c.index-processes-k.result c.processes-processes.ensures c.loop-k-test.true c.index-processes-k.is in
    built_more (length c.args.flat.now.processes) c.args.flat.now.processes c.loop-k.k (length c.args.flat.now.signals) (length c.args.flat.now.thresholds) c.index-processes-k.result c.loop-k.callers c.add_process.new.self
    at.0 c.loop-k.invariant (c.in_ok-add_process.ensures (length c.args.flat.now.processes) at.1)

pub returns-clause-callers : goal.returns-clause-callers
returns-clause-callers c =
    have_callers c.args.flat.now.processes c.loop-k.k (length c.args.flat.now.signals) (length c.args.flat.now.thresholds) c.loop-k.callers
    (let e = ap length c.processes-processes.ensures in omega (arith, e)) c.loop-k.invariant
