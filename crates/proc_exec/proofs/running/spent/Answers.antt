use Rattle.proc_exec.proofs.Stepping.{each_can}
use Rattle.proc_exec.proofs.running.spent.Goals as goal

pub coming-requires-clause-can : goal.coming-requires-clause-can
coming-requires-clause-can g c =
    each_can (g.A.Activation.context c.args.at.now) (g.A.Activation.local c.args.at.now) (g.A.Values.readings c.args.at.now) c.args.text.now c.args.stack.now (g.met.A.Activation.reads c.args.at.now) c.requires
