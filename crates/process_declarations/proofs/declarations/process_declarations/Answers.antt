use Rattle.std.proofs.Common.{drop}
use Rattle.process_declarations.proofs.Outer.{still_outer}
use Rattle.process_declarations.proofs.declarations.process_declarations.Goals as goal

pub returns-clause-outer : goal.returns-clause-outer
returns-clause-outer c =
    still_outer c.args.names.now c.args.all.now (drop c.loop-written.written-index c.args.all.now) c.args.scope.now c.loop-written.scope c.args.read.now c.loop-written.read c.loop-written.invariant.told
