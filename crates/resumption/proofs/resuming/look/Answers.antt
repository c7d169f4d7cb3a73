use Rattle.std.proofs.Common.{arith}
use Rattle.kernel_world.specs.Acting.{context_of, world_of}
use Rattle.resumption.specs.Waits.{contexts_of}
use Rattle.resumption.proofs.Looking.{there_at, one_more, all_answered, one_refused}
use Rattle.resumption.proofs.resuming.look.Goals as goal

pub is_met-requires-clause-there : goal.is_met-requires-clause-there
is_met-requires-clause-there g c =
    there_at (λ s. g.S.Asleep.asleep s) c.args.world.now c.args.sleepers.now c.loop-k.k c.index-sleepers-k.result c.requires.there c.loop-k-test.true c.index-sleepers-k.is

pub returns-in-Err : goal.returns-in-Err
returns-in-Err g c =
    one_refused (λ s. g.S.Asleep.asleep s) (contexts_of c.args.world.now) (world_of c.args.world.now) (context_of c.args.world.now).objects.processes _ c.args.sleepers.now c.loop-k.resumed c.loop-k.k
    c.index-sleepers-k.result c.in-Err.refusal c.requires.waits c.requires.count c.loop-k-test.true c.index-sleepers-k.is c.loop-k.invariant c.in-Err.ensures

pub loop-k-preserved : goal.loop-k-preserved
loop-k-preserved g c =
    one_more (λ s. g.S.Asleep.asleep s) (contexts_of c.args.world.now) (world_of c.args.world.now) _ c.args.sleepers.now c.loop-k.resumed c.loop-k.k c.index-sleepers-k.result
    c.in-Ok.answer (omega arith) c.loop-k-test.true c.index-sleepers-k.is c.loop-k.invariant c.in-Ok.ensures

pub returns : goal.returns
returns g c =
    all_answered (λ s. g.S.Asleep.asleep s) (contexts_of c.args.world.now) (world_of c.args.world.now) (context_of c.args.world.now).objects.processes _ c.args.sleepers.now c.loop-k.resumed c.loop-k.k
    c.requires.waits c.requires.count (omega arith) (omega arith) c.loop-k.invariant
