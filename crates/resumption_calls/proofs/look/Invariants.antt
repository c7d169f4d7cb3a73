use Rattle.std.proofs.Common.{take}
use Rattle.kernel_world.specs.Acting.{world_of}
use Rattle.resumption.specs.Waits.{rows_of, contexts_of}
use Rattle.resumption_calls.proofs.Called.{IsAsked}
use Rattle.resumption_calls.proofs.look.Given as goal

-- the first of those that are called have their answers
abbrev pub invariant-loop-k : goal.invariant-loop-k
invariant-loop-k g l = IsAsked (λ s. g.S.Asleep.asleep s) (contexts_of l.world) (world_of l.world) (rows_of l.waits.rows.items) l.sleepers l.resumed (take l.k-index l.called)
