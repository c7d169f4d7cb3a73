use Rattle.std.proofs.Common.{◌≡◌, ℕ, ◌<◌, [], false, get_or, map, Ok}
use Rattle.kernel_world.specs.Acting.{world_of}
use Rattle.resumption.specs.Sleeps.{met}
use Rattle.resumption.specs.Waits.{rows_of, contexts_of, no_sleep}
use Rattle.resumption.proofs.resuming.look.Given as goal

-- those before have their answers
abbrev pub invariant-loop-k : goal.invariant-loop-k
invariant-loop-k g l =
    (j : ℕ) → j < l.k → met (contexts_of l.world j) (world_of l.world) (get_or (rows_of l.waits.rows.items) j []) (get_or (map (λ s. g.S.Asleep.asleep s) l.sleepers) j no_sleep) ≡ Ok (get_or l.resumed j false)
