use Rattle.std.proofs.Common.{◌≡◌, ◌<◌, ℕ, length, get_or, refl, arith, ◌∙◌, ap}
use Rattle.std.proofs.lemmas.List.{length-replicate}
use Rattle.kernel_world.specs.Acting.{context_of, world_of}
use Rattle.resumption.specs.Waits.{contexts_of}
use Rattle.resumption.proofs.Looking.{there_at, all_answered, one_refused}
use Rattle.resumption_calls.proofs.Called.{before_called, all_called, marked_called}
use Rattle.resumption_calls.proofs.look.Goals as goal

pub is_met-requires-clause-there : goal.is_met-requires-clause-there
is_met-requires-clause-there g c =
    there_at (λ s. g.S.Asleep.asleep s) c.args.world.now c.args.sleepers.now (get_or c.args.called.now c.loop-k.k-index 0) c.index-sleepers-k.result c.requires.there
    (c.requires.within c.loop-k.k-index 0 c.loop-k-test.true) c.index-sleepers-k.is

pub returns-in-Err-clause-found : goal.returns-in-Err-clause-found
returns-in-Err-clause-found g c =
    let k : ℕ = get_or c.args.called.now c.loop-k.k-index 0 in
    let within : k < length c.args.sleepers.now = c.requires.within c.loop-k.k-index 0 c.loop-k-test.true in
    one_refused (λ s. g.S.Asleep.asleep s) (contexts_of c.args.world.now) (world_of c.args.world.now) (context_of c.args.world.now).objects.processes _ c.args.sleepers.now c.loop-k.resumed k
    c.index-sleepers-k.result c.in-Err.refusal c.requires.waits c.requires.count within c.index-sleepers-k.is
    (before_called (λ s. g.S.Asleep.asleep s) (contexts_of c.args.world.now) (world_of c.args.world.now) _ c.args.sleepers.now c.loop-k.resumed c.args.called.now c.loop-k.k-index k
    c.requires.rises c.requires.quiet c.loop-k-test.true refl within c.loop-k.invariant)
    c.in-Err.ensures

pub returns-clause-found : goal.returns-clause-found
returns-clause-found g c =
    let whole : length c.loop-k.resumed ≡ length c.args.sleepers.now = c.loop-k.auto.resumed ∙ (ap length c.requires.room ∙ length-replicate _ _) in
    all_answered (λ s. g.S.Asleep.asleep s) (contexts_of c.args.world.now) (world_of c.args.world.now) (context_of c.args.world.now).objects.processes _ c.args.sleepers.now c.loop-k.resumed
    (length c.args.sleepers.now) c.requires.waits c.requires.count whole refl
    (all_called (λ s. g.S.Asleep.asleep s) (contexts_of c.args.world.now) (world_of c.args.world.now) _ c.args.sleepers.now c.loop-k.resumed c.args.called.now c.loop-k.k-index
    c.requires.quiet (omega arith) c.loop-k.invariant)

pub returns-clause-marked : goal.returns-clause-marked
returns-clause-marked g c =
    marked_called (λ s. g.S.Asleep.asleep s) (contexts_of c.args.world.now) (world_of c.args.world.now) _ c.args.sleepers.now c.loop-k.resumed c.args.called.now c.loop-k.k-index
    (omega arith) c.loop-k.invariant
