-- The events of a move, and those behind it.
use Rattle.std.proofs.Common.{◌≡◌, ℕ, ◌+◌, ◌*◌, ◌<◌, ◌^◌, List, length, ap, ◌∙◌, arith}
use Rattle.step_data.specs.declared.event.Event.{Event}
use Rattle.lockstep_model.specs.Walk.{Walk, Reply, moved}
use Rattle.lockstep_model.specs.WalkLaws.{moved_keeps}
use Rattle.lockstep_model.specs.Works.{events_of}
use Rattle.run_counts.specs.declared.counts.EventCounts.{EventCounts}
use Rattle.run_counts.specs.Counts.{gained, total}
use Rattle.run_counts.specs.CountLaws.{counts_join, total_few}

-- counted one behind the other
pub move_counts : (c now : EventCounts) (w : Walk) (r : Reply) → now ≡ gained c (moved w r).events →
    gained now (events_of (moved w r).walk.works) ≡ gained c (events_of w.works)
move_counts c now w r e =
    ap (λ n. gained n (events_of (moved w r).walk.works)) e
    ∙ counts_join c (moved w r).events (events_of (moved w r).walk.works)
    ∙ ap (gained c) (moved_keeps w r).events

-- a move leaves room for those that are left
pub room_left : (t t' a b : ℕ) → b < a → t' < t + 2 ^ 64 → t + (a + 1) * 2 ^ 64 < 2 ^ 128 → t' + (b + 1) * 2 ^ 64 < 2 ^ 128
room_left t t' a b fall few room = omega (arith, fall, few, room)

-- each attempt is the engine's own, where none is found
pub spent : (own left own' left' found all : ℕ) → (own < 2 ^ 63 → own' + left' + found ≡ own + left) → found ≡ 0 → own + left ≡ all → all < 2 ^ 63 → own' + left' ≡ all
spent own left own' left' found all spends none so low =
    let whole = spends (omega (arith, so, low)) in
    omega (arith, whole, none, so)

-- the events of a list are fewer than 2^64
pub few_more : (c now : EventCounts) (events : List Event) → now ≡ gained c events → length events < 2 ^ 64 → total now < total c + 2 ^ 64
few_more c now events e low =
    let few = total_few c events in
    let same = ap total e in
    omega (arith, few, same, low)
