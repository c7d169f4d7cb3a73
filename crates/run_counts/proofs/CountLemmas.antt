-- One event of a list more.
use Rattle.std.proofs.Common.{◌≡◌, ℕ, ◌+◌, ◌<◌, List, [], ◌∷◌, ◌++◌, length, take, get_or, sym, ap, ◌∙◌, arith}
use Rattle.std.proofs.lemmas.List.{take_more, length-take-le}
use Rattle.step_data.specs.declared.event.Event.{Event}
use Rattle.run_counts.specs.declared.counts.EventCounts.{EventCounts}
use Rattle.run_counts.specs.Counts.{gained, gained_one, total}
use Rattle.run_counts.specs.CountLaws.{counts_join, counts_are, total_few}

one_gained : (c : EventCounts) (e : Event) → gained_one c e ≡ gained c (e ∷ [])
one_gained c e = counts_are _ _ _ _ _ _ (omega arith) (omega arith) (omega arith)

pub one_more : (c now : EventCounts) (events : List Event) (i : ℕ) (e : Event) → now ≡ gained c (take i events) → i < length events → e ≡ get_or events i e →
    gained_one now e ≡ gained c (take (i + 1) events)
one_more c now events i e so low is =
    ap (λ n. gained_one n e) so ∙ one_gained (gained c (take i events)) e ∙ counts_join c (take i events) (e ∷ [])
    ∙ ap (gained c) (ap (λ x. take i events ++ x ∷ []) is ∙ sym (take_more events i e low))

pub room_for_one : (c now : EventCounts) (events : List Event) (i most : ℕ) → now ≡ gained c (take i events) → i < length events → total c + length events < most →
    total now + 1 < most
room_for_one c now events i most so low room =
    let few = total_few c (take i events) in
    let same = ap total so in
    let len = length-take-le i events (omega (arith, low)) in
    omega (arith, few, same, len, low, room)
