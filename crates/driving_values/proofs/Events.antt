-- The events of signals that change one by one, in signal order.
use Rattle.std.proofs.Common.{◌≡◌, ℕ, zero, suc, ◌<◌, ◌≤◌, ◌+◌, Bool, true, false, List, [], ◌∷◌, ◌++◌, length, get_or, set, Some, refl, sym, ap, ◌∙◌, arith, append_assoc}
use Rattle.std.specs.Prelude.{Option, None, slice_get}
use Rattle.std.proofs.lemmas.List.{append-nil}
use Rattle.std.proofs.lemmas.Option.{slice_get-get_or}
use Rattle.ams_value.specs.declared.val.Val.{Val}
use Rattle.ams_value.specs.declared.val.Val.TheVariants as val
use Rattle.step_data.specs.declared.trans.Trans.{Trans}
use Rattle.step_data.specs.declared.event.Event.{Event}
use Rattle.step_data.specs.declared.event.Event.TheVariants.{Signal}
use Rattle.step_model.specs.Kernel.{IsPrefixOf}
use Rattle.design_meaning.specs.Readings.{Seen}
use Rattle.cycle_meaning.specs.Cycles.{event_if, signal_events}
use Rattle.driving_values.specs.Driving.{seens, driven_by}

-- no signal from a number on has an event
abbrev pub StillFrom : ℕ → List Seen → Type 0
StillFrom j S = (i : ℕ) (d : Seen) → j ≤ i → i < length S → (get_or S i d).event ≡ false

tail_still : (j : ℕ) (x : Seen) (S : List Seen) → StillFrom (suc j) (x ∷ S) → StillFrom j S
tail_still j x S h = λ i d le lt. h (suc i) d (omega arith) (omega arith)

from_none : (x : Seen) (S : List Seen) → StillFrom 0 (x ∷ S) → StillFrom 0 S
from_none x S h = λ i d le lt. h (suc i) d (omega arith) (omega arith)

no_event : (b : Bool) (e : Event) → b ≡ false → event_if b e ≡ []
no_event true e h = cc
no_event false e h = refl

still_none : (t n b : ℕ) (S : List Seen) → StillFrom 0 S → signal_events t n b S ≡ []
still_none t n b [] h = refl
still_none t n b (x ∷ S) h =
    let none : x.event ≡ false = h 0 x (omega arith) (omega arith) in
    rw (no_event x.event (Signal t n b x.value) none, still_none t n (b + 1) S (from_none x S h)) refl

pub given_once : (t n b j : ℕ) (S : List Seen) (s : Seen) → j < length S → StillFrom j S → signal_events t n b (set S j s) ≡ signal_events t n b S ++ event_if s.event (Signal t n (b + j) s.value)
given_once t n b j [] s h still = absurd (omega arith)
given_once t n b zero (x ∷ S) s h still =
    let none : x.event ≡ false = still 0 x (omega arith) (omega arith) in
    let place : b + zero ≡ b = omega arith in
    rw (no_event x.event (Signal t n b x.value) none, still_none t n (b + 1) S (from_none x S still), place) (append-nil (event_if s.event (Signal t n b s.value)))
given_once t n b (suc j) (x ∷ S) s h still =
    let place : (b + 1) + j ≡ b + suc j = omega arith in
    ap (λ l. event_if x.event (Signal t n b x.value) ++ l) (given_once t n (b + 1) j S s (omega arith) (tail_still j x S still))
    ∙ sym (append_assoc (event_if x.event (Signal t n b x.value)) (signal_events t n (b + 1) S) (event_if s.event (Signal t n ((b + 1) + j) s.value)))
    ∙ ap (λ k. (event_if x.event (Signal t n b x.value) ++ signal_events t n (b + 1) S) ++ event_if s.event (Signal t n k s.value)) place

-- where all signals before a number have their events already
pub front_of : (t n b j : ℕ) (S F : List Seen) → length F ≡ length S → StillFrom j S → ((i : ℕ) (d : Seen) → i < j → i < length S → get_or F i d ≡ get_or S i d)
    → IsPrefixOf (signal_events t n b S) (signal_events t n b F)
front_of t n b j [] F e still same = (signal_events t n b F, refl)
front_of t n b j (x ∷ S) [] e still same = absurd (omega arith)
front_of t n b zero (x ∷ S) (y ∷ F) e still same =
    (signal_events t n b (y ∷ F), ap (λ l. l ++ signal_events t n b (y ∷ F)) (still_none t n b (x ∷ S) still))
front_of t n b (suc j) (x ∷ S) (y ∷ F) e still same =
    let more = front_of t n (b + 1) j S F (omega arith) (tail_still j x S still) (λ i d h g. same (suc i) d (omega arith) (omega arith)) in
    let head : y ≡ x = same 0 y (omega arith) (omega arith) in (
      more.0,
      append_assoc (event_if x.event (Signal t n b x.value)) (signal_events t n (b + 1) S) more.0
          ∙ ap (λ l. event_if x.event (Signal t n b x.value) ++ l) more.1
          ∙ ap (λ (z : Seen). event_if z.event (Signal t n b z.value) ++ signal_events t n (b + 1) F) (sym head),
    )

-- ---- signals that nothing drives stay

pub length_driven : (dues : ℕ → Option Trans) (b : ℕ) (S : List Seen) → length (driven_by dues b S) ≡ length S
length_driven dues b [] = refl
length_driven dues b (s ∷ S) = ap suc (length_driven dues (b + 1) S)

pub driven_at : (dues : ℕ → Option Trans) (b i : ℕ) (S : List Seen) (d : Seen) → i < length S → dues (b + i) ≡ None → get_or (driven_by dues b S) i d ≡ get_or S i d
driven_at dues b i [] d h none = absurd (omega arith)
driven_at dues b zero (s ∷ S) d h none =
    let place : b + zero ≡ b = omega arith in
    let here : dues b ≡ None = ap dues (sym place) ∙ none in
    rw here refl
driven_at dues b (suc i) (s ∷ S) d h none =
    let place : (b + 1) + i ≡ b + suc i = omega arith in
    driven_at dues (b + 1) i S d (omega arith) (ap dues place ∙ none)

-- ---- what is seen of one signal

pub length_seens : (values : List Val) (events : List Bool) → length events ≡ length values → length (seens values events) ≡ length values
length_seens [] events e = refl
length_seens (v ∷ values) [] e = absurd (omega arith)
length_seens (v ∷ values) (b ∷ events) e = ap suc (length_seens values events (omega arith))

pub seen_at : (values : List Val) (events : List Bool) (i : ℕ) (d : Seen) → length events ≡ length values → i < length values
    → get_or (seens values events) i d ≡ record { value = get_or values i (val.Bool false); event = get_or events i false }
seen_at [] events i d e h = absurd (omega arith)
seen_at (v ∷ values) [] i d e h = absurd (omega arith)
seen_at (v ∷ values) (b ∷ events) zero d e h = refl
seen_at (v ∷ values) (b ∷ events) (suc i) d e h = seen_at values events i d (omega arith) (omega arith)

pub event_still : (values : List Val) (events : List Bool) (i j : ℕ) → length events ≡ length values → i < length values → j ≤ i → StillFrom j (seens values events) → slice_get events i ≡ Some false
event_still values events i j e h le still =
    let S = seens values events in
    let d : Seen = record { value = val.Bool false; event = false } in
    let inside : i < length S = rw (length_seens values events e) h in
    let long : i < length events = omega arith in
    let none : get_or events i false ≡ false = sym (ap (λ (s : Seen). s.event) (seen_at values events i d e h)) ∙ still i d le inside in
    slice_get-get_or events i false long ∙ ap Some none
