-- The queues of drivers.
use Rattle.std.proofs.Common.{◌≡◌, ℕ, zero, suc, ◌<◌, ◌≤◌, ◌+◌, List, [], ◌∷◌, ◌++◌, length, get_or, set, refl, sym, ap, ◌∙◌, arith}
use Rattle.std.specs.Prelude.{Option, None, IfSome, replicate, position}
use Rattle.std.specs.List.{All, position_or_len}
use Rattle.std.proofs.lemmas.List.{map-set, map-append, length-map, length-set, replicate-append-replicate}
use Rattle.std.proofs.lemmas.List.Elements.{All-set, All-head, All-tail, All-cons, All-nil}
use Rattle.std.proofs.lemmas.List.Kept.{AllPairs-filter}
use Rattle.step_data.specs.declared.trans.Trans.{Trans}
use Rattle.step_data.specs.Pending.{is_after, advanced}
use Rattle.waveform.specs.declared.trans.DelayKind.{DelayKind}
use Rattle.waveform.specs.Projected.{IsRising, projected}
use Rattle.waveform.specs.Waveform.{Waveform}
use Rattle.waveform.proofs.Rising.{projected-rising}
use Rattle.agenda.specs.Times.{is_time}
use Rattle.cycle_meaning.specs.Cycles.{first_time}
use Rattle.driver_set.specs.Queues.{queues_of, times_of, stands_first, AreLate, AreRising}

pub queue_at : (drivers : List Waveform) (k : ℕ) (d : Waveform) → k < length drivers → d ≡ get_or drivers k d → d.pending ≡ get_or (queues_of drivers) k []
queue_at [] k d h is = absurd (omega arith)
queue_at (x ∷ drivers) zero d h is = ap (λ (w : Waveform). w.pending) is
queue_at (x ∷ drivers) (suc k) d h is = queue_at drivers k d (omega arith) is

-- one driver's queue is changed
pub queue_set : (drivers : List Waveform) (k : ℕ) (w : Waveform) (queue : List Trans) → w.pending ≡ queue → queues_of (set drivers k w) ≡ set (queues_of drivers) k queue
queue_set drivers k w queue e = map-set (λ (d : Waveform). d.pending) drivers k w ∙ ap (set (queues_of drivers) k) e

pub queue_changed : (f : List Trans → List Trans) (drivers : List Waveform) (k : ℕ) (d w : Waveform) → k < length drivers → d ≡ get_or drivers k d → w.pending ≡ f d.pending
    → queues_of (set drivers k w) ≡ set (queues_of drivers) k (f (get_or (queues_of drivers) k []))
queue_changed f drivers k d w h is e = queue_set drivers k w (f (get_or (queues_of drivers) k [])) (e ∙ ap f (queue_at drivers k d h is))

-- ---- times

pub times_set : (queues : List (List Trans)) (k : ℕ) (queue : List Trans) → times_of (set queues k queue) ≡ set (times_of queues) k (first_time queue)
times_set queues k queue = map-set first_time queues k queue

-- the time of a changed queue is entered
pub entered : (agenda : List (Option ℕ)) (before after : List (List Trans)) (k : ℕ) (queue : List Trans) (time : Option ℕ)
    → agenda ≡ times_of before → after ≡ set before k queue → time ≡ first_time queue → set agenda k time ≡ times_of after
entered agenda before after k queue time ea eq et =
    ap (λ a. set a k time) ea ∙ ap (set (times_of before) k) et ∙ sym (times_set before k queue) ∙ ap times_of (sym eq)

-- and forgotten, where it was never entered
set_twice : {A : Type 0} (xs : List A) (k : ℕ) (x y : A) → set (set xs k x) k y ≡ set xs k y
set_twice [] k x y = refl
set_twice (a ∷ xs) zero x y = refl
set_twice (a ∷ xs) (suc k) x y = ap (λ l. a ∷ l) (set_twice xs k x y)

pub forgotten : (before after : List (List Trans)) (agenda : List (Option ℕ)) (k : ℕ) (time : Option ℕ)
    → set agenda k time ≡ times_of before → after ≡ set before k [] → set agenda k None ≡ times_of after
forgotten before after agenda k time e eq =
    sym (set_twice agenda k time None) ∙ ap (λ a. set a k None) e ∙ sym (times_set before k []) ∙ ap times_of (sym eq)

-- ---- rising times

no_pair : IsRising []
no_pair = λ i j d less h. absurd (omega arith)

pub rising_at : (queues : List (List Trans)) (k : ℕ) → AreRising queues → IsRising (get_or queues k [])
rising_at [] k all = no_pair
rising_at (q ∷ queues) zero all = All-head (λ (x : List Trans). IsRising x) q queues all
rising_at (q ∷ queues) (suc k) all = rising_at queues k (All-tail (λ (x : List Trans). IsRising x) q queues all)

pub rising_set : (queues : List (List Trans)) (k : ℕ) (queue : List Trans) → AreRising queues → IsRising queue → AreRising (set queues k queue)
rising_set queues k queue all h = All-set (λ (x : List Trans). IsRising x) queues k queue h all

pub cleared_rising : (queues after : List (List Trans)) (k : ℕ) → AreRising queues → after ≡ set queues k [] → AreRising after
cleared_rising queues after k all e = rw e (rising_set queues k [] all no_pair)

pub assigned_rising : (queues after : List (List Trans)) (k : ℕ) (kind : DelayKind) (reject : ℕ) (new : List Trans) → AreRising queues → IsRising new
    → after ≡ set queues k (projected kind reject (get_or queues k []) new) → AreRising after
assigned_rising queues after k kind reject new all h e =
    rw e (rising_set queues k (projected kind reject (get_or queues k []) new) all (projected-rising kind reject (get_or queues k []) new (rising_at queues k all) h))

pub advanced_rising : (queues after : List (List Trans)) (k t : ℕ) → AreRising queues → after ≡ set queues k (advanced t (get_or queues k [])) → AreRising after
advanced_rising queues after k t all e =
    rw e (rising_set queues k (advanced t (get_or queues k [])) all (AllPairs-filter (λ (a b : Trans). a.at < b.at) (is_after t) (get_or queues k []) (rising_at queues k all)))

-- ---- none pending

-- one driver more
pub idle_more : (drivers : List Waveform) (n : ℕ) (d : Waveform) → queues_of drivers ≡ replicate n [] → d.pending ≡ [] → queues_of (drivers ++ d ∷ []) ≡ replicate (n + 1) []
idle_more drivers n d e none =
    map-append (λ (w : Waveform). w.pending) drivers (d ∷ []) ∙ ap (λ (l : List (List Trans)). l ++ d.pending ∷ []) e
    ∙ ap (λ (q : List Trans). replicate n [] ++ q ∷ []) none ∙ replicate-append-replicate n 1 []

pub none_pending : (n : ℕ) → times_of (replicate n []) ≡ replicate n None
none_pending zero = refl
none_pending (suc n) = ap (λ l. None ∷ l) (none_pending n)

pub none_rising : (n : ℕ) → AreRising (replicate n [])
none_rising zero = All-nil (λ (x : List Trans). IsRising x)
none_rising (suc n) = All-cons (λ (x : List Trans). IsRising x) [] (replicate n []) no_pair (none_rising n)

-- ---- late times

late_first : (t : ℕ) (queue : List Trans) → All (λ (x : Trans). t ≤ x.at) queue → IfSome (first_time queue) (λ u. t ≤ u)
late_first t [] all = tt
late_first t (x ∷ later) all = All-head (λ (y : Trans). t ≤ y.at) x later all

pub late_times : (t : ℕ) (queues : List (List Trans)) → AreLate t queues → All (λ time. IfSome time (λ u. t ≤ u)) (times_of queues)
late_times t [] all = All-nil (λ (time : Option ℕ). IfSome time (λ u. t ≤ u))
late_times t (q ∷ queues) all =
    All-cons (λ (time : Option ℕ). IfSome time (λ u. t ≤ u)) (first_time q) (times_of queues)
    (late_first t q (All-head (λ (queue : List Trans). All (λ (x : Trans). t ≤ x.at) queue) q queues all))
    (late_times t queues (All-tail (λ (queue : List Trans). All (λ (x : Trans). t ≤ x.at) queue) q queues all))

-- a place in a list of times is that of its queue
place_in_times : (t : ℕ) (queues : List (List Trans)) → position_or_len (λ time. is_time time t) (times_of queues) ≡ position_or_len (stands_first t) queues
place_in_times t [] = refl
place_in_times t (q ∷ queues) = rw (place_in_times t queues) refl

pub position_in_times : (t : ℕ) (queues : List (List Trans)) → position (λ time. is_time time t) (times_of queues) ≡ position (stands_first t) queues
position_in_times t queues = rw (place_in_times t queues, length-map queues first_time) refl

-- ---- counts

pub count_kept : (before between after : List (List Trans)) (k : ℕ) (queue : List Trans) → between ≡ set before k queue → length after ≡ length between → length after ≡ length before
count_kept before between after k queue e l = l ∙ ap length e ∙ length-set before k queue
