-- The queues of driven signals.
use Rattle.std.proofs.Common.{◌≡◌, refl, sym, subst, ℕ, suc, Bool, true, false, ◌+◌, ◌≤◌, cond, not, if◌then◌else◌, nat_eq, List, [], ◌∷◌, map, length, Some, None, slice_set, arith}
use Rattle.std.specs.Prelude.{IfSome, unwrap_or, find, nat_lt}
use Rattle.std.specs.List.{All, AllZip, slice_index_or, prefix_len}
use Rattle.std.proofs.lemmas.Bool.Decides.{nat_tests}
use Rattle.std.proofs.lemmas.List.Sums.{prefix_len-le-length}
use Rattle.std.proofs.lemmas.List.Elements.{All-nil, All-head, All-tail, All-filter}
use Rattle.flat_design.specs.declared.objects.Objects.{Objects}
use Rattle.flat_design.specs.Lists.{number_in}
use Rattle.step_data.specs.declared.trans.Trans.{Trans}
use Rattle.step_data.specs.Pending.{is_after, is_at, due, advanced}
use Rattle.cycle_meaning.specs.World.{driven_of}
use Rattle.cycle_meaning.specs.Cycles.{queue_in}
use Rattle.run_laws.specs.Values.{IsOfSignal, IsQueueOf, QueuesFit}

pub same_number : (i j : ℕ) → nat_eq i j ≡ true → j ≡ i
same_number i j h = grind (arith, nat_tests)

pub no_transaction : (objects : Objects) (i : ℕ) → IsQueueOf objects i []
no_transaction objects i = All-nil (λ (x : Trans). IsOfSignal objects i x.value)

queue_for : (objects : Objects) (i j : ℕ) (q : List Trans) → j ≡ i → IsQueueOf objects j q → IsQueueOf objects i q
queue_for objects i j q same h = subst (λ (n : ℕ). IsQueueOf objects n q) same h

-- ---- the queue of a signal

one_of : (P : List Trans → Type 0) (t : Bool) (a b : List Trans) → (t ≡ true → P a) → (t ≡ false → P b) → P (if t then a else b)
one_of P true a b x y = x refl
one_of P false a b x y = y refl

pub queue_fits : (objects : Objects) (i : ℕ) (driven : List ℕ) (queues : List (List Trans)) → AllZip (IsQueueOf objects) driven queues → IsQueueOf objects i (queue_in i driven queues)
queue_fits objects i [] queues h = no_transaction objects i
queue_fits objects i (j ∷ driven) [] h = absurd h
queue_fits objects i (j ∷ driven) (q ∷ queues) h =
    one_of (IsQueueOf objects i) (nat_eq i j) q (queue_in i driven queues) (λ e. queue_for objects i j q (same_number i j e) h.0) (λ _. queue_fits objects i driven queues h.1)

-- ---- the queue at the number of a driver

bounded : (n len : ℕ) → n ≤ len → unwrap_or (cond (nat_lt n len) (Some n) None) len ≡ n
bounded n len h = go (nat_lt n len) refl
  where
    go : (b : Bool) → nat_lt n len ≡ b → unwrap_or (cond b (Some n) None) len ≡ n
    go true e = refl
    go false e = grind (arith, nat_tests)

number_is : (i : ℕ) (driven : List ℕ) → number_in (nat_eq i) driven ≡ prefix_len (λ x. not (nat_eq i x)) driven
number_is i driven = bounded (prefix_len (λ x. not (nat_eq i x)) driven) (length driven) (prefix_len-le-length (λ x. not (nat_eq i x)) driven)

at_place : (P : ℕ → Type 0) (b : Bool) (n : ℕ) → (b ≡ true → P 0) → (b ≡ false → P (suc n)) → P (cond (not b) (1 + n) 0)
at_place P true n x y = x refl
at_place P false n x y = subst P (omega arith) (y refl)

got_at : (objects : Objects) (i : ℕ) (driven : List ℕ) (queues : List (List Trans)) → AllZip (IsQueueOf objects) driven queues
    → IsQueueOf objects i (slice_index_or queues (prefix_len (λ x. not (nat_eq i x)) driven) [])
got_at objects i [] [] h = no_transaction objects i
got_at objects i [] (q ∷ queues) h = absurd h
got_at objects i (j ∷ driven) [] h = absurd h
got_at objects i (j ∷ driven) (q ∷ queues) h =
    at_place (λ n. IsQueueOf objects i (slice_index_or (q ∷ queues) n [])) (nat_eq i j) (prefix_len (λ x. not (nat_eq i x)) driven)
    (λ e. queue_for objects i j q (same_number i j e) h.0) (λ _. got_at objects i driven queues h.1)

set_at : (objects : Objects) (i : ℕ) (driven : List ℕ) (queues : List (List Trans)) (new : List Trans) → AllZip (IsQueueOf objects) driven queues → IsQueueOf objects i new
    → AllZip (IsQueueOf objects) driven (slice_set queues (prefix_len (λ x. not (nat_eq i x)) driven) new)
set_at objects i [] [] new h fits = tt
set_at objects i [] (q ∷ queues) new h fits = absurd h
set_at objects i (j ∷ driven) [] new h fits = absurd h
set_at objects i (j ∷ driven) (q ∷ queues) new h fits =
    at_place (λ n. AllZip (IsQueueOf objects) (j ∷ driven) (slice_set (q ∷ queues) n new)) (nat_eq i j) (prefix_len (λ x. not (nat_eq i x)) driven)
    (λ e. (queue_for objects j i new (sym (same_number i j e)) fits, h.1)) (λ _. (h.0, set_at objects i driven queues new h.1 fits))

-- what is pending for a signal
pub pending_fits : (objects : Objects) (i : ℕ) (queues : List (List Trans)) → QueuesFit objects queues → IsQueueOf objects i (slice_index_or queues (number_in (nat_eq i) (driven_of objects)) [])
pending_fits objects i queues h =
    subst (λ n. IsQueueOf objects i (slice_index_or queues n [])) (sym (number_is i (driven_of objects))) (got_at objects i (driven_of objects) queues h)

-- it becomes something else
pub set_fits : (objects : Objects) (i : ℕ) (queues : List (List Trans)) (new : List Trans) → QueuesFit objects queues → IsQueueOf objects i new
    → QueuesFit objects (slice_set queues (number_in (nat_eq i) (driven_of objects)) new)
set_fits objects i queues new h fits =
    subst (λ n. QueuesFit objects (slice_set queues n new)) (sym (number_is i (driven_of objects))) (set_at objects i (driven_of objects) queues new h fits)

-- ---- what is due, and what is pending still

pub due_has : (P : Trans → Type 0) (t : ℕ) (queue : List Trans) → All P queue → IfSome (due t queue) P
due_has P t [] all = tt
due_has P t (x ∷ later) all = by_test (is_at t x) (All-head P x later all) (due_has P t later (All-tail P x later all))
  where
    by_test : (b : Bool) → P x → IfSome (find (is_at t) later) P → IfSome (cond b (Some x) (find (is_at t) later)) P
    by_test true here more = here
    by_test false here more = more

pub advanced_fit : (objects : Objects) (t : ℕ) (driven : List ℕ) (queues : List (List Trans)) → AllZip (IsQueueOf objects) driven queues → AllZip (IsQueueOf objects) driven (map (advanced t) queues)
advanced_fit objects t [] [] h = tt
advanced_fit objects t [] (q ∷ queues) h = absurd h
advanced_fit objects t (j ∷ driven) [] h = absurd h
advanced_fit objects t (j ∷ driven) (q ∷ queues) h = (All-filter (is_after t) (λ (x : Trans). IsOfSignal objects j x.value) q h.0, advanced_fit objects t driven queues h.1)

pub nothing_fits : (objects : Objects) (driven : List ℕ) → AllZip (IsQueueOf objects) driven (map (λ i. []) driven)
nothing_fits objects [] = tt
nothing_fits objects (j ∷ driven) = (no_transaction objects j, nothing_fits objects driven)
