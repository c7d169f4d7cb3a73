-- Only those that are called are looked at.
use Rattle.std.proofs.Common.{◌≡◌, ◌≢◌, inl, inr, refl, ap, sym, ◌∙◌, ℕ, zero, suc, ◌+◌, ◌<◌, Bool, true, false, List, [], length, map, take, replicate, Result, Ok, get_or, slice_set, get_or-set_other, get_or-set_same, arith}
use Rattle.std.specs.List.{Contains}
use Rattle.std.specs.List.Sorted.{IsStrictlyIncreasing}
use Rattle.std.proofs.Math.Seq.{take-length}
use Rattle.std.proofs.lemmas.Bool.{cases_eq}
use Rattle.std.proofs.lemmas.List.{length-map, get_or-map}
use Rattle.step_data.specs.declared.outcome.Refusal.{Refusal}
use Rattle.cycle_meaning.specs.World.{World, Context}
use Rattle.cycle_meaning.specs.Cycles.{Waiting}
use Rattle.resumption.specs.Sleeps.{Sleep, met}
use Rattle.resumption.specs.Waits.{no_sleep}
use Rattle.resumption.proofs.Looking.{AreAnswered}
use Rattle.resumption_calls.specs.Calls.{is_called, OthersAreQuiet, QuietWaitsAreNotMet}
use Rattle.resumption_calls.proofs.Members.{either, contains_called, front_last, front_not, front_of_none, stands_before}

pub quiet_is_not_met : QuietWaitsAreNotMet
quiet_is_not_met here w waits z quiet = rw (quiet.timeout, quiet.events) refl

met_there : {A : Type 0} (f : A → Sleep) (at : ℕ → Context) (w : World) (rows : List (List Waiting)) (xs : List A) (k : ℕ) (x : A) (m : Result Bool Refusal)
    → k < length xs → x ≡ get_or xs k x → m ≡ met (at k) w (get_or rows k []) (f x) → met (at k) w (get_or rows k []) (get_or (map f xs) k no_sleep) ≡ m
met_there f at w rows xs k x m h is found = ap (λ (z : Sleep). met (at k) w (get_or rows k []) z) (get_or-map f xs k x no_sleep h ∙ ap f (sym is)) ∙ sym found

-- those that were called so far have their answers, the others have none
pub record IsAsked {A : Type 0} (f : A → Sleep) (at : ℕ → Context) (w : World) (rows : List (List Waiting)) (xs : List A) (bs : List Bool) (called : List ℕ) : Type 0 where
  pub asked : (j : ℕ) → is_called called j ≡ true → met (at j) w (get_or rows j []) (get_or (map f xs) j no_sleep) ≡ Ok (get_or bs j false)
  pub others : (j : ℕ) → is_called called j ≡ false → get_or bs j false ≡ false

no_answer : (n j : ℕ) → get_or (replicate n false) j false ≡ false
no_answer zero j = refl
no_answer (suc n) zero = refl
no_answer (suc n) (suc j) = no_answer n j

pub none_asked : {A : Type 0} (f : A → Sleep) (at : ℕ → Context) (w : World) (rows : List (List Waiting)) (xs : List A) (bs : List Bool) (n : ℕ) → bs ≡ replicate n false → IsAsked f at w rows xs bs []
none_asked f at w rows xs bs n is = record {
  asked = λ j h. absurd cc;
  others = λ j h. ap (λ (b : List Bool). get_or b j false) is ∙ no_answer n j;
}

pub one_asked : {A : Type 0} (f : A → Sleep) (at : ℕ → Context) (w : World) (rows : List (List Waiting)) (xs : List A) (bs : List Bool) (called : List ℕ) (i k : ℕ) (x : A) (v : Bool)
    → i < length called → k ≡ get_or called i 0 → k < length bs → k < length xs → x ≡ get_or xs k x → IsAsked f at w rows xs bs (take i called) → Ok v ≡ met (at k) w (get_or rows k []) (f x)
    → IsAsked f at w rows xs (slice_set bs k v) (take (i + 1) called)
one_asked f at w rows xs bs called i k x v h number room in_list is before found = record {
  asked = λ j h_in. elim (cases_eq j k) [
    | inl same ↦ rw (same, get_or-set_same) (met_there f at w rows xs k x (Ok v) in_list is found)
    | inr other ↦ elim (front_last called i j h h_in) [
      | inl front ↦ rw get_or-set_other (before.asked j front)
      | inr last ↦ absurd (other (last ∙ sym number))
    ]
  ];
  others = λ j h_not. let both = front_not called i j h h_not in let other : j ≢ k = λ same. both.1 (same ∙ number) in rw get_or-set_other (before.others j both.0);
}

either_way : {A : Type 0} (f : A → Sleep) (at : ℕ → Context) (w : World) (rows : List (List Waiting)) (xs : List A) (bs : List Bool) (called front : List ℕ) (j : ℕ)
    → OthersAreQuiet at w rows (map f xs) called → IsAsked f at w rows xs bs front → (is_called called j ≡ true → is_called front j ≡ true) → (is_called called j ≡ false → is_called front j ≡ false) → j < length xs
    → met (at j) w (get_or rows j []) (get_or (map f xs) j no_sleep) ≡ Ok (get_or bs j false)
either_way f at w rows xs bs called front j quiet done in_front not_in h =
    elim (either (is_called called j)) [
      | inl called_j ↦ done.asked j (in_front called_j)
      | inr other ↦
          quiet_is_not_met (at j) w (get_or rows j []) (get_or (map f xs) j no_sleep) (quiet j (omega (arith, length-map xs f)) other)
          ∙ ap Ok (sym (done.others j (not_in other)))
    ]

-- all those before one that is called have their answers
pub before_called : {A : Type 0} (f : A → Sleep) (at : ℕ → Context) (w : World) (rows : List (List Waiting)) (xs : List A) (bs : List Bool) (called : List ℕ) (i k : ℕ)
    → IsStrictlyIncreasing called → OthersAreQuiet at w rows (map f xs) called → i < length called → k ≡ get_or called i 0 → k < length xs → IsAsked f at w rows xs bs (take i called)
    → AreAnswered f at w rows xs bs k
before_called f at w rows xs bs called i k rises quiet h number within done =
    λ j less. either_way f at w rows xs bs called (take i called) j quiet done (stands_before called rises i j h (omega (arith, number, less))) (front_of_none called i j) (omega arith)

pub all_called : {A : Type 0} (f : A → Sleep) (at : ℕ → Context) (w : World) (rows : List (List Waiting)) (xs : List A) (bs : List Bool) (called : List ℕ) (i : ℕ)
    → OthersAreQuiet at w rows (map f xs) called → length called ≡ i → IsAsked f at w rows xs bs (take i called) → AreAnswered f at w rows xs bs (length xs)
all_called f at w rows xs bs called i quiet whole done =
    let same : take i called ≡ called = ap (λ n. take n called) (sym whole) ∙ take-length called in
    λ j less. either_way f at w rows xs bs called (take i called) j quiet done (λ h. rw same h) (λ h. rw same h) less

-- only those that are called are marked
pub marked_called : {A : Type 0} (f : A → Sleep) (at : ℕ → Context) (w : World) (rows : List (List Waiting)) (xs : List A) (bs : List Bool) (called : List ℕ) (i : ℕ)
    → length called ≡ i → IsAsked f at w rows xs bs (take i called) → (j : ℕ) → get_or bs j false ≡ true → Contains called j
marked_called f at w rows xs bs called i whole done j set =
    let same : take i called ≡ called = ap (λ n. take n called) (sym whole) ∙ take-length called in
    elim (either (is_called called j)) [
      | inl is ↦ contains_called j called is
      | inr other ↦ let none : get_or bs j false ≡ false = done.others j (rw same other) in absurd (cc)
    ]
