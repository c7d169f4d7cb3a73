-- One process after the other is looked at.
use Rattle.std.proofs.Common.{◌≡◌, ◌≢◌, ap, sym, ◌∙◌, subst, ℕ, ◌+◌, ◌<◌, Bool, false, List, [], length, map, Result, Ok, Err, get_or, zero-add, slice_set, get_or-set_other, get_or-set_same, below_more, arith}
use Rattle.std.proofs.lemmas.List.{length-map, get_or-map}
use Rattle.step_data.specs.declared.outcome.Refusal.{Refusal}
use Rattle.flat_design.specs.declared.objects.Process.{Process}
use Rattle.cycle_meaning.specs.World.{World as CycleWorld, Context}
use Rattle.cycle_meaning.specs.Cycles.{Waiting}
use Rattle.kernel_world.specs.declared.world.World.{World}
use Rattle.resumption.specs.Sleeps.{Sleep, waits_of, met, all_met}
use Rattle.resumption.specs.Waits.{no_sleep, IsThere, AreThere}
use Rattle.resumption.proofs.Order.{all_are, first_fault}

sleep_there : {A : Type 0} (f : A → Sleep) (xs : List A) (k : ℕ) (x : A) → k < length xs → x ≡ get_or xs k x → get_or (map f xs) k no_sleep ≡ f x
sleep_there f xs k x h is = get_or-map f xs k x no_sleep h ∙ ap f (sym is)

pub there_at : {A : Type 0} (f : A → Sleep) (w : World) (xs : List A) (k : ℕ) (x : A) → AreThere w (map f xs) → k < length xs → x ≡ get_or xs k x → IsThere w k (f x)
there_at f w xs k x there h is = subst (IsThere w k) (sleep_there f xs k x h is) (there k (omega (arith, length-map xs f)))

-- those before k have their answers
abbrev pub AreAnswered : {A : Type 0} → (A → Sleep) → (ℕ → Context) → CycleWorld → List (List Waiting) → List A → List Bool → ℕ → Type 0
AreAnswered f at w rows xs bs k = (j : ℕ) → j < k → met (at j) w (get_or rows j []) (get_or (map f xs) j no_sleep) ≡ Ok (get_or bs j false)

met_there : {A : Type 0} (f : A → Sleep) (at : ℕ → Context) (w : CycleWorld) (rows : List (List Waiting)) (xs : List A) (k : ℕ) (x : A) (m : Result Bool Refusal)
    → k < length xs → x ≡ get_or xs k x → m ≡ met (at k) w (get_or rows k []) (f x) → met (at k) w (get_or rows k []) (get_or (map f xs) k no_sleep) ≡ m
met_there f at w rows xs k x m h is found = ap (λ (z : Sleep). met (at k) w (get_or rows k []) z) (sleep_there f xs k x h is) ∙ sym found

pub one_more : {A : Type 0} (f : A → Sleep) (at : ℕ → Context) (w : CycleWorld) (rows : List (List Waiting)) (xs : List A) (bs : List Bool) (k : ℕ) (x : A) (v : Bool)
    → k < length bs → k < length xs → x ≡ get_or xs k x → AreAnswered f at w rows xs bs k → Ok v ≡ met (at k) w (get_or rows k []) (f x) → AreAnswered f at w rows xs (slice_set bs k v) (k + 1)
one_more f at w rows xs bs k x v room h is before found =
    below_more _ _
    (λ j lt. let other : j ≢ k = omega arith in rw get_or-set_other (before j lt))
    (rw get_or-set_same (met_there f at w rows xs k x (Ok v) h is found))

as_many : {A : Type 0} (f : A → Sleep) (ps : List Process) (rows : List (List Waiting)) (xs : List A) → rows ≡ map waits_of ps → length xs ≡ length ps → length rows ≡ length (map f xs)
as_many f ps rows xs are count = ap length are ∙ (length-map ps waits_of ∙ (sym count ∙ sym (length-map xs f)))

from_zero : (at : ℕ → Context) (w : CycleWorld) (j : ℕ) (row : List Waiting) (z : Sleep) (m : Result Bool Refusal) → met (at j) w row z ≡ m → met (at (0 + j)) w row z ≡ m
from_zero at w j row z m h = subst (λ i. met (at i) w row z ≡ m) (sym (zero-add j)) h

pub all_answered : {A : Type 0} (f : A → Sleep) (at : ℕ → Context) (w : CycleWorld) (ps : List Process) (rows : List (List Waiting)) (xs : List A) (bs : List Bool) (k : ℕ)
    → rows ≡ map waits_of ps → length xs ≡ length ps → length bs ≡ length xs → length xs ≡ k → AreAnswered f at w rows xs bs k → Ok bs ≡ all_met at w 0 rows (map f xs)
all_answered f at w ps rows xs bs k are count room whole before =
    sym (all_are at w 0 rows (map f xs) bs (as_many f ps rows xs are count) (room ∙ sym (length-map xs f))
    (λ j lt. from_zero at w j (get_or rows j []) (get_or (map f xs) j no_sleep) (Ok (get_or bs j false)) (before j (omega (arith, length-map xs f)))))

pub one_refused : {A : Type 0} (f : A → Sleep) (at : ℕ → Context) (w : CycleWorld) (ps : List Process) (rows : List (List Waiting)) (xs : List A) (bs : List Bool) (k : ℕ) (x : A) (r : Refusal)
    → rows ≡ map waits_of ps → length xs ≡ length ps → k < length xs → x ≡ get_or xs k x → AreAnswered f at w rows xs bs k → Err r ≡ met (at k) w (get_or rows k []) (f x) → Err r ≡ all_met at w 0 rows (map f xs)
one_refused f at w ps rows xs bs k x r are count h is before found =
    sym (first_fault at w 0 rows (map f xs) k r (λ j. get_or bs j false) (as_many f ps rows xs are count) (omega (arith, length-map xs f))
    (λ j lt. from_zero at w j (get_or rows j []) (get_or (map f xs) j no_sleep) (Ok (get_or bs j false)) (before j lt))
    (from_zero at w k (get_or rows k []) (get_or (map f xs) k no_sleep) (Err r) (met_there f at w rows xs k x (Err r) h is found)))
