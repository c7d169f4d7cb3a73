-- An element is put in its selector's place, or behind the others.
use Rattle.std.proofs.Common.{◌≡◌, ◌≢◌, ℕ, zero, suc, ◌==◌, true, false, cond, List, [], ◌∷◌, ◌++◌, length, take, drop, slice_get, slice_set, Some, refl, sym, ap, ◌∙◌, Result, Ok, Err, OnOk, arith}
use Rattle.std.proofs.Math.Seq.{drop-length}
use Rattle.std.proofs.lemmas.Bool.Decides.{nat_tests}
use Rattle.step_data.specs.declared.breaks.Element.{Element}
use Rattle.lockstep_model.specs.Lockstep.{with_element, gathered_with}

-- the element of the place is one of another selector
pub passed : (xs : List Element) (x e : Element) (i : ℕ) → slice_get xs i ≡ Some x → x.selector ≢ e.selector → take i xs ++ with_element (drop i xs) e ≡ take (suc i) xs ++ with_element (drop (suc i) xs) e
unfolding with_element
passed [] x e i at other = cc
passed (y ∷ xs) x e zero at other =
    let same : y ≡ x = cc in
    let unlike : (y.selector == e.selector) ≡ false = grind (arith, nat_tests) in
    ap (λ b. cond b (e ∷ xs) (y ∷ with_element xs e)) unlike
passed (y ∷ xs) x e (suc i) at other = ap (λ ys. y ∷ ys) (passed xs x e i at other)

-- it is the one of the selector
pub found : (xs : List Element) (x e : Element) (i : ℕ) → slice_get xs i ≡ Some x → x.selector ≡ e.selector → take i xs ++ with_element (drop i xs) e ≡ slice_set xs i e
unfolding with_element
found [] x e i at same = cc
found (y ∷ xs) x e zero at same =
    let alike : (y.selector == e.selector) ≡ true = grind (arith, nat_tests) in
    ap (λ b. cond b (e ∷ xs) (y ∷ with_element xs e)) alike
found (y ∷ xs) x e (suc i) at same = ap (λ ys. y ∷ ys) (found xs x e i at same)

-- there is none
pub behind : (xs : List Element) (e : Element) (i : ℕ) → i ≡ length xs → take i xs ++ with_element (drop i xs) e ≡ xs ++ e ∷ []
unfolding with_element
behind [] e i at = rw at refl
behind (y ∷ xs) e i at = rw at (ap (λ ys. y ∷ ys) (behind xs e (length xs) refl))

pub put_behind : {A E : Type 0} (r : Result A E) (xs old new : List Element) (e : Element) (i : ℕ) → i ≡ length xs → take i xs ++ with_element (drop i xs) e ≡ with_element old e → OnOk r (new ≡ xs ++ e ∷ []) → OnOk r (new ≡ with_element old e)
put_behind (Ok a) xs old new e i at left h = h ∙ sym (behind xs e i at) ∙ left
put_behind (Err f) xs old new e i at left h = tt

-- one more is gathered
pub gathered_more : (olds xs : List Element) (x : Element) (k : ℕ) → slice_get xs k ≡ Some x → gathered_with olds (drop k xs) ≡ gathered_with (with_element olds x) (drop (suc k) xs)
unfolding gathered_with
gathered_more olds [] x k at = cc
gathered_more olds (y ∷ xs) x zero at = let same : y ≡ x = cc in ap (λ z. gathered_with (with_element olds z) xs) same
gathered_more olds (y ∷ xs) x (suc k) at = gathered_more olds xs x k at

pub gathered_all : (olds xs : List Element) (k : ℕ) → k ≡ length xs → gathered_with olds (drop k xs) ≡ olds
unfolding gathered_with
gathered_all olds xs k at = rw (at, drop-length) refl
