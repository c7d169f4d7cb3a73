-- The branch of a simultaneous case.
use Rattle.std.proofs.Common.{◌≡◌, ◌+◌, ◌<◌, ◌≤◌, ℕ, Bool, true, false, List, [], ◌∷◌, length, cond, refl, sym, ap, subst, ◌∙◌, arith}
use Rattle.std.specs.Prelude.{Option, Some, None, Result, Ok, Err, if◌then◌else◌}
use Rattle.std.proofs.Common.{drop, get_or}
use Rattle.std.proofs.lemmas.List.{drop_all}
use Rattle.fix_core.specs.Passes.{◌>>=◌}
use Rattle.fix_core.specs.Laws.{at_place}
use Rattle.flat_design.specs.declared.objects.IfArm.{IfArm}
use Rattle.ams_value.specs.Values.{is_true}
use Rattle.design_meaning.specs.declared.fault.EvalFault.{EvalFault}
use Rattle.design_meaning.specs.Readings.{Readings}
use Rattle.design_meaning.specs.Value.{value_of}
use Rattle.std.specs.List.{position, position_from}
use Rattle.std.proofs.lemmas.Iterator.Adapters.{position_from-zero}
use Rattle.ams_value.specs.declared.val.Val.{Val}
use Rattle.flat_design.specs.declared.objects.CaseArm.{CaseArm}
use Rattle.design_meaning.specs.Steps.{first_place, or_else, case_chosen, taken, if_chosen}
use Rattle.branch_choice.specs.Chosen.{names, has_others, truth_of}

place_from : {X : Type 0} (test : X → Bool) (i : ℕ) (xs : List X) → first_place test i xs ≡ position_from test i xs
place_from test i [] = refl
place_from test i (x ∷ xs) = ap (cond (test x) (Some i)) (place_from test (i + 1) xs)

place_is : {X : Type 0} (test : X → Bool) (xs : List X) → position test xs ≡ first_place test 0 xs
place_is test xs = position_from-zero test xs ∙ sym (place_from test 0 xs)

pub case_is : (arms : List CaseArm) (v : Val) → case_chosen arms v ≡ or_else (position (names v) arms) (position has_others arms)
case_is arms v = sym (ap (λ o. or_else o (position has_others arms)) (place_is (names v) arms) ∙ ap (or_else (first_place (names v) 0 arms)) (place_is has_others arms))

abbrev Within : Option ℕ → ℕ → Type 0
Within (Some k) n = k < n
Within None n = Unit {0}

first_within : {X : Type 0} (test : X → Bool) (i : ℕ) (xs : List X) → Within (first_place test i xs) (i + length xs)
first_within test i [] = tt
first_within test i (x ∷ xs) = at (test x) (first_place test (i + 1) xs) (first_within test (i + 1) xs)
  where
    at : (b : Bool) (o : Option ℕ) → Within o ((i + 1) + length xs) → Within (if b then Some i else o) (i + length (x ∷ xs))
    at true o h = omega arith
    at false (Some k) h = omega arith
    at false None h = tt

else_below : (a b : Option ℕ) (n : ℕ) → Within a n → Within b n → or_else a b ≤ n
else_below (Some k) b n h k2 = omega arith
else_below None (Some k) n h k2 = omega arith
else_below None None n h k2 = omega arith

-- it is a number of an arm, if there are any
pub case_below : (arms : List CaseArm) (v : Val) → case_chosen arms v ≤ length arms
case_below arms v =
    let e : 0 + length arms ≡ length arms = omega arith in
    let named = first_place (names v) 0 arms in
    let others = first_place has_others 0 arms in
    else_below named others (length arms) (subst (Within named) e (first_within (names v) 0 arms)) (subst (Within others) e (first_within has_others 0 arms))

-- ---- the branch of an if

truth_then : (m : Result Val EvalFault) (b : Bool) (i : ℕ) (next : Result ℕ EvalFault) → (m >>= (λ v. Ok (is_true v))) ≡ Ok b → (m >>= (λ v. taken (is_true v) i next)) ≡ taken b i next
truth_then (Ok v) b i next h = let same : is_true v ≡ b = cc in ap (λ t. taken t i next) same
truth_then (Err e) b i next h = absurd (cc)

truth_fault : (m : Result Val EvalFault) (f : EvalFault) (i : ℕ) (next : Result ℕ EvalFault) → (m >>= (λ v. Ok (is_true v))) ≡ Err f → (m >>= (λ v. taken (is_true v) i next)) ≡ Err f
truth_fault (Ok v) f i next h = absurd (cc)
truth_fault (Err e) f i next h = let same : e ≡ f = cc in ap Err same

chosen_at : (arms : List IfArm) (i : ℕ) (arm : IfArm) (r : Readings) → i < length arms → arm ≡ get_or arms i arm
    → if_chosen i (drop i arms) r ≡ (value_of arm.condition r >>= (λ v. taken (is_true v) i (if_chosen (i + 1) (drop (i + 1) arms) r)))
unfolding if_chosen
chosen_at arms i arm r lt is = rw (at_place arms i arm lt is) refl

pub chosen_here : (arms : List IfArm) (i : ℕ) (arm : IfArm) (r : Readings) → i < length arms → arm ≡ get_or arms i arm → truth_of arm.condition r ≡ Ok true → if_chosen i (drop i arms) r ≡ Ok i
chosen_here arms i arm r lt is h = chosen_at arms i arm r lt is ∙ truth_then (value_of arm.condition r) true i (if_chosen (i + 1) (drop (i + 1) arms) r) h

pub chosen_later : (arms : List IfArm) (i : ℕ) (arm : IfArm) (r : Readings) → i < length arms → arm ≡ get_or arms i arm → truth_of arm.condition r ≡ Ok false → if_chosen i (drop i arms) r ≡ if_chosen (i + 1) (drop (i + 1) arms) r
chosen_later arms i arm r lt is h = chosen_at arms i arm r lt is ∙ truth_then (value_of arm.condition r) false i (if_chosen (i + 1) (drop (i + 1) arms) r) h

pub chosen_fault : (arms : List IfArm) (i : ℕ) (arm : IfArm) (r : Readings) (f : EvalFault) → i < length arms → arm ≡ get_or arms i arm → truth_of arm.condition r ≡ Err f → if_chosen i (drop i arms) r ≡ Err f
chosen_fault arms i arm r f lt is h = chosen_at arms i arm r lt is ∙ truth_fault (value_of arm.condition r) f i (if_chosen (i + 1) (drop (i + 1) arms) r) h

pub chosen_last : (arms : List IfArm) (i : ℕ) (r : Readings) → length arms ≤ i → i ≤ length arms → if_chosen i (drop i arms) r ≡ Ok (length arms)
unfolding if_chosen
chosen_last arms i r low high = let same : i ≡ length arms = omega (arith, low, high) in rw (drop_all i arms low) (ap Ok same)
