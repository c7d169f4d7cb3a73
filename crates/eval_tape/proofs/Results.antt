-- What a whole run says of the expression.
use Rattle.std.proofs.Common.{◌≡◌, ◌<◌, ◌≤◌, ◌+◌, ◌-◌, ◌≢◌, ℕ, zero, suc, ℤ, pos, List, [], ◌∷◌, ◌++◌, length, take, get_or, set, map, Option, Some, None, Result, Ok, Err, refl, sym, ◌∙◌, ap, subst, arith}
use Rattle.std.proofs.lemmas.List.{get_or-set_same, get_or-set_other, get_or-map, take_more, map-append}
use borrow.Author.Count.{below_more}
use Rattle.fix_core.specs.Passes.{each}
use Rattle.ams_value.specs.declared.val.Val.TheVariants as val
use Rattle.flat_expr.specs.declared.expr.Unknown.{Unknown}
use Rattle.flat_expr.specs.declared.expr.Unknown.TheVariants.{Quantity}
use Rattle.flat_expr.specs.declared.expr.FlatExpr.{FlatExpr}
use Rattle.design_meaning.specs.Readings.{Readings}
use Rattle.design_meaning.specs.Value.{value_of, slope_of, slopes_of}
use Rattle.tape_code.specs.declared.instruction.Instruction.{Instruction}
use Rattle.tape_code.specs.Code.{code_of}
use Rattle.tape_code.specs.Steps.{HasNumbers, HasSlopes}
use Rattle.constant_slopes.specs.Constant.{constant_of}
use Rattle.constant_slopes.proofs.Whole.{constant_is_the_slope}
use Rattle.tape_code.proofs.Whole.{last_is_the_value, last_is_the_slope}
use Rattle.eval_tape.specs.Tape.{constants_of, IsValue, IsSlope, AreSlopes, AreResults}

pub value_is : (r : Readings) (code : List Instruction) (numbers : List ℤ) (v : ℤ) → v ≡ get_or numbers (length code - 1) (pos 0) → HasNumbers r code (length code) numbers → IsValue r code v
value_is r code numbers v last has e is =
    let own : HasNumbers r (code_of e) (length (code_of e)) numbers = subst (λ (z : List Instruction). HasNumbers r z (length z) numbers) is has in
    let same : v ≡ get_or numbers (length (code_of e) - 1) (pos 0) = last ∙ ap (λ (z : List Instruction). get_or numbers (length z - 1) (pos 0)) is in
    last_is_the_value e r numbers own ∙ ap (λ (z : ℤ). Ok (val.Real z)) (sym same)

pub slope_is : (u : Unknown) (constant : Option ℤ) (code : List Instruction) (numbers slopes : List ℤ) (z : ℤ) → z ≡ get_or slopes (length code - 1) (pos 0) → HasSlopes u code numbers (length code) slopes
    → IsSlope u constant code numbers z
slope_is u constant code numbers slopes z last rises e r is known has =
    let own : HasNumbers r (code_of e) (length (code_of e)) numbers = subst (λ (y : List Instruction). HasNumbers r y (length y) numbers) is has in
    let by : HasSlopes u (code_of e) numbers (length (code_of e)) slopes = subst (λ (y : List Instruction). HasSlopes u y numbers (length y) slopes) is rises in
    let same : z ≡ get_or slopes (length (code_of e) - 1) (pos 0) = last ∙ ap (λ (y : List Instruction). get_or slopes (length y - 1) (pos 0)) is in
    last_is_the_slope e r u numbers slopes own by ∙ ap Ok (sym same)

-- a constant slope, where the instructions give a value
pub constant_is : (u : Unknown) (constant : Option ℤ) (code : List Instruction) (numbers : List ℤ) (z : ℤ) → constant ≡ Some z → IsSlope u constant code numbers z
constant_is u constant code numbers z given e r is known has =
    let own : HasNumbers r (code_of e) (length (code_of e)) numbers = subst (λ (y : List Instruction). HasNumbers r y (length y) numbers) is has in
    constant_is_the_slope e u r (val.Real (get_or numbers (length (code_of e) - 1) (pos 0))) z (last_is_the_value e r numbers own) (sym known ∙ given)

each_is : {A B E : Type 0} (f : A → Result B E) (xs : List A) (out : List B) (a : A) (b : B) → length out ≡ length xs → ((i : ℕ) → i < length xs → f (get_or xs i a) ≡ Ok (get_or out i b)) → each f xs ≡ Ok out
unfolding each
each_is f [] [] a b h k = refl
each_is f [] (y ∷ ys) a b h k = absurd (omega (arith, h))
each_is f (x ∷ xs) [] a b h k = absurd (omega (arith, h))
each_is f (x ∷ xs) (y ∷ ys) a b h k =
    let first : f x ≡ Ok y = k 0 (omega arith) in
    let more : each f xs ≡ Ok ys = each_is f xs ys a b (omega (arith, h)) (λ i g. k (suc i) (omega (arith, g))) in
    rw (first, more) refl

pub no_slopes : (unknowns : List Unknown) (constants : List (Option ℤ)) (code : List Instruction) (numbers out : List ℤ) → AreSlopes unknowns constants 0 code numbers out
no_slopes unknowns constants code numbers out i h = absurd (omega (arith, h))

-- one more slope is written
pub slopes_written : (unknowns : List Unknown) (constants : List (Option ℤ)) (at : ℕ) (code : List Instruction) (numbers out : List ℤ) (z : ℤ) → at < length out
    → AreSlopes unknowns constants at code numbers out → IsSlope (get_or unknowns at (Quantity 0)) (get_or constants at None) code numbers z
    → AreSlopes unknowns constants (at + 1) code numbers (set out at z)
slopes_written unknowns constants at code numbers out z within before here =
    below_more (λ k. IsSlope (get_or unknowns k (Quantity 0)) (get_or constants k None) code numbers (get_or (set out at z) k (pos 0))) at
    (λ k h. subst (λ (y : ℤ). IsSlope (get_or unknowns k (Quantity 0)) (get_or constants k None) code numbers y) (sym (get_or-set_other out at k z (pos 0) (λ e. omega (arith, e, h)))) (before k h))
    (subst (λ (y : ℤ). IsSlope (get_or unknowns at (Quantity 0)) (get_or constants at None) code numbers y) (sym (get_or-set_same out at z (pos 0) within)) here)

pub results_are : (r : Readings) (unknowns : List Unknown) (constants : List (Option ℤ)) (code : List Instruction) (numbers : List ℤ) (v : ℤ) (out : List ℤ) → length out ≡ length unknowns
    → IsValue r code v → HasNumbers r code (length code) numbers → AreSlopes unknowns constants (length unknowns) code numbers out → AreResults r unknowns constants code v out
results_are r unknowns constants code numbers v out size value has slopes e is known =
    let own : value_of e r ≡ Ok (val.Real v) = value e is in
    let constant : (i : ℕ) → i < length unknowns → get_or constants i None ≡ constant_of (get_or unknowns i (Quantity 0)) e =
    λ i h. ap (λ (cs : List (Option ℤ)). get_or cs i None) known ∙ get_or-map (λ u. constant_of u e) unknowns i (Quantity 0) None h in
    let all : each (λ u. slope_of e u r) unknowns ≡ Ok out = each_is (λ u. slope_of e u r) unknowns out (Quantity 0) (pos 0) size (λ i h. slopes i h e r is (constant i h) has) in
    rw (own, all) refl

-- one more slope is looked at for being constant
pub constants_more : (e : FlatExpr) (unknowns : List Unknown) (at : ℕ) (out : List (Option ℤ)) (z : Option ℤ) → at < length unknowns → out ≡ constants_of e (take at unknowns)
    → z ≡ constant_of (get_or unknowns at (Quantity 0)) e → out ++ z ∷ [] ≡ constants_of e (take (at + 1) unknowns)
constants_more e unknowns at out z within before here =
    rw (before, here) (sym (ap (map (λ u. constant_of u e)) (take_more unknowns at (Quantity 0) within) ∙ map-append (λ u. constant_of u e) (take at unknowns) (get_or unknowns at (Quantity 0) ∷ [])))
