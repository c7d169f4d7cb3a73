-- One equation more has constant slopes.
use Rattle.std.proofs.Common.{◌≡◌, ◌<◌, ◌+◌, ℕ, ℤ, Bool, false, Option, List, [], ◌∷◌, ◌++◌, length, take, get_or, subst, sym, ap, ◌∙◌}
use Rattle.std.proofs.lemmas.List.{take_more}
use Rattle.std.proofs.lemmas.List.Elements.{All-append, All-cons, All-nil}
use Rattle.std.specs.List.{All}
use Rattle.std.specs.Prelude.{IsSome, is_some, not}
use Rattle.flat_expr.specs.declared.expr.Unknown.{Unknown}
use Rattle.flat_design.specs.declared.objects.Pair.{Pair}
use Rattle.prepared_pairs.specs.Prepared.{constant_in_row}
use Rattle.flat_design.specs.declared.objects.Equation.{Equation}
use Rattle.flat_design.specs.declared.objects.Equation.TheVariants as equation
use Rattle.step_matrices.specs.Linear.{HasConstants, AreLinear}

pub all_more : {X : Type 0} (P : X → Type 0) (xs : List X) (i : ℕ) (d : X) → i < length xs → P (get_or xs i d) → All P (take i xs) → All P (take (i + 1) xs)
all_more P xs i d h one all = subst (All P) (sym (take_more xs i d h)) (All-append P (take i xs) (get_or xs i d ∷ []) all (All-cons P (get_or xs i d) [] one (All-nil P)))

linear_append : (us : List Unknown) (xs ys : List Equation) → AreLinear us xs → AreLinear us ys → AreLinear us (xs ++ ys)
linear_append us [] ys h k = k
linear_append us (equation.Pair p ∷ xs) ys h k = (h.0, linear_append us xs ys h.1 k)
linear_append us (equation.Choice c ∷ xs) ys h k = absurd h

pub linear_more : (us : List Unknown) (xs : List Equation) (i : ℕ) (d : Equation) → i < length xs → AreLinear us (get_or xs i d ∷ []) → AreLinear us (take i xs) → AreLinear us (take (i + 1) xs)
linear_more us xs i d h one all = subst (AreLinear us) (sym (take_more xs i d h)) (linear_append us (take i xs) (get_or xs i d ∷ []) all one)

pub constants_more : (p : Pair) (us : List Unknown) (i : ℕ) (d : Unknown) (m : Option ℤ) (b : Bool) → i < length us → m ≡ constant_in_row p (get_or us i d) → is_some m ≡ not b → b ≡ false → HasConstants (take i us) p → HasConstants (take (i + 1) us) p
constants_more p us i d m b h em some off all = all_more (λ u. IsSome (constant_in_row p u)) us i d h (subst IsSome em (some ∙ ap not off)) all
