-- The first of the eliminations.
use Rattle.std.proofs.Common.{◌≡◌, ◌<◌, ℕ, ℤ, List, [], ◌∷◌, ◌++◌, ◌+◌, length, set, get_or, ap, sym, subst, ◌∙◌, arith, length-set}
use Rattle.std.proofs.lemmas.List.{get_or_default, get_or-set_same, length-map, length-append}
use Rattle.std.proofs.lemmas.List.Elements.{All-set, All-append, All-cons, All-nil}
use Rattle.std.proofs.lemmas.List.Edits.{length-swap}
use Rattle.std.specs.List.{All, swap}
use Rattle.lin_solve.specs.Elimination.{coefficients}
use Rattle.lin_solve.proofs.Whole.{All-swap}
use Rattle.kept_elimination.specs.Kept.{matrix_of}
use Rattle.kept_rows.specs.declared.elimination.Elimination.{Elimination}
use Rattle.kept_rows.specs.Sound.{IsSound, IsSoundFor, AreSound, IsKeptFor, IsReady}

pub sound_at : (n i : ℕ) (es : List Elimination) (e : Elimination) → i < length es → e ≡ get_or es i e → AreSound n es → IsSoundFor n e
sound_at n i es e h is all = subst (IsSoundFor n) (sym is) (all.each i e h)

pub sound_set : (n i : ℕ) (es : List Elimination) (e : Elimination) → IsSoundFor n e → AreSound n es → AreSound n (set es i e)
sound_set n i es e h all = record { some = omega (arith, length-set es i e, all.some); each = All-set (IsSoundFor n) es i e h all.each }

pub sound_swap : (n i : ℕ) (es new : List Elimination) → i < length es → new ≡ swap es 0 i → AreSound n es → AreSound n new
sound_swap n i es new h is all =
    subst (AreSound n) (sym is) (record { some = omega (arith, length-swap es 0 i, all.some); each = All-swap (IsSoundFor n) es 0 i all.some h all.each })

pub sound_made : (n : ℕ) (rows : List (List ℤ)) (e : Elimination) → length rows ≡ n → IsSound e → e.matrix.items ≡ matrix_of rows → IsSoundFor n e
sound_made n rows e count sound is = (sound, omega (arith, length-map rows coefficients, count, ap (λ (z : List (List ℤ)). length z) is))

pub ready_at : (rows : List (List ℤ)) (es : List Elimination) (e : Elimination) → 0 < length es → IsKeptFor rows (get_or es 0 e) → IsReady rows es
ready_at rows es e some kept = λ d. subst (IsKeptFor rows) (get_or_default es 0 e d some) kept

pub ready_set : (rows : List (List ℤ)) (es : List Elimination) (e : Elimination) → 0 < length es → IsKeptFor rows e → IsReady rows (set es 0 e)
ready_set rows es e some kept = λ d. subst (IsKeptFor rows) (sym (get_or-set_same es 0 e d some)) kept

pub sound_more : (n : ℕ) (es new : List Elimination) (e : Elimination) → IsSoundFor n e → All (IsSoundFor n) es → new ≡ es ++ e ∷ [] → All (IsSoundFor n) new
sound_more n es new e h all is = subst (All (IsSoundFor n)) (sym is) (All-append (IsSoundFor n) es (e ∷ []) all (All-cons (IsSoundFor n) e [] h (All-nil (IsSoundFor n))))

pub counted_more : (es new : List Elimination) (e : Elimination) (k : ℕ) → length es ≡ k → new ≡ es ++ e ∷ [] → length new ≡ k + 1
counted_more es new e k count is = omega (arith, ap (λ (z : List Elimination). length z) is, length-append es (e ∷ []), count)
