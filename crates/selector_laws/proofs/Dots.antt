-- Dots and their numbers.
use Rattle.std.proofs.Common.{◌≡◌, ◌≤◌, ◌<◌, ◌+◌, ℕ, zero, suc, Bool, true, false, if◌then◌else◌, cond, List, [], ◌∷◌, ◌++◌, length, length-append, get_or, Some, None, refl, sym, ap, ◌∙◌, subst, arith}
use Rattle.std.specs.Prelude.{nat_eq, nat_lt, nat_le, unwrap_or}
use Rattle.std.specs.List.{slice_get, position_or_len}
use Rattle.std.proofs.lemmas.Bool.Decides.{nat_tests}
use Rattle.std.proofs.lemmas.List.Sums.{passes_at_first}
use Rattle.std.proofs.lemmas.Option.{slice_get-get_or}
use Rattle.flat_expr.specs.declared.expr.Unknown.{Unknown}
use Rattle.flat_design.specs.Limits.{unknown_limit}
use Rattle.flat_design.specs.Lists.{number_of_dot, with_dot}
use Rattle.elab_meaning.specs.declared.fault.Fault.{Fault}
use Rattle.elab_meaning.specs.declared.fault.Notes.{Notes}
use Rattle.elab_meaning.specs.Notes.{dotted}
use Rattle.reading_laws.specs.Growing.{Extends, Grows}
use Rattle.scope_laws.specs.Holds.{HasNoFaults}
use Rattle.selector_laws.specs.Selectors.{HasDot}

front : (xs more : List ℕ) (i x : ℕ) → slice_get xs i ≡ Some x → slice_get (xs ++ more) i ≡ Some x
front [] more i x h = cc
front (y ∷ xs) more zero x h = h
front (y ∷ xs) more (suc i) x h = front xs more i x h

-- a number stays behind further dots
pub dot_later : (S : Unknown → Bool) (old new : List ℕ) (q : ℕ) → Extends ℕ old new → HasDot S old q → HasDot S new q
dot_later S old new q e h =
    record { number = h.number; number_is = subst (λ (l : List ℕ). slice_get l h.number ≡ Some q) (sym e.whole) (front old e.more h.number q h.number_is); stands = h.stands }

pub dot_wider : (S T : Unknown → Bool) (dots : List ℕ) (q : ℕ) → ((u : Unknown) → S u ≡ true → T u ≡ true) → HasDot S dots q → HasDot T dots q
dot_wider S T dots q w h = record { number = h.number; number_is = h.number_is; stands = w _ h.stands }

-- ---- the number of a dot that is noted

abbrev IsDotOf : ℕ → ℕ → Bool
IsDotOf q other = nat_eq other q

at_number : (k n : ℕ) → k < n → unwrap_or (cond (nat_lt k n) (Some k) None) n ≡ k
at_number k n h = go (nat_lt k n) refl
  where
    go : (b : Bool) → nat_lt k n ≡ b → unwrap_or (cond b (Some k) None) n ≡ k
    go true e = refl
    go false e = absurd (grind (arith, nat_tests))

inside : (k n : ℕ) → nat_eq (unwrap_or (cond (nat_lt k n) (Some k) None) n) n ≡ false → k < n
inside k n h = go (nat_lt k n) refl h
  where
    go : (b : Bool) → nat_lt k n ≡ b → nat_eq (unwrap_or (cond b (Some k) None) n) n ≡ false → k < n
    go true less is = grind (arith, nat_tests)
    go false less is = grind (arith, nat_tests)

at_end : (xs : List ℕ) (q : ℕ) → slice_get (xs ++ q ∷ []) (length xs) ≡ Some q
at_end [] q = refl
at_end (x ∷ xs) q = at_end xs q

same_number : (a b : ℕ) → nat_eq a b ≡ true → a ≡ b
same_number a b h = grind (arith, nat_tests)

pub dot_at_number : (q : ℕ) (xs : List ℕ) → slice_get (with_dot q xs) (number_of_dot q xs) ≡ Some q
dot_at_number q xs = go (nat_eq (number_of_dot q xs) (length xs)) refl
  where
    go : (b : Bool) → nat_eq (number_of_dot q xs) (length xs) ≡ b → slice_get (if b then xs ++ q ∷ [] else xs) (number_of_dot q xs) ≡ Some q
    go true is = subst (λ (k : ℕ). slice_get (xs ++ q ∷ []) k ≡ Some q) (sym (same_number (number_of_dot q xs) (length xs) is)) (at_end xs q)
    go false is =
        let k = position_or_len (IsDotOf q) xs in
        let less : k < length xs = inside k (length xs) is in
        let found : get_or xs k 0 ≡ q = same_number (get_or xs k 0) q (passes_at_first (IsDotOf q) xs 0 less) in
        subst (λ (j : ℕ). slice_get xs j ≡ Some q) (sym (at_number k (length xs) less)) (slice_get-get_or xs k 0 less ∙ ap (λ (z : ℕ). Some z) found)

-- where there is room it has its number
pub dot_noted : (q : ℕ) (n : Notes) → length (dotted q n).dots ≤ unknown_limit → slice_get (dotted q n).dots (number_of_dot q n.dots) ≡ Some q
unfolding dotted
dot_noted q n = go (nat_le (length n.dots) unknown_limit) refl
  where
    go : (b : Bool) → nat_le (length n.dots) unknown_limit ≡ b → length (if b then record { faults = n.faults; dots = with_dot q n.dots; thresholds = n.thresholds } else n).dots ≤ unknown_limit
        → slice_get (if b then record { faults = n.faults; dots = with_dot q n.dots; thresholds = n.thresholds } else n).dots (number_of_dot q n.dots) ≡ Some q
    go true is short = dot_at_number q n.dots
    go false is short = absurd (grind (arith, nat_tests))

-- ---- fronts of notes

nothing_before : (xs more : List Fault) → xs ++ more ≡ [] → xs ≡ []
nothing_before [] more h = refl
nothing_before (x ∷ xs) more h = absurd (cc)

pub fine_before : (a b : Notes) → Grows a b → HasNoFaults b → HasNoFaults a
fine_before a b g h = nothing_before a.faults g.faults.more (sym g.faults.whole ∙ h)

pub short_before : (a b : Notes) → Grows a b → length b.dots ≤ unknown_limit → length a.dots ≤ unknown_limit
short_before a b g h =
    let whole : length b.dots ≡ length (a.dots ++ g.dots.more) = ap length g.dots.whole in
    let parts : length (a.dots ++ g.dots.more) ≡ length a.dots + length g.dots.more = length-append a.dots g.dots.more in
    omega arith
