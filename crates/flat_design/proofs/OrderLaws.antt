-- The numbers of unknowns are their places.
use Rattle.std.proofs.Common.{◌≡◌, ℕ, ◌+◌, ◌-◌, ◌<◌, ◌≤◌, List, [], ◌∷◌, ◌++◌, length, IsTrue, arith, refl, ◌∙◌, ap, zero, suc, subst, zero, suc, zero-add, suc-add, length-append, nat_lt, true, false}
use Rattle.std.specs.Prelude.{map, Some, if◌then◌else◌}
use Rattle.std.proofs.lemmas.Bool.{ltb-true, ltb-false, lt-ltb}
use Rattle.std.specs.List.{range_with_len, slice_get}
use Rattle.std.proofs.lemmas.Option.{slice_get-get_or}
use Rattle.std.proofs.lemmas.List.FromFn.{get_or-map-range_with_len, length-map-range_with_len}
use Rattle.flat_expr.specs.declared.expr.Unknown.{Unknown}
use Rattle.flat_expr.specs.declared.expr.Unknown.TheVariants.{Quantity, Reference, Dot}
use Rattle.flat_design.specs.Order.{NumbersFindUnknowns, unknowns, unknown_count, unknown_at, number_of, is_unknown}
use Rattle.flat_design.specs.declared.objects.Objects.{Objects}

-- the numbers from 0 on, as names of one kind
abbrev all : (ℕ → Unknown) → ℕ → List Unknown
all f n = map f (range_with_len 0 n)

length-all : (f : ℕ → Unknown) (n : ℕ) → length (all f n) ≡ n
length-all f n = length-map-range_with_len f 0 n

at_left : (xs ys : List Unknown) (i : ℕ) (u : Unknown) → slice_get xs i ≡ Some u → slice_get (xs ++ ys) i ≡ Some u
at_left [] ys i u e = cc
at_left (x ∷ xs) ys zero u e = e
at_left (x ∷ xs) ys (suc i) u e = at_left xs ys i u e

at_right : (xs ys : List Unknown) (i : ℕ) (u : Unknown) → slice_get ys i ≡ Some u → slice_get (xs ++ ys) (length xs + i) ≡ Some u
at_right [] ys i u e = rw zero-add e
at_right (x ∷ xs) ys i u e = rw suc-add (at_right xs ys i u e)

at_all : (f : ℕ → Unknown) (n i : ℕ) → i < n → slice_get (all f n) i ≡ Some (f i)
at_all f n i h =
    slice_get-get_or (all f n) i (f i) (rw (length-all f n) h) ∙ ap Some (get_or-map-range_with_len f 0 n i i (f i) h (omega arith))

places : (objects : Objects) (u : Unknown) → IsTrue (is_unknown objects u) → slice_get (unknowns objects) (number_of objects u) ≡ Some u
places objects (Quantity i) h =
    at_left _ _ i _ (at_left _ _ i _ (at_all Quantity _ i (ltb-true i (length objects.quantities) h)))
places objects (Reference i) h =
    let n = length objects.quantities in
    let m = length objects.nodes in
    let at : slice_get (all Quantity n ++ all Reference m) (length (all Quantity n) + i) ≡ Some (Reference i) =
    at_right (all Quantity n) (all Reference m) i (Reference i) (at_all Reference m i (ltb-true i m h)) in
    let P : ℕ → Type 0 = λ k. slice_get (all Quantity n ++ all Reference m) (k + i) ≡ Some (Reference i) in
    at_left _ _ (n + i) _ (subst P (length-all Quantity n) at)
places objects (Dot i) h =
    let n = length objects.quantities in
    let m = length objects.nodes in
    let k = length objects.dots in
    let front = all Quantity n ++ all Reference m in
    let at : slice_get (front ++ all Dot k) (length front + i) ≡ Some (Dot i) =
    at_right front (all Dot k) i (Dot i) (at_all Dot k i (ltb-true i k h)) in
    let P : ℕ → Type 0 = λ j. slice_get (front ++ all Dot k) (j + i) ≡ Some (Dot i) in
    let size : length front ≡ n + m = rw (length-append, length-all Quantity n, length-all Reference m) in
    subst P size at

counts : (objects : Objects) → length (unknowns objects) ≡ unknown_count objects
counts objects =
    rw (length-append, length-append, length-all Quantity (length objects.quantities), length-all Reference (length objects.nodes), length-all Dot (length objects.dots))

abbrev IsNumberOf : Objects → ℕ → Unknown → Type 0
IsNumberOf objects n u = (number_of objects u ≡ n) × IsTrue (is_unknown objects u)

-- by the three parts in which a number may lie
by_parts : (objects : Objects) (n : ℕ) → n < unknown_count objects → IsNumberOf objects n (unknown_at objects n)
by_parts objects n h =
    let q = length objects.quantities in
    let m = length objects.nodes in
    elim (nat_lt n q) as (λ b. nat_lt n q ≡ b → IsNumberOf objects n (if b then Quantity n else (if nat_lt n (q + m) then Reference (n - q) else Dot (n - q - m)))) [
      | true ↦ λ e. (refl, e)
      | false ↦ λ e.
          let past : q ≤ n = ltb-false n q e in
          elim (nat_lt n (q + m)) as (λ b. nat_lt n (q + m) ≡ b → IsNumberOf objects n (if b then Reference (n - q) else Dot (n - q - m))) [
            | true ↦ λ f.
                let below : n < q + m = ltb-true n (q + m) f in
                (omega arith, lt-ltb (n - q) m (omega arith))
            | false ↦ λ f.
                let past_nodes : q + m ≤ n = ltb-false n (q + m) f in
                (omega arith, lt-ltb (n - q - m) (length objects.dots) (omega arith))
          ] refl
    ] refl

pub laws : NumbersFindUnknowns
laws = record {
  count = counts;
  placed = places;
  found = λ objects n h. (by_parts objects n h).0;
  known = λ objects n h. (by_parts objects n h).1;
}
