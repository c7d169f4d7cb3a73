-- The places of the unknowns in their order, and slopes there.
use Rattle.std.proofs.Common.{◌≡◌, ◌≢◌, ◌<◌, ℕ, Bool, true, false, ℤ, pos, List, length, replicate, map, set, get_or, Some, IsTrue, inl, inr, refl, sym, ap, ◌∙◌, arith}
use Rattle.std.specs.Prelude.{nat_eq, if◌then◌else◌, ◌+ℤ◌}
use Rattle.std.specs.List.{slice_get}
use Rattle.std.proofs.lemmas.Bool.{cases_eq, ltb-true, lt-ltb}
use Rattle.std.proofs.lemmas.Bool.Decides.{nat_tests}
use Rattle.std.proofs.lemmas.Int.{ints}
use Rattle.std.proofs.lemmas.List.{ext_get_or, get_or-map, get_or-replicate, get_or-set_same, get_or-set_other, length-set, length-replicate, length-map}
use Rattle.std.proofs.lemmas.Option.{get_or_from_slice_get}
use Rattle.flat_expr.specs.declared.expr.Unknown.{Unknown}
use Rattle.flat_expr.specs.declared.expr.Unknown.TheVariants.{Quantity, Reference, Dot}
use Rattle.flat_design.specs.declared.objects.Objects.{Objects}
use Rattle.flat_design.specs.Order.{unknowns, unknown_count, unknown_at, number_of, is_unknown}
use Rattle.flat_design.proofs.OrderLaws.{laws}
use Rattle.design_meaning.specs.Value.{same_unknown}
use Rattle.design_meaning.specs.Equations.{at_unknown}

same_number : (m n : ℕ) → nat_eq m n ≡ true → m ≡ n
same_number m n h = grind (arith, nat_tests)

equal_number : (m : ℕ) → nat_eq m m ≡ true
equal_number m = grind (arith, nat_tests)

same_is : (u v : Unknown) → same_unknown u v ≡ true → u ≡ v
same_is (Quantity i) (Quantity j) h = ap Quantity (same_number i j h)
same_is (Reference i) (Reference j) h = ap Reference (same_number i j h)
same_is (Dot i) (Dot j) h = ap Dot (same_number i j h)
same_is _ _ h = absurd (cc)

same_self : (u : Unknown) → same_unknown u u ≡ true
same_self (Quantity i) = equal_number i
same_self (Reference i) = equal_number i
same_self (Dot i) = equal_number i

-- ---- the slope of one unknown's term

hit : (u v : Unknown) (z : ℤ) → u ≡ v → at_unknown u v z ≡ z
hit u v z e = ap (λ w. at_unknown u w z) (sym e) ∙ ap (λ b. if b then z else pos 0) (same_self u)

miss : (u v : Unknown) (z : ℤ) → u ≢ v → at_unknown u v z ≡ pos 0
miss u v z ne = at (same_unknown u v) refl
  where
    at : (b : Bool) → same_unknown u v ≡ b → (if b then z else pos 0) ≡ pos 0
    at true e = absurd (ne (same_is u v e))
    at false e = refl

abbrev NumberOf : Objects → ℕ → Unknown → Type 0
NumberOf objects j w = (slice_get (unknowns objects) j ≡ Some w) × (number_of objects w ≡ j)

number_at : (objects : Objects) (j : ℕ) → j < unknown_count objects → NumberOf objects j (unknown_at objects j)
number_at objects j h =
    let found = laws.found objects j h in
    let placed = laws.placed objects (unknown_at objects j) (laws.known objects j h) in
    (ap (slice_get (unknowns objects)) (sym found) ∙ placed, found)

at_own : (objects : Objects) (u : Unknown) (z : ℤ) (j : ℕ) → IsTrue (is_unknown objects u) → j < unknown_count objects → j ≡ number_of objects u → at_unknown u (unknown_at objects j) z ≡ z
at_own objects u z j known lt e =
    let placed = laws.placed objects u known in
    let here = (number_at objects j lt).0 in
    let same : Some (unknown_at objects j) ≡ Some u = sym here ∙ ap (slice_get (unknowns objects)) e ∙ placed in
    let is : unknown_at objects j ≡ u = cc in
    hit u (unknown_at objects j) z (sym is)

at_other : (objects : Objects) (u : Unknown) (z : ℤ) (j : ℕ) → j < unknown_count objects → (j ≡ number_of objects u → ⊥) → at_unknown u (unknown_at objects j) z ≡ pos 0
at_other objects u z j lt ne = miss u (unknown_at objects j) z (λ e. ne (sym (ap (number_of objects) e ∙ (number_at objects j lt).1)))

-- ---- the slopes by all unknowns

pub length_unknowns : (objects : Objects) → length (unknowns objects) ≡ unknown_count objects
length_unknowns objects = laws.count objects

slope_read : (objects : Objects) (f : Unknown → ℤ) (j : ℕ) → j < unknown_count objects → get_or (map f (unknowns objects)) j (pos 0) ≡ f (unknown_at objects j)
slope_read objects f j lt =
    let low : j < length (unknowns objects) = omega (arith, length_unknowns objects, lt) in
    get_or-map f (unknowns objects) j (Quantity 0) (pos 0) low ∙ ap f (get_or_from_slice_get (unknowns objects) j (unknown_at objects j) (Quantity 0) (number_at objects j lt).0)

abbrev zeros : Objects → List ℤ
zeros objects = replicate (unknown_count objects) (pos 0)

-- a row is equal to another one that agrees at each place
agrees : (objects : Objects) (f : Unknown → ℤ) (line : List ℤ) → length line ≡ unknown_count objects → ((j : ℕ) → j < unknown_count objects → f (unknown_at objects j) ≡ get_or line j (pos 0)) → map f (unknowns objects) ≡ line
agrees objects f line size same =
    let long = length-map (unknowns objects) f in
    ext_get_or (pos 0) (map f (unknowns objects)) line (long ∙ length_unknowns objects ∙ sym size)
    (λ j h. let lt : j < unknown_count objects = omega (arith, long, length_unknowns objects, h) in slope_read objects f j lt ∙ same j lt)

pub number_below : (objects : Objects) (u : Unknown) → IsTrue (is_unknown objects u) → number_of objects u < unknown_count objects
number_below objects (Quantity i) h = let lt = ltb-true i (length objects.quantities) h in omega (arith, lt)
number_below objects (Reference i) h = let lt = ltb-true i (length objects.nodes) h in omega (arith, lt)
number_below objects (Dot i) h = let lt = ltb-true i (length objects.dots) h in omega (arith, lt)

-- the slopes of one unknown
pub one_slope : (objects : Objects) (u : Unknown) (z : ℤ) → IsTrue (is_unknown objects u) → map (λ v. at_unknown u v z) (unknowns objects) ≡ set (zeros objects) (number_of objects u) z
one_slope objects u z known =
    let n = unknown_count objects in
    let k = number_of objects u in
    let size : length (zeros objects) ≡ n = length-replicate n (pos 0) in
    let low = number_below objects u known in
    agrees objects (λ v. at_unknown u v z) (set (zeros objects) k z) (length-set (zeros objects) k z ∙ size)
    (λ j lt. elim (cases_eq j k) [
      | inl e ↦ at_own objects u z j known lt e ∙ sym (ap (λ i. get_or (set (zeros objects) k z) i (pos 0)) e ∙ get_or-set_same (zeros objects) k z (pos 0) (omega (arith, low, size)))
      | inr ne ↦ at_other objects u z j lt ne ∙ sym (get_or-set_other (zeros objects) k j z (pos 0) ne ∙ get_or-replicate n j (pos 0) (pos 0) lt)
    ])

add_none : (z : ℤ) → z +ℤ pos 0 ≡ z
add_none z = omega (arith, ints)

none_add : (z : ℤ) → pos 0 +ℤ z ≡ z
none_add z = omega (arith, ints)

-- the slopes of a quantity and a dot
pub two_slopes : (objects : Objects) (q d : ℕ) (x y : ℤ) → q < length objects.quantities → d < length objects.dots
    → map (λ v. at_unknown (Quantity q) v x +ℤ at_unknown (Dot d) v y) (unknowns objects) ≡ set (set (zeros objects) (number_of objects (Quantity q)) x) (number_of objects (Dot d)) y
two_slopes objects q d x y hq hd =
    let n = unknown_count objects in
    let a = number_of objects (Quantity q) in
    let b = number_of objects (Dot d) in
    let size : length (zeros objects) ≡ n = length-replicate n (pos 0) in
    let one : length (set (zeros objects) a x) ≡ n = length-set (zeros objects) a x ∙ size in
    let low_a : a < n = omega (arith, hq) in
    let low_b : b < n = omega (arith, hd) in
    let known_q : IsTrue (is_unknown objects (Quantity q)) = lt-ltb q (length objects.quantities) hq in
    let known_d : IsTrue (is_unknown objects (Dot d)) = lt-ltb d (length objects.dots) hd in
    let f : Unknown → ℤ = λ v. at_unknown (Quantity q) v x +ℤ at_unknown (Dot d) v y in
    agrees objects f (set (set (zeros objects) a x) b y) (length-set (set (zeros objects) a x) b y ∙ one)
    (λ j lt. elim (cases_eq j b) [
      | inl e ↦
          let apart : j ≡ a → ⊥ = λ g. omega (arith, e, g, hq) in
          ap (λ z. z +ℤ at_unknown (Dot d) (unknown_at objects j) y) (at_other objects (Quantity q) x j lt apart)
          ∙ ap (λ z. pos 0 +ℤ z) (at_own objects (Dot d) y j known_d lt e) ∙ none_add y
          ∙ sym (ap (λ i. get_or (set (set (zeros objects) a x) b y) i (pos 0)) e ∙ get_or-set_same (set (zeros objects) a x) b y (pos 0) (omega (arith, low_b, one)))
      | inr ne ↦
          ap (λ z. at_unknown (Quantity q) (unknown_at objects j) x +ℤ z) (at_other objects (Dot d) y j lt ne) ∙ add_none (at_unknown (Quantity q) (unknown_at objects j) x)
          ∙ first j lt
          ∙ sym (get_or-set_other (set (zeros objects) a x) b j y (pos 0) ne)
    ])
  where
    first : (j : ℕ) → j < unknown_count objects → at_unknown (Quantity q) (unknown_at objects j) x ≡ get_or (set (zeros objects) (number_of objects (Quantity q)) x) j (pos 0)
    first j lt = sym (slope_read objects (λ v. at_unknown (Quantity q) v x) j lt) ∙ ap (λ l. get_or l j (pos 0)) (one_slope objects (Quantity q) x (lt-ltb q (length objects.quantities) hq))
