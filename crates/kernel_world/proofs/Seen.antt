-- What is read is that of the definition.
use Rattle.std.proofs.Common.{◌≡◌, ◌<◌, ◌≤◌, ◌+◌, ℕ, zero, suc, Bool, true, false, ℤ, pos, List, [], ◌∷◌, length, take, drop, Some, inl, inr, refl, sym, ap, ◌∙◌, arith}
use Rattle.std.specs.Prelude.{slice_get, slice_index_or, nat_lt}
use Rattle.std.proofs.lemmas.Bool.{cases_lt}
use Rattle.std.proofs.lemmas.Bool.Decides.{nat_tests}
use Rattle.std.proofs.lemmas.List.{get_or-drop}
use Rattle.ams_value.specs.declared.val.Val.{Val}
use Rattle.ams_value.specs.declared.val.Val.TheVariants as val
use Rattle.flat_expr.specs.declared.expr.Unknown.{Unknown}
use Rattle.flat_expr.specs.declared.expr.Unknown.TheVariants.{Quantity, Reference, Dot}
use Rattle.flat_design.specs.declared.objects.Objects.{Objects}
use Rattle.design_meaning.specs.Readings.{Seen, still, unknown_of}
use Rattle.design_meaning.specs.Reading.{quantities_in, references_in, dots_in}
use Rattle.kernel_world.specs.Reading.{seens, unknown_in}
use Rattle.kernel_world.specs.Acting.{readings_of}
use Rattle.kernel_world.specs.declared.world.World.{World}

pub value_found : (values : List Val) (events : List Bool) (i : ℕ) (v : Val) → length values ≡ length events → slice_get values i ≡ Some v
    → v ≡ (slice_index_or (seens values events) i (still (val.Bool false))).value
value_found [] events i v e h = cc
value_found (x ∷ values) [] i v e h = absurd (omega arith)
value_found (x ∷ values) (b ∷ events) zero v e h = let same : x ≡ v = cc in sym same
value_found (x ∷ values) (b ∷ events) (suc i) v e h = value_found values events i v (omega arith) h

pub event_found : (values : List Val) (events : List Bool) (i : ℕ) (b : Bool) → length values ≡ length events → slice_get events i ≡ Some b
    → b ≡ (slice_index_or (seens values events) i (still (val.Bool false))).event
event_found [] [] i b e h = cc
event_found [] (a ∷ events) i b e h = absurd (omega arith)
event_found (x ∷ values) [] i b e h = cc
event_found (x ∷ values) (a ∷ events) zero b e h = let same : a ≡ b = cc in sym same
event_found (x ∷ values) (a ∷ events) (suc i) b e h = event_found values events i b (omega arith) h

none_there : (values : List Val) (events : List Bool) (i : ℕ) (d : Seen) → length values ≤ i → slice_index_or (seens values events) i d ≡ d
none_there [] events i d h = refl
none_there (x ∷ values) [] i d h = refl
none_there (x ∷ values) (b ∷ events) zero d h = absurd (omega arith)
none_there (x ∷ values) (b ∷ events) (suc i) d h = none_there values events i d (omega arith)

pub value_missing : (values : List Val) (events : List Bool) (i : ℕ) → length values ≤ i → val.Bool false ≡ (slice_index_or (seens values events) i (still (val.Bool false))).value
value_missing values events i h = ap (λ (s : Seen). s.value) (sym (none_there values events i (still (val.Bool false)) h))

pub event_missing : (values : List Val) (events : List Bool) (i : ℕ) → length values ≤ i → false ≡ (slice_index_or (seens values events) i (still (val.Bool false))).event
event_missing values events i h = ap (λ (s : Seen). s.event) (sym (none_there values events i (still (val.Bool false)) h))

-- ---- unknowns

within : (i n : ℕ) → i < n → nat_lt i n ≡ true
within i n h = grind (arith, nat_tests)

without : (i n : ℕ) → n ≤ i → nat_lt i n ≡ false
without i n h = grind (arith, nat_tests)

in_front : (x : List ℤ) (n i : ℕ) → i < n → slice_index_or x i (pos 0) ≡ slice_index_or (take n x) i (pos 0)
in_front [] zero i h = refl
in_front [] (suc n) i h = refl
in_front (a ∷ x) zero i h = absurd (omega arith)
in_front (a ∷ x) (suc n) zero h = refl
in_front (a ∷ x) (suc n) (suc i) h = in_front x n i (omega arith)

past_front : (x : List ℤ) (n i : ℕ) → n ≤ i → pos 0 ≡ slice_index_or (take n x) i (pos 0)
past_front [] zero i h = refl
past_front [] (suc n) i h = refl
past_front (a ∷ x) zero i h = refl
past_front (a ∷ x) (suc n) zero h = absurd (omega arith)
past_front (a ∷ x) (suc n) (suc i) h = past_front x n i (omega arith)

quantity_is : (objects : Objects) (x : List ℤ) (i : ℕ) → unknown_in objects x (Quantity i) ≡ slice_index_or (quantities_in objects x) i (pos 0)
quantity_is objects x i =
    elim (cases_lt i (length objects.quantities)) [
      | inl h ↦ rw (within i (length objects.quantities) h) (in_front x (length objects.quantities) i h)
      | inr h ↦ rw (without i (length objects.quantities) h) (past_front x (length objects.quantities) i h)
    ]

reference_is : (objects : Objects) (x : List ℤ) (i : ℕ) → unknown_in objects x (Reference i) ≡ slice_index_or (references_in objects x) i (pos 0)
reference_is objects x i =
    let later : slice_index_or (drop (length objects.quantities) x) i (pos 0) ≡ slice_index_or x (length objects.quantities + i) (pos 0) = get_or-drop (length objects.quantities) x i (pos 0) in
    elim (cases_lt i (length objects.nodes)) [
      | inl h ↦ rw (within i (length objects.nodes) h) (sym later ∙ in_front (drop (length objects.quantities) x) (length objects.nodes) i h)
      | inr h ↦ rw (without i (length objects.nodes) h) (past_front (drop (length objects.quantities) x) (length objects.nodes) i h)
    ]

dot_is : (objects : Objects) (x : List ℤ) (i : ℕ) → unknown_in objects x (Dot i) ≡ slice_index_or (dots_in objects x) i (pos 0)
dot_is objects x i = sym (get_or-drop (length objects.quantities + length objects.nodes) x i (pos 0))

pub unknown_is : (w : World) (u : Unknown) → unknown_in w.flat.now w.point u ≡ unknown_of (readings_of w) u
unknown_is w (Quantity i) = quantity_is w.flat.now w.point i
unknown_is w (Reference i) = reference_is w.flat.now w.point i
unknown_is w (Dot i) = dot_is w.flat.now w.point i
