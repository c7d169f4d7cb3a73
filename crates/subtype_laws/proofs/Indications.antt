-- Subtype indications.
use Rattle.std.proofs.Common.{◌≡◌, ◌<◌, ◌≤◌, ℕ, ℤ, pos, negsuc, Bool, true, false, if◌then◌else◌, List, Option, Some, None, IfSome, refl, subst, arith}
use Rattle.std.specs.Prelude.{◌&&◌, ◌||◌, int_le, int_lt, unsigned_abs, nat_lt}
use Rattle.std.proofs.lemmas.Bool.Decides.{nat_tests}
use Rattle.ams_tree.specs.declared.expression.Expr.{Expr}
use Rattle.ams_tree.specs.declared.expression.Name.{Name}
use Rattle.ams_tree.specs.declared.declaration.Bounds.{Bounds}
use Rattle.ams_tree.specs.declared.declaration.Direction.{Direction}
use Rattle.ams_tree.specs.declared.declaration.Direction.TheVariants.{To, Downto}
use Rattle.ams_tree.specs.declared.declaration.Range.{Range}
use Rattle.ams_tree.specs.declared.declaration.SubtypeIndication.{SubtypeIndication}
use Rattle.ams_value.specs.Ranges.{most_elements}
use Rattle.ams_value.specs.declared.val.Val.{Val}
use Rattle.ams_value.specs.declared.val.Val.TheVariants as val
use Rattle.ams_value.specs.declared.value_type.ValueType.{ValueType}
use Rattle.ams_value.specs.declared.value_type.ValueType.TheVariants as t
use Rattle.flat_expr.specs.declared.subtype.Constraint.TheVariants as range
use Rattle.flat_design.specs.declared.objects.Variable.{Variable}
use Rattle.name_scope.specs.declared.thing.Kind.{Kind}
use Rattle.name_scope.specs.declared.thing.Kind.TheVariants.{Of, Vector}
use Rattle.name_scope.specs.declared.thing.Subtype.{Subtype}
use Rattle.name_scope.specs.declared.thing.SubtypeConstraint.TheVariants as constraint
use Rattle.name_scope.specs.declared.thing.Thing.{Thing}
use Rattle.name_scope.specs.declared.thing.Thing.TheVariants as thing
use Rattle.name_scope.specs.declared.scope.Scope.{Scope}
use Rattle.name_scope.specs.Scopes.{lookup}
use Rattle.elab_meaning.specs.declared.fault.Notes.{Notes}
use Rattle.elab_meaning.specs.declared.part.Part.{Part}
use Rattle.elab_meaning.specs.declared.part.Part.TheVariants.{Kept, Wrong, Hidden}
use Rattle.elab_meaning.specs.declared.typed.Asked.{Asked}
use Rattle.elab_meaning.specs.Kinds.{same_kind}
use Rattle.elab_meaning.specs.Parts.{both, found_thing}
use Rattle.elab_meaning.specs.Subtypes.{static_part, holds, bound_value, index_bound, length_of, vector_of, bounded, given_index, indexed, ranged_index, index_subtype, marked, is_ranged, range_of, narrowed, wrong_beside, narrowed_by, in_bounds, subtype}
use Rattle.design_meaning.specs.Typed as flat
use Rattle.design_meaning.specs.Typed.{IsOfType}
use Rattle.design_rules.specs.Types.{FitsType}
use Rattle.typed_laws.specs.Fitting.{FitsValue}
use Rattle.part_laws.specs.Parts.{OnKept}
use Rattle.part_laws.proofs.Parts.{same_type_is, judged_kept, both_kept, where_kept}
use Rattle.scope_laws.specs.Holds.{HasNoFaults, IsIndexed, SubtypeFits, ScopeHolds}
use Rattle.scope_laws.specs.Laws.{ThingHolds}
use Rattle.scope_laws.proofs.Scopes.{each_thing}
use Rattle.asked_laws.specs.Asked.{HasValue}
use Rattle.asked_laws.proofs.Notes.{faults_before}
use Rattle.asked_laws.proofs.Asked.{static_keeps}
use Rattle.subtype_laws.proofs.Growth.{grows_static}

-- ---- bounds of an index

and_left : (a b : Bool) → (a && b) ≡ true → a ≡ true
and_left true b h = refl
and_left false b h = absurd (cc)

and_right : (a b : Bool) → (a && b) ≡ true → b ≡ true
and_right true b h = h
and_right false b h = absurd (cc)

is_less : (m n : ℕ) → nat_lt m n ≡ true → m < n
is_less m n h = grind (arith, nat_tests)

pub below_elements : (i : ℤ) → (int_le (pos 0) i && int_lt i (pos most_elements)) ≡ true → unsigned_abs i < most_elements
below_elements (pos m) h =
    let k : nat_lt m most_elements ≡ true = and_right (int_le (pos 0) (pos m)) (int_lt (pos m) (pos most_elements)) h in
    is_less m most_elements k
below_elements (negsuc m) h = absurd (cc)

-- a number of an element
abbrev IsBound : Option ℕ → Type 0
IsBound (Some k) = k < most_elements
IsBound None = ⊥

short : (l r : ℕ) (d : Direction) → l < most_elements → r < most_elements → length_of l d r ≤ most_elements
short l r To h k = omega arith
short l r Downto h k = omega arith

module _ (objects : flat.Scope) where
  abbrev Fits : Subtype → Type 0
  Fits = SubtypeFits objects.enumerations

  no_value : (k : Kind) → FitsValue objects k None → ⊥
  no_value (Of k) h = h
  no_value Vector h = h

  value_bound : (k : Kind) (v : Option Val) → FitsValue objects k v → OnKept IsBound (bound_value v)
  value_bound k (Some (val.Int i)) h =
      where_kept (Option ℕ) IsBound (int_le (pos 0) i && int_lt i (pos most_elements)) (Some (unsigned_abs i)) (below_elements i)
  value_bound k (Some _) h = tt
  value_bound k None h = absurd (no_value k h)

  bound_kept : (a : Asked) → HasValue objects a → OnKept IsBound (index_bound a)
  bound_kept a h = go (same_kind a.kind (Of t.Integer))
    where
      go : (b : Bool) → OnKept IsBound (if b then bound_value a.value else Wrong)
      go true = value_bound a.kind a.value h
      go false = tt

  vector_kept : (d : Direction) (left right : Option ℕ) → IsBound left → IsBound right → Fits (vector_of d left right)
  vector_kept d (Some l) (Some r) h k =
      record { kind = t.BitVector (length_of l d r); kind_is = refl; range = tt; values = short l r d h k; indexed = tt }
  vector_kept d None r h k = absurd h
  vector_kept d (Some l) None h k = absurd k

  bounded_kept : (d : Direction) (a b : Asked) → HasValue objects a → HasValue objects b → OnKept Fits (bounded d a b)
  bounded_kept d a b h k =
      both_kept (Option ℕ) (Option ℕ) Subtype IsBound IsBound Fits (λ left right. Kept (vector_of d left right)) (λ left right x y. vector_kept d left right x y)
      (index_bound a) (index_bound b) (bound_kept a h) (bound_kept b k)

  abbrev MayFit : Option Subtype → Type 0
  MayFit s = IfSome s Fits

  indexed_kept : (d : Direction) (a b : Asked) → HasValue objects a → HasValue objects b → OnKept MayFit (indexed d a b)
  indexed_kept d a b h k = judged_kept Subtype (Option Subtype) Fits MayFit given_index (λ s x. x) (bounded d a b) (bounded_kept d a b h k)

  index_kept : (d : Direction) (a b : Part Asked) → OnKept (HasValue objects) a → OnKept (HasValue objects) b → OnKept MayFit (ranged_index d a b)
  index_kept d a b h k = both_kept Asked Asked (Option Subtype) (HasValue objects) (HasValue objects) MayFit (indexed d) (indexed_kept d) a b h k

  -- ---- marks

  marked_kept : (variables : List Variable) (parameters : List ℕ) (x : Thing) (s : Option Subtype) → ThingHolds objects variables parameters x → MayFit s → OnKept Fits (marked x s)
  marked_kept variables parameters thing.BitVector (Some s) h k = k
  marked_kept variables parameters (thing.Type s f) None h k = h.also
  marked_kept variables parameters _ _ h k = tt

  -- ---- ranges of values

  integer_range : (s : Subtype) (fits : Fits s) (a b : ℤ) → IsOfType objects.enumerations fits.kind (val.Int a) → IsOfType objects.enumerations fits.kind (val.Int b)
      → Fits (record { kind = s.kind; constraint = constraint.Range (range.Integer a b) })
  integer_range s fits a b h k =
      record {
        kind = fits.kind;
        kind_is = fits.kind_is;
        range = subst (λ (z : ValueType). FitsType objects.enumerations z (range.Integer a b)) h.kind_is (h.range, k.range);
        values = fits.values;
        indexed = subst (λ (z : ValueType). IsIndexed z (constraint.Range (range.Integer a b))) h.kind_is tt;
      }

  real_range : (s : Subtype) (fits : Fits s) (a b : ℤ) → IsOfType objects.enumerations fits.kind (val.Real a) → IsOfType objects.enumerations fits.kind (val.Real b)
      → Fits (record { kind = s.kind; constraint = constraint.Range (range.Real a b) })
  real_range s fits a b h k =
      record {
        kind = fits.kind;
        kind_is = fits.kind_is;
        range = subst (λ (z : ValueType). FitsType objects.enumerations z (range.Real a b)) h.kind_is (h.range, k.range);
        values = fits.values;
        indexed = subst (λ (z : ValueType). IsIndexed z (constraint.Range (range.Real a b))) h.kind_is tt;
      }

  ranged_indexed : (k : ValueType) → is_ranged (Of k) ≡ true → IsIndexed k constraint.Later
  ranged_indexed t.Integer h = tt
  ranged_indexed t.Real h = tt
  ranged_indexed t.Boolean h = tt
  ranged_indexed t.Bit h = tt
  ranged_indexed t.Time h = tt
  ranged_indexed (t.Enumeration n) h = tt
  ranged_indexed (t.BitVector n) h = absurd (cc)

  later_range : (s : Subtype) → Fits s → is_ranged s.kind ≡ true → Fits (record { kind = s.kind; constraint = constraint.Later })
  later_range s fits is =
      record {
        kind = fits.kind;
        kind_is = fits.kind_is;
        range = tt;
        values = fits.values;
        indexed = ranged_indexed fits.kind (subst (λ (z : Kind). is_ranged z ≡ true) fits.kind_is is);
      }

  range_kept : (s : Subtype) (fits : Fits s) (v w : Val) → is_ranged s.kind ≡ true → IsOfType objects.enumerations fits.kind v → IsOfType objects.enumerations fits.kind w
      → OnKept Fits (range_of s (Some v) (Some w))
  range_kept s fits (val.Int a) (val.Int b) is h k =
      where_kept Subtype Fits (int_lt b a || (holds s.constraint (val.Int a) && holds s.constraint (val.Int b))) (record { kind = s.kind; constraint = constraint.Range (range.Integer a b) })
      (λ x. integer_range s fits a b h k)
  range_kept s fits (val.Real a) (val.Real b) is h k =
      where_kept Subtype Fits (int_lt b a || (holds s.constraint (val.Real a) && holds s.constraint (val.Real b))) (record { kind = s.kind; constraint = constraint.Range (range.Real a b) })
      (λ x. real_range s fits a b h k)
  range_kept s fits _ _ is h k = later_range s fits is

  -- a value of a type that is the same
  pub of_same_kind : (k : ValueType) (j : Kind) (v : Val) → same_kind j (Of k) ≡ true → FitsValue objects j (Some v) → IsOfType objects.enumerations k v
  of_same_kind k (Of u) v is h = subst (λ (z : ValueType). IsOfType objects.enumerations z v) (same_type_is u k is) h
  of_same_kind k Vector v is h = absurd h

  values_kept : (s : Subtype) (fits : Fits s) (j i : Kind) (v w : Option Val) → is_ranged s.kind ≡ true → same_kind j (Of fits.kind) ≡ true → same_kind i (Of fits.kind) ≡ true
      → FitsValue objects j v → FitsValue objects i w → OnKept Fits (range_of s v w)
  values_kept s fits j i (Some v) (Some w) r is too h k = range_kept s fits v w r (of_same_kind fits.kind j v is h) (of_same_kind fits.kind i w too k)
  values_kept s fits j i None w r is too h k = absurd (no_value j h)
  values_kept s fits j i (Some v) None r is too h k = absurd (no_value i k)

  record Same (a b c : Bool) : Type 0 where
    first : a ≡ true
    second : b ≡ true
    third : c ≡ true

  all_true : (a b c : Bool) → (a && b && c) ≡ true → Same a b c
  all_true true true true h = record { first = refl; second = refl; third = refl }
  all_true true true false h = absurd (cc)
  all_true true false c h = absurd (cc)
  all_true false b c h = absurd (cc)

  narrowed_kept : (s : Subtype) → Fits s → (a b : Asked) → HasValue objects a → HasValue objects b → OnKept Fits (narrowed s a b)
  narrowed_kept s fits a b h k = go (is_ranged s.kind && same_kind a.kind s.kind && same_kind b.kind s.kind) refl
    where
      go : (c : Bool) → (is_ranged s.kind && same_kind a.kind s.kind && same_kind b.kind s.kind) ≡ c → OnKept Fits (if c then range_of s a.value b.value else Wrong)
      go true is =
          let parts = all_true (is_ranged s.kind) (same_kind a.kind s.kind) (same_kind b.kind s.kind) is in
          values_kept s fits a.kind b.kind a.value b.value parts.first (subst (λ (z : Kind). same_kind a.kind z ≡ true) fits.kind_is parts.second)
          (subst (λ (z : Kind). same_kind b.kind z ≡ true) fits.kind_is parts.third) h k
      go false is = tt

  narrowed_by_kept : (s : Part Subtype) (a b : Part Asked) → OnKept Fits s → OnKept (HasValue objects) a → OnKept (HasValue objects) b → OnKept Fits (narrowed_by s a b)
  narrowed_by_kept (Kept s) a b f h k =
      both_kept Asked Asked Subtype (HasValue objects) (HasValue objects) Fits (narrowed s) (narrowed_kept s f) a b h k
  narrowed_by_kept Wrong a b f h k =
      both_kept Asked Asked Subtype (HasValue objects) (HasValue objects) Fits wrong_beside (λ x y p q. tt) a b h k
  narrowed_by_kept Hidden a b f h k = tt

-- ---- the whole

found_kept : (R : Thing → Type 0) (x : Name) (o : Option Thing) (n : Notes) → IfSome o R → OnKept R (found_thing x o n).1
found_kept R x None n h = tt
found_kept R x (Some thing.Faulty) n h = tt
found_kept R x (Some y) n h = h

module _ (objects : flat.Scope) (variables : List Variable) (parameters : List ℕ) (texts : List (List ℕ)) (scope : Scope) (holding : ScopeHolds objects variables parameters scope) where
  -- what a name stands for, where it is one
  pub thing_kept : (x : Name) (n : Notes) → OnKept (ThingHolds objects variables parameters) (found_thing x (lookup scope x.number) n).1
  thing_kept x n = found_kept (ThingHolds objects variables parameters) x (lookup scope x.number) n (each_thing objects variables parameters scope holding x.number)

  asked_right : (x : Expr) (n : Notes) → HasNoFaults (static_part texts scope x n).0 → OnKept (HasValue objects) (static_part texts scope x n).1
  asked_right x n = (static_keeps objects variables parameters texts scope holding x n).right

  index_right : (r : Option Range) (n : Notes) → HasNoFaults (index_subtype texts scope r n).0 → OnKept (λ s. IfSome s (SubtypeFits objects.enumerations)) (index_subtype texts scope r n).1
  index_right None n f = tt
  index_right (Some r) n f =
      let left = static_part texts scope r.left n in
      let right = static_part texts scope r.right left.0 in
      index_kept objects r.direction left.1 right.1 (asked_right r.left n (faults_before left.0 right.0 (grows_static texts scope r.right left.0) f)) (asked_right r.right left.0 f)

  bounds_right : (r : Option Bounds) (s : Part Subtype) (n : Notes) → (HasNoFaults n → OnKept (SubtypeFits objects.enumerations) s)
      → HasNoFaults (in_bounds texts scope r s n).0 → OnKept (SubtypeFits objects.enumerations) (in_bounds texts scope r s n).1
  bounds_right None s n h f = h f
  bounds_right (Some r) s n h f =
      let low = static_part texts scope r.low n in
      let high = static_part texts scope r.high low.0 in
      let before : HasNoFaults low.0 = faults_before low.0 high.0 (grows_static texts scope r.high low.0) f in
      narrowed_by_kept objects s low.1 high.1 (h (faults_before n low.0 (grows_static texts scope r.low n) before)) (asked_right r.low n before) (asked_right r.high low.0 f)

  pub subtype_right : (i : SubtypeIndication) (n : Notes) → HasNoFaults (subtype texts scope i n).0 → OnKept (SubtypeFits objects.enumerations) (subtype texts scope i n).1
  subtype_right i n =
      let mark = found_thing i.mark (lookup scope i.mark.number) n in
      let index = index_subtype texts scope i.index mark.0 in
      bounds_right i.bounds (both marked mark.1 index.1) index.0
      (λ f.
      both_kept Thing (Option Subtype) Subtype (ThingHolds objects variables parameters) (λ s. IfSome s (SubtypeFits objects.enumerations)) (SubtypeFits objects.enumerations) marked
      (marked_kept objects variables parameters) mark.1 index.1 (thing_kept i.mark n) (index_right i.index mark.0 f))
