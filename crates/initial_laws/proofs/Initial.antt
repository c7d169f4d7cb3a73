-- Values that declarations give.
use Rattle.std.proofs.Common.{◌≡◌, ◌<◌, ◌≤◌, ◌^◌, ℕ, Bool, true, false, List, Option, Some, None, IfSome, arith, refl, sym, subst}
use Rattle.std.specs.Prelude.{◌&&◌, nat_le, nat_lt, get_or}
use Rattle.std.proofs.lemmas.Bool.Decides.{nat_tests}
use Rattle.std.proofs.Math.Nat.{one-le-pow}
use Rattle.ams_token.specs.declared.token.Place.{Place}
use Rattle.ams_value.specs.declared.val.Val.{Val}
use Rattle.ams_value.specs.declared.value_type.ValueType.{ValueType}
use Rattle.ams_value.specs.declared.value_type.ValueType.TheVariants.{Boolean, Bit, Integer, Real, Time, Enumeration, BitVector}
use Rattle.flat_expr.specs.declared.subtype.Constraint.TheVariants as range
use Rattle.name_scope.specs.declared.thing.Kind.{Kind}
use Rattle.name_scope.specs.declared.thing.Kind.TheVariants.{Of, Vector}
use Rattle.name_scope.specs.declared.thing.Subtype.{Subtype}
use Rattle.name_scope.specs.declared.thing.SubtypeConstraint.{SubtypeConstraint}
use Rattle.name_scope.specs.declared.thing.SubtypeConstraint.TheVariants as constraint
use Rattle.elab_meaning.specs.declared.fault.Notes.{Notes}
use Rattle.elab_meaning.specs.declared.typed.Asked.{Asked}
use Rattle.elab_meaning.specs.declared.typed.StaticValue.{StaticValue}
use Rattle.elab_meaning.specs.declared.typed.StaticValue.TheVariants.{Known, Faulty, Later, Changing}
use Rattle.elab_meaning.specs.declared.typed.Typed.{Typed}
use Rattle.elab_meaning.specs.declared.typed.Valued.{Valued}
use Rattle.elab_meaning.specs.Kinds.{same_kind}
use Rattle.elab_meaning.specs.Parts.{part_of}
use Rattle.elab_meaning.specs.Expressions.{asked_value, asked, static, static_in, expression}
use Rattle.elab_meaning.specs.Subtypes.{declaring, holds, holds_known, suits, first_of_type, leftmost_of, written}
use Rattle.elab_meaning.specs.Declarations.{range_part}
use Rattle.design_meaning.specs.Typed as flat
use Rattle.design_meaning.specs.Typed.{IsOfType}
use Rattle.design_rules.specs.Types.{FitsType}
use Rattle.typed_laws.specs.Fitting.{FitsValue}
use Rattle.static_laws.specs.Known.{OnKnown}
use Rattle.sound_laws.specs.Sound.{HasSoundValue}
use Rattle.sound_laws.proofs.Sound.{known_values_are_of_their_types}
use Rattle.part_laws.specs.Parts.{OnKept}
use Rattle.part_laws.proofs.Parts.{same_type_is, judged_kept, where_kept}
use Rattle.initial_laws.specs.Initial.{FitsAsked, IsInitial, HasValues, InitialValuesFit}

-- ---- values that are asked

module _ (objects : flat.Scope) where
  value_fits : (place : Place) (k : Kind) (v : StaticValue) (n : Notes) → OnKnown (λ w. FitsValue objects k (Some w)) v → IfSome (asked_value place k v n).1 (FitsAsked objects)
  value_fits place k (Known v) n h = h
  value_fits place k Faulty n h = tt
  value_fits place k Later n h = tt
  value_fits place k Changing n h = tt

  asked_fits : (o : Option Typed) (n : Notes) → IfSome o (HasSoundValue objects) → IfSome (asked o n).1 (FitsAsked objects)
  asked_fits (Some t) n h = value_fits t.place t.kind t.value n h
  asked_fits None n h = tt

  -- ---- values that are written

  and_left : (a b : Bool) → (a && b) ≡ true → a ≡ true
  and_left true b h = refl
  and_left false b h = absurd (cc)

  and_right : (a b : Bool) → (a && b) ≡ true → b ≡ true
  and_right true b h = h
  and_right false b h = absurd (cc)

  of_kind : (k : ValueType) (j : Kind) (v : Val) → same_kind (Of k) j ≡ true → FitsValue objects j (Some v) → IsOfType objects.enumerations k v
  of_kind k (Of u) v is h = subst (λ (z : ValueType). IsOfType objects.enumerations z v) (sym (same_type_is k u is)) h
  of_kind k Vector v is h = absurd h

  one_fits : (s : Subtype) (k : ValueType) (j : Kind) (o : Option Val) → s.kind ≡ Of k → (same_kind s.kind j && holds_known s.constraint o) ≡ true → IfSome o (λ v. FitsValue objects j (Some v))
      → IfSome o (λ v. IsOfType objects.enumerations k v × (holds s.constraint v ≡ true))
  one_fits s k j (Some v) of is h =
      (of_kind k j v (subst (λ (z : Kind). same_kind z j ≡ true) of (and_left (same_kind s.kind j) (holds s.constraint v) is)) h, and_right (same_kind s.kind j) (holds s.constraint v) is)
  one_fits s k j None of is h = tt

  written_fits : (s : Subtype) (k : ValueType) → s.kind ≡ Of k → (a : Asked) → FitsAsked objects a → OnKept (IsInitial objects s k) (written s a)
  written_fits s k of a h = where_kept Valued (IsInitial objects s k) (suits s a) (record { subtype = s; value = a.value }) (λ is. one_fits s k a.kind a.value of is h)

  part_fits : (o : Option Asked) → IfSome o (FitsAsked objects) → OnKept (FitsAsked objects) (part_of o)
  part_fits (Some a) h = h
  part_fits None h = tt

-- ---- leftmost values

at_least : (m n : ℕ) → m ≤ n → nat_le m n ≡ true
at_least m n h = grind (arith, nat_tests)

is_below : (m n : ℕ) → m < n → nat_lt m n ≡ true
is_below m n h = grind (arith, nat_tests)

both_true : (a b : Bool) → a ≡ true → b ≡ true → (a && b) ≡ true
both_true true b h g = g
both_true false b h g = absurd (cc)

first_fits : (sizes : List ℕ) (c : SubtypeConstraint) (k : ValueType) → FitsType sizes k (range_part c) → HasValues sizes k → IsOfType sizes k (first_of_type c k)
first_fits sizes c Boolean h g = record { kind_is = refl; range = refl }
first_fits sizes c Bit h g = record { kind_is = refl; range = refl }
first_fits sizes (constraint.Range (range.Integer low high)) Integer h g = record { kind_is = refl; range = h.0 }
first_fits sizes (constraint.Range (range.Real low high)) Integer h g = absurd h
first_fits sizes (constraint.Range range.Whole) Integer h g = record { kind_is = refl; range = refl }
first_fits sizes (constraint.Index r) Integer h g = record { kind_is = refl; range = refl }
first_fits sizes constraint.Later Integer h g = record { kind_is = refl; range = refl }
first_fits sizes (constraint.Range (range.Real low high)) Real h g = record { kind_is = refl; range = h.0 }
first_fits sizes (constraint.Range (range.Integer low high)) Real h g = absurd h
first_fits sizes (constraint.Range range.Whole) Real h g = record { kind_is = refl; range = refl }
first_fits sizes (constraint.Index r) Real h g = record { kind_is = refl; range = refl }
first_fits sizes constraint.Later Real h g = record { kind_is = refl; range = refl }
first_fits sizes c Time h g = record { kind_is = refl; range = refl }
first_fits sizes c (Enumeration n) h g = record { kind_is = refl; range = is_below 0 (get_or sizes n 0) g }
first_fits sizes c (BitVector n) h g =
    let some : 1 ≤ 2 ^ n = one-le-pow n 2 (omega arith) in
    record { kind_is = refl; range = both_true (nat_le n 64) (nat_lt 0 (2 ^ n)) (at_least n 64 g) (is_below 0 (2 ^ n) (omega arith)) }

pub initial_values_fit : InitialValuesFit
initial_values_fit = record {
  asked = λ objects variables parameters texts scope x c n fits.
      asked_fits objects (expression texts scope x (static_in c) n).1 (expression texts scope x (static_in c) n).0
      (known_values_are_of_their_types objects variables parameters texts scope x (static_in c) n fits);
  written = λ objects variables parameters texts scope s k x n fits of.
      judged_kept Asked Valued (FitsAsked objects) (IsInitial objects s k) (written s) (written_fits objects s k of) (part_of (static texts scope x declaring n).1)
      (part_fits objects (static texts scope x declaring n).1
      (asked_fits objects (expression texts scope x (static_in declaring) n).1 (expression texts scope x (static_in declaring) n).0
      (known_values_are_of_their_types objects variables parameters texts scope x (static_in declaring) n fits)));
  default = λ sizes s k of h g. subst (λ (z : Kind). IsOfType sizes k (leftmost_of z s.constraint)) (sym of) (first_fits sizes s.constraint k h g);
}
