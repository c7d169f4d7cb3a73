-- Values that declarations give.
use Rattle.std.proofs.Common.{◌≡◌, ℕ, Bool, true, false, List, Option, Some, None, refl, sym, subst}
use Rattle.std.specs.Prelude.{◌&&◌, IsTrue}
use Rattle.ams_tree.specs.declared.expression.Expr.{Expr}
use Rattle.ams_tree.specs.declared.declaration.SubtypeIndication.{SubtypeIndication}
use Rattle.ams_value.specs.declared.val.Val.{Val}
use Rattle.ams_value.specs.declared.value_type.ValueType.{ValueType}
use Rattle.flat_expr.specs.Subtype.{lies_in}
use Rattle.flat_design.specs.declared.objects.Variable.{Variable}
use Rattle.name_scope.specs.declared.thing.Kind.{Kind}
use Rattle.name_scope.specs.declared.thing.Kind.TheVariants.{Of, Vector}
use Rattle.name_scope.specs.declared.thing.Subtype.{Subtype}
use Rattle.name_scope.specs.declared.thing.SubtypeConstraint.{SubtypeConstraint}
use Rattle.name_scope.specs.declared.thing.SubtypeConstraint.TheVariants as constraint
use Rattle.name_scope.specs.declared.scope.Scope.{Scope}
use Rattle.elab_meaning.specs.declared.fault.Notes.{Notes}
use Rattle.elab_meaning.specs.declared.part.Part.{Part}
use Rattle.elab_meaning.specs.declared.typed.Asked.{Asked}
use Rattle.elab_meaning.specs.declared.typed.Valued.{Valued}
use Rattle.elab_meaning.specs.Kinds.{same_kind, value_type}
use Rattle.elab_meaning.specs.Subtypes.{static_part, holds, holds_known, suits, leftmost, written, default, subtype, initial, valued}
use Rattle.elab_meaning.specs.Declarations.{range_part, value_or_leftmost}
use Rattle.design_meaning.specs.Typed as flat
use Rattle.design_meaning.specs.Typed.{IsOfType}
use Rattle.design_rules.specs.Types.{IsDeclaredAs}
use Rattle.typed_laws.specs.Fitting.{FitsValue}
use Rattle.initial_laws.proofs.Initial.{initial_values_fit}
use Rattle.part_laws.specs.Parts.{OnKept}
use Rattle.part_laws.proofs.Parts.{same_type_is, judged_kept, both_kept, where_kept}
use Rattle.scope_laws.specs.Holds.{HasNoFaults, SubtypeFits, ScopeHolds}
use Rattle.asked_laws.specs.Asked.{HasValue}
use Rattle.asked_laws.proofs.Notes.{faults_before}
use Rattle.asked_laws.proofs.Asked.{static_keeps}
use Rattle.subtype_laws.specs.Subtypes.{ValuedFits, SubtypesFit}
use Rattle.subtype_laws.proofs.Growth.{grows_subtype, grows_initial, grows_valued}
use Rattle.subtype_laws.proofs.Indications.{subtype_right}

and_left : (a b : Bool) → (a && b) ≡ true → a ≡ true
and_left true b h = refl
and_left false b h = absurd (cc)

and_right : (a b : Bool) → (a && b) ≡ true → b ≡ true
and_right true b h = h
and_right false b h = absurd (cc)

module _ (objects : flat.Scope) where
  abbrev Fits : Subtype → Type 0
  Fits = SubtypeFits objects.enumerations

  abbrev Valid : Valued → Type 0
  Valid = ValuedFits objects.enumerations

  -- ---- values that are written

  of_kind : (k : ValueType) (s j : Kind) (v : Val) → s ≡ Of k → same_kind s j ≡ true → FitsValue objects j (Some v) → IsOfType objects.enumerations k v
  of_kind k s (Of u) v of is h =
      let same : same_kind (Of k) (Of u) ≡ true = subst (λ (z : Kind). same_kind z (Of u) ≡ true) of is in
      subst (λ (z : ValueType). IsOfType objects.enumerations z v) (sym (same_type_is k u same)) h
  of_kind k s Vector v of is h = absurd h

  one_valid : (s : Subtype) (fits : Fits s) (j : Kind) (v : Val) → (same_kind s.kind j && holds s.constraint v) ≡ true → FitsValue objects j (Some v) → Valid (record { subtype = s; value = Some v })
  one_valid s fits j v is h =
      record {
        subtype = fits;
        value = v;
        value_is = refl;
        typed = of_kind fits.kind s.kind j v fits.kind_is (and_left (same_kind s.kind j) (holds s.constraint v) is) h;
        lies = and_right (same_kind s.kind j) (holds s.constraint v) is;
      }

  no_value : (k : Kind) → FitsValue objects k None → ⊥
  no_value (Of k) h = h
  no_value Vector h = h

  some_valid : (s : Subtype) (fits : Fits s) (j : Kind) (o : Option Val) → (same_kind s.kind j && holds_known s.constraint o) ≡ true → FitsValue objects j o → Valid (record { subtype = s; value = o })
  some_valid s fits j (Some v) is h = one_valid s fits j v is h
  some_valid s fits j None is h = absurd (no_value j h)

  written_kept : (s : Subtype) (a : Asked) → Fits s → HasValue objects a → OnKept Valid (written s a)
  written_kept s a fits h = where_kept Valued Valid (suits s a) (record { subtype = s; value = a.value }) (λ is. some_valid s fits a.kind a.value is h)

  -- ---- leftmost values

  default_kept : (s : Subtype) → Fits s → OnKept Valid (default s)
  default_kept s fits =
      where_kept Valued Valid (holds s.constraint (leftmost s)) (record { subtype = s; value = Some (leftmost s) })
      (λ is.
      record {
        subtype = fits;
        value = leftmost s;
        value_is = refl;
        typed = initial_values_fit.default objects.enumerations s fits.kind fits.kind_is fits.range fits.values;
        lies = is;
      })

-- ---- the whole

module _ (objects : flat.Scope) (variables : List Variable) (parameters : List ℕ) (texts : List (List ℕ)) (scope : Scope) (holding : ScopeHolds objects variables parameters scope) where
  pub initial_right : (s : Part Subtype) (x : Option Expr) (n : Notes) → (HasNoFaults n → OnKept (SubtypeFits objects.enumerations) s)
      → HasNoFaults (initial texts scope s x n).0 → OnKept (ValuedFits objects.enumerations) (initial texts scope s x n).1
  initial_right s None n h f = judged_kept Subtype Valued (Fits objects) (Valid objects) default (default_kept objects) s (h f)
  initial_right s (Some x) n h f =
      let value = static_part texts scope x n in
      let v = static_keeps objects variables parameters texts scope holding x n in
      both_kept Subtype Asked Valued (Fits objects) (HasValue objects) (Valid objects) written (λ t a. written_kept objects t a) s value.1 (h (faults_before n value.0 v.grows f)) (v.right f)

  pub valued_right : (i : SubtypeIndication) (x : Option Expr) (n : Notes) → HasNoFaults (valued texts scope i x n).0 → OnKept (ValuedFits objects.enumerations) (valued texts scope i x n).1
  valued_right i x n =
      let s = subtype texts scope i n in
      initial_right s.1 x s.0 (subtype_right objects variables parameters texts scope holding i n)

-- ---- what is declared with it

lies_declared : (c : SubtypeConstraint) (v : Val) → IsTrue (holds c v) → IsTrue (lies_in (range_part c) v)
lies_declared (constraint.Range r) v h = h
lies_declared (constraint.Index r) v h = refl
lies_declared constraint.Later v h = refl

pub valued_declared : (sizes : List ℕ) (given : Valued) → ValuedFits sizes given
    → IsDeclaredAs sizes (value_type given.subtype.kind) (range_part given.subtype.constraint) (value_or_leftmost given.subtype given.value)
valued_declared sizes given h =
    let s = h.subtype in
    subst (λ (k : Kind). IsDeclaredAs sizes (value_type k) (range_part given.subtype.constraint) (value_or_leftmost given.subtype given.value)) (sym s.kind_is)
    (subst (λ (o : Option Val). IsDeclaredAs sizes s.kind (range_part given.subtype.constraint) (value_or_leftmost given.subtype o)) (sym h.value_is)
    (record { subtype = s.range; initial_is = h.typed; lies = lies_declared given.subtype.constraint h.value h.lies }))

pub subtypes_fit : SubtypesFit
subtypes_fit = record {
  subtypes = λ objects variables parameters texts scope i n holding.
      record { grows = grows_subtype texts scope i n; right = subtype_right objects variables parameters texts scope holding i n };
  initials = λ objects variables parameters texts scope s x n holding h.
      record { grows = grows_initial texts scope s x n; right = initial_right objects variables parameters texts scope holding s x n (λ f. h) };
  values = λ objects variables parameters texts scope i x n holding.
      record { grows = grows_valued texts scope i x n; right = valued_right objects variables parameters texts scope holding i x n };
  declared = valued_declared;
}
