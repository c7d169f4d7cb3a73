-- What is assigned: signals and variables of the design by their names.
use Rattle.std.proofs.Common.{◌≡◌, ℕ, zero, suc, Bool, true, false, List, [], ◌∷◌, map, Option, Some, None, IfSome, refl, ap, sym, ◌∙◌, subst}
use Rattle.std.specs.Prelude.{◌&&◌}
use Rattle.std.specs.List.{slice_get}
use Rattle.ams_tree.specs.declared.expression.Name.{Name}
use Rattle.ams_value.specs.declared.value_type.ValueType.{ValueType}
use Rattle.flat_expr.specs.declared.expr.FlatExpr.{FlatExpr}
use Rattle.flat_design.specs.declared.objects.Objects.{Objects}
use Rattle.flat_design.specs.declared.objects.Process.{Process}
use Rattle.flat_design.specs.declared.objects.Signal.{Signal}
use Rattle.flat_design.specs.declared.objects.Variable.{Variable}
use Rattle.name_scope.specs.declared.thing.Access.TheVariants.{Assignable, ReadOnly}
use Rattle.name_scope.specs.declared.thing.Kind.{Kind}
use Rattle.name_scope.specs.declared.thing.Kind.TheVariants.{Of, Vector}
use Rattle.name_scope.specs.declared.thing.Subtype.{Subtype}
use Rattle.name_scope.specs.declared.thing.Thing.{Thing}
use Rattle.name_scope.specs.declared.thing.Thing.TheVariants as thing
use Rattle.name_scope.specs.declared.scope.Scope.{Scope}
use Rattle.name_scope.specs.Scopes.{lookup}
use Rattle.elab_meaning.specs.declared.fault.Notes.{Notes}
use Rattle.elab_meaning.specs.declared.part.Part.{Part}
use Rattle.elab_meaning.specs.declared.part.Part.TheVariants.{Kept, Wrong, Hidden}
use Rattle.elab_meaning.specs.declared.typed.Typed.{Typed}
use Rattle.elab_meaning.specs.Declarations.{range_part}
use Rattle.elab_meaning.specs.Kinds.{same_kind}
use Rattle.elab_meaning.specs.Parts.{judged, both, found_thing}
use Rattle.elab_meaning.specs.Subtypes.{suits, holds_known}
use Rattle.unit_meaning.specs.Settings.{known_of, value_of}
use Rattle.unit_meaning.specs.Waveforms.{target_of, target}
use Rattle.unit_meaning.specs.Sequential.{variable_of}
use Rattle.design_meaning.specs.Typed.{HasType}
use Rattle.design_rules.specs.Types.{sizes_of, FitsType, process_scope, IsDeclared, IsVisible, IsExpression}
use Rattle.typed_laws.specs.Fitting.{FitsKind, HasKind, IsRead}
use Rattle.part_laws.specs.Parts.{OnKept}
use Rattle.part_laws.proofs.Parts.{same_type_is, judged_kept}
use Rattle.scope_laws.specs.Holds.{SubtypeFits, ScopeHolds}
use Rattle.scope_laws.specs.Laws.{ThingHolds}
use Rattle.scope_laws.proofs.Scopes.{each_thing}

-- ---- parts

pub any_part : (A : Type 0) (p : Part A) → OnKept (λ (a : A). Unit {0}) p
any_part A (Kept a) = tt
any_part A Wrong = tt
any_part A Hidden = tt

pub never_kept : (A B C : Type 0) (U : C → Type 0) (rule : A → B → Part C) (q : Part B) → OnKept U (both rule Wrong q)
never_kept A B C U rule (Kept b) = tt
never_kept A B C U rule Wrong = tt
never_kept A B C U rule Hidden = tt

pub found_kept : (x : Name) (o : Option Thing) (n : Notes) (R : Thing → Type 0) → IfSome o R → OnKept R (found_thing x o n).1
found_kept x None n R h = tt
found_kept x (Some thing.Faulty) n R h = tt
found_kept x (Some _) n R h = h

-- ---- lists of kinds

some_same : {A : Type 0} {a b : A} → Some a ≡ Some b → a ≡ b
some_same e = cc

of_same : (a b : ValueType) → Of a ≡ Of b → a ≡ b
of_same a b e = cc

nothing_at : (A : Type 0) (i : ℕ) (a : A) → slice_get [] i ≡ Some a → ⊥
nothing_at A zero a h = absurd (cc)
nothing_at A (suc i) a h = absurd (cc)

module _ (A : Type 0) (kind : A → ValueType) where
  -- a member with this kind
  pub record Member (all : List A) (i : ℕ) (k : ValueType) : Type 0 where
    pub member : A
    pub is : slice_get all i ≡ Some member
    pub kind_is : kind member ≡ k

  pub member_at : (all : List A) (i : ℕ) (k : ValueType) → slice_get (map kind all) i ≡ Some k → Member all i k
  member_at [] i k h = absurd (nothing_at ValueType i k h)
  member_at (x ∷ all) zero k h = record { member = x; is = refl; kind_is = some_same h }
  member_at (x ∷ all) (suc i) k h =
      let rest : Member all i k = member_at all i k h in
      record { member = rest.member; is = rest.is; kind_is = rest.kind_is }

  pub kind_at : (all : List A) (i : ℕ) (x : A) → slice_get all i ≡ Some x → slice_get (map kind all) i ≡ Some (kind x)
  kind_at [] i x h = absurd (nothing_at A i x h)
  kind_at (y ∷ all) zero x h = ap Some (ap kind (some_same h))
  kind_at (y ∷ all) (suc i) x h = kind_at all i x h

known_kind : (o : Option ValueType) (k : Kind) (t : ValueType) → FitsKind o k → k ≡ Of t → o ≡ Some t
known_kind o (Of s) t h e = h ∙ ap Some (of_same s t e)
known_kind o Vector t h e = absurd h

and_left : (a b : Bool) → (a && b) ≡ true → a ≡ true
and_left true b h = refl
and_left false b h = absurd (cc)

module _ (objects : Objects) (p : Process) (ps : List ℕ) where
  -- a signal that may be assigned, with the subtype of its name
  pub record IsTarget (to : ℕ × Subtype) : Type 0 where
    pub signal : Signal
    pub signal_is : slice_get objects.signals to.0 ≡ Some signal
    pub kind_is : to.1.kind ≡ Of signal.kind
    pub range : FitsType (sizes_of objects) signal.kind (range_part to.1.constraint)

  -- a variable that is declared
  pub record IsPlace (to : ℕ × Subtype) : Type 0 where
    pub variable : Variable
    pub variable_is : slice_get p.variables to.0 ≡ Some variable
    pub declared : variable.is_parameter ≡ false
    pub kind_is : to.1.kind ≡ Of variable.kind
    pub range : FitsType (sizes_of objects) variable.kind (range_part to.1.constraint)

  abbrev Holds : Thing → Type 0
  Holds = ThingHolds (process_scope objects p) p.variables ps

  signal_target : (i : ℕ) (s : Subtype) → FitsKind (slice_get (process_scope objects p).signals i) s.kind → SubtypeFits (sizes_of objects) s → IsTarget (i, s)
  signal_target i s f a =
      let at : Member Signal (λ (x : Signal). x.kind) objects.signals i a.kind =
      member_at Signal (λ (x : Signal). x.kind) objects.signals i a.kind (known_kind (slice_get (process_scope objects p).signals i) s.kind a.kind f a.kind_is) in
      record {
        signal = at.member;
        signal_is = at.is;
        kind_is = a.kind_is ∙ ap Of (sym at.kind_is);
        range = subst (λ (k : ValueType). FitsType (sizes_of objects) k (range_part s.constraint)) (sym at.kind_is) a.range;
      }

  target_right : (t : Thing) → Holds t → OnKept IsTarget (target_of t)
  target_right (thing.Signal i s Assignable) h = signal_target i s h.fits h.also
  target_right (thing.Signal i s ReadOnly) h = tt
  target_right (thing.Type s f) h = tt
  target_right thing.BitVector h = tt
  target_right (thing.Constant s v) h = tt
  target_right (thing.Literal v) h = tt
  target_right thing.Domain h = tt
  target_right (thing.Quantity i c) h = tt
  target_right (thing.Terminal e m) h = tt
  target_right (thing.Variable i s) h = tt
  target_right (thing.Parameter i) h = tt
  target_right (thing.Nature i) h = tt
  target_right (thing.Function f) h = tt
  target_right thing.Now h = tt
  target_right thing.Label h = tt
  target_right thing.Faulty h = tt

  variable_place : (i : ℕ) (s : Subtype) → FitsKind (slice_get (process_scope objects p).variables i) s.kind → SubtypeFits (sizes_of objects) s → IsDeclared p.variables i → IsPlace (i, s)
  variable_place i s f a d =
      let same : d.0.kind ≡ a.kind =
      some_same (sym (kind_at Variable (λ (x : Variable). x.kind) p.variables i d.0 d.1) ∙ known_kind (slice_get (process_scope objects p).variables i) s.kind a.kind f a.kind_is) in
      record {
        variable = d.0;
        variable_is = d.1;
        declared = d.2;
        kind_is = a.kind_is ∙ ap Of (sym same);
        range = subst (λ (k : ValueType). FitsType (sizes_of objects) k (range_part s.constraint)) (sym same) a.range;
      }

  pub place_right : (t : Thing) → Holds t → OnKept IsPlace (variable_of t)
  place_right (thing.Variable i s) h = variable_place i s h.fits.0 h.also.0 h.also.1
  place_right _ h = tt

  module _ (scope : Scope) (holds : ScopeHolds (process_scope objects p) p.variables ps scope) where
    pub target_kept : (x : Name) (n : Notes) → OnKept IsTarget (target scope x n).1
    target_kept x n =
        judged_kept Thing (ℕ × Subtype) Holds IsTarget target_of target_right (found_thing x (lookup scope x.number) n).1
        (found_kept x (lookup scope x.number) n Holds (each_thing (process_scope objects p) p.variables ps scope holds x.number))

    pub place_kept : (x : Name) (n : Notes) → OnKept IsPlace (judged variable_of (found_thing x (lookup scope x.number) n).1)
    place_kept x n =
        judged_kept Thing (ℕ × Subtype) Holds IsPlace variable_of place_right (found_thing x (lookup scope x.number) n).1
        (found_kept x (lookup scope x.number) n Holds (each_thing (process_scope objects p) p.variables ps scope holds x.number))

  -- ---- values that suit a subtype

  kind_from : (e : FlatExpr) (j : Kind) (k : ValueType) → HasKind (process_scope objects p) e j → same_kind (Of k) j ≡ true → HasType (process_scope objects p) e k
  kind_from e (Of u) k h is = subst (λ (z : ValueType). HasType (process_scope objects p) e z) (sym (same_type_is k u is)) h
  kind_from e Vector k h is = absurd h

  pub suits_kind : (s : Subtype) (k : ValueType) (x : Typed) → s.kind ≡ Of k → IsRead (process_scope objects p) (IsVisible p.variables ps) x → suits s (value_of x) ≡ true → IsExpression objects p ps k x.expr
  suits_kind s k x of h is =
      record {
        typed =
            kind_from x.expr x.kind k h.typed
            (subst (λ (z : Kind). same_kind z x.kind ≡ true) of (and_left (same_kind s.kind x.kind) (holds_known s.constraint (known_of x.value)) is));
        visible = h.visible;
      }
