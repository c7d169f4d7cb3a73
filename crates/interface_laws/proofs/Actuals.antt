-- Associations of an instance, read where it stands.
use Rattle.std.proofs.Common.{◌+◌, ℕ, Bool, true, false, not, if◌then◌else◌, List, [], ◌∷◌, Option, Some, None}
use Rattle.std.specs.Prelude.{nat_eq}
use Rattle.std.specs.List.{All}
use Rattle.std.proofs.lemmas.List.Elements.{All-nil, All-cons}
use Rattle.ams_token.specs.declared.token.Place.{Place}
use Rattle.ams_tree.specs.declared.expression.Name.{Name}
use Rattle.ams_tree.specs.declared.expression.Attribute.{Attribute}
use Rattle.ams_tree.specs.declared.expression.Attribute.TheOpen.{Expr-F}
use Rattle.ams_tree.specs.declared.expression.Expr.{Expr, out-Expr}
use Rattle.ams_tree.specs.declared.concurrent.Association.{Association}
use Rattle.ams_tree.specs.declared.concurrent.Association.TheVariants as association
use Rattle.ams_tree.specs.declared.concurrent.Instance.{Instance}
use Rattle.ams_tree.specs.declared.design.DesignUnit.{DesignUnit}
use Rattle.flat_design.specs.declared.objects.Objects.{Objects}
use Rattle.name_scope.specs.declared.thing.Subtype.{Subtype}
use Rattle.name_scope.specs.declared.thing.Thing.{Thing}
use Rattle.name_scope.specs.declared.thing.Thing.TheVariants as thing
use Rattle.name_scope.specs.declared.scope.Scope.{Scope}
use Rattle.name_scope.specs.Scopes.{lookup}
use Rattle.elab_meaning.specs.declared.fault.Cause.TheVariants.{NatureMismatch}
use Rattle.elab_meaning.specs.declared.fault.Notes.{Notes}
use Rattle.elab_meaning.specs.declared.part.Part.{Part}
use Rattle.elab_meaning.specs.declared.part.Part.TheVariants.{Kept, Wrong, Hidden}
use Rattle.elab_meaning.specs.declared.typed.Asked.{Asked}
use Rattle.elab_meaning.specs.declared.typed.Typed.{Typed}
use Rattle.elab_meaning.specs.Notes.{noted}
use Rattle.elab_meaning.specs.Kinds.{same_kind}
use Rattle.elab_meaning.specs.Parts.{part_of, judged, closed, found_thing}
use Rattle.elab_meaning.specs.Expressions.{expression, static}
use Rattle.elab_meaning.specs.Subtypes.{declaring, holds_known}
use Rattle.unit_meaning.specs.declared.request.Actual.{Actual}
use Rattle.unit_meaning.specs.declared.request.Actual.TheVariants as actual
use Rattle.unit_meaning.specs.declared.request.Assigned.{Assigned}
use Rattle.unit_meaning.specs.Settings.{running, sealed}
use Rattle.unit_meaning.specs.Cases.{place_of}
use Rattle.unit_meaning.specs.Associations.{has_no_value, formal_suits, value_of, generic_value, object_or, generic_actual, nature_outside, compared, object_actual, other_actual, port_actual, formal_at, association_place, assigned, associations, list_or, entity_in, generic_formals, port_formals, instance_maps}
use Rattle.design_rules.specs.Types.{equation_scope}
use Rattle.reading_laws.specs.Growing.{Grows}
use Rattle.reading_laws.proofs.Growing.{grows_same, grows_on, grows_noted}
use Rattle.reading_laws.proofs.Reading.{reading_adds_notes}
use Rattle.part_laws.specs.Parts.{OnKept}
use Rattle.part_laws.proofs.Parts.{judged_kept}
use Rattle.scope_laws.specs.Holds.{HasNoFaults, ScopeHolds}
use Rattle.asked_laws.specs.Asked.{HasValue}
use Rattle.asked_laws.proofs.Notes.{faults_before}
use Rattle.asked_laws.proofs.Asked.{static_keeps}
use Rattle.subtype_laws.proofs.Growth.{grows_found, grows_static}
use Rattle.subtype_laws.proofs.Indications.{thing_kept}
use Rattle.declaration_laws.proofs.Steps.{Holds, grows_closed}
use Rattle.interface_laws.specs.Requests.{IsGenericActual, IsGenericAssigned, IsPortActual, IsPortAssigned}

-- ---- lists

-- what is shown of an actual that is read
record Reads (P : Actual → Type 0) (n : Notes) (found : Notes × Actual) : Type 0 where
  grows : Grows n found.0
  right : HasNoFaults found.0 → P found.1

record ReadsAll (P : Actual → Type 0) (n : Notes) (found : Notes × List Assigned) : Type 0 where
  grows : Grows n found.0
  right : HasNoFaults found.0 → All (λ (a : Assigned). P a.actual) found.1

module _ (P : Actual → Type 0) (open_is : P actual.Open) (A : Type 0) (rule : Option A → Place → Expr → Notes → Notes × Actual)
    (h : (formal : Option A) (place : Place) (x : Expr) (n : Notes) → Reads P n (rule formal place x n)) where
  all_read : (formals : List (ℕ × A)) (j : ℕ) (all : List Association) (n : Notes) → ReadsAll P n (associations rule formals j all n)
  all_read formals j [] n = record { grows = grows_same n; right = λ f. All-nil (λ (a : Assigned). P a.actual) }
  all_read formals j (association.Open formal place ∷ more) n =
      let rest = associations rule formals (j + 1) more n in
      let k = all_read formals (j + 1) more n in
      record {
        grows = k.grows;
        right = λ f. All-cons (λ (a : Assigned). P a.actual) (assigned (association_place formal place) formal actual.Open) rest.1 open_is (k.right f);
      }
  all_read formals j (association.Actual formal x ∷ more) n =
      let place = association_place formal (place_of x) in
      let a = rule (formal_at formals j formal) place x n in
      let rest = associations rule formals (j + 1) more a.0 in
      let one = h (formal_at formals j formal) place x n in
      let k = all_read formals (j + 1) more a.0 in
      record {
        grows = grows_on n a.0 rest.0 one.grows k.grows;
        right = λ f. All-cons (λ (b : Assigned). P b.actual) (assigned place formal a.1) rest.1 (one.right (faults_before a.0 rest.0 k.grows f)) (k.right f);
      }

module _ (final : Objects) (texts : List (List ℕ)) (scope : Scope) (holding : ScopeHolds (equation_scope final) [] [] scope) where
  abbrev Valued : Asked → Type 0
  Valued = HasValue (equation_scope final)

  -- ---- generics

  chosen : (b c : Bool) (a : Asked) → Valued a → OnKept Valued (if b then Kept a else (if c then Kept a else Wrong))
  chosen true c a h = h
  chosen false true a h = h
  chosen false false a h = tt

  suits_kept : (formal : Option (Option Subtype)) (a : Asked) → Valued a → OnKept Valued (formal_suits formal a)
  suits_kept (Some (Some s)) a h = chosen (not (same_kind s.kind a.kind)) (holds_known s.constraint a.value) a h
  suits_kept (Some None) a h = h
  suits_kept None a h = h

  value_is : (p : Part Asked) → OnKept Valued p → IsGenericActual final (value_of (sealed p))
  value_is (Kept a) h = h
  value_is Wrong h = tt
  value_is Hidden h = tt

  generic_reads : (formal : Option (Option Subtype)) (place : Place) (x : Expr) (n : Notes) → Reads (IsGenericActual final) n (generic_value texts scope formal place x n)
  generic_reads formal place x n =
      let a = static texts scope x declaring n in
      let p = judged (formal_suits formal) (part_of a.1) in
      let goes : Grows a.0 (closed place p a.0) = grows_closed final Asked place p a.0 in
      record {
        grows = grows_on n a.0 (closed place p a.0) (grows_static texts scope x n) goes;
        right = λ f.
            value_is p
            (judged_kept Asked Asked Valued Valued (formal_suits formal) (suits_kept formal) (part_of a.1)
            ((static_keeps (equation_scope final) [] [] texts scope holding x n).right (faults_before a.0 (closed place p a.0) goes f)));
      }

  object_reads : (b : Bool) (x : ℕ) (o : Option Thing) (found : Notes × Actual) (n : Notes) → Reads (IsGenericActual final) n found → Reads (IsGenericActual final) n (object_or b x o found n)
  object_reads true x (Some t) found n h = record { grows = grows_same n; right = λ f. tt }
  object_reads true x None found n h = h
  object_reads false x o found n h = h

  actual_reads : (formal : Option (Option Subtype)) (place : Place) (x : Expr) (y : Expr-F Attribute Expr) (n : Notes) → Reads (IsGenericActual final) n (generic_actual texts scope formal place x y n)
  actual_reads formal place x (Expr-F.Name y) n =
      object_reads (has_no_value (lookup scope y.number)) y.number (lookup scope y.number) (generic_value texts scope formal place x n) n (generic_reads formal place x n)
  actual_reads formal place x (Expr-F.Number y unit) n = generic_reads formal place x n
  actual_reads formal place x (Expr-F.Literal y) n = generic_reads formal place x n
  actual_reads formal place x (Expr-F.Call y all) n = generic_reads formal place x n
  actual_reads formal place x (Expr-F.Attribute y a) n = generic_reads formal place x n
  actual_reads formal place x (Expr-F.Paren p a) n = generic_reads formal place x n
  actual_reads formal place x (Expr-F.Unary op p a) n = generic_reads formal place x n
  actual_reads formal place x (Expr-F.Binary op a b) n = generic_reads formal place x n

  -- ---- ports

  grows_choice : (b : Bool) (place : Place) (n : Notes) → Grows n (if b then n else noted place NatureMismatch n)
  grows_choice true place n = grows_same n
  grows_choice false place n = grows_noted place NatureMismatch n

  grows_nature : (place : Place) (m : ℕ) (t : Thing) (n : Notes) → Grows n (compared place (Some (thing.Nature m)) t n)
  grows_nature place m (thing.Terminal end k) n = grows_choice (nat_eq m k) place n
  grows_nature place m _ n = grows_same n

  grows_compared : (place : Place) (o : Option Thing) (t : Thing) (n : Notes) → Grows n (compared place o t n)
  grows_compared place (Some (thing.Nature m)) t n = grows_nature place m t n
  grows_compared place (Some _) t n = grows_same n
  grows_compared place None t n = grows_same n

  thing_reads : (start : Scope) (formal : Option (Option Name)) (x : Name) (p : Part Thing) (n : Notes) → OnKept (Holds final) p → Reads (IsPortActual final) n (object_actual start formal x p n)
  thing_reads start formal x (Kept t) n h = record { grows = grows_compared x.place (nature_outside start formal) t n; right = λ f. h }
  thing_reads start formal x Wrong n h = record { grows = grows_same n; right = λ f. tt }
  thing_reads start formal x Hidden n h = record { grows = grows_same n; right = λ f. tt }

  other_is : (o : Option Typed) → IsPortActual final (other_actual o)
  other_is (Some t) = tt
  other_is None = tt

  other_reads : (x : Expr) (n : Notes) → Reads (IsPortActual final) n ((expression texts scope x running n).0, other_actual (expression texts scope x running n).1)
  other_reads x n = record { grows = reading_adds_notes texts scope x running n; right = λ f. other_is (expression texts scope x running n).1 }

  name_reads : (start : Scope) (formal : Option (Option Name)) (y : Name) (n : Notes)
      → Reads (IsPortActual final) n (object_actual start formal y (found_thing y (lookup scope y.number) n).1 (found_thing y (lookup scope y.number) n).0)
  name_reads start formal y n =
      let found = found_thing y (lookup scope y.number) n in
      let behind = object_actual start formal y found.1 found.0 in
      let k = thing_reads start formal y found.1 found.0 (thing_kept (equation_scope final) [] [] [] scope holding y n) in
      record { grows = grows_on n found.0 behind.0 (grows_found y (lookup scope y.number) n) k.grows; right = k.right }

  port_reads : (start : Scope) (formal : Option (Option Name)) (x : Expr) (y : Expr-F Attribute Expr) (n : Notes) → Reads (IsPortActual final) n (port_actual texts start scope formal x y n)
  port_reads start formal x (Expr-F.Name y) n = name_reads start formal y n
  port_reads start formal x (Expr-F.Number y unit) n = other_reads x n
  port_reads start formal x (Expr-F.Literal y) n = other_reads x n
  port_reads start formal x (Expr-F.Call y all) n = other_reads x n
  port_reads start formal x (Expr-F.Attribute y a) n = other_reads x n
  port_reads start formal x (Expr-F.Paren p a) n = other_reads x n
  port_reads start formal x (Expr-F.Unary op p a) n = other_reads x n
  port_reads start formal x (Expr-F.Binary op a b) n = other_reads x n

  -- ---- both

  pub record MapsHold (found : Notes × (List Assigned × List Assigned)) : Type 0 where
    pub generics : All (IsGenericAssigned final) found.1.0
    pub ports : All (IsPortAssigned final) found.1.1

  pub maps_hold : (start : Scope) (units : List DesignUnit) (i : Instance) (n : Notes) → HasNoFaults (instance_maps texts start units scope i n).0
      → MapsHold (instance_maps texts start units scope i n)
  maps_hold start units i n f =
      let e = entity_in units i.entity.number in
      let g_rule = λ (formal : Option (Option Subtype)) (place : Place) (x : Expr). generic_actual texts scope formal place x (out-Expr x) in
      let p_rule = λ (formal : Option (Option Name)) (place : Place) (x : Expr). port_actual texts start scope formal x (out-Expr x) in
      let generics = associations g_rule (generic_formals texts start e) 0 (list_or i.generics) n in
      let ports = associations p_rule (port_formals e) 0 (list_or i.ports) generics.0 in
      let g = all_read (IsGenericActual final) tt (Option Subtype) g_rule (λ formal place x m. actual_reads formal place x (out-Expr x) m) (generic_formals texts start e) 0 (list_or i.generics) n in
      let p = all_read (IsPortActual final) tt (Option Name) p_rule (λ formal place x m. port_reads start formal x (out-Expr x) m) (port_formals e) 0 (list_or i.ports) generics.0 in
      record { generics = g.right (faults_before generics.0 ports.0 p.grows f); ports = p.right f }
