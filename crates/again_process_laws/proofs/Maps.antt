-- Associations of an instance, read twice.
use Rattle.std.proofs.Common.{◌+◌, ℕ, Bool, true, false, if◌then◌else◌, List, [], ◌∷◌, Option, Some, None, subst, ap}
use Rattle.std.specs.Prelude.{nat_eq}
use Rattle.ams_token.specs.declared.token.Place.{Place}
use Rattle.ams_tree.specs.declared.expression.Name.{Name}
use Rattle.ams_tree.specs.declared.expression.Attribute.{Attribute}
use Rattle.ams_tree.specs.declared.expression.Attribute.TheOpen.{Expr-F}
use Rattle.ams_tree.specs.declared.expression.Expr.{Expr, out-Expr}
use Rattle.ams_tree.specs.declared.concurrent.Association.{Association}
use Rattle.ams_tree.specs.declared.concurrent.Association.TheVariants as association
use Rattle.ams_tree.specs.declared.concurrent.Instance.{Instance}
use Rattle.ams_tree.specs.declared.design.DesignUnit.{DesignUnit}
use Rattle.name_scope.specs.declared.thing.Subtype.{Subtype}
use Rattle.name_scope.specs.declared.thing.Thing.{Thing}
use Rattle.name_scope.specs.declared.thing.Thing.TheVariants as thing
use Rattle.name_scope.specs.declared.scope.Scope.{Scope}
use Rattle.name_scope.specs.Scopes.{lookup}
use Rattle.elab_meaning.specs.declared.fault.Cause.TheVariants.{NatureMismatch}
use Rattle.elab_meaning.specs.declared.fault.Notes.{Notes}
use Rattle.elab_meaning.specs.declared.part.Part.{Part}
use Rattle.elab_meaning.specs.declared.part.Part.TheVariants.{Kept, Wrong, Hidden}
use Rattle.elab_meaning.specs.declared.typed.Asked.{Asked}
use Rattle.elab_meaning.specs.Notes.{noted}
use Rattle.elab_meaning.specs.Parts.{part_of, judged, found_thing}
use Rattle.elab_meaning.specs.Expressions.{static}
use Rattle.elab_meaning.specs.Subtypes.{declaring}
use Rattle.unit_meaning.specs.declared.request.Actual.{Actual}
use Rattle.unit_meaning.specs.Settings.{running}
use Rattle.unit_meaning.specs.Cases.{place_of}
use Rattle.unit_meaning.specs.Associations.{entity_in, formal_at, generic_formals, port_formals, has_no_value, formal_suits, generic_value, object_or, generic_actual, nature_outside, compared, object_actual, port_actual, association_place, associations, list_or, instance_maps}
use Rattle.again_laws.specs.Again.{BreaksAlike}
use Rattle.again_laws.proofs.Breaks.{breaks_same, breaks_noted, breaks_on}
use Rattle.again_laws.proofs.Reading.{expression_like, static_like}
use Rattle.again_part_laws.proofs.Like.{Any, like_equal, breaks_closed}
use Rattle.again_part_laws.proofs.Parts.{breaks_found, same_thing}
use Rattle.elab_meaning.specs.Parts.{closed}

abbrev Rule : Type 0 → Type 0
Rule A = Option A → Place → Expr → Notes → Notes × Actual

abbrev Again : (Notes → Notes × Actual) → Type 0
Again f = (n m : Notes) → BreaksAlike n m (f n).0 (f m).0

object_again : (b : Bool) (x : ℕ) (o : Option Thing) (f g : Notes × Actual) (n m : Notes) → BreaksAlike n m f.0 g.0 → BreaksAlike n m (object_or b x o f n).0 (object_or b x o g m).0
object_again true x (Some t) f g n m h = breaks_same n m
object_again true x None f g n m h = h
object_again false x o f g n m h = h

compared_again : (place : Place) (o : Option Thing) (t : Thing) (n m : Notes) → BreaksAlike n m (compared place o t n) (compared place o t m)
compared_again place (Some (thing.Nature k)) (thing.Terminal end l) n m = go (nat_eq k l)
  where
    go : (b : Bool) → BreaksAlike n m (if b then n else noted place NatureMismatch n) (if b then m else noted place NatureMismatch m)
    go true = breaks_same n m
    go false = breaks_noted place NatureMismatch n m
compared_again place _ t n m = breaks_same n m

thing_again : (start : Scope) (formal : Option (Option Name)) (x : Name) (p : Part Thing) → Again (object_actual start formal x p)
thing_again start formal x (Kept t) n m = compared_again x.place (nature_outside start formal) t n m
thing_again start formal x Wrong n m = breaks_same n m
thing_again start formal x Hidden n m = breaks_same n m

name_again : (start : Scope) (formal : Option (Option Name)) (x : Name) (o : Option Thing) (n m : Notes)
    → BreaksAlike n m (object_actual start formal x (found_thing x o n).1 (found_thing x o n).0).0 (object_actual start formal x (found_thing x o m).1 (found_thing x o m).0).0
name_again start formal x o n m =
    let found = found_thing x o n in
    let again = found_thing x o m in
    subst (λ (p : Part Thing). BreaksAlike n m (object_actual start formal x found.1 found.0).0 (object_actual start formal x p again.0).0) (same_thing x o n m)
    (breaks_on n m found.0 again.0 (object_actual start formal x found.1 found.0).0 (object_actual start formal x found.1 again.0).0
    (breaks_found x o n m) (thing_again start formal x found.1 found.0 again.0))

associations_again : (A : Type 0) (rule : Rule A) → ((o : Option A) (place : Place) (x : Expr) → Again (rule o place x))
    → (formals : List (ℕ × A)) (j : ℕ) (all : List Association) (n m : Notes) → BreaksAlike n m (associations rule formals j all n).0 (associations rule formals j all m).0
associations_again A rule each formals j [] n m = breaks_same n m
associations_again A rule each formals j (association.Open formal place ∷ more) n m = associations_again A rule each formals (j + 1) more n m
associations_again A rule each formals j (association.Actual formal x ∷ more) n m =
    let place = association_place formal (place_of x) in
    let a = rule (formal_at formals j formal) place x n in
    let b = rule (formal_at formals j formal) place x m in
    breaks_on n m a.0 b.0 (associations rule formals (j + 1) more a.0).0 (associations rule formals (j + 1) more b.0).0
    (each (formal_at formals j formal) place x n m) (associations_again A rule each formals (j + 1) more a.0 b.0)

module _ (texts : List (List ℕ)) (scope : Scope) where
  value_again : (formal : Option (Option Subtype)) (place : Place) (x : Expr) → Again (generic_value texts scope formal place x)
  value_again formal place x n m =
      let a = static texts scope x declaring n in
      let b = static texts scope x declaring m in
      let p = judged (formal_suits formal) (part_of a.1) in
      let q = judged (formal_suits formal) (part_of b.1) in
      let read = static_like texts scope x declaring n m in
      breaks_on n m a.0 b.0 (closed place p a.0) (closed place q b.0) read.notes
      (breaks_closed Asked (Any Asked) place p q (like_equal Asked (Any Asked) (λ z. tt) p q (ap (λ (o : Option Asked). judged (formal_suits formal) (part_of o)) read.asked_is)) a.0 b.0)

  generic_again : (formal : Option (Option Subtype)) (place : Place) (x : Expr) (open_x : Expr-F Attribute Expr) → Again (generic_actual texts scope formal place x open_x)
  generic_again formal place x (Expr-F.Name y) n m =
      object_again (has_no_value (lookup scope y.number)) y.number (lookup scope y.number) (generic_value texts scope formal place x n) (generic_value texts scope formal place x m) n m
      (value_again formal place x n m)
  generic_again formal place x _ n m = value_again formal place x n m

  port_again : (start : Scope) (formal : Option (Option Name)) (x : Expr) (open_x : Expr-F Attribute Expr) → Again (port_actual texts start scope formal x open_x)
  port_again start formal x (Expr-F.Name y) n m = name_again start formal y (lookup scope y.number) n m
  port_again start formal x _ n m = (expression_like texts scope x running n m).notes

  pub maps_again : (start : Scope) (units : List DesignUnit) (i : Instance) (n m : Notes)
      → BreaksAlike n m (instance_maps texts start units scope i n).0 (instance_maps texts start units scope i m).0
  maps_again start units i n m =
      let e = entity_in units i.entity.number in
      let for_generic : Rule (Option Subtype) = λ formal place x. generic_actual texts scope formal place x (out-Expr x) in
      let for_port : Rule (Option Name) = λ formal place x. port_actual texts start scope formal x (out-Expr x) in
      let a = associations for_generic (generic_formals texts start e) 0 (list_or i.generics) n in
      let b = associations for_generic (generic_formals texts start e) 0 (list_or i.generics) m in
      breaks_on n m a.0 b.0 (associations for_port (port_formals e) 0 (list_or i.ports) a.0).0 (associations for_port (port_formals e) 0 (list_or i.ports) b.0).0
      (associations_again (Option Subtype) for_generic (λ o place x. generic_again o place x (out-Expr x)) (generic_formals texts start e) 0 (list_or i.generics) n m)
      (associations_again (Option Name) for_port (λ o place x. port_again start o x (out-Expr x)) (port_formals e) 0 (list_or i.ports) a.0 b.0)
