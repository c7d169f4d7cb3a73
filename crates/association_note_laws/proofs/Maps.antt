-- Associations of an instance, read twice.
use Rattle.std.proofs.Common.{◌≡◌, ◌+◌, ℕ, Bool, true, false, if◌then◌else◌, List, [], ◌∷◌, Option, Some, None, subst}
use Rattle.std.specs.Prelude.{nat_eq}
use Rattle.ams_token.specs.declared.token.Place.{Place}
use Rattle.ams_tree.specs.declared.expression.Name.{Name}
use Rattle.ams_tree.specs.declared.expression.Attribute.{Attribute}
use Rattle.ams_tree.specs.declared.expression.Attribute.TheOpen.{Expr-F}
use Rattle.ams_tree.specs.declared.expression.Expr.{Expr, out-Expr}
use Rattle.ams_tree.specs.declared.concurrent.Association.{Association}
use Rattle.ams_tree.specs.declared.concurrent.Association.TheVariants as association
use Rattle.ams_tree.specs.declared.concurrent.Instance.{Instance}
use Rattle.ams_tree.specs.declared.design.DesignUnit.{DesignUnit}
use Rattle.flat_design.specs.declared.objects.Objects.{Objects}
use Rattle.name_scope.specs.declared.thing.Subtype.{Subtype}
use Rattle.name_scope.specs.declared.thing.Thing.{Thing}
use Rattle.name_scope.specs.declared.thing.Thing.TheVariants as thing
use Rattle.name_scope.specs.declared.scope.Scope.{Scope}
use Rattle.name_scope.specs.Scopes.{lookup}
use Rattle.elab_meaning.specs.declared.fault.Cause.TheVariants.{NatureMismatch}
use Rattle.elab_meaning.specs.declared.fault.Notes.{Notes}
use Rattle.elab_meaning.specs.declared.part.Part.{Part}
use Rattle.elab_meaning.specs.declared.part.Part.TheVariants.{Kept, Wrong, Hidden}
use Rattle.elab_meaning.specs.declared.typed.Asked.{Asked}
use Rattle.elab_meaning.specs.Notes.{noted}
use Rattle.elab_meaning.specs.Parts.{part_of, judged, found_thing}
use Rattle.elab_meaning.specs.Expressions.{expression, static}
use Rattle.elab_meaning.specs.Subtypes.{declaring}
use Rattle.unit_meaning.specs.declared.request.Actual.{Actual}
use Rattle.unit_meaning.specs.Settings.{running}
use Rattle.unit_meaning.specs.Cases.{place_of}
use Rattle.unit_meaning.specs.Associations.{entity_in, formal_at, generic_formals, port_formals, has_no_value, formal_suits, generic_value, object_or, generic_actual, nature_outside, compared, object_actual, port_actual, association_place, associations, list_or, instance_maps}
use Rattle.note_laws.specs.Noting.{NamesAreNotable}
use Rattle.note_laws.proofs.Notes.{Alike, alike_same, alike_noted, alike_on}
use Rattle.note_laws.proofs.Reading.{expression_like, static_like}
use Rattle.part_note_laws.proofs.Parts.{finished_alike, found_alike, same_thing}
use Rattle.association_note_laws.specs.Associations.{AssociationsNoteAlike}

abbrev Rule : Type 0 → Type 0
Rule A = Option A → Place → Expr → Notes → Notes × Actual

module _ (objects : Objects) where
  abbrev ReadsAlike : (Notes → Notes × Actual) → Type 0
  ReadsAlike f = (n m : Notes) → Alike objects n m (f n).0 (f m).0

  object_alike : (b : Bool) (x : ℕ) (o : Option Thing) (f g : Notes × Actual) (n m : Notes) → Alike objects n m f.0 g.0 → Alike objects n m (object_or b x o f n).0 (object_or b x o g m).0
  object_alike true x (Some t) f g n m h = alike_same objects n m
  object_alike true x None f g n m h = h
  object_alike false x o f g n m h = h

  compared_alike : (place : Place) (o : Option Thing) (t : Thing) (n m : Notes) → Alike objects n m (compared place o t n) (compared place o t m)
  compared_alike place (Some (thing.Nature k)) (thing.Terminal end l) n m = go (nat_eq k l)
    where
      go : (b : Bool) → Alike objects n m (if b then n else noted place NatureMismatch n) (if b then m else noted place NatureMismatch m)
      go true = alike_same objects n m
      go false = alike_noted objects place NatureMismatch n m
  compared_alike place _ t n m = alike_same objects n m

  thing_alike : (start : Scope) (formal : Option (Option Name)) (x : Name) (p : Part Thing) → ReadsAlike (object_actual start formal x p)
  thing_alike start formal x (Kept t) n m = compared_alike x.place (nature_outside start formal) t n m
  thing_alike start formal x Wrong n m = alike_same objects n m
  thing_alike start formal x Hidden n m = alike_same objects n m

  name_alike : (start : Scope) (formal : Option (Option Name)) (x : Name) (o : Option Thing) (n m : Notes)
      → Alike objects n m (object_actual start formal x (found_thing x o n).1 (found_thing x o n).0).0 (object_actual start formal x (found_thing x o m).1 (found_thing x o m).0).0
  name_alike start formal x o n m =
      let found = found_thing x o n in
      let again = found_thing x o m in
      subst (λ (p : Part Thing). Alike objects n m (object_actual start formal x found.1 found.0).0 (object_actual start formal x p again.0).0) (same_thing objects x o n m)
      (alike_on objects n m found.0 again.0 (object_actual start formal x found.1 found.0).0 (object_actual start formal x found.1 again.0).0
      (found_alike objects x o n m) (thing_alike start formal x found.1 found.0 again.0))

  associations_alike : (A : Type 0) (rule : Rule A) → ((o : Option A) (place : Place) (x : Expr) → ReadsAlike (rule o place x))
      → (formals : List (ℕ × A)) (j : ℕ) (all : List Association) (n m : Notes) → Alike objects n m (associations rule formals j all n).0 (associations rule formals j all m).0
  associations_alike A rule each formals j [] n m = alike_same objects n m
  associations_alike A rule each formals j (association.Open formal place ∷ more) n m = associations_alike A rule each formals (j + 1) more n m
  associations_alike A rule each formals j (association.Actual formal x ∷ more) n m =
      let place = association_place formal (place_of x) in
      let a = rule (formal_at formals j formal) place x n in
      let b = rule (formal_at formals j formal) place x m in
      alike_on objects n m a.0 b.0 (associations rule formals (j + 1) more a.0).0 (associations rule formals (j + 1) more b.0).0
      (each (formal_at formals j formal) place x n m) (associations_alike A rule each formals (j + 1) more a.0 b.0)

module _ (objects : Objects) (texts : List (List ℕ)) (scope : Scope) (notable : NamesAreNotable objects scope) where
  value_alike : (formal : Option (Option Subtype)) (place : Place) (x : Expr) → ReadsAlike objects (generic_value texts scope formal place x)
  value_alike formal place x n m =
      let a = static texts scope x declaring n in
      let b = static texts scope x declaring m in
      finished_alike objects Asked place (judged (formal_suits formal) (part_of a.1)) (judged (formal_suits formal) (part_of b.1)) n m a.0 b.0
      (static_like objects texts scope notable x declaring n m).notes

  generic_alike : (formal : Option (Option Subtype)) (place : Place) (x : Expr) (open_x : Expr-F Attribute Expr) → ReadsAlike objects (generic_actual texts scope formal place x open_x)
  generic_alike formal place x (Expr-F.Name y) n m =
      object_alike objects (has_no_value (lookup scope y.number)) y.number (lookup scope y.number) (generic_value texts scope formal place x n) (generic_value texts scope formal place x m) n m
      (value_alike formal place x n m)
  generic_alike formal place x _ n m = value_alike formal place x n m

  port_alike : (start : Scope) (formal : Option (Option Name)) (x : Expr) (open_x : Expr-F Attribute Expr) → ReadsAlike objects (port_actual texts start scope formal x open_x)
  port_alike start formal x (Expr-F.Name y) n m = name_alike objects start formal y (lookup scope y.number) n m
  port_alike start formal x _ n m = (expression_like objects texts scope notable x running n m).notes

  maps_alike : (start : Scope) (units : List DesignUnit) (i : Instance) (n m : Notes)
      → Alike objects n m (instance_maps texts start units scope i n).0 (instance_maps texts start units scope i m).0
  maps_alike start units i n m =
      let e = entity_in units i.entity.number in
      let for_generic : Rule (Option Subtype) = λ formal place x. generic_actual texts scope formal place x (out-Expr x) in
      let for_port : Rule (Option Name) = λ formal place x. port_actual texts start scope formal x (out-Expr x) in
      let a = associations for_generic (generic_formals texts start e) 0 (list_or i.generics) n in
      let b = associations for_generic (generic_formals texts start e) 0 (list_or i.generics) m in
      alike_on objects n m a.0 b.0 (associations for_port (port_formals e) 0 (list_or i.ports) a.0).0 (associations for_port (port_formals e) 0 (list_or i.ports) b.0).0
      (associations_alike objects (Option Subtype) for_generic (λ o place x. generic_alike o place x (out-Expr x)) (generic_formals texts start e) 0 (list_or i.generics) n m)
      (associations_alike objects (Option Name) for_port (λ o place x. port_alike start o x (out-Expr x)) (port_formals e) 0 (list_or i.ports) a.0 b.0)

pub associations_note_alike : AssociationsNoteAlike
associations_note_alike objects texts start units scope i n m notable = maps_alike objects texts scope notable start units i n m
