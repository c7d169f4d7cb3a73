-- Declarations and labels.
use Rattle.std.proofs.Common.{ℕ, ℤ, pos, ◌+◌, Bool, true, false, if◌then◌else◌, List, [], ◌∷◌, length, Option, Some, None}
use Rattle.ams_token.specs.declared.token.Place.{Place}
use Rattle.ams_tree.specs.declared.expression.Name.{Name}
use Rattle.ams_tree.specs.declared.declaration.Declaration.{Declaration}
use Rattle.ams_tree.specs.declared.declaration.Declaration.TheVariants as declare
use Rattle.ams_tree.specs.declared.concurrent.Concurrent.{Concurrent}
use Rattle.ams_tree.specs.declared.design.Architecture.{Architecture}
use Rattle.ams_value.specs.declared.val.Val.TheVariants as val
use Rattle.flat_design.specs.declared.objects.QuantityKind.TheVariants as flat
use Rattle.flat_design.specs.declared.objects.Terminal.{Terminal}
use Rattle.name_scope.specs.declared.thing.Access.TheVariants.{Assignable}
use Rattle.name_scope.specs.declared.thing.QuantityClass.TheVariants as class
use Rattle.name_scope.specs.declared.thing.Subtype.{Subtype}
use Rattle.name_scope.specs.declared.thing.Thing.TheVariants as thing
use Rattle.elab_meaning.specs.declared.book.Book.{Book}
use Rattle.elab_meaning.specs.declared.fault.Cause.TheVariants.{WrongType}
use Rattle.elab_meaning.specs.declared.fault.Notes.{Notes}
use Rattle.elab_meaning.specs.declared.part.Part.{Part}
use Rattle.elab_meaning.specs.declared.part.Part.TheVariants.{Kept, Wrong, Hidden}
use Rattle.elab_meaning.specs.declared.typed.Valued.{Valued}
use Rattle.elab_meaning.specs.Notes.{noted}
use Rattle.elab_meaning.specs.Parts.{closed, both, found_thing}
use Rattle.elab_meaning.specs.Subtypes.{subtype, valued}
use Rattle.elab_meaning.specs.Declarations.{declared, with_notes, each, faulty, declaring_each, signal_of, constant, node, nature_named, new_nature, nature_of_part, quantity_of, free_quantity, branch, across_of, through_of, names_of, branch_quantities, is_enumeration, with_enumeration, literals_from, of_enumeration, enumeration, type_of_subtype, declaration, declarations}
use Rattle.name_scope.specs.Scopes.{lookup}
use Rattle.unit_meaning.specs.Units.{label, labels, opened}
use Rattle.object_laws.proofs.Adding.{Adds, adds_none, adds_on, adds_enumeration, signal_adds, quantity_adds, node_adds, faulty_adds, each_of_adds, declaring_adds}

module _ (texts : List (List ℕ)) where
  branch_adds : (place : Place) (across through : List Name) (found : Notes × Part (Terminal × Terminal)) (b : Book) → Adds b (branch_quantities texts place across through found b)
  branch_adds place across through found b =
      let mid = declaring_each (across_of texts) place across found b in
      adds_on b.objects mid.objects (branch_quantities texts place across through found b).objects
      (declaring_adds (Terminal × Terminal) (across_of texts) (λ ends x c. quantity_adds texts (flat.Across ends.0 ends.1) class.Across (pos 0) x c) place across found b)
      (each_of_adds (Terminal × Terminal) (through_of texts) (λ ends x c. quantity_adds texts (flat.Through ends.0 ends.1) class.Through (pos 0) x c) found.1 through mid)

  nature_adds : (name reference : Name) (p : Part Bool) (b : Book) → Adds b (nature_of_part name reference p b)
  nature_adds name reference (Kept fine) b = adds_none b.objects
  nature_adds name reference Wrong b = adds_none b.objects
  nature_adds name reference Hidden b = adds_none b.objects

  literals_add : (type position : ℕ) (names : List Name) (b : Book) → Adds b (literals_from type position names b)
  literals_add type position [] b = adds_none b.objects
  literals_add type position (x ∷ more) b = literals_add type (position + 1) more (declared (thing.Literal (val.Enum type position)) x b)

  enumeration_adds : (place : Place) (name : Name) (literals : List Name) (b : Book) → Adds b (enumeration texts place name literals b)
  enumeration_adds place name literals b = go (is_enumeration texts literals b)
    where
      go : (c : Bool)
          → Adds b
          (if c
          then literals_from (length b.objects.enumerations) 0 literals (declared (thing.Type (of_enumeration (length b.objects.enumerations)) None) name (with_enumeration texts literals b))
          else each faulty literals (faulty name (with_notes (noted place WrongType b.notes) b)))
      go true =
          let mid = declared (thing.Type (of_enumeration (length b.objects.enumerations)) None) name (with_enumeration texts literals b) in
          adds_on b.objects mid.objects (literals_from (length b.objects.enumerations) 0 literals mid).objects
          (adds_enumeration b.objects _)
          (literals_add (length b.objects.enumerations) 0 literals mid)
      go false = faulty_adds literals (faulty name (with_notes (noted place WrongType b.notes) b))

  one_adds : (d : Declaration) (b : Book) → Adds b (declaration texts b d)
  one_adds (declare.Signal place names i x) b = declaring_adds Valued (signal_of texts Assignable) (signal_adds texts Assignable) place names (valued texts b.scope i x b.notes) b
  one_adds (declare.Constant place names i x) b = declaring_adds Valued constant (λ v y c. adds_none c.objects) place names (valued texts b.scope i (Some x) b.notes) b
  one_adds (declare.Terminal place names m) b = declaring_adds ℕ (node texts) (node_adds texts) place names (nature_named m b) b
  one_adds (declare.Quantity place names i x) b =
      declaring_adds ℤ (quantity_of texts flat.Free class.Free) (quantity_adds texts flat.Free class.Free) place names (free_quantity texts i x b) b
  one_adds (declare.Across place across through plus minus) b = branch_adds place across (names_of through) (branch plus minus b) b
  one_adds (declare.Through place through plus minus) b = branch_adds place [] through (branch plus minus b) b
  one_adds (declare.Nature place name across through reference) b =
      let a = found_thing across (lookup b.scope across.number) b.notes in
      let c = found_thing through (lookup b.scope through.number) a.0 in
      let made = both new_nature a.1 c.1 in
      nature_adds name reference made (with_notes (closed place made c.0) b)
  one_adds (declare.Enumeration place name literals) b = enumeration_adds place name literals b
  one_adds (declare.Subtype place name i) b = declaring_adds Subtype type_of_subtype (λ s x c. adds_none c.objects) place (name ∷ []) (subtype texts b.scope i b.notes) b

  all_add : (ds : List Declaration) (b : Book) → Adds b (declarations texts ds b)
  all_add [] b = adds_none b.objects
  all_add (d ∷ more) b =
      let mid = declaration texts b d in
      adds_on b.objects mid.objects (declarations texts more mid).objects (one_adds d b) (all_add more mid)

  named_label : (o : Option Name) (b : Book) → Adds b (elim o as (λ o. Book) [ Some x ↦ declared thing.Label x b | None ↦ b ])
  named_label (Some x) b = adds_none b.objects
  named_label None b = adds_none b.objects

  labels_add : (cs : List Concurrent) (b : Book) → Adds b (labels cs b)
  labels_add [] b = adds_none b.objects
  labels_add (c ∷ more) b = adds_on b.objects (label b c).objects (labels more (label b c)).objects (named_label c.label b) (labels_add more (label b c))

  pub opened_adds : (a : Architecture) (b : Book) → Adds b (opened texts a b)
  opened_adds a b =
      let mid = declarations texts a.declarations b in
      adds_on b.objects mid.objects (opened texts a b).objects (all_add a.declarations b) (labels_add a.statements mid)
