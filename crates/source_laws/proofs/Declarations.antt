-- Declarations of an architecture, and how many of their names a port of mode out may stand for.
use Rattle.std.proofs.Common.{◌≡◌, ◌≤◌, ℕ, ℤ, pos, ◌+◌, nat_eq, Bool, true, false, if◌then◌else◌, List, [], ◌∷◌, ◌++◌, length, Option, Some, None, IfSome, refl, sym, subst, arith}
use Rattle.std.specs.List.{list_any}
use Rattle.ams_token.specs.declared.token.Place.{Place}
use Rattle.ams_tree.specs.declared.expression.Name.{Name}
use Rattle.ams_tree.specs.declared.concurrent.Concurrent.{Concurrent}
use Rattle.ams_tree.specs.declared.declaration.Declaration.{Declaration}
use Rattle.ams_tree.specs.declared.declaration.Declaration.TheVariants as declare
use Rattle.ams_tree.specs.declared.design.Architecture.{Architecture}
use Rattle.ams_value.specs.declared.val.Val.TheVariants as val
use Rattle.flat_design.specs.declared.objects.QuantityKind.{QuantityKind}
use Rattle.flat_design.specs.declared.objects.QuantityKind.TheVariants as flat
use Rattle.flat_design.specs.declared.objects.Terminal.{Terminal}
use Rattle.flat_design.specs.declared.objects.Terminal.TheVariants as terminal
use Rattle.name_scope.specs.declared.thing.Access.{Access}
use Rattle.name_scope.specs.declared.thing.Access.TheVariants.{Assignable}
use Rattle.name_scope.specs.declared.thing.QuantityClass.{QuantityClass}
use Rattle.name_scope.specs.declared.thing.QuantityClass.TheVariants as class
use Rattle.name_scope.specs.declared.thing.Subtype.{Subtype}
use Rattle.name_scope.specs.declared.thing.Thing.{Thing}
use Rattle.name_scope.specs.declared.thing.Thing.TheVariants as thing
use Rattle.name_scope.specs.Scopes.{lookup, with_name}
use Rattle.elab_meaning.specs.declared.book.Book.{Book}
use Rattle.elab_meaning.specs.declared.fault.Cause.TheVariants.{WrongType}
use Rattle.elab_meaning.specs.declared.fault.Notes.{Notes}
use Rattle.elab_meaning.specs.declared.part.Part.{Part}
use Rattle.elab_meaning.specs.declared.part.Part.TheVariants.{Kept, Wrong, Hidden}
use Rattle.elab_meaning.specs.declared.typed.Valued.{Valued}
use Rattle.elab_meaning.specs.Notes.{noted}
use Rattle.elab_meaning.specs.Parts.{both, closed, found_thing}
use Rattle.elab_meaning.specs.Subtypes.{subtype, valued}
use Rattle.elab_meaning.specs.Declarations.{declared, with_notes, each, faulty, declaring_each, with_signal, signal_of, constant_of, constant, nature_named, node, new_nature, with_nature, nature_of_part, nature, with_quantity, quantity_of, free_quantity, branch, across_of, through_of, names_of, branch_quantities, is_enumeration, with_enumeration, literals_from, of_enumeration, enumeration, type_of_subtype, declaration, declarations}
use Rattle.unit_meaning.specs.Units.{label, labels, opened}
use Rattle.unit_meaning.specs.Walk.{is_source, own_quantities, quantity_count}
use Rattle.source_laws.specs.Sources.{IsAmong, SourcesAre, AtMostMore}
use Rattle.source_laws.proofs.Names.{in_last, sources_more, sources_named, Declares, declares_none, declares_on, declares_less, declares_other, declares_faulty, total, total_one, total_none, each_declares, each_of_declares, declaring_declares}

module _ (texts : List (List ℕ)) where
  -- ---- single names

  signal_declares : (access : Access) (v : Valued) (x : Name) (b : Book) → Declares 0 b (signal_of texts access v x b)
  signal_declares access v x b = declares_other (thing.Signal (length b.objects.signals) v.subtype access) x (with_signal texts v x b) (λ all. tt)

  constant_declares : (v : Valued) (x : Name) (b : Book) → Declares 0 b (constant v x b)
  constant_declares v x b = declares_other (constant_of v) x b (λ all. tt)

  node_declares : (m : ℕ) (x : Name) (b : Book) → Declares 0 b (node texts m x b)
  node_declares m x b all h =
      declares_other (thing.Terminal (terminal.Node (length b.objects.nodes)) m) x b (λ all. tt) all h

  -- a new quantity
  quantity_declares : (k : QuantityKind) (c : QuantityClass) (initial : ℤ) (x : Name) (b : Book) → Declares 1 b (quantity_of texts k c initial x b)
  quantity_declares k c initial x b all h =
      let q = length b.objects.quantities in
      record {
        more = q ∷ [];
        few = omega arith;
        are = sources_named (all ++ q ∷ []) b.scope x.number (thing.Quantity q c) (sources_more all (q ∷ []) b.scope h) (λ is. in_last q all);
      }

  free_declares : (initial : ℤ) (x : Name) (b : Book) → Declares 1 b (quantity_of texts flat.Free class.Free initial x b)
  free_declares initial x b = quantity_declares flat.Free class.Free initial x b

  through_declares : (found : Terminal × Terminal) (x : Name) (b : Book) → Declares 1 b (through_of texts found x b)
  through_declares found x b = quantity_declares (flat.Through found.0 found.1) class.Through (pos 0) x b

  -- no port of mode out stands for an across quantity
  no_source : (q : ℕ) (all : List ℕ) → is_source class.Across ≡ true → list_any (nat_eq q) all ≡ true
  no_source q all is = absurd (cc)

  across_declares : (found : Terminal × Terminal) (x : Name) (b : Book) → Declares 0 b (across_of texts found x b)
  across_declares found x b all h =
      declares_other (thing.Quantity (length b.objects.quantities) class.Across) x b (λ l. no_source (length b.objects.quantities) l) all h

  type_declares : (s : Subtype) (x : Name) (b : Book) → Declares 0 b (type_of_subtype s x b)
  type_declares s x b = declares_other (thing.Type s None) x b (λ all. tt)

  -- ---- natures and enumeration types

  two_declare : (a b c : Book) → Declares 0 a b → Declares 0 b c → Declares 0 a c
  two_declare a b c p q = declares_less (0 + 0) 0 a c (omega arith) (declares_on 0 0 a b c p q)

  with_nature_declares : (name reference : Name) (b : Book) → Declares 0 b (with_nature name reference b)
  with_nature_declares name reference b all h =
      let start = record b { natures = b.natures + 1 } in
      let mid = declared (thing.Nature b.natures) name start in
      two_declare start mid (with_nature name reference b) (declares_other (thing.Nature b.natures) name start (λ l. tt))
      (declares_other (thing.Terminal terminal.Reference b.natures) reference mid (λ l. tt)) all h

  both_faulty : (name reference : Name) (b : Book) → Declares 0 b (faulty reference (faulty name b))
  both_faulty name reference b = two_declare b (faulty name b) (faulty reference (faulty name b)) (declares_faulty name b) (declares_faulty reference (faulty name b))

  part_declares : (name reference : Name) (p : Part Bool) (b : Book) → Declares 0 b (nature_of_part name reference p b)
  part_declares name reference (Kept fine) b = with_nature_declares name reference b
  part_declares name reference Wrong b = both_faulty name reference b
  part_declares name reference Hidden b = both_faulty name reference b

  nature_declares : (place : Place) (name across through reference : Name) (b : Book) → Declares 0 b (nature place name across through reference b)
  nature_declares place name across through reference b all h =
      let a = found_thing across (lookup b.scope across.number) b.notes in
      let c = found_thing through (lookup b.scope through.number) a.0 in
      let made = both new_nature a.1 c.1 in
      part_declares name reference made (with_notes (closed place made c.0) b) all h

  literals_declare : (type position : ℕ) (literals : List Name) (b : Book) → Declares 0 b (literals_from type position literals b)
  literals_declare type position [] b = declares_none b
  literals_declare type position (x ∷ more) b =
      let mid = declared (thing.Literal (val.Enum type position)) x b in
      two_declare b mid (literals_from type (position + 1) more mid) (declares_other (thing.Literal (val.Enum type position)) x b (λ all. tt)) (literals_declare type (position + 1) more mid)

  all_faulty : (names : List Name) (b : Book) → Declares 0 b (each faulty names b)
  all_faulty names b = declares_less (total 0 names) 0 b (each faulty names b) (omega (arith, total_none names)) (each_declares 0 faulty declares_faulty names b)

  enumeration_declares : (place : Place) (name : Name) (literals : List Name) (b : Book) → Declares 0 b (enumeration texts place name literals b)
  enumeration_declares place name literals b = go (is_enumeration texts literals b)
    where
      go : (c : Bool)
          → Declares 0 b
          (if c
          then literals_from (length b.objects.enumerations) 0 literals (declared (thing.Type (of_enumeration (length b.objects.enumerations)) None) name (with_enumeration texts literals b))
          else each faulty literals (faulty name (with_notes (noted place WrongType b.notes) b)))
      go true all h =
          let start = with_enumeration texts literals b in
          let mid = declared (thing.Type (of_enumeration (length b.objects.enumerations)) None) name start in
          two_declare start mid (literals_from (length b.objects.enumerations) 0 literals mid)
          (declares_other (thing.Type (of_enumeration (length b.objects.enumerations)) None) name start (λ l. tt)) (literals_declare (length b.objects.enumerations) 0 literals mid) all h
      go false all h =
          let start = with_notes (noted place WrongType b.notes) b in
          two_declare start (faulty name start) (each faulty literals (faulty name start)) (declares_faulty name start) (all_faulty literals (faulty name start)) all h

  -- ---- branches

  branch_declares : (place : Place) (across through : List Name) (found : Notes × Part (Terminal × Terminal)) (b : Book)
      → Declares (length through) b (branch_quantities texts place across through found b)
  branch_declares place across through found b =
      let mid = declaring_each (across_of texts) place across found b in
      declares_less (total 0 across + total 1 through) (length through) b (branch_quantities texts place across through found b) (omega (arith, total_none across, total_one through))
      (declares_on (total 0 across) (total 1 through) b mid (branch_quantities texts place across through found b)
      (declaring_declares 0 (Terminal × Terminal) (across_of texts) across_declares place across found b)
      (each_of_declares 1 (Terminal × Terminal) (through_of texts) through_declares found.1 through mid))

  -- ---- the whole

  none : (A : Type 0) (rule : A → Name → Book → Book) → ((a : A) (x : Name) (b : Book) → Declares 0 b (rule a x b)) → (place : Place) (names : List Name) (found : Notes × Part A) (b : Book)
      → Declares 0 b (declaring_each rule place names found b)
  none A rule h place names found b =
      declares_less (total 0 names) 0 b (declaring_each rule place names found b) (omega (arith, total_none names)) (declaring_declares 0 A rule h place names found b)

  ones : (A : Type 0) (rule : A → Name → Book → Book) → ((a : A) (x : Name) (b : Book) → Declares 1 b (rule a x b)) → (place : Place) (names : List Name) (found : Notes × Part A) (b : Book)
      → Declares (length names) b (declaring_each rule place names found b)
  ones A rule h place names found b =
      declares_less (total 1 names) (length names) b (declaring_each rule place names found b) (omega (arith, total_one names)) (declaring_declares 1 A rule h place names found b)

  one_declares : (d : Declaration) (b : Book) → Declares (own_quantities d) b (declaration texts b d)
  one_declares (declare.Signal place names i x) b = none Valued (signal_of texts Assignable) (signal_declares Assignable) place names (valued texts b.scope i x b.notes) b
  one_declares (declare.Constant place names i x) b = none Valued constant constant_declares place names (valued texts b.scope i (Some x) b.notes) b
  one_declares (declare.Terminal place names m) b = none ℕ (node texts) node_declares place names (nature_named m b) b
  one_declares (declare.Quantity place names i x) b = ones ℤ (quantity_of texts flat.Free class.Free) free_declares place names (free_quantity texts i x b) b
  one_declares (declare.Across place across through plus minus) b = branch_declares place across (names_of through) (branch plus minus b) b
  one_declares (declare.Through place through plus minus) b = branch_declares place [] through (branch plus minus b) b
  one_declares (declare.Nature place name across through reference) b = nature_declares place name across through reference b
  one_declares (declare.Enumeration place name literals) b = enumeration_declares place name literals b
  one_declares (declare.Subtype place name i) b = none Subtype type_of_subtype type_declares place (name ∷ []) (subtype texts b.scope i b.notes) b

  all_declare : (ds : List Declaration) (b : Book) → Declares (quantity_count ds) b (declarations texts ds b)
  all_declare [] b = declares_none b
  all_declare (d ∷ more) b =
      let mid = declaration texts b d in
      declares_on (own_quantities d) (quantity_count more) b mid (declarations texts more mid) (one_declares d b) (all_declare more mid)

  label_declares : (o : Option Name) (b : Book) → Declares 0 b (elim o as (λ o. Book) [ Some x ↦ declared thing.Label x b | None ↦ b ])
  label_declares (Some x) b = declares_other thing.Label x b (λ all. tt)
  label_declares None b = declares_none b

  labels_declare : (cs : List Concurrent) (b : Book) → Declares 0 b (labels cs b)
  labels_declare [] b = declares_none b
  labels_declare (c ∷ more) b = two_declare b (label b c) (labels more (label b c)) (label_declares c.label b) (labels_declare more (label b c))

  pub opened_declares : (a : Architecture) (b : Book) → Declares (quantity_count a.declarations) b (opened texts a b)
  opened_declares a b =
      let mid = declarations texts a.declarations b in
      declares_less (quantity_count a.declarations + 0) (quantity_count a.declarations) b (opened texts a b) (omega arith)
      (declares_on (quantity_count a.declarations) 0 b mid (opened texts a b) (all_declare a.declarations b) (labels_declare a.statements mid))
