-- Declarations of an architecture that are read without a fault, and the quantities that they make.
use Rattle.std.proofs.Common.{◌≡◌, ℕ, ℤ, pos, ◌+◌, Bool, true, false, if◌then◌else◌, List, [], ◌∷◌, ◌++◌, length, Option, Some, None, IfSome, refl, sym, subst, arith}
use Rattle.std.proofs.lemmas.List.Sums.{sum_by_push}
use Rattle.ams_token.specs.declared.token.Place.{Place}
use Rattle.ams_tree.specs.declared.expression.Name.{Name}
use Rattle.ams_tree.specs.declared.concurrent.Concurrent.{Concurrent}
use Rattle.ams_tree.specs.declared.declaration.Declaration.{Declaration}
use Rattle.ams_tree.specs.declared.declaration.Declaration.TheVariants as declare
use Rattle.ams_tree.specs.declared.design.Architecture.{Architecture}
use Rattle.ams_value.specs.declared.val.Val.TheVariants as val
use Rattle.flat_design.specs.declared.objects.Quantity.{Quantity}
use Rattle.flat_design.specs.declared.objects.QuantityKind.{QuantityKind}
use Rattle.flat_design.specs.declared.objects.QuantityKind.TheVariants as flat
use Rattle.flat_design.specs.declared.objects.Terminal.{Terminal}
use Rattle.flat_design.specs.declared.objects.Terminal.TheVariants as terminal
use Rattle.name_scope.specs.declared.thing.Access.{Access}
use Rattle.name_scope.specs.declared.thing.Access.TheVariants.{Assignable}
use Rattle.name_scope.specs.declared.thing.QuantityClass.{QuantityClass}
use Rattle.name_scope.specs.declared.thing.QuantityClass.TheVariants as class
use Rattle.name_scope.specs.declared.thing.Subtype.{Subtype}
use Rattle.name_scope.specs.declared.thing.Thing.TheVariants as thing
use Rattle.name_scope.specs.Scopes.{lookup}
use Rattle.elab_meaning.specs.declared.book.Book.{Book}
use Rattle.elab_meaning.specs.declared.fault.Cause.TheVariants.{WrongType}
use Rattle.elab_meaning.specs.declared.fault.Notes.{Notes}
use Rattle.elab_meaning.specs.declared.part.Part.{Part}
use Rattle.elab_meaning.specs.declared.part.Part.TheVariants.{Kept, Wrong, Hidden}
use Rattle.elab_meaning.specs.declared.typed.Valued.{Valued}
use Rattle.elab_meaning.specs.Notes.{noted}
use Rattle.elab_meaning.specs.Parts.{both, closed, found_thing}
use Rattle.elab_meaning.specs.Subtypes.{subtype, valued}
use Rattle.elab_meaning.specs.Declarations.{declared, with_notes, each, faulty, each_of, declaring_each, with_signal, signal_of, constant_of, constant, nature_named, node, is_real, new_nature, with_nature, nature_of_part, nature, with_quantity, quantity_of, free_quantity, branch, across_of, through_of, names_of, branch_quantities, is_enumeration, with_enumeration, literals_from, of_enumeration, enumeration, type_of_subtype, declaration, declarations}
use Rattle.unit_meaning.specs.Units.{label, labels, opened}
use Rattle.unit_meaning.specs.Walk.{own_quantities, quantity_count}
use Rattle.kept_laws.specs.Kept.{NamesAreFaultless}
use Rattle.tally_laws.specs.Tally.{counted_kind, quantity_sum}
use Rattle.made_count_laws.proofs.Parts.{NoFaults, no_fault, NotHidden, IsKept, both_shown, where_shown, closed_before, closed_kept, Reads, thing_reads}
use Rattle.made_count_laws.proofs.Subtypes.{subtype_reads, valued_reads, free_reads, nature_reads, branch_reads}
use Rattle.made_count_laws.proofs.Books.{Before, Makes, makes_none, makes_on, makes_as, makes_if, declared_before, makes_declared, makes_objects, makes_notes, total, total_one, total_none, each_makes, faulty_before, each_of_before, each_of_makes, part_kept, declaring_makes}

abbrev pub One : Type 0
One = Unit {0}

-- two steps that make no quantity
pub two_make : (C : Type 0) (a b c : Book) → Makes C 0 a b → Makes C 0 b c → Makes C 0 a c
two_make C a b c p q = makes_as C (0 + 0) 0 a c refl (makes_on C 0 0 a b c p q)

module _ (texts : List (List ℕ)) where
  -- ---- single names

  pub signal_makes : (access : Access) (v : Valued) (x : Name) (b : Book) → Makes One 0 b (signal_of texts access v x b)
  signal_makes access v x b =
      let mid = with_signal texts v x b in
      two_make One b mid (signal_of texts access v x b) (makes_objects One 0 mid.objects b (omega arith))
      (makes_declared One (thing.Signal (length b.objects.signals) v.subtype access) x mid (λ c. tt))

  constant_makes : (v : Valued) (x : Name) (b : Book) → Makes One 0 b (constant v x b)
  constant_makes v x b = makes_declared One (constant_of v) x b (λ c. tt)

  node_makes : (m : ℕ) (x : Name) (b : Book) → Makes One 0 b (node texts m x b)
  node_makes m x b =
      let h = makes_declared One (thing.Terminal (terminal.Node (length b.objects.nodes)) m) x b (λ c. tt) in
      record { before = h.before; right = h.right; counted = λ c f s. omega arith }

  quantity_makes : (k : QuantityKind) (c : QuantityClass) (initial : ℤ) (x : Name) (b : Book) → Makes One (counted_kind k) b (quantity_of texts k c initial x b)
  quantity_makes k c initial x b =
      let h = makes_declared One (thing.Quantity (length b.objects.quantities) c) x b (λ u. tt) in
      record {
        before = h.before;
        right = h.right;
        counted = λ u f s. sum_by_push (λ (q : Quantity). counted_kind q.kind) b.objects.quantities _;
      }

  free_makes : (initial : ℤ) (x : Name) (b : Book) → Makes One 1 b (quantity_of texts flat.Free class.Free initial x b)
  free_makes initial x b = quantity_makes flat.Free class.Free initial x b

  across_makes : (found : Terminal × Terminal) (x : Name) (b : Book) → Makes One 0 b (across_of texts found x b)
  across_makes found x b = quantity_makes (flat.Across found.0 found.1) class.Across (pos 0) x b

  through_makes : (found : Terminal × Terminal) (x : Name) (b : Book) → Makes One 1 b (through_of texts found x b)
  through_makes found x b = quantity_makes (flat.Through found.0 found.1) class.Through (pos 0) x b

  type_makes : (s : Subtype) (x : Name) (b : Book) → Makes One 0 b (type_of_subtype s x b)
  type_makes s x b = makes_declared One (thing.Type s None) x b (λ c. tt)

  -- ---- natures

  with_nature_makes : (name reference : Name) (b : Book) → Makes One 0 b (with_nature name reference b)
  with_nature_makes name reference b =
      let start = record b { natures = b.natures + 1 } in
      let mid = declared (thing.Nature b.natures) name start in
      let h = two_make One start mid (with_nature name reference b) (makes_declared One (thing.Nature b.natures) name start (λ c. tt)) (makes_declared One (thing.Terminal terminal.Reference b.natures) reference mid (λ c. tt)) in
      record { before = h.before; right = h.right; counted = h.counted }

  nature_part : (name reference : Name) (p : Part Bool) (b : Book) → Makes (IsKept p) 0 b (nature_of_part name reference p b)
  nature_part name reference (Kept fine) b = with_nature_makes name reference b
  nature_part name reference Wrong b =
      record { before = λ f. declared_before thing.Faulty name b (declared_before thing.Faulty reference (faulty name b) f); right = λ c f s. absurd c; counted = λ c f s. absurd c }
  nature_part name reference Hidden b =
      record { before = λ f. declared_before thing.Faulty name b (declared_before thing.Faulty reference (faulty name b) f); right = λ c f s. absurd c; counted = λ c f s. absurd c }

  nature_makes : (place : Place) (name across through reference : Name) (b : Book) → Makes One 0 b (nature place name across through reference b)
  nature_makes place name across through reference b =
      let a = found_thing across (lookup b.scope across.number) b.notes in
      let c = found_thing through (lookup b.scope through.number) a.0 in
      let made = both new_nature a.1 c.1 in
      let start = with_notes (closed place made c.0) b in
      let one = thing_reads across (lookup b.scope across.number) b.notes in
      let two = thing_reads through (lookup b.scope through.number) a.0 in
      let m = nature_part name reference made start in
      let found_before : NoFaults (nature place name across through reference b).notes → NoFaults c.0 = λ f. closed_before Bool place made c.0 (m.before f) in
      let kept_is : NoFaults (nature place name across through reference b).notes → NamesAreFaultless b.scope → IsKept made =
      λ f s.
      closed_kept Bool place made c.0 (m.before f)
      (both_shown _ _ Bool new_nature (λ x y. where_shown Bool _ true) a.1 c.1 (one.shown (s across.number) (two.before (found_before f))) (two.shown (s through.number) (found_before f))) in
      record {
        before = λ f. one.before (two.before (found_before f));
        right = λ u f s. m.right (kept_is f s) f s;
        counted = λ u f s. m.counted (kept_is f s) f s;
      }

  -- ---- enumeration types

  literals_make : (type position : ℕ) (literals : List Name) (b : Book) → Makes One 0 b (literals_from type position literals b)
  literals_make type position [] b = makes_none One b
  literals_make type position (x ∷ more) b =
      let mid = declared (thing.Literal (val.Enum type position)) x b in
      two_make One b mid (literals_from type (position + 1) more mid) (makes_declared One (thing.Literal (val.Enum type position)) x b (λ c. tt)) (literals_make type (position + 1) more mid)

  enumeration_makes : (place : Place) (name : Name) (literals : List Name) (b : Book) → Makes One 0 b (enumeration texts place name literals b)
  enumeration_makes place name literals b = go (is_enumeration texts literals b)
    where
      go : (c : Bool)
          → Makes One 0 b
          (if c
          then literals_from (length b.objects.enumerations) 0 literals (declared (thing.Type (of_enumeration (length b.objects.enumerations)) None) name (with_enumeration texts literals b))
          else each faulty literals (faulty name (with_notes (noted place WrongType b.notes) b)))
      go true =
          let start = with_enumeration texts literals b in
          let mid = declared (thing.Type (of_enumeration (length b.objects.enumerations)) None) name start in
          two_make One b start (literals_from (length b.objects.enumerations) 0 literals mid) (makes_objects One 0 start.objects b (omega arith))
          (two_make One start mid (literals_from (length b.objects.enumerations) 0 literals mid)
          (makes_declared One (thing.Type (of_enumeration (length b.objects.enumerations)) None) name start (λ c. tt)) (literals_make (length b.objects.enumerations) 0 literals mid))
      go false =
          let start = with_notes (noted place WrongType b.notes) b in
          let broken : NoFaults (each faulty literals (faulty name start)).notes → NoFaults start.notes = λ f. declared_before thing.Faulty name start (faulty_before literals (faulty name start) f) in
          record {
            before = λ f. no_fault place WrongType b.notes (broken f);
            right = λ c f s. no_fault place WrongType b.notes (broken f);
            counted = λ c f s. no_fault place WrongType b.notes (broken f);
          }

  -- ---- branches

  branch_makes : (place : Place) (across through : List Name) (found : Notes × Part (Terminal × Terminal)) (b : Book) → Reads (NamesAreFaultless b.scope) (Terminal × Terminal) b.notes found
      → Makes One (length through) b (branch_quantities texts place across through found b)
  branch_makes place across through found b r =
      let start = with_notes (closed place found.1 found.0) b in
      let mid = declaring_each (across_of texts) place across found b in
      let new = branch_quantities texts place across through found b in
      let first : Makes One (total 0 across) b mid = declaring_makes 0 (Terminal × Terminal) (across_of texts) across_makes place across found b r in
      let rest : Makes (IsKept found.1) (total 1 through) mid new = each_of_makes 1 (Terminal × Terminal) (through_of texts) through_makes found.1 through mid in
      let kept_is : NoFaults new.notes → NamesAreFaultless b.scope → IsKept found.1 =
      λ f s. part_kept (Terminal × Terminal) place found b mid r (each_of_before 0 (Terminal × Terminal) (across_of texts) across_makes found.1 across start) (rest.before f) s in
      record {
        before = λ f. first.before (rest.before f);
        right = λ u f s. rest.right (kept_is f s) f (first.right tt (rest.before f) s);
        counted = λ u f s.
            let one = first.counted tt (rest.before f) s in
            let two = rest.counted (kept_is f s) f (first.right tt (rest.before f) s) in
            omega (arith, one, two, total_none across, total_one through);
      }

  -- ---- the whole

  none : (A : Type 0) (rule : A → Name → Book → Book) → ((a : A) (x : Name) (b : Book) → Makes One 0 b (rule a x b)) → (place : Place) (names : List Name) (found : Notes × Part A) (b : Book)
      → Reads (NamesAreFaultless b.scope) A b.notes found → Makes One 0 b (declaring_each rule place names found b)
  none A rule h place names found b r =
      makes_as One (total 0 names) 0 b (declaring_each rule place names found b) (total_none names) (declaring_makes 0 A rule h place names found b r)

  ones : (A : Type 0) (rule : A → Name → Book → Book) → ((a : A) (x : Name) (b : Book) → Makes One 1 b (rule a x b)) → (place : Place) (names : List Name) (found : Notes × Part A) (b : Book)
      → Reads (NamesAreFaultless b.scope) A b.notes found → Makes One (length names) b (declaring_each rule place names found b)
  ones A rule h place names found b r =
      makes_as One (total 1 names) (length names) b (declaring_each rule place names found b) (total_one names) (declaring_makes 1 A rule h place names found b r)

  one_makes : (d : Declaration) (b : Book) → Makes One (own_quantities d) b (declaration texts b d)
  one_makes (declare.Signal place names i x) b = none Valued (signal_of texts Assignable) (signal_makes Assignable) place names (valued texts b.scope i x b.notes) b (valued_reads texts b.scope i x b.notes)
  one_makes (declare.Constant place names i x) b = none Valued constant constant_makes place names (valued texts b.scope i (Some x) b.notes) b (valued_reads texts b.scope i (Some x) b.notes)
  one_makes (declare.Terminal place names m) b = none ℕ (node texts) node_makes place names (nature_named m b) b (nature_reads m b)
  one_makes (declare.Quantity place names i x) b = ones ℤ (quantity_of texts flat.Free class.Free) free_makes place names (free_quantity texts i x b) b (free_reads texts i x b)
  one_makes (declare.Across place across through plus minus) b = branch_makes place across (names_of through) (branch plus minus b) b (branch_reads plus minus b)
  one_makes (declare.Through place through plus minus) b = branch_makes place [] through (branch plus minus b) b (branch_reads plus minus b)
  one_makes (declare.Nature place name across through reference) b = nature_makes place name across through reference b
  one_makes (declare.Enumeration place name literals) b = enumeration_makes place name literals b
  one_makes (declare.Subtype place name i) b = none Subtype type_of_subtype type_makes place (name ∷ []) (subtype texts b.scope i b.notes) b (subtype_reads texts b.scope i b.notes)

  all_make : (ds : List Declaration) (b : Book) → Makes One (quantity_count ds) b (declarations texts ds b)
  all_make [] b = makes_none One b
  all_make (d ∷ more) b =
      let mid = declaration texts b d in
      makes_on One (own_quantities d) (quantity_count more) b mid (declarations texts more mid) (one_makes d b) (all_make more mid)

  label_makes : (o : Option Name) (b : Book) → Makes One 0 b (elim o as (λ o. Book) [ Some x ↦ declared thing.Label x b | None ↦ b ])
  label_makes (Some x) b = makes_declared One thing.Label x b (λ c. tt)
  label_makes None b = makes_none One b

  labels_make : (cs : List Concurrent) (b : Book) → Makes One 0 b (labels cs b)
  labels_make [] b = makes_none One b
  labels_make (c ∷ more) b = two_make One b (label b c) (labels more (label b c)) (label_makes c.label b) (labels_make more (label b c))

  pub opened_makes : (a : Architecture) (b : Book) → Makes One (quantity_count a.declarations) b (opened texts a b)
  opened_makes a b =
      let mid = declarations texts a.declarations b in
      makes_as One (quantity_count a.declarations + 0) (quantity_count a.declarations) b (opened texts a b) (omega arith)
      (makes_on One (quantity_count a.declarations) 0 b mid (opened texts a b) (all_make a.declarations b) (labels_make a.statements mid))
