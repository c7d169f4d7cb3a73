-- All declarations of an architecture, and the labels of its statements.
use Rattle.std.proofs.Common.{ℕ, ℤ, pos, List, [], ◌∷◌, ◌++◌, append_assoc, Option, Some, None, refl, subst}
use Rattle.ams_token.specs.declared.token.Place.{Place}
use Rattle.ams_tree.specs.declared.expression.Name.{Name}
use Rattle.ams_tree.specs.declared.declaration.Declaration.{Declaration}
use Rattle.ams_tree.specs.declared.declaration.Declaration.TheVariants as declare
use Rattle.ams_tree.specs.declared.concurrent.Concurrent.{Concurrent}
use Rattle.flat_design.specs.declared.objects.Terminal.{Terminal}
use Rattle.flat_design.specs.declared.objects.QuantityKind.TheVariants as flat
use Rattle.name_scope.specs.declared.thing.Access.TheVariants.{Assignable}
use Rattle.name_scope.specs.declared.thing.QuantityClass.TheVariants as class
use Rattle.name_scope.specs.declared.thing.Subtype.{Subtype}
use Rattle.name_scope.specs.declared.thing.Thing.TheVariants as thing
use Rattle.name_scope.specs.Scopes.{lookup}
use Rattle.elab_meaning.specs.declared.book.Book.{Book}
use Rattle.elab_meaning.specs.declared.part.Part.{Part}
use Rattle.elab_meaning.specs.declared.typed.Valued.{Valued}
use Rattle.elab_meaning.specs.Parts.{closed}
use Rattle.elab_meaning.specs.Subtypes.{subtype, valued}
use Rattle.elab_meaning.specs.Declarations.{declared, with_notes, declaring_each, signal_of, constant, nature_named, node, quantity_of, free_quantity, branch, across_of, through_of, names_of, branch_quantities, type_of_subtype, declaration, declarations}
use Rattle.unit_meaning.specs.Units.{label, labels, opened}
use Rattle.ams_tree.specs.declared.design.Architecture.{Architecture}
use Rattle.alike_laws.specs.Alike.{HasNoFaults, Reads, IsShown, AlikeThing}
use Rattle.alike_books.specs.Books.{AlikeBooks, AlikeBehind, BooksFollow, DeclarationsFollow, PartsFollow}
use Rattle.alike_books.proofs.Before.{RuleBefore, found_before, valued_before, quantity_before, subtype_before, branch_before, declared_before, each_of_before, declaring_before}
use Rattle.alike_books.proofs.Parts.{subtype_reads, valued_reads, subtypes_follow, values_follow}
use Rattle.alike_books.proofs.Names.{kept_closed, behind_same, declared_alike, each_of_alike, declaring_alike}
use Rattle.alike_books.proofs.Objects.{signal_before, constant_before, node_before, quantity_of_before, type_before, signals_alike, signals_broken, constants_alike, constants_broken, nodes_alike, nodes_broken, quantities_alike, quantities_broken, types_alike, types_broken, nature_reads, nature_known, nature_same, free_reads}
use Rattle.alike_books.proofs.Branches.{branch_reads}
use Rattle.alike_books.proofs.Declarations.{nature_before, nature_declared, enumeration_before, enumeration_alike}

module _ (texts : List (List ℕ)) where
  -- ---- branches

  across_before : (ends : Terminal × Terminal) → RuleBefore (across_of texts ends)
  across_before ends = quantity_of_before texts (flat.Across ends.0 ends.1) class.Across (pos 0)

  through_before : (ends : Terminal × Terminal) → RuleBefore (through_of texts ends)
  through_before ends = quantity_of_before texts (flat.Through ends.0 ends.1) class.Through (pos 0)

  branches_before : (place : Place) (across through : List Name) (plus : Name) (minus : Option Name) (b : Book)
      → HasNoFaults (branch_quantities texts place across through (branch plus minus b) b).notes → HasNoFaults b.notes
  branches_before place across through plus minus b h =
      let found = branch plus minus b in
      branch_before plus minus b
      (declaring_before (Terminal × Terminal) (across_of texts) across_before place across found b
      (each_of_before (Terminal × Terminal) (through_of texts) through_before found.1 through (declaring_each (across_of texts) place across found b) h))

  -- ---- each declaration breaks no rule before

  one_before : (d : Declaration) (b : Book) → HasNoFaults (declaration texts b d).notes → HasNoFaults b.notes
  one_before (declare.Signal place names i x) b h =
      valued_before texts b.scope i x b.notes (declaring_before Valued (signal_of texts Assignable) (signal_before texts Assignable) place names (valued texts b.scope i x b.notes) b h)
  one_before (declare.Constant place names i x) b h =
      valued_before texts b.scope i (Some x) b.notes (declaring_before Valued constant constant_before place names (valued texts b.scope i (Some x) b.notes) b h)
  one_before (declare.Terminal place names m) b h =
      found_before m (lookup b.scope m.number) b.notes (declaring_before ℕ (node texts) (node_before texts) place names (nature_named m b) b h)
  one_before (declare.Quantity place names i x) b h =
      quantity_before texts i x b (declaring_before ℤ (quantity_of texts flat.Free class.Free) (quantity_of_before texts flat.Free class.Free) place names (free_quantity texts i x b) b h)
  one_before (declare.Across place across through plus minus) b h = branches_before place across (names_of through) plus minus b h
  one_before (declare.Through place through plus minus) b h = branches_before place [] through plus minus b h
  one_before (declare.Nature place name across through reference) b h = nature_before place name across through reference b h
  one_before (declare.Enumeration place name literals) b h = enumeration_before texts place name literals b h
  one_before (declare.Subtype place name i) b h =
      subtype_before texts b.scope i b.notes (declaring_before Subtype type_of_subtype type_before place (name ∷ []) (subtype texts b.scope i b.notes) b h)

  all_before : (ds : List Declaration) (b : Book) → HasNoFaults (declarations texts ds b).notes → HasNoFaults b.notes
  all_before [] b h = h
  all_before (d ∷ more) b h = one_before d b (all_before more (declaration texts b d) h)

  -- ---- and stays alike

  module _ (natures : List ℕ) (c i : Book) (h : AlikeBooks natures c i) where
    branches_alike : (place : Place) (across through : List Name) (plus : Name) (minus : Option Name) → HasNoFaults (branch_quantities texts place across through (branch plus minus c) c).notes
        → AlikeBooks natures (branch_quantities texts place across through (branch plus minus c) c) (branch_quantities texts place across through (branch plus minus i) i)
    branches_alike place across through plus minus n =
        let f = branch plus minus c in
        let g = branch plus minus i in
        let first : HasNoFaults (declaring_each (across_of texts) place across f c).notes =
        each_of_before (Terminal × Terminal) (through_of texts) through_before f.1 through (declaring_each (across_of texts) place across f c) n in
        let reads : Reads (Part (Terminal × Terminal)) (Part (Terminal × Terminal)) IsShown c.notes f i.notes g = branch_reads natures c i h.scopes plus minus in
        each_of_alike natures (Terminal × Terminal) (Terminal × Terminal) (through_of texts) (through_of texts) through_before f.1 g.1 through (declaring_each (across_of texts) place across f c)
        (declaring_each (across_of texts) place across g i)
        (kept_closed (Terminal × Terminal) place f.1 f.0 reads.right (each_of_before (Terminal × Terminal) (across_of texts) across_before f.1 across (with_notes (closed place f.1 f.0) c) first))
        (record {
          kept = λ p q e d. quantities_alike natures texts (flat.Through p.0 p.1) (flat.Through q.0 q.1) class.Through class.Through (pos 0) (pos 0);
          broken = λ p e. quantities_broken natures texts (flat.Through p.0 p.1) class.Through (pos 0);
        }) n
        (declaring_alike natures (Terminal × Terminal) (Terminal × Terminal) (across_of texts) (across_of texts) across_before place across f g c i reads
        (record {
          kept = λ p q e d. quantities_alike natures texts (flat.Across p.0 p.1) (flat.Across q.0 q.1) class.Across class.Across (pos 0) (pos 0);
          broken = λ p e. quantities_broken natures texts (flat.Across p.0 p.1) class.Across (pos 0);
        }) first h)

    one_alike : (d : Declaration) → HasNoFaults (declaration texts c d).notes → AlikeBehind natures (declaration texts c d) (declaration texts i d)
    one_alike (declare.Signal place names y x) n =
        behind_same natures (declaration texts c (declare.Signal place names y x)) (declaration texts i (declare.Signal place names y x))
        (declaring_alike natures Valued Valued (signal_of texts Assignable) (signal_of texts Assignable) (signal_before texts Assignable) place names (valued texts c.scope y x c.notes) (valued texts i.scope y x i.notes)
        c i (valued_reads natures c.scope i.scope h.scopes texts y x c.notes i.notes)
        (record { kept = λ v w e f. signals_alike natures texts Assignable Assignable v w; broken = λ v e. signals_broken natures texts Assignable v }) n h)
    one_alike (declare.Constant place names y x) n =
        behind_same natures (declaration texts c (declare.Constant place names y x)) (declaration texts i (declare.Constant place names y x))
        (declaring_alike natures Valued Valued constant constant constant_before place names (valued texts c.scope y (Some x) c.notes) (valued texts i.scope y (Some x) i.notes) c i
        (valued_reads natures c.scope i.scope h.scopes texts y (Some x) c.notes i.notes)
        (record { kept = λ v w e f. constants_alike natures v w; broken = λ v e. constants_broken natures v }) n h)
    one_alike (declare.Terminal place names m) n =
        behind_same natures (declaration texts c (declare.Terminal place names m)) (declaration texts i (declare.Terminal place names m))
        (declaring_alike natures ℕ ℕ (node texts) (node texts) (node_before texts) place names (nature_named m c) (nature_named m i) c i (nature_reads natures c i h.scopes m)
        (record {
          kept = λ a b e f. nodes_alike natures texts a b (nature_known natures c i h.scopes m a e) (nature_same natures c i h.scopes m a b e f);
          broken = λ a e. nodes_broken natures texts a (nature_known natures c i h.scopes m a e);
        }) n h)
    one_alike (declare.Quantity place names y x) n =
        behind_same natures (declaration texts c (declare.Quantity place names y x)) (declaration texts i (declare.Quantity place names y x))
        (declaring_alike natures ℤ ℤ (quantity_of texts flat.Free class.Free) (quantity_of texts flat.Free class.Free) (quantity_of_before texts flat.Free class.Free) place names (free_quantity texts y x c)
        (free_quantity texts y x i) c i (free_reads natures texts y x c i h.scopes)
        (record { kept = λ v w e f. quantities_alike natures texts flat.Free flat.Free class.Free class.Free v w; broken = λ v e. quantities_broken natures texts flat.Free class.Free v }) n h)
    one_alike (declare.Across place across through plus minus) n =
        behind_same natures (declaration texts c (declare.Across place across through plus minus)) (declaration texts i (declare.Across place across through plus minus))
        (branches_alike place across (names_of through) plus minus n)
    one_alike (declare.Through place through plus minus) n =
        behind_same natures (declaration texts c (declare.Through place through plus minus)) (declaration texts i (declare.Through place through plus minus)) (branches_alike place [] through plus minus n)
    one_alike (declare.Nature place name across through reference) n = nature_declared natures place name across through reference c i n h
    one_alike (declare.Enumeration place name literals) n =
        behind_same natures (declaration texts c (declare.Enumeration place name literals)) (declaration texts i (declare.Enumeration place name literals))
        (enumeration_alike texts place name literals natures c i h n)
    one_alike (declare.Subtype place name y) n =
        behind_same natures (declaration texts c (declare.Subtype place name y)) (declaration texts i (declare.Subtype place name y))
        (declaring_alike natures Subtype Subtype type_of_subtype type_of_subtype type_before place (name ∷ []) (subtype texts c.scope y c.notes) (subtype texts i.scope y i.notes) c i
        (subtype_reads natures c.scope i.scope h.scopes texts y c.notes i.notes)
        (record { kept = λ v w e f. types_alike natures v w; broken = λ v e. types_broken natures v }) n h)

  behind_on : (natures : List ℕ) (c i : Book) (a : AlikeBehind natures c i) (d j : Book) → AlikeBehind (natures ++ a.more) d j → AlikeBehind natures d j
  behind_on natures c i a d j b = record { more = a.more ++ b.more; books = subst (λ (l : List ℕ). AlikeBooks l d j) (append_assoc natures a.more b.more) b.books }

  all_alike : (ds : List Declaration) (natures : List ℕ) (c i : Book) → HasNoFaults (declarations texts ds c).notes → AlikeBooks natures c i
      → AlikeBehind natures (declarations texts ds c) (declarations texts ds i)
  all_alike [] natures c i n h = behind_same natures c i h
  all_alike (d ∷ more) natures c i n h =
      let first : AlikeBehind natures (declaration texts c d) (declaration texts i d) = one_alike natures c i h d (all_before more (declaration texts c d) n) in
      behind_on natures (declaration texts c d) (declaration texts i d) first (declarations texts (d ∷ more) c) (declarations texts (d ∷ more) i)
      (all_alike more (natures ++ first.more) (declaration texts c d) (declaration texts i d) n first.books)

  pub all_follow : (ds : List Declaration) (c i : Book) → BooksFollow c (declarations texts ds c) i (declarations texts ds i)
  all_follow ds c i = record { before = all_before ds c; alike = λ natures n h. all_alike ds natures c i n h }

-- ---- labels

label_before : (s : Concurrent) (b : Book) → HasNoFaults (label b s).notes → HasNoFaults b.notes
label_before s b h = go s.label h
  where
    go : (o : Option Name) → HasNoFaults (elim o as (λ o. Book) [ Some x ↦ declared thing.Label x b | None ↦ b ]).notes → HasNoFaults b.notes
    go (Some x) h = declared_before thing.Label x b h
    go None h = h

labels_before : (cs : List Concurrent) (b : Book) → HasNoFaults (labels cs b).notes → HasNoFaults b.notes
labels_before [] b h = h
labels_before (s ∷ more) b h = label_before s b (labels_before more (label b s) h)

module _ (natures : List ℕ) where
  both_labels : AlikeThing natures thing.Label thing.Label
  both_labels = record { whole = refl; label = refl; changing = λ h. h; terminal_known = tt; terminal = tt; nature_known = tt; nature = tt }

  label_alike : (s : Concurrent) (c i : Book) → HasNoFaults (label c s).notes → AlikeBooks natures c i → AlikeBooks natures (label c s) (label i s)
  label_alike s c i n h = go s.label n
    where
      go : (o : Option Name) → HasNoFaults (elim o as (λ o. Book) [ Some x ↦ declared thing.Label x c | None ↦ c ]).notes
          → AlikeBooks natures (elim o as (λ o. Book) [ Some x ↦ declared thing.Label x c | None ↦ c ]) (elim o as (λ o. Book) [ Some x ↦ declared thing.Label x i | None ↦ i ])
      go (Some x) n = declared_alike natures thing.Label thing.Label x c i both_labels n h
      go None n = h

  labels_alike : (cs : List Concurrent) (c i : Book) → HasNoFaults (labels cs c).notes → AlikeBooks natures c i → AlikeBooks natures (labels cs c) (labels cs i)
  labels_alike [] c i n h = h
  labels_alike (s ∷ more) c i n h = labels_alike more (label c s) (label i s) n (label_alike s c i (labels_before more (label c s) n) h)

labels_follow : (cs : List Concurrent) (c i : Book) → BooksFollow c (labels cs c) i (labels cs i)
labels_follow cs c i = record { before = labels_before cs c; alike = λ natures n h. behind_same natures (labels cs c) (labels cs i) (labels_alike natures cs c i n h) }

opened_follow : (texts : List (List ℕ)) (a : Architecture) (c i : Book) → BooksFollow c (opened texts a c) i (opened texts a i)
opened_follow texts a c i =
    let d = declarations texts a.declarations c in
    let j = declarations texts a.declarations i in
    let first = all_follow texts a.declarations c i in
    record {
      before = λ n. first.before (labels_before a.statements d n);
      alike = λ natures n h.
          let made : AlikeBehind natures d j = first.alike natures (labels_before a.statements d n) h in
          record { more = made.more; books = labels_alike (natures ++ made.more) a.statements d j n made.books };
    }

pub declarations_follow : DeclarationsFollow
declarations_follow = record { all = all_follow; labels = labels_follow; body = opened_follow }

pub parts_follow : PartsFollow
parts_follow = record { subtypes = subtypes_follow; values = values_follow; grow = valued_before }
