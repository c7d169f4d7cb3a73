-- Declarations and labels.
use Rattle.std.proofs.Common.{ℕ, ℤ, List, [], ◌∷◌, Option, Some, None}
use Rattle.std.specs.List.{All}
use Rattle.std.proofs.lemmas.List.Elements.{All-head, All-tail}
use Rattle.fix_core.specs.Fixed.{IsInRange}
use Rattle.ams_tree.specs.declared.expression.Name.{Name}
use Rattle.ams_tree.specs.declared.declaration.Declaration.{Declaration}
use Rattle.ams_tree.specs.declared.declaration.Declaration.TheVariants as declare
use Rattle.ams_tree.specs.declared.concurrent.Concurrent.{Concurrent}
use Rattle.ams_tree.specs.declared.design.Architecture.{Architecture}
use Rattle.flat_design.specs.declared.objects.Objects.{Objects}
use Rattle.flat_design.specs.declared.objects.QuantityKind.TheVariants as flat
use Rattle.name_scope.specs.declared.thing.Access.TheVariants.{Assignable}
use Rattle.name_scope.specs.declared.thing.QuantityClass.TheVariants as class
use Rattle.name_scope.specs.declared.thing.Subtype.{Subtype}
use Rattle.name_scope.specs.declared.thing.Thing.TheVariants as thing
use Rattle.elab_meaning.specs.declared.book.Book.{Book}
use Rattle.elab_meaning.specs.declared.typed.Valued.{Valued}
use Rattle.elab_meaning.specs.Subtypes.{subtype, valued}
use Rattle.elab_meaning.specs.Declarations.{declared, names_of, signal_of, constant, nature_named, node, free_quantity, quantity_of, type_of_subtype, declaration, declarations}
use Rattle.unit_meaning.specs.Units.{label, labels, opened}
use Rattle.design_rules.specs.Types.{sizes_of, equation_scope}
use Rattle.scope_laws.specs.Holds.{SubtypeFits}
use Rattle.subtype_laws.specs.Subtypes.{ValuedFits}
use Rattle.subtype_laws.proofs.Growth.{grows_subtype, grows_valued}
use Rattle.subtype_laws.proofs.Indications.{subtype_right}
use Rattle.subtype_laws.proofs.Values.{valued_right}
use Rattle.declaration_laws.specs.Books.{KeepsBook, HasLiterals, DeclarationsHold}
use Rattle.declaration_laws.proofs.Steps.{Keeps, given, book_on, book_same, declared_keeps, declaring_keeps}
use Rattle.declaration_laws.proofs.Objects.{signal_keeps, constant_keeps, type_keeps, Anything, nature_right, grows_nature, node_keeps, quantity_keeps, free_right, grows_free}
use Rattle.declaration_laws.proofs.Branches.{branch_keeps, nature_keeps}
use Rattle.declaration_laws.proofs.Enumerations.{enumeration_keeps}

module _ (final : Objects) (texts : List (List ℕ)) where
  free_keeps : (initial : ℤ) (x : Name) (b : Book) → Keeps final (IsInRange initial) b (quantity_of texts flat.Free class.Free initial x b)
  free_keeps initial x b =
      let k = quantity_keeps final texts flat.Free class.Free initial x b in
      record { grows = k.grows; stands = k.stands; leaves = k.leaves; right = λ c. k.right (record { terminals = tt; number = c }) }

  one_keeps : (d : Declaration) (b : Book) → HasLiterals d → KeepsBook final b (declaration texts b d)
  one_keeps (declare.Signal place names i x) b h =
      declaring_keeps final Valued (ValuedFits (sizes_of final)) (signal_of texts Assignable) (signal_keeps final texts Assignable) place names (valued texts b.scope i x b.notes) b
      (grows_valued texts b.scope i x b.notes) (λ k. valued_right (equation_scope final) [] [] texts b.scope k.scope i x b.notes)
  one_keeps (declare.Constant place names i x) b h =
      declaring_keeps final Valued (ValuedFits (sizes_of final)) constant (constant_keeps final) place names (valued texts b.scope i (Some x) b.notes) b
      (grows_valued texts b.scope i (Some x) b.notes) (λ k. valued_right (equation_scope final) [] [] texts b.scope k.scope i (Some x) b.notes)
  one_keeps (declare.Terminal place names m) b h =
      declaring_keeps final ℕ (Anything final) (node texts) (node_keeps final texts) place names (nature_named m b) b (grows_nature final m b) (nature_right final m b)
  one_keeps (declare.Quantity place names i x) b h =
      declaring_keeps final ℤ IsInRange (quantity_of texts flat.Free class.Free) free_keeps place names (free_quantity texts i x b) b (grows_free final texts i x b) (free_right final texts i x b)
  one_keeps (declare.Across place across through plus minus) b h = branch_keeps final texts place across (names_of through) plus minus b
  one_keeps (declare.Through place through plus minus) b h = branch_keeps final texts place [] through plus minus b
  one_keeps (declare.Nature place name across through reference) b h = nature_keeps final place name across through reference b
  one_keeps (declare.Enumeration place name literals) b h = enumeration_keeps final texts literals place name b h
  one_keeps (declare.Subtype place name i) b h =
      declaring_keeps final Subtype (SubtypeFits (sizes_of final)) type_of_subtype (type_keeps final) place (name ∷ []) (subtype texts b.scope i b.notes) b
      (grows_subtype texts b.scope i b.notes) (λ k. subtype_right (equation_scope final) [] [] texts b.scope k.scope i b.notes)

  all_keep : (ds : List Declaration) (b : Book) → All HasLiterals ds → KeepsBook final b (declarations texts ds b)
  all_keep [] b h = book_same final b
  all_keep (d ∷ more) b h =
      let mid = declaration texts b d in
      book_on final b mid (declarations texts more mid) (one_keeps d b (All-head HasLiterals d more h)) (all_keep more mid (All-tail HasLiterals d more h))

  named_label : (o : Option Name) (b : Book) → KeepsBook final b (elim o as (λ o. Book) [ Some x ↦ declared thing.Label x b | None ↦ b ])
  named_label (Some x) b = given final (Unit {0}) b (declared thing.Label x b) (declared_keeps final (Unit {0}) thing.Label x b (λ c s. record { fits = tt; also = tt })) tt
  named_label None b = book_same final b

  labels_keep : (cs : List Concurrent) (b : Book) → KeepsBook final b (labels cs b)
  labels_keep [] b = book_same final b
  labels_keep (c ∷ more) b = book_on final b (label b c) (labels more (label b c)) (named_label c.label b) (labels_keep more (label b c))

  pub body_keeps : (a : Architecture) (b : Book) → All HasLiterals a.declarations → KeepsBook final b (opened texts a b)
  body_keeps a b h =
      let mid = declarations texts a.declarations b in
      book_on final b mid (opened texts a b) (all_keep a.declarations b h) (labels_keep a.statements mid)

pub declarations_hold : DeclarationsHold
declarations_hold = record {
  one = λ final texts d b h. one_keeps final texts d b h;
  all = λ final texts ds b h. all_keep final texts ds b h;
  labels = λ final cs b. labels_keep final [] cs b;
  body = λ final texts a b h. body_keeps final texts a b h;
}
