-- Where no rule is broken behind an interface none is broken before it, in any scope.
use Rattle.std.proofs.Common.{◌≡◌, ℕ, pos, List, [], ◌∷◌, ◌++◌, length, Option, Some, None, refl, ◌∙◌}
use Rattle.std.specs.List.{fold}
use Rattle.ams_tree.specs.declared.expression.Expr.{Expr}
use Rattle.ams_tree.specs.declared.expression.Name.{Name}
use Rattle.ams_tree.specs.declared.declaration.Generic.{Generic}
use Rattle.ams_tree.specs.declared.declaration.Port.{Port}
use Rattle.ams_tree.specs.declared.declaration.Port.TheVariants as port
use Rattle.ams_tree.specs.declared.declaration.SubtypeIndication.{SubtypeIndication}
use Rattle.ams_tree.specs.declared.design.Entity.{Entity}
use Rattle.flat_design.specs.declared.objects.QuantityKind.TheVariants as flat
use Rattle.flat_design.specs.declared.objects.Terminal.TheVariants as terminal
use Rattle.name_scope.specs.declared.scope.Scope.{Scope}
use Rattle.name_scope.specs.declared.thing.Access.{Access}
use Rattle.name_scope.specs.declared.thing.QuantityClass.{QuantityClass}
use Rattle.name_scope.specs.declared.thing.Subtype.{Subtype}
use Rattle.name_scope.specs.declared.thing.Thing.TheVariants as thing
use Rattle.name_scope.specs.Scopes.{lookup}
use Rattle.elab_meaning.specs.declared.book.Book.{Book}
use Rattle.elab_meaning.specs.declared.fault.Notes.{Notes}
use Rattle.elab_meaning.specs.declared.part.Part.{Part}
use Rattle.elab_meaning.specs.declared.part.Part.TheVariants.{Kept, Wrong, Hidden}
use Rattle.elab_meaning.specs.declared.typed.Valued.{Valued}
use Rattle.elab_meaning.specs.Parts.{closed}
use Rattle.elab_meaning.specs.Subtypes.{valued}
use Rattle.elab_meaning.specs.Declarations.{with_notes, with_objects, each, faulty, each_of, path_of, with_signal, signal_of, node, with_quantity, nature_named}
use Rattle.unit_meaning.specs.Interfaces.{first_place, generic_default, generic_name, generic, access_of, class_of, quantity_subtype, quantity_port, port_declaration, interface}
use Rattle.alike_laws.specs.Alike.{HasNoFaults}
use Rattle.alike_books.proofs.Before.{found_before, subtype_before, valued_before, declared_before, declaring_before}

-- ---- names

module _ (texts : List (List ℕ)) where
  pub signal_before : (access : Access) (v : Valued) (x : Name) (b : Book) → HasNoFaults (signal_of texts access v x b).notes → HasNoFaults b.notes
  signal_before access v x b h = declared_before (thing.Signal (length b.objects.signals) v.subtype access) x (with_signal texts v x b) h

  abbrev with_node : Name → Book → Book
  with_node x b = with_objects (record b.objects { nodes = b.objects.nodes ++ record { path = path_of texts x b } ∷ [] }) b

  pub node_before : (m : ℕ) (x : Name) (b : Book) → HasNoFaults (node texts m x b).notes → HasNoFaults b.notes
  node_before m x b h = declared_before (thing.Terminal (terminal.Node (length b.objects.nodes)) m) x (with_node x b) h

  pub quantity_before : (c : QuantityClass) (s : Subtype) (x : Name) (b : Book) → HasNoFaults (quantity_port texts c s x b).notes → HasNoFaults b.notes
  quantity_before c s x b h = declared_before (thing.Quantity (length b.objects.quantities) c) x (with_quantity texts flat.Free (pos 0) x b) h

  -- ---- generics and ports

  pub default_before : (scope : Scope) (i : SubtypeIndication) (x : Option Expr) (n : Notes) → HasNoFaults (generic_default texts scope i x n).0 → HasNoFaults n
  default_before scope i None n h = subtype_before texts scope i n h
  default_before scope i (Some x) n h = valued_before texts scope i (Some x) n h

  pub generic_before : (g : Generic) (b : Book) → HasNoFaults (generic texts b g).notes → HasNoFaults b.notes
  generic_before g b h =
      default_before b.scope g.indication g.default b.notes
      (declaring_before Valued generic_name (λ v. declared_before (thing.Constant v.subtype None)) (first_place g.constant g.names) g.names (generic_default texts b.scope g.indication g.default b.notes) b h)

  pub generics_before : (all : List Generic) (b : Book) → HasNoFaults (fold (generic texts) b all).notes → HasNoFaults b.notes
  generics_before [] b h = h
  generics_before (g ∷ more) b h = generic_before g b (generics_before more (generic texts b g) h)

  pub port_before : (p : Port) (b : Book) → HasNoFaults (port_declaration texts b p).notes → HasNoFaults b.notes
  port_before (port.Signal place names mode i x) b h =
      valued_before texts b.scope i x b.notes
      (declaring_before Valued (signal_of texts (access_of mode)) (signal_before (access_of mode)) (first_place place names) names (valued texts b.scope i x b.notes) b h)
  port_before (port.Terminal place names m) b h =
      found_before m (lookup b.scope m.number) b.notes (declaring_before ℕ (node texts) node_before place names (nature_named m b) b h)
  port_before (port.Quantity place names mode i) b h =
      subtype_before texts b.scope i b.notes
      (declaring_before Subtype (quantity_port texts (class_of mode)) (quantity_before (class_of mode)) place names (quantity_subtype texts i b) b h)

  pub ports_before : (all : List Port) (b : Book) → HasNoFaults (fold (port_declaration texts) b all).notes → HasNoFaults b.notes
  ports_before [] b h = h
  ports_before (p ∷ more) b h = port_before p b (ports_before more (port_declaration texts b p) h)

  pub interface_before : (e : Entity) (b : Book) → HasNoFaults (interface texts e b).notes → HasNoFaults b.notes
  interface_before e b h = generics_before e.generics b (ports_before e.ports (fold (generic texts) b e.generics) h)

  -- ---- an interface has no natures of its own

  each_same : (rule : Name → Book → Book) → ((x : Name) (b : Book) → (rule x b).natures ≡ b.natures) → (names : List Name) (b : Book) → (each rule names b).natures ≡ b.natures
  each_same rule same [] b = refl
  each_same rule same (x ∷ more) b = each_same rule same more (rule x b) ∙ same x b

  each_of_same : (A : Type 0) (rule : A → Name → Book → Book) → ((a : A) (x : Name) (b : Book) → (rule a x b).natures ≡ b.natures) → (p : Part A) (names : List Name) (b : Book)
      → (each_of rule p names b).natures ≡ b.natures
  each_of_same A rule same (Kept a) names b = each_same (rule a) (same a) names b
  each_of_same A rule same Wrong names b = each_same faulty (λ x c. refl) names b
  each_of_same A rule same Hidden names b = each_same faulty (λ x c. refl) names b

  generics_same : (all : List Generic) (b : Book) → (fold (generic texts) b all).natures ≡ b.natures
  generics_same [] b = refl
  generics_same (g ∷ more) b =
      let found = generic_default texts b.scope g.indication g.default b.notes in
      generics_same more (generic texts b g)
      ∙ each_of_same Valued generic_name (λ v x c. refl) found.1 g.names (with_notes (closed (first_place g.constant g.names) found.1 found.0) b)

  port_same : (p : Port) (b : Book) → (port_declaration texts b p).natures ≡ b.natures
  port_same (port.Signal place names mode i x) b =
      let found = valued texts b.scope i x b.notes in
      each_of_same Valued (signal_of texts (access_of mode)) (λ v x c. refl) found.1 names (with_notes (closed (first_place place names) found.1 found.0) b)
  port_same (port.Terminal place names m) b =
      let found = nature_named m b in
      each_of_same ℕ (node texts) (λ v x c. refl) found.1 names (with_notes (closed place found.1 found.0) b)
  port_same (port.Quantity place names mode i) b =
      let found = quantity_subtype texts i b in
      each_of_same Subtype (quantity_port texts (class_of mode)) (λ v x c. refl) found.1 names (with_notes (closed place found.1 found.0) b)

  ports_same : (all : List Port) (b : Book) → (fold (port_declaration texts) b all).natures ≡ b.natures
  ports_same [] b = refl
  ports_same (p ∷ more) b = ports_same more (port_declaration texts b p) ∙ port_same p b

  pub interface_same : (e : Entity) (b : Book) → (interface texts e b).natures ≡ b.natures
  interface_same e b = ports_same e.ports (fold (generic texts) b e.generics) ∙ generics_same e.generics b
