-- Objects that are added, name by name.
use Rattle.std.proofs.Common.{ℕ, ℤ, List, [], ◌∷◌, ◌++◌, refl, sym, ap, ◌∙◌, append_assoc, append-nil}
use Rattle.ams_token.specs.declared.token.Place.{Place}
use Rattle.ams_tree.specs.declared.expression.Name.{Name}
use Rattle.flat_design.specs.declared.objects.QuantityKind.{QuantityKind}
use Rattle.flat_design.specs.declared.objects.Signal.{Signal}
use Rattle.flat_design.specs.declared.objects.Quantity.{Quantity}
use Rattle.flat_design.specs.declared.objects.Node.{Node}
use Rattle.flat_design.specs.declared.objects.Enumeration.{Enumeration}
use Rattle.flat_design.specs.declared.objects.Objects.{Objects}
use Rattle.name_scope.specs.declared.thing.Access.{Access}
use Rattle.name_scope.specs.declared.thing.QuantityClass.{QuantityClass}
use Rattle.elab_meaning.specs.declared.book.Book.{Book}
use Rattle.elab_meaning.specs.declared.fault.Notes.{Notes}
use Rattle.elab_meaning.specs.declared.part.Part.{Part}
use Rattle.elab_meaning.specs.declared.part.Part.TheVariants.{Kept, Wrong, Hidden}
use Rattle.elab_meaning.specs.declared.typed.Valued.{Valued}
use Rattle.elab_meaning.specs.Parts.{closed}
use Rattle.elab_meaning.specs.Declarations.{with_notes, each, faulty, each_of, declaring_each, signal_of, quantity_of, node}
use Rattle.reading_laws.specs.Growing.{Extends}
use Rattle.object_laws.specs.Adding.{AddsObjects}

-- ---- lists

pub extends_same : (A : Type 0) (xs : List A) → Extends A xs xs
extends_same A xs = record { more = []; whole = sym (append-nil xs) }

pub extends_one : (A : Type 0) (xs : List A) (x : A) → Extends A xs (xs ++ x ∷ [])
extends_one A xs x = record { more = x ∷ []; whole = refl }

pub extends_on : (A : Type 0) (xs ys zs : List A) → Extends A xs ys → Extends A ys zs → Extends A xs zs
extends_on A xs ys zs p q =
    record { more = p.more ++ q.more; whole = q.whole ∙ (ap (λ (l : List A). l ++ q.more) p.whole ∙ append_assoc xs p.more q.more) }

-- ---- objects

pub adds_none : (o : Objects) → AddsObjects o o
adds_none o =
    record {
      enumerations = extends_same Enumeration o.enumerations;
      signals = extends_same Signal o.signals;
      quantities = extends_same Quantity o.quantities;
      nodes = extends_same Node o.nodes;
      equations = refl;
      dots = refl;
      thresholds = refl;
      processes = refl;
      instances = refl;
      ramps = refl;
    }

pub adds_on : (a b c : Objects) → AddsObjects a b → AddsObjects b c → AddsObjects a c
adds_on a b c p q =
    record {
      enumerations = extends_on Enumeration a.enumerations b.enumerations c.enumerations p.enumerations q.enumerations;
      signals = extends_on Signal a.signals b.signals c.signals p.signals q.signals;
      quantities = extends_on Quantity a.quantities b.quantities c.quantities p.quantities q.quantities;
      nodes = extends_on Node a.nodes b.nodes c.nodes p.nodes q.nodes;
      equations = q.equations ∙ p.equations;
      dots = q.dots ∙ p.dots;
      thresholds = q.thresholds ∙ p.thresholds;
      processes = q.processes ∙ p.processes;
      instances = q.instances ∙ p.instances;
      ramps = q.ramps ∙ p.ramps;
    }

pub adds_signal : (o : Objects) (x : Signal) → AddsObjects o (record o { signals = o.signals ++ x ∷ [] })
adds_signal o x =
    record {
      enumerations = extends_same Enumeration o.enumerations;
      signals = extends_one Signal o.signals x;
      quantities = extends_same Quantity o.quantities;
      nodes = extends_same Node o.nodes;
      equations = refl;
      dots = refl;
      thresholds = refl;
      processes = refl;
      instances = refl;
      ramps = refl;
    }

pub adds_quantity : (o : Objects) (x : Quantity) → AddsObjects o (record o { quantities = o.quantities ++ x ∷ [] })
adds_quantity o x =
    record {
      enumerations = extends_same Enumeration o.enumerations;
      signals = extends_same Signal o.signals;
      quantities = extends_one Quantity o.quantities x;
      nodes = extends_same Node o.nodes;
      equations = refl;
      dots = refl;
      thresholds = refl;
      processes = refl;
      instances = refl;
      ramps = refl;
    }

pub adds_node : (o : Objects) (x : Node) → AddsObjects o (record o { nodes = o.nodes ++ x ∷ [] })
adds_node o x =
    record {
      enumerations = extends_same Enumeration o.enumerations;
      signals = extends_same Signal o.signals;
      quantities = extends_same Quantity o.quantities;
      nodes = extends_one Node o.nodes x;
      equations = refl;
      dots = refl;
      thresholds = refl;
      processes = refl;
      instances = refl;
      ramps = refl;
    }

pub adds_enumeration : (o : Objects) (x : Enumeration) → AddsObjects o (record o { enumerations = o.enumerations ++ x ∷ [] })
adds_enumeration o x =
    record {
      enumerations = extends_one Enumeration o.enumerations x;
      signals = extends_same Signal o.signals;
      quantities = extends_same Quantity o.quantities;
      nodes = extends_same Node o.nodes;
      equations = refl;
      dots = refl;
      thresholds = refl;
      processes = refl;
      instances = refl;
      ramps = refl;
    }

-- ---- names

abbrev pub Adds : Book → Book → Type 0
Adds a b = AddsObjects a.objects b.objects

pub signal_adds : (texts : List (List ℕ)) (access : Access) (v : Valued) (x : Name) (b : Book) → Adds b (signal_of texts access v x b)
signal_adds texts access v x b = adds_signal b.objects _

pub quantity_adds : (texts : List (List ℕ)) (k : QuantityKind) (c : QuantityClass) (initial : ℤ) (x : Name) (b : Book) → Adds b (quantity_of texts k c initial x b)
quantity_adds texts k c initial x b = adds_quantity b.objects _

pub node_adds : (texts : List (List ℕ)) (m : ℕ) (x : Name) (b : Book) → Adds b (node texts m x b)
node_adds texts m x b = adds_node b.objects _

pub each_adds : (rule : Name → Book → Book) → ((x : Name) (b : Book) → Adds b (rule x b)) → (names : List Name) (b : Book) → Adds b (each rule names b)
each_adds rule h [] b = adds_none b.objects
each_adds rule h (x ∷ more) b = adds_on b.objects (rule x b).objects (each rule more (rule x b)).objects (h x b) (each_adds rule h more (rule x b))

pub faulty_adds : (names : List Name) (b : Book) → Adds b (each faulty names b)
faulty_adds names b = each_adds faulty (λ x c. adds_none c.objects) names b

pub each_of_adds : (A : Type 0) (rule : A → Name → Book → Book) → ((a : A) (x : Name) (b : Book) → Adds b (rule a x b)) → (p : Part A) (names : List Name) (b : Book)
    → Adds b (each_of rule p names b)
each_of_adds A rule h (Kept a) names b = each_adds (rule a) (h a) names b
each_of_adds A rule h Wrong names b = faulty_adds names b
each_of_adds A rule h Hidden names b = faulty_adds names b

pub declaring_adds : (A : Type 0) (rule : A → Name → Book → Book) → ((a : A) (x : Name) (b : Book) → Adds b (rule a x b)) → (place : Place) (names : List Name)
    (found : Notes × Part A) (b : Book) → Adds b (declaring_each rule place names found b)
declaring_adds A rule h place names found b = each_of_adds A rule h found.1 names (with_notes (closed place found.1 found.0) b)
