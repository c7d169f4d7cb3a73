-- Signals, constants, nodes, quantities, types.
use Rattle.std.proofs.Common.{◌≡◌, ◌≤◌, ℕ, ℤ, pos, true, List, [], ◌∷◌, ◌++◌, length, Option, Some, None, refl, sym, subst, arith}
use Rattle.std.specs.Prelude.{unsigned_abs, nat_le}
use Rattle.std.specs.List.{slice_get}
use Rattle.std.proofs.lemmas.Bool.Decides.{nat_tests}
use Rattle.std.proofs.lemmas.List.Elements.{All-push}
use Rattle.fix_core.specs.Units.{most_units}
use Rattle.fix_core.specs.Fixed.{IsInRange}
use Rattle.ams_tree.specs.declared.expression.Name.{Name}
use Rattle.ams_tree.specs.declared.expression.Expr.{Expr}
use Rattle.ams_tree.specs.declared.declaration.SubtypeIndication.{SubtypeIndication}
use Rattle.ams_value.specs.declared.val.Val.{Val}
use Rattle.ams_value.specs.declared.val.Val.TheVariants as val
use Rattle.ams_value.specs.declared.value_type.ValueType.{ValueType}
use Rattle.ams_value.specs.declared.value_type.ValueType.TheVariants as t
use Rattle.flat_design.specs.declared.objects.Signal.{Signal}
use Rattle.flat_design.specs.declared.objects.Quantity.{Quantity}
use Rattle.flat_design.specs.declared.objects.QuantityKind.{QuantityKind}
use Rattle.flat_design.specs.declared.objects.Node.{Node}
use Rattle.flat_design.specs.declared.objects.Enumeration.{Enumeration}
use Rattle.flat_design.specs.declared.objects.Objects.{Objects}
use Rattle.flat_design.specs.declared.objects.Terminal.TheVariants as terminal
use Rattle.name_scope.specs.declared.thing.Access.{Access}
use Rattle.name_scope.specs.declared.thing.Kind.{Kind}
use Rattle.name_scope.specs.declared.thing.Kind.TheVariants.{Of}
use Rattle.name_scope.specs.declared.thing.QuantityClass.{QuantityClass}
use Rattle.name_scope.specs.declared.thing.Subtype.{Subtype}
use Rattle.name_scope.specs.declared.thing.Thing.{Thing}
use Rattle.name_scope.specs.declared.thing.Thing.TheVariants as thing
use Rattle.name_scope.specs.declared.scope.Scope.{Scope}
use Rattle.name_scope.specs.Scopes.{lookup}
use Rattle.elab_meaning.specs.declared.book.Book.{Book}
use Rattle.elab_meaning.specs.declared.fault.Notes.{Notes}
use Rattle.elab_meaning.specs.declared.part.Part.{Part}
use Rattle.elab_meaning.specs.declared.part.Part.TheVariants.{Kept, Wrong, Hidden}
use Rattle.elab_meaning.specs.declared.typed.Valued.{Valued}
use Rattle.elab_meaning.specs.Kinds.{same_kind, value_type}
use Rattle.elab_meaning.specs.Parts.{judged, found_thing}
use Rattle.elab_meaning.specs.Subtypes.{subtype, initial}
use Rattle.elab_meaning.specs.Declarations.{path_of, with_objects, with_signal, signal_of, constant_value, constant_of, constant, nature_of, nature_named, node, with_quantity, quantity_of, initial_real, free_of, free_value, free_quantity, type_of_subtype}
use Rattle.design_meaning.specs.Typed.{IsOfType}
use Rattle.design_rules.specs.Types.{sizes_of, equation_scope}
use Rattle.design_rules.specs.Design.{HasTerminals, IsSignal, IsQuantity}
use Rattle.reading_laws.specs.Growing.{Grows}
use Rattle.reading_laws.proofs.Growing.{grows_same, grows_on}
use Rattle.typed_laws.specs.Fitting.{FitsKind, FitsValue}
use Rattle.part_laws.specs.Parts.{OnKept}
use Rattle.part_laws.proofs.Parts.{judged_kept, where_kept}
use Rattle.scope_laws.specs.Holds.{HasNoFaults, SubtypeFits, ScopeHolds}
use Rattle.subtype_laws.specs.Subtypes.{ValuedFits}
use Rattle.subtype_laws.proofs.Growth.{grows_found, grows_subtype, grows_initial}
use Rattle.subtype_laws.proofs.Indications.{subtype_right}
use Rattle.subtype_laws.proofs.Values.{initial_right, valued_declared}
use Rattle.declaration_laws.proofs.Steps.{extends_same, extends_one, last_at, last_below, Keeps, keeps_on, declared_keeps, PartRight}

module _ (final : Objects) where
  abbrev Valid : Valued → Type 0
  Valid = ValuedFits (sizes_of final)

  abbrev Fits : Subtype → Type 0
  Fits = SubtypeFits (sizes_of final)

  -- ---- signals

  signal_added : (texts : List (List ℕ)) (v : Valued) (x : Name) (b : Book) → Keeps final (Valid v) b (with_signal texts v x b)
  signal_added texts v x b =
      record {
        grows = grows_same b.notes;
        stands =
            record {
              enumerations = extends_same Enumeration b.objects.enumerations;
              signals = extends_one Signal b.objects.signals _;
              quantities = extends_same Quantity b.objects.quantities;
              nodes = extends_same Node b.objects.nodes;
            };
        leaves = record { equations = refl; dots = refl; thresholds = refl; processes = refl; instances = refl; ramps = refl };
        right = λ c f s h.
            record {
              scope = h.scope;
              objects =
                  record {
                    signals = All-push (IsSignal final) b.objects.signals _ h.objects.signals (valued_declared (sizes_of final) v c);
                    quantities = h.objects.quantities;
                    enumerations = h.objects.enumerations;
                    enumeration_count = h.objects.enumeration_count;
                  };
            };
      }

  of_value_type : (o : Option ValueType) (k : Kind) (s : ValueType) → k ≡ Of s → o ≡ Some (value_type k) → FitsKind o k
  of_value_type o k s is h =
      subst (λ (z : Kind). FitsKind o z) (sym is) (subst (λ (z : Kind). o ≡ Some (value_type z)) is h)

  pub signal_keeps : (texts : List (List ℕ)) (access : Access) (v : Valued) (x : Name) (b : Book) → Keeps final (Valid v) b (signal_of texts access v x b)
  signal_keeps texts access v x b =
      let mid = with_signal texts v x b in
      let t = thing.Signal (length b.objects.signals) v.subtype access in
      keeps_on final (Valid v) b mid (signal_of texts access v x b) (signal_added texts v x b)
      (declared_keeps final (Valid v) t x mid
      (λ c s.
      record {
        fits =
            of_value_type (slice_get (equation_scope final).signals (length b.objects.signals)) v.subtype.kind c.subtype.kind c.subtype.kind_is
            (last_at Signal ValueType (λ (y : Signal). y.kind) b.objects.signals _ final.signals s.signals);
        also = c.subtype;
      }))

  -- ---- constants

  pub constant_fits : (v : Valued) → Valid v → FitsValue (equation_scope final) v.subtype.kind (constant_value v.subtype.kind v.value)
  constant_fits v c =
      subst (λ (k : Kind). FitsValue (equation_scope final) k (constant_value k v.value)) (sym c.subtype.kind_is)
      (subst (λ (o : Option Val). FitsValue (equation_scope final) (Of c.subtype.kind) o) (sym c.value_is) c.typed)

  pub constant_keeps : (v : Valued) (x : Name) (b : Book) → Keeps final (Valid v) b (constant v x b)
  constant_keeps v x b = declared_keeps final (Valid v) (constant_of v) x b (λ c s. record { fits = constant_fits v c; also = c.subtype })

  -- ---- subtypes

  pub type_keeps : (s : Subtype) (x : Name) (b : Book) → Keeps final (Fits s) b (type_of_subtype s x b)
  type_keeps s x b = declared_keeps final (Fits s) (thing.Type s None) x b (λ c e. record { fits = tt; also = c })

  -- ---- terminals

  abbrev pub Anything : ℕ → Type 0
  Anything m = Unit {0}

  nature_kept : (x : Thing) → OnKept Anything (nature_of x)
  nature_kept (thing.Nature m) = tt
  nature_kept _ = tt

  judged_nature : (p : Part Thing) → OnKept Anything (judged nature_of p)
  judged_nature (Kept x) = nature_kept x
  judged_nature Wrong = tt
  judged_nature Hidden = tt

  pub nature_right : (x : Name) (b : Book) → PartRight final ℕ Anything (nature_named x b) b
  nature_right x b h f = judged_nature (found_thing x (lookup b.scope x.number) b.notes).1

  pub grows_nature : (x : Name) (b : Book) → Grows b.notes (nature_named x b).0
  grows_nature x b = grows_found x (lookup b.scope x.number) b.notes

  node_added : (texts : List (List ℕ)) (x : Name) (b : Book)
      → Keeps final (Unit {0}) b (with_objects (record b.objects { nodes = b.objects.nodes ++ record { path = path_of texts x b } ∷ [] }) b)
  node_added texts x b =
      record {
        grows = grows_same b.notes;
        stands =
            record {
              enumerations = extends_same Enumeration b.objects.enumerations;
              signals = extends_same Signal b.objects.signals;
              quantities = extends_same Quantity b.objects.quantities;
              nodes = extends_one Node b.objects.nodes _;
            };
        leaves = record { equations = refl; dots = refl; thresholds = refl; processes = refl; instances = refl; ramps = refl };
        right = λ c f s h.
            record {
              scope = h.scope;
              objects =
                  record {
                    signals = h.objects.signals;
                    quantities = h.objects.quantities;
                    enumerations = h.objects.enumerations;
                    enumeration_count = h.objects.enumeration_count;
                  };
            };
      }

  pub node_keeps : (texts : List (List ℕ)) (m : ℕ) (x : Name) (b : Book) → Keeps final (Anything m) b (node texts m x b)
  node_keeps texts m x b =
      let mid = with_objects (record b.objects { nodes = b.objects.nodes ++ record { path = path_of texts x b } ∷ [] }) b in
      keeps_on final (Unit {0}) b mid (node texts m x b) (node_added texts x b)
      (declared_keeps final (Unit {0}) (thing.Terminal (terminal.Node (length b.objects.nodes)) m) x mid
      (λ c s. record { fits = last_below Node b.objects.nodes _ final.nodes s.nodes; also = tt }))

  -- ---- quantities

  pub record IsNewQuantity (k : QuantityKind) (initial : ℤ) : Type 0 where
    pub terminals : HasTerminals final k
    pub number : IsInRange initial

  quantity_added : (texts : List (List ℕ)) (k : QuantityKind) (initial : ℤ) (x : Name) (b : Book) → Keeps final (IsNewQuantity k initial) b (with_quantity texts k initial x b)
  quantity_added texts k initial x b =
      record {
        grows = grows_same b.notes;
        stands =
            record {
              enumerations = extends_same Enumeration b.objects.enumerations;
              signals = extends_same Signal b.objects.signals;
              quantities = extends_one Quantity b.objects.quantities _;
              nodes = extends_same Node b.objects.nodes;
            };
        leaves = record { equations = refl; dots = refl; thresholds = refl; processes = refl; instances = refl; ramps = refl };
        right = λ c f s h.
            record {
              scope = h.scope;
              objects =
                  record {
                    signals = h.objects.signals;
                    quantities = All-push (IsQuantity final) b.objects.quantities _ h.objects.quantities (record { terminals = c.terminals; initial = c.number });
                    enumerations = h.objects.enumerations;
                    enumeration_count = h.objects.enumeration_count;
                  };
            };
      }

  pub quantity_keeps : (texts : List (List ℕ)) (k : QuantityKind) (q : QuantityClass) (initial : ℤ) (x : Name) (b : Book)
      → Keeps final (IsNewQuantity k initial) b (quantity_of texts k q initial x b)
  quantity_keeps texts k q initial x b =
      let mid = with_quantity texts k initial x b in
      keeps_on final (IsNewQuantity k initial) b mid (quantity_of texts k q initial x b) (quantity_added texts k initial x b)
      (declared_keeps final (IsNewQuantity k initial) (thing.Quantity (length b.objects.quantities) q) x mid
      (λ c s. record { fits = last_below Quantity b.objects.quantities _ final.quantities s.quantities; also = tt }))

  -- ---- free quantities

  up_to : (m n : ℕ) → nat_le m n ≡ true → m ≤ n
  up_to m n h = grind (arith, nat_tests)

  real_in : (sizes : List ℕ) (k : ValueType) (v : Val) → IsOfType sizes k v → IsInRange (initial_real (Some v))
  real_in sizes k (val.Real r) h = up_to (unsigned_abs r) most_units h.range
  real_in sizes k _ h = omega arith

  initial_in : (v : Valued) → Valid v → IsInRange (initial_real v.value)
  initial_in v c = subst (λ (o : Option Val). IsInRange (initial_real o)) (sym c.value_is) (real_in (sizes_of final) c.subtype.kind c.value c.typed)

  pub free_kept : (s : Subtype) → Fits s → OnKept Fits (free_of s)
  free_kept s h = where_kept Subtype Fits (same_kind s.kind (Of t.Real)) s (λ is. h)

  number_right : (texts : List (List ℕ)) (scope : Scope) → ScopeHolds (equation_scope final) [] [] scope → (s : Part Subtype) (x : Option Expr) (n : Notes) → (HasNoFaults n → OnKept Fits s)
      → HasNoFaults (free_value texts scope s x n).0 → OnKept IsInRange (free_value texts scope s x n).1
  number_right texts scope holding s None n h f = judged_kept Subtype ℤ Fits IsInRange (λ (k : Subtype). Kept (pos 0)) (λ k c. omega arith) s (h f)
  number_right texts scope holding s (Some x) n h f =
      let v = initial texts scope s (Some x) n in
      judged_kept Valued ℤ Valid IsInRange (λ (k : Valued). Kept (initial_real k.value)) initial_in v.1 (initial_right (equation_scope final) [] [] texts scope holding s (Some x) n h f)

  grows_number : (texts : List (List ℕ)) (scope : Scope) (s : Part Subtype) (x : Option Expr) (n : Notes) → Grows n (free_value texts scope s x n).0
  grows_number texts scope s None n = grows_same n
  grows_number texts scope s (Some x) n = grows_initial texts scope s (Some x) n

  pub free_right : (texts : List (List ℕ)) (i : SubtypeIndication) (x : Option Expr) (b : Book) → PartRight final ℤ IsInRange (free_quantity texts i x b) b
  free_right texts i x b h f =
      let s = subtype texts b.scope i b.notes in
      number_right texts b.scope h.scope (judged free_of s.1) x s.0
      (λ g. judged_kept Subtype Subtype Fits Fits free_of free_kept s.1 (subtype_right (equation_scope final) [] [] texts b.scope h.scope i b.notes g)) f

  pub grows_free : (texts : List (List ℕ)) (i : SubtypeIndication) (x : Option Expr) (b : Book) → Grows b.notes (free_quantity texts i x b).0
  grows_free texts i x b =
      let s = subtype texts b.scope i b.notes in
      grows_on b.notes s.0 (free_value texts b.scope (judged free_of s.1) x s.0).0 (grows_subtype texts b.scope i b.notes) (grows_number texts b.scope (judged free_of s.1) x s.0)
