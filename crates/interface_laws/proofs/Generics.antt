-- Generics with their values.
use Rattle.std.proofs.Common.{◌≡◌, ◌+◌, ℕ, Bool, true, false, if◌then◌else◌, List, [], ◌∷◌, Option, Some, None, IfSome, length, refl, sym, subst}
use Rattle.std.specs.List.{All}
use Rattle.ams_tree.specs.declared.expression.Name.{Name}
use Rattle.ams_tree.specs.declared.expression.Expr.{Expr}
use Rattle.ams_tree.specs.declared.declaration.Generic.{Generic}
use Rattle.ams_tree.specs.declared.declaration.SubtypeIndication.{SubtypeIndication}
use Rattle.ams_value.specs.declared.val.Val.{Val}
use Rattle.ams_value.specs.declared.value_type.ValueType.{ValueType}
use Rattle.flat_design.specs.declared.objects.Objects.{Objects}
use Rattle.name_scope.specs.declared.thing.Kind.{Kind}
use Rattle.name_scope.specs.declared.thing.Kind.TheVariants.{Of, Vector}
use Rattle.name_scope.specs.declared.thing.Subtype.{Subtype}
use Rattle.name_scope.specs.declared.scope.Scope.{Scope}
use Rattle.elab_meaning.specs.declared.book.Book.{Book}
use Rattle.elab_meaning.specs.declared.fault.Cause.TheVariants.{WrongType}
use Rattle.elab_meaning.specs.declared.fault.Notes.{Notes}
use Rattle.elab_meaning.specs.declared.part.Part.{Part}
use Rattle.elab_meaning.specs.declared.part.Part.TheVariants.{Kept, Wrong, Hidden}
use Rattle.elab_meaning.specs.declared.typed.Valued.{Valued}
use Rattle.elab_meaning.specs.Notes.{noted}
use Rattle.elab_meaning.specs.Kinds.{same_kind}
use Rattle.elab_meaning.specs.Parts.{kept, closed}
use Rattle.elab_meaning.specs.Subtypes.{subtype, holds_known, valued}
use Rattle.elab_meaning.specs.Declarations.{constant_value, declared, with_notes}
use Rattle.unit_meaning.specs.declared.request.Actual.{Actual}
use Rattle.unit_meaning.specs.declared.request.Actual.TheVariants as actual
use Rattle.unit_meaning.specs.declared.request.Assigned.{Assigned}
use Rattle.unit_meaning.specs.Interfaces.{first_place, unvalued, generic_default}
use Rattle.unit_meaning.specs.Walk.{actual_at, range_notes, kind_suits, actual_value, default_thing, generic_entered, generic_names, is_there, generics_entered}
use Rattle.design_meaning.specs.Typed.{IsOfType}
use Rattle.design_rules.specs.Types.{sizes_of, equation_scope}
use Rattle.reading_laws.specs.Growing.{Grows}
use Rattle.reading_laws.proofs.Growing.{grows_same, grows_noted}
use Rattle.typed_laws.specs.Fitting.{FitsValue}
use Rattle.part_laws.specs.Parts.{OnKept}
use Rattle.part_laws.proofs.Parts.{same_type_is, judged_kept}
use Rattle.part_laws.proofs.Process.{kept_as}
use Rattle.scope_laws.specs.Holds.{HasNoFaults, SubtypeFits, ScopeHolds}
use Rattle.subtype_laws.specs.Subtypes.{ValuedFits}
use Rattle.subtype_laws.proofs.Growth.{grows_subtype, grows_valued}
use Rattle.subtype_laws.proofs.Indications.{subtype_right}
use Rattle.subtype_laws.proofs.Values.{valued_right}
use Rattle.declaration_laws.specs.Books.{KeepsBook}
use Rattle.declaration_laws.proofs.Steps.{Keeps, keeps_same, keeps_on, always, weaker, book_on, book_same, Holds, declared_keeps, notes_keep, PartRight, behind_part}
use Rattle.declaration_laws.proofs.Objects.{constant_fits}
use Rattle.interface_laws.specs.Requests.{IsGenericActual, IsGenericAssigned}
use Rattle.interface_laws.proofs.Matches.{then_some, Given, actual_is}

module _ (final : Objects) where
  -- the subtype of a generic, and its default where it has one
  record IsDefault (has : Bool) (v : Valued) : Type 0 where
    subtype : SubtypeFits (sizes_of final) v.subtype
    value : has ≡ true → ValuedFits (sizes_of final) v

  abbrev OnDefault : Bool → Option Valued → Type 0
  OnDefault has d = IfSome d (IsDefault has)

  -- ---- one generic

  of_kind : (k : ValueType) (s j : Kind) (v : Option Val) → s ≡ Of k → same_kind s j ≡ true → FitsValue (equation_scope final) j v → FitsValue (equation_scope final) s (constant_value s v)
  of_kind k s (Of u) (Some v) of is h =
      let same : same_kind (Of k) (Of u) ≡ true = subst (λ (z : Kind). same_kind z (Of u) ≡ true) of is in
      subst (λ (z : Kind). FitsValue (equation_scope final) z (constant_value z (Some v))) (sym of)
      (subst (λ (z : ValueType). IsOfType (sizes_of final) z v) (sym (same_type_is k u same)) h)
  of_kind k s (Of u) None of is h = absurd h
  of_kind k s Vector v of is h = absurd h

  value_holds : (has : Bool) (d : Option Valued) (x : Actual) → kind_suits d x ≡ true → IsGenericActual final x → OnDefault has d → Holds final (actual_value d x)
  value_holds has (Some d) (actual.Value k v) is h c =
      record { fits = of_kind c.subtype.kind d.subtype.kind k v c.subtype.kind_is is h; also = c.subtype }
  value_holds has (Some d) actual.Open is h c = record { fits = tt; also = tt }
  value_holds has (Some d) (actual.Object y t) is h c = record { fits = tt; also = tt }
  value_holds has None x is h c = record { fits = tt; also = tt }

  grows_choice : (b : Bool) (a : Assigned) (n : Notes) → Grows n (if b then n else noted a.place WrongType n)
  grows_choice true a n = grows_same n
  grows_choice false a n = grows_noted a.place WrongType n

  grows_range : (d : Option Valued) (a : Assigned) (n : Notes) → Grows n (range_notes d a n)
  grows_range None a n = grows_same n
  grows_range (Some d) a n = go a.actual
    where
      go : (x : Actual) → Grows n (elim x as (λ y. Notes) [ actual.Value k v ↦ (if holds_known d.subtype.constraint v then n else noted a.place WrongType n) | actual.Open ↦ n | actual.Object z t ↦ n ])
      go (actual.Value k v) = grows_choice (holds_known d.subtype.constraint v) a n
      go actual.Open = grows_same n
      go (actual.Object z t) = grows_same n

  default_holds : (d : Option Valued) → OnDefault true d → Holds final (default_thing d)
  default_holds (Some d) c =
      let v = c.value refl in
      record { fits = constant_fits final d v; also = c.subtype }
  default_holds None c = record { fits = tt; also = tt }

  one_keeps : (d : Option Valued) (has : Bool) (o : Option Assigned) (x : Name) (b : Book) → IfSome o (IsGenericAssigned final)
      → IfSome (generic_entered d has o x b) (Keeps final (OnDefault has d) b)
  one_keeps d true None x b h = declared_keeps final (OnDefault true d) (default_thing d) x b (λ c s. default_holds d c)
  one_keeps d false None x b h = tt
  one_keeps d has (Some a) x b h = go (kind_suits d a.actual) refl
    where
      go : (c : Bool) → kind_suits d a.actual ≡ c
          → IfSome (if c then Some (declared (actual_value d a.actual) x (with_notes (range_notes d a b.notes) b)) else None) (Keeps final (OnDefault has d) b)
      go true is =
          let mid = with_notes (range_notes d a b.notes) b in
          keeps_on final (OnDefault has d) b mid (declared (actual_value d a.actual) x mid)
          (always final (OnDefault has d) b mid (notes_keep final (range_notes d a b.notes) b (grows_range d a b.notes)))
          (declared_keeps final (OnDefault has d) (actual_value d a.actual) x mid (λ c s. value_holds has d a.actual is h c))
      go false is = tt

  -- ---- the names of one declaration

  names_keep : (given : List (ℕ × Assigned)) → All (Given (IsGenericAssigned final)) given → (d : Option Valued) (has : Bool) (i : ℕ) (names : List Name) (b : Book)
      → IfSome (generic_names given d has i names b) (Keeps final (OnDefault has d) b)
  names_keep given h d has i [] b = keeps_same final (OnDefault has d) b
  names_keep given h d has i (x ∷ more) b =
      then_some Book Book (Keeps final (OnDefault has d) b) (Keeps final (OnDefault has d) b) (generic_names given d has (i + 1) more) (generic_entered d has (actual_at given i) x b)
      (one_keeps d has (actual_at given i) x b (actual_is (IsGenericAssigned final) given i h))
      (λ mid k.
      later (OnDefault has d) b mid (generic_names given d has (i + 1) more mid) k (names_keep given h d has (i + 1) more mid))
    where
      later : (C : Type 0) (b mid : Book) (o : Option Book) → Keeps final C b mid → IfSome o (Keeps final C mid) → IfSome o (Keeps final C b)
      later C b mid (Some behind) k l = keeps_on final C b mid behind k l
      later C b mid None k l = tt

  -- ---- subtypes and defaults

  grows_default : (texts : List (List ℕ)) (scope : Scope) (i : SubtypeIndication) (x : Option Expr) (n : Notes) → Grows n (generic_default texts scope i x n).0
  grows_default texts scope i None n = grows_subtype texts scope i n
  grows_default texts scope i (Some x) n = grows_valued texts scope i (Some x) n

  unvalued_default : (s : Subtype) → SubtypeFits (sizes_of final) s → OnKept (IsDefault false) (unvalued s)
  unvalued_default s h = record { subtype = h; value = λ e. absurd (cc) }

  default_right : (texts : List (List ℕ)) (scope : Scope) → ScopeHolds (equation_scope final) [] [] scope → (i : SubtypeIndication) (x : Option Expr) (n : Notes)
      → HasNoFaults (generic_default texts scope i x n).0 → OnKept (IsDefault (is_there x)) (generic_default texts scope i x n).1
  default_right texts scope holding i None n f =
      judged_kept Subtype Valued (SubtypeFits (sizes_of final)) (IsDefault false) unvalued unvalued_default (subtype texts scope i n).1
      (subtype_right (equation_scope final) [] [] texts scope holding i n f)
  default_right texts scope holding i (Some x) n f =
      kept_as Valued (ValuedFits (sizes_of final)) (IsDefault true) (λ v h. record { subtype = h.subtype; value = λ e. h }) (valued texts scope i (Some x) n).1
      (valued_right (equation_scope final) [] [] texts scope holding i (Some x) n f)

  on_kept : (has : Bool) (p : Part Valued) → OnKept (IsDefault has) p → OnDefault has (kept p)
  on_kept has (Kept v) h = h
  on_kept has Wrong h = tt
  on_kept has Hidden h = tt

  -- ---- the whole

  declaration_keeps : (texts : List (List ℕ)) (given : List (ℕ × Assigned)) → All (Given (IsGenericAssigned final)) given → (i : ℕ) (g : Generic) (b : Book) (d : Notes × Part Valued)
      → d ≡ generic_default texts b.scope g.indication g.default b.notes
      → IfSome (generic_names given (kept d.1) (is_there g.default) i g.names (with_notes (closed (first_place g.constant g.names) d.1 d.0) b)) (KeepsBook final b)
  declaration_keeps texts given h i g b d is =
      let place = first_place g.constant g.names in
      let start = with_notes (closed place d.1 d.0) b in
      go (generic_names given (kept d.1) (is_there g.default) i g.names start) (names_keep given h (kept d.1) (is_there g.default) i g.names start)
    where
      go : (o : Option Book) → IfSome o (Keeps final (OnDefault (is_there g.default) (kept d.1)) (with_notes (closed (first_place g.constant g.names) d.1 d.0) b)) → IfSome o (KeepsBook final b)
      go None k = tt
      go (Some behind) k =
          behind_part final Valued (IsDefault (is_there g.default)) (first_place g.constant g.names) d b behind
          (subst (λ (z : Notes × Part Valued). Grows b.notes z.0) (sym is) (grows_default texts b.scope g.indication g.default b.notes))
          (subst (λ (z : Notes × Part Valued). PartRight final Valued (IsDefault (is_there g.default)) z b) (sym is)
          (λ holding f. default_right texts b.scope holding.scope g.indication g.default b.notes f))
          (weaker final (OnKept (IsDefault (is_there g.default)) d.1) (OnDefault (is_there g.default) (kept d.1)) (with_notes (closed (first_place g.constant g.names) d.1 d.0) b) behind
          (on_kept (is_there g.default) d.1) k)

  pub generics_keep : (texts : List (List ℕ)) (given : List (ℕ × Assigned)) → All (Given (IsGenericAssigned final)) given → (i : ℕ) (gs : List Generic) (b : Book)
      → IfSome (generics_entered texts given i gs b) (KeepsBook final b)
  generics_keep texts given h i [] b = book_same final b
  generics_keep texts given h i (g ∷ more) b =
      let d = generic_default texts b.scope g.indication g.default b.notes in
      then_some Book Book (KeepsBook final b) (KeepsBook final b) (generics_entered texts given (i + length g.names) more)
      (generic_names given (kept d.1) (is_there g.default) i g.names (with_notes (closed (first_place g.constant g.names) d.1 d.0) b))
      (declaration_keeps texts given h i g b d refl)
      (λ mid k. later b mid (generics_entered texts given (i + length g.names) more mid) k (generics_keep texts given h (i + length g.names) more mid))
    where
      later : (b mid : Book) (o : Option Book) → KeepsBook final b mid → IfSome o (KeepsBook final mid) → IfSome o (KeepsBook final b)
      later b mid (Some behind) k l = book_on final b mid behind k l
      later b mid None k l = tt
