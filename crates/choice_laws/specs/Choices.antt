-- Choices of a case that are read, sequential or simultaneous (IEEE 1076, 10.9; IEEE 1076.1, simultaneous case statement).
use Rattle.std.specs.Prelude.{◌≡◌, ◌<◌, ℕ, true, List, [], ◌∷◌, length, map, get_or, Some, IfSome}
use Rattle.std.specs.List.{flat_map, slice_get}
use Rattle.ams_token.specs.declared.token.Place.{Place}
use Rattle.ams_tree.specs.declared.expression.Expr.{Expr}
use Rattle.ams_tree.specs.declared.concurrent.SimultaneousAlternative.{SimultaneousAlternative}
use Rattle.ams_tree.specs.declared.sequential.Seq.TheOpen.{Alternative-F}
use Rattle.ams_value.specs.declared.value_type.ValueType.{ValueType}
use Rattle.ams_value.specs.declared.value_type.ValueType.TheVariants.{Enumeration as EnumerationType}
use Rattle.flat_expr.specs.declared.statement.Statement.{Statement}
use Rattle.flat_expr.specs.declared.statement.Alternative.{Alternative, out-Alternative}
use Rattle.flat_design.specs.declared.objects.Enumeration.{Enumeration}
use Rattle.flat_design.specs.declared.objects.Equation.{Equation as Made}
use Rattle.flat_design.specs.declared.objects.Objects.{Objects}
use Rattle.name_scope.specs.declared.thing.Kind.{Kind}
use Rattle.name_scope.specs.declared.thing.Kind.TheVariants.{Of}
use Rattle.name_scope.specs.declared.scope.Scope.{Scope}
use Rattle.elab_meaning.specs.declared.fault.Notes.{Notes}
use Rattle.elab_meaning.specs.declared.typed.Asked.{Asked}
use Rattle.elab_meaning.specs.declared.typed.Context.{Context}
use Rattle.elab_meaning.specs.declared.typed.Typed.{Typed}
use Rattle.elab_meaning.specs.Expressions.{static}
use Rattle.unit_meaning.specs.declared.draft.Draft.{Draft}
use Rattle.unit_meaning.specs.declared.draft.Spot.{Spot}
use Rattle.unit_meaning.specs.Settings.{Setting, choosing, typed}
use Rattle.unit_meaning.specs.Cases.{nothing_seen, literal_count, covers}
use Rattle.unit_meaning.specs.Sequential.{Reads, CaseReads, BranchReads, body, alternatives, alternative_step}
use Rattle.unit_meaning.specs.Simultaneous.{same_lengths, case_lengths, case_statement}
use Rattle.design_meaning.specs.Typed as flat
use Rattle.design_rules.specs.Types.{equation_scope, sizes_of, IsVisible}
use Rattle.design_rules.specs.Choices.{AreChoices}
use Rattle.design_rules.specs.Equations.{IsEquation}
use Rattle.reading_laws.specs.Growing.{Grows}
use Rattle.typed_laws.specs.Fitting.{FitsValue, ScopeFits, HasRoom}
use Rattle.part_laws.specs.Parts.{OnKept, KeepsPart}

-- no rule is broken so far, and the design has room for what is noted
pub record IsFine (objects : flat.Scope) (n : Notes) : Type 0 where
  pub faults : n.faults ≡ []
  pub room : HasRoom objects n

-- where no rule is broken, each value that is asked before the run is known, and of its type
abbrev pub AsksValues : flat.Scope → List (List ℕ) → Scope → Type 0
AsksValues objects texts scope =
    (x : Expr) (c : Context) (n : Notes) → (static texts scope x c n).0.faults ≡ [] → IfSome (static texts scope x c n).1 (λ (a : Asked). FitsValue objects a.kind a.value)

-- an enumeration type has as many literals where it is read as in the design
abbrev pub CountsLiterals : List Enumeration → List ℕ → Kind → Type 0
CountsLiterals types sizes (Of (EnumerationType m)) = literal_count (slice_get types m) ≡ get_or sizes m 0
CountsLiterals types sizes k = Unit {0}

abbrev pub CountsOf : List Enumeration → List ℕ → Typed → Type 0
CountsOf types sizes t = CountsLiterals types sizes t.kind

-- ---- sequential cases

abbrev pub WrittenAlternative : Type 0
WrittenAlternative = Alternative-F (Reads Statement) CaseReads BranchReads

-- reading the statements of an alternative adds to the notes
abbrev pub BodyGrows : WrittenAlternative → Type 0
BodyGrows a = (scope : Scope) (spot : Spot) (d : Draft) → Grows d.notes (body a.body scope spot 0 d).0.notes

abbrev pub EachGrows : List WrittenAlternative → Type 0
EachGrows [] = Unit {0}
EachGrows (a ∷ more) = BodyGrows a × EachGrows more

-- the choices of alternatives that are kept, for an expression of this type
abbrev pub HasChoices : List ℕ → ValueType → List Alternative → Type 0
HasChoices sizes k all = AreChoices sizes k (flat_map (λ (a : Alternative). (out-Alternative a).choices) all) (map (λ (a : Alternative). (out-Alternative a).others) all)

-- ---- the law

pub record ChoicesAreRight : Type 0 where
  -- the alternatives of a case statement, if they cover the type
  pub sequential : (objects : flat.Scope) (w : Setting) (scope : Scope) (k : ValueType) (all : List WrittenAlternative) (spot : Spot) (i b : ℕ) (d : Draft)
      → AsksValues objects w.texts scope → CountsLiterals w.enumerations objects.enumerations (Of k) → EachGrows all
      → (alternatives (map (alternative_step w) all) scope spot i b (Some (Of k)) nothing_seen d).0.notes.faults ≡ []
      → covers w.enumerations (Of k) (alternatives (map (alternative_step w) all) scope spot i b (Some (Of k)) nothing_seen d).1.0 ≡ true
      → OnKept (HasChoices objects.enumerations k) (alternatives (map (alternative_step w) all) scope spot i b (Some (Of k)) nothing_seen d).1.1
  -- a simultaneous case with an alternative, whose alternatives have one number of equations
  pub simultaneous : (objects : Objects) (w : Setting) (scope : Scope) (place : Place) (x : Expr) (all : List SimultaneousAlternative) (n : Notes)
      → ScopeFits (equation_scope objects) (IsVisible [] []) scope → AsksValues (equation_scope objects) w.texts scope
      → OnKept (CountsOf w.enumerations (sizes_of objects)) (typed w scope choosing x n).1 → 0 < length all → same_lengths (case_lengths all) ≡ true
      → KeepsPart Made (IsFine (equation_scope objects)) (IsEquation objects) n (case_statement w scope place x all n)
