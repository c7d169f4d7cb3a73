-- All that is asked of the statements of a process, by the place where each stands.
use Rattle.std.specs.Prelude.{◌≡◌, ◌⊎◌, ℕ, IsTrue, List, [], ◌∷◌, ◌++◌, length}
use Rattle.std.specs.List.{All}
use Rattle.flat_expr.specs.declared.subtype.Constraint.{Constraint}
use Rattle.flat_expr.specs.declared.statement.DelayMechanism.{DelayMechanism}
use Rattle.flat_expr.specs.declared.statement.WaveElement.{WaveElement}
use Rattle.flat_expr.specs.declared.statement.Statement.{Statement, out-Statement}
use Rattle.flat_expr.specs.declared.statement.Statement.TheOpen.{Statement-F}
use Rattle.flat_design.specs.declared.objects.Objects.{Objects}
use Rattle.flat_design.specs.declared.objects.PathStep.{PathStep}
use Rattle.flat_design.specs.declared.objects.Process.{Process}
use Rattle.cycle_meaning.specs.Task.{Layer}
use Rattle.cycle_meaning.specs.World.{drives}
use Rattle.design_rules.specs.Ways.{IsBranch, inner_body, parameter_in, LeadsTo, IsSafe, HasOwn}
use Rattle.design_rules.specs.Building.{IsPlaced}
use Rattle.design_rules.specs.Statements.{IsAllowed}
use Rattle.design_rules.specs.Design.{IsVariable, IsProcess}

-- a rule holds of each statement of a list to which these steps lead, in loops with these parameters, and of each inside it
abbrev pub EachPlace : (List PathStep → List ℕ → ℕ → Layer → Type 0) → List PathStep → List ℕ → List Statement → Type 0
EachPlace P steps ps body = (more : List PathStep) (inner : List ℕ) (k : ℕ) (goal : Layer) → LeadsTo more inner k goal body → P (steps ++ more) (ps ++ inner) k goal

-- of a statement of such a list, by its number, and of each inside it
abbrev pub HoldsHere : (List PathStep → List ℕ → ℕ → Layer → Type 0) → List PathStep → List ℕ → ℕ → Layer → Type 0
HoldsHere P steps ps k layer =
    P steps ps k layer × ((b : ℕ) → IsBranch b layer → EachPlace P (steps ++ record { statement = k; branch = b } ∷ []) (ps ++ parameter_in layer) (inner_body b layer))

-- a statement is allowed, a wait has its way, a parameter is safe and none of those of the loops round it
pub record Stands (objects : Objects) (p : Process) (steps : List PathStep) (ps : List ℕ) (k : ℕ) (layer : Layer) : Type 0 where
  pub allowed : IsAllowed objects p ps layer
  pub placed : IsPlaced p.waits steps ps k layer
  pub safe : IsSafe (length p.variables) ps layer
  pub own : HasOwn ps layer

-- ---- assignments of a signal

-- some statement of the list, or inside it, assigns the signal of this number
abbrev pub Assigns : ℕ → List Statement → Type 0
Assigns i body =
    (steps : List PathStep) × (ps : List ℕ) × (k : ℕ) × (c : Constraint) × (m : DelayMechanism) × (wave : List WaveElement)
    × LeadsTo steps ps k (Statement-F.SignalAssignment i c m wave) body

-- the statement does, or one inside it
abbrev pub AssignsHere : ℕ → Layer → Type 0
AssignsHere i layer =
    ((c : Constraint) × (m : DelayMechanism) × (wave : List WaveElement) × (layer ≡ Statement-F.SignalAssignment i c m wave))
    ⊎ ((b : ℕ) × IsBranch b layer × Assigns i (inner_body b layer))

-- ---- how it is found

-- a process whose statements all stand right, and whose drivers are used
abbrev pub WholeStands : Type 0
WholeStands =
    (objects : Objects) (p : Process) → All (IsVariable objects) p.variables → EachPlace (Stands objects p) [] [] p.statements
    → ((i : ℕ) → IsTrue (drives i p) → Assigns i p.statements) → IsProcess objects p

-- no statement
abbrev pub NoneStands : Type 0
NoneStands = (objects : Objects) (p : Process) (steps : List PathStep) (ps : List ℕ) → EachPlace (Stands objects p) steps ps []

-- a further statement
abbrev pub OneMoreStands : Type 0
OneMoreStands =
    (objects : Objects) (p : Process) (steps : List PathStep) (ps : List ℕ) (body : List Statement) (s : Statement)
    → EachPlace (Stands objects p) steps ps body → HoldsHere (Stands objects p) steps ps (length body) (out-Statement s)
    → EachPlace (Stands objects p) steps ps (body ++ s ∷ [])

-- a signal that a statement assigns is assigned in a list with it, and so is one of the others
pub record DriversAreFound : Type 0 where
  pub first : (i : ℕ) (s : Statement) (body : List Statement) → AssignsHere i (out-Statement s) → Assigns i (s ∷ body)
  pub later : (i : ℕ) (s : Statement) (body : List Statement) → Assigns i body → Assigns i (s ∷ body)
