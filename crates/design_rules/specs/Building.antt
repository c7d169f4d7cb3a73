-- How the promises on a process are found while it is made: statement by statement.
use Rattle.std.specs.Prelude.{◌≡◌, ℕ, List, [], ◌∷◌, ◌++◌, length, Option, Some}
use Rattle.std.specs.List.{slice_get}
use Rattle.flat_expr.specs.declared.expr.SignalName.{SignalName}
use Rattle.flat_expr.specs.declared.expr.FlatExpr.{FlatExpr}
use Rattle.flat_expr.specs.declared.statement.Statement.TheOpen.{Statement-F}
use Rattle.flat_design.specs.declared.objects.WaitPlace.{WaitPlace}
use Rattle.flat_expr.specs.declared.statement.Statement.{Statement, out-Statement}
use Rattle.flat_design.specs.declared.objects.PathStep.{PathStep}
use Rattle.flat_design.specs.declared.objects.Process.{Process}
use Rattle.flat_design.specs.declared.objects.Objects.{Objects}
use Rattle.cycle_meaning.specs.Task.{Layer}
use Rattle.design_rules.specs.Ways.{inner_body, IsBranch, parameter_in, LeadsTo, EachStatement, way_to, AreWaysRight, IsSafe, AreParametersSafe}
use Rattle.design_rules.specs.Statements.{IsAllowed}

-- a rule holds of each statement of a list in loops with these parameters
abbrev pub EachIn : (List ℕ → Layer → Type 0) → List ℕ → List Statement → Type 0
EachIn P ps body = EachStatement (λ inner goal. P (ps ++ inner) goal) body

-- of a statement of such a list, and of each inside it
abbrev pub HoldsAt : (List ℕ → Layer → Type 0) → List ℕ → Layer → Type 0
HoldsAt P ps layer = P ps layer × ((b : ℕ) → IsBranch b layer → EachIn P (ps ++ parameter_in layer) (inner_body b layer))

-- ---- allowed statements

-- the statements of a process are allowed if they are so in no loops
abbrev pub WholeIsAllowed : Type 0
WholeIsAllowed = (objects : Objects) (p : Process) → EachIn (IsAllowed objects p) [] p.statements → EachStatement (IsAllowed objects p) p.statements

-- no statement
abbrev pub NoneIsAllowed : Type 0
NoneIsAllowed = (objects : Objects) (p : Process) (ps : List ℕ) → EachIn (IsAllowed objects p) ps []

-- a further statement
abbrev pub OneMoreIsAllowed : Type 0
OneMoreIsAllowed =
    (objects : Objects) (p : Process) (ps : List ℕ) (body : List Statement) (s : Statement)
    → EachIn (IsAllowed objects p) ps body → HoldsAt (IsAllowed objects p) ps (out-Statement s) → EachIn (IsAllowed objects p) ps (body ++ s ∷ [])

-- ---- ways

-- of a list of statements to which these steps lead, in loops with these parameters: each of its waits has its way
abbrev pub AreRightIn : List WaitPlace → List PathStep → List ℕ → List Statement → Type 0
AreRightIn waits steps ps body =
    (more : List PathStep) (inner : List ℕ) (k number : ℕ) (on : List SignalName) (condition timeout : Option FlatExpr)
    → LeadsTo more inner k (Statement-F.Wait number on condition timeout) body
    → slice_get waits number ≡ Some (record { path = steps ++ way_to more k; parameters = ps ++ inner })

-- a wait has its way
abbrev pub IsPlaced : List WaitPlace → List PathStep → List ℕ → ℕ → Layer → Type 0
IsPlaced waits steps ps k (Statement-F.Wait number on condition timeout) = slice_get waits number ≡ Some (record { path = way_to steps k; parameters = ps })
IsPlaced waits steps ps k _ = Unit {0}

-- of a statement of such a list, by its number
abbrev pub IsRightAt : List WaitPlace → List PathStep → List ℕ → ℕ → Layer → Type 0
IsRightAt waits steps ps k layer =
    IsPlaced waits steps ps k layer
    × ((b : ℕ) → IsBranch b layer → AreRightIn waits (steps ++ record { statement = k; branch = b } ∷ []) (ps ++ parameter_in layer) (inner_body b layer))

-- the ways of a process are right if those in its statements are
abbrev pub WholeIsRight : Type 0
WholeIsRight = (p : Process) → AreRightIn p.waits [] [] p.statements → AreWaysRight p

-- no statement
abbrev pub NoneIsRight : Type 0
NoneIsRight = (waits : List WaitPlace) (steps : List PathStep) (ps : List ℕ) → AreRightIn waits steps ps []

-- a further statement
abbrev pub OneMoreIsRight : Type 0
OneMoreIsRight =
    (waits : List WaitPlace) (steps : List PathStep) (ps : List ℕ) (body : List Statement) (s : Statement)
    → AreRightIn waits steps ps body → IsRightAt waits steps ps (length body) (out-Statement s) → AreRightIn waits steps ps (body ++ s ∷ [])

-- further waits
abbrev pub MoreWaitsAreRight : Type 0
MoreWaitsAreRight =
    (waits more : List WaitPlace) (steps : List PathStep) (ps : List ℕ) (body : List Statement) → AreRightIn waits steps ps body → AreRightIn (waits ++ more) steps ps body

-- ---- the same of parameters

abbrev pub WholeIsSafe : Type 0
WholeIsSafe = (p : Process) → EachIn (IsSafe (length p.variables)) [] p.statements → AreParametersSafe p

abbrev pub NoneIsSafe : Type 0
NoneIsSafe = (n : ℕ) (ps : List ℕ) → EachIn (IsSafe n) ps []

abbrev pub OneMoreIsSafe : Type 0
OneMoreIsSafe =
    (n : ℕ) (ps : List ℕ) (body : List Statement) (s : Statement) → EachIn (IsSafe n) ps body → HoldsAt (IsSafe n) ps (out-Statement s) → EachIn (IsSafe n) ps (body ++ s ∷ [])
