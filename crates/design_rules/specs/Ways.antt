-- Ways from the statements of a process to the statements inside them, and what is asked along them.
use Rattle.std.specs.Prelude.{◌≡◌, ◌≤◌, ◌<◌, ℕ, false, nat_eq, List, [], ◌∷◌, ◌++◌, length, Option, Some, None}
use Rattle.std.specs.List.{slice_get, list_any}
use Rattle.flat_expr.specs.declared.expr.SignalName.{SignalName}
use Rattle.flat_expr.specs.declared.expr.FlatExpr.{FlatExpr}
use Rattle.flat_expr.specs.declared.statement.Statement.{Statement, out-Statement}
use Rattle.flat_expr.specs.declared.statement.Statement.TheOpen.{Statement-F}
use Rattle.flat_design.specs.declared.objects.PathStep.{PathStep}
use Rattle.flat_design.specs.declared.objects.Process.{Process}
use Rattle.cycle_meaning.specs.Task.{Layer, branch_body, alternative_body}

abbrev pub layer_of : Option Statement → Option Layer
layer_of None = None
layer_of (Some s) = Some (out-Statement s)

-- a statement of a list, by its number
abbrev pub layer_at : ℕ → List Statement → Option Layer
layer_at k body = layer_of (slice_get body k)

-- the statements of a branch
abbrev pub inner_body : ℕ → Layer → List Statement
inner_body b (Statement-F.If branches last) = branch_body branches last b
inner_body b (Statement-F.Case expression alternatives) = alternative_body alternatives b
inner_body b (Statement-F.Loop condition body) = body
inner_body b (Statement-F.For p left direction right body) = body
inner_body b _ = []

-- the statement has a branch of this number; the branch after `else` comes last, and the body of a loop is branch 0
abbrev pub IsBranch : ℕ → Layer → Type 0
IsBranch b (Statement-F.If branches last) = b ≤ length branches
IsBranch b (Statement-F.Case expression alternatives) = b < length alternatives
IsBranch b (Statement-F.Loop condition body) = b ≡ 0
IsBranch b (Statement-F.For p left direction right body) = b ≡ 0
IsBranch b _ = ⊥

-- the parameter of a for loop
abbrev pub parameter_in : Layer → List ℕ
parameter_in (Statement-F.For p left direction right body) = p ∷ []
parameter_in _ = []

-- these steps lead into a list of statements whose statement of this number is the one that is meant; the for loops on
-- the way have these parameters
abbrev pub LeadsTo : List PathStep → List ℕ → ℕ → Layer → List Statement → Type 0
LeadsTo [] ps k goal body = (ps ≡ []) × (layer_at k body ≡ Some goal)
LeadsTo (step ∷ steps) ps k goal body =
    (layer : Layer)
    × (inner : List ℕ)
    × (layer_at step.statement body ≡ Some layer)
    × IsBranch step.branch layer
    × (ps ≡ parameter_in layer ++ inner)
    × LeadsTo steps inner k goal (inner_body step.branch layer)

abbrev pub way_to : List PathStep → ℕ → List PathStep
way_to steps k = steps ++ record { statement = k; branch = 0 } ∷ []

-- each wait statement of the text has its way, with the parameters of the for loops round it, in the list of waits at
-- its number. So the numbers of two wait statements differ
abbrev pub AreWaysRight : Process → Type 0
AreWaysRight p =
    (steps : List PathStep) (ps : List ℕ) (k number : ℕ) (on : List SignalName) (condition timeout : Option FlatExpr)
    → LeadsTo steps ps k (Statement-F.Wait number on condition timeout) p.statements
    → slice_get p.waits number ≡ Some (record { path = way_to steps k; parameters = ps })

-- a rule holds of each statement of a text, by the parameters of the for loops round it
abbrev pub EachStatement : (List ℕ → Layer → Type 0) → List Statement → Type 0
EachStatement P body = (steps : List PathStep) (ps : List ℕ) (k : ℕ) (goal : Layer) → LeadsTo steps ps k goal body → P ps goal

-- of a statement with the parameters of the loops round it: none of them is assigned, and a loop's own is a variable
abbrev pub IsSafe : ℕ → List ℕ → Layer → Type 0
IsSafe n ps (Statement-F.VariableAssignment i constraint e) = list_any (nat_eq i) ps ≡ false
IsSafe n ps (Statement-F.For p left direction right body) = p < n
IsSafe n ps _ = Unit {0}

-- the parameters of loops are variables of the process, and no statement of their loop assigns them
abbrev pub AreParametersSafe : Process → Type 0
AreParametersSafe p = EachStatement (IsSafe (length p.variables)) p.statements

-- the parameter of a loop is none of those of the loops round it (IEEE 1076, 10.10: each is declared by its loop)
abbrev pub HasOwn : List ℕ → Layer → Type 0
HasOwn ps (Statement-F.For p left direction right body) = list_any (nat_eq p) ps ≡ false
HasOwn ps _ = Unit {0}

-- it is so for each loop of the process
abbrev pub Nests : Process → Type 0
Nests p = EachStatement HasOwn p.statements
