-- What it takes to perform a statement, and where the parameters of loops stand.
use Rattle.std.specs.Prelude.{◌≡◌, ◌<◌, ◌≤◌, unsigned_abs, ℕ, ℤ, List, length, Some, IsTrue}
use Rattle.std.specs.List.{slice_get, All}
use Rattle.std.specs.Option.{ForSome}
use Rattle.ams_value.specs.declared.val.Val.{Val}
use Rattle.ams_value.specs.declared.val.Val.TheVariants as val
use Rattle.ams_value.specs.Ranges.{most_integer}
use Rattle.flat_expr.specs.declared.statement.BreakElement.{BreakElement}
use Rattle.flat_expr.specs.declared.statement.Statement.{Statement}
use Rattle.flat_expr.specs.declared.statement.Statement.TheOpen.{Statement-F}
use Rattle.flat_design.specs.declared.objects.Process.{Process}
use Rattle.design_meaning.specs.Readings.{Readings}
use Rattle.expr_eval.specs.Condition.{CanEvaluate}
use Rattle.cycle_meaning.specs.Task.{Layer}
use Rattle.cycle_meaning.specs.World.{Context, drives}
use Rattle.design_rules.specs.Ways.{layer_at}
use Rattle.process_laws.specs.Resumed.{Surroundings, outermost, inside, body_in, AreOf}
use Rattle.statement_values.specs.Limits.{CanEvaluateLimit}
use Rattle.statement_values.specs.Parts.{CanEvaluateElement}
use Rattle.statement_values.specs.LoopRanges.{IsOnWay}
use Rattle.statement_lists.specs.Branches.{CanEvaluateBranches}
use Rattle.process_place.specs.ProcessPlace.{ProcessPlace, at, turning}

-- the process drives the signal
abbrev pub IsDriven : Context → ℕ → Type 0
IsDriven here i = (p : Process) × (slice_get here.objects.processes here.process ≡ Some p) × IsTrue (drives i p)

-- each expression of a statement can be evaluated, and its targets are there
abbrev pub CanPerform : Context → Readings → Layer → Type 0
CanPerform here r (Statement-F.SignalAssignment i constraint m wave) = CanEvaluateLimit r m × All (CanEvaluateElement r) wave × IsDriven here i × (0 < length wave)
CanPerform here r (Statement-F.VariableAssignment i constraint e) = CanEvaluate r e × (i < length r.variables)
CanPerform here r (Statement-F.If branches last) = CanEvaluateBranches r branches
CanPerform here r (Statement-F.Case e alternatives) = CanEvaluate r e
CanPerform here r (Statement-F.Loop condition body) = ForSome condition (CanEvaluate r)
CanPerform here r (Statement-F.For p left direction right body) = CanEvaluate r left × CanEvaluate r right × (p < length r.variables)
CanPerform here r (Statement-F.Exit condition) = ForSome condition (CanEvaluate r)
CanPerform here r (Statement-F.Next condition) = ForSome condition (CanEvaluate r)
CanPerform here r (Statement-F.Wait number on condition timeout) = ForSome timeout (CanEvaluate r)
CanPerform here r (Statement-F.Assert e text s) = CanEvaluate r e
CanPerform here r (Statement-F.Report text s) = Unit {0}
CanPerform here r (Statement-F.Break elements condition) = ForSome condition (CanEvaluate r) × All (λ (e : BreakElement). CanEvaluate r e.value) elements
CanPerform here r Statement-F.Null = Unit {0}

-- each statement of a text can
abbrev pub EachCan : Context → Readings → List Statement → Type 0
EachCan here r top = (c : Surroundings) (k : ℕ) (layer : Layer) → AreOf top c → layer_at k (body_in top c) ≡ Some layer → CanPerform here r layer

-- ---- the parameters of the loops round a place

-- a value of INTEGER
abbrev pub IsInteger : ℤ → Type 0
IsInteger i = unsigned_abs i ≤ most_integer

abbrev pub LeadsOn : List Val → Layer → ℤ → Type 0
LeadsOn vs (Statement-F.For p left direction right body) last = (i : ℤ) × (slice_get vs p ≡ Some (val.Int i)) × IsOnWay direction i last × IsInteger last
LeadsOn vs _ last = Unit {0}

-- each of them is on the way to the last value
abbrev pub LeadRound : List Val → Surroundings → Type 0
LeadRound vs outermost = Unit {0}
LeadRound vs (inside c k b layer last) = LeadRound vs c × LeadsOn vs layer last

-- the first value of a loop's parameter is on the way to the last one
abbrev pub MayBegin : List Val → Layer → ℤ → ℤ → Type 0
MayBegin vs (Statement-F.For p left direction right body) from last = (p < length vs) × IsOnWay direction from last × IsInteger from × IsInteger last
MayBegin vs _ from last = Unit {0}

abbrev pub LeadAt : List Val → ProcessPlace → Type 0
LeadAt vs (at c k) = LeadRound vs c
LeadAt vs (turning c k layer from last) = LeadRound vs c × MayBegin vs layer from last
