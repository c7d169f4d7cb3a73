-- A process from one wait to the next (IEEE 1076, clauses 10 and 11). The statements that it may still execute in this
-- activation are the fuel.
use Rattle.std.specs.Prelude.{ℕ, zero, suc, Bool, true, false, ℤ, pos, ◌+ℤ◌, ◌-ℤ◌, if◌then◌else◌, List, [], ◌∷◌, ◌++◌, Option, Some, None, Result, Ok, Err}
use Rattle.std.specs.List.{slice_get, slice_set, slice_index_or}
use Rattle.std.specs.Ordering.{int_eq}
use Rattle.message_codes.specs.Codes.{process_budget}
use Rattle.ams_value.specs.declared.val.Val.{Val}
use Rattle.ams_value.specs.declared.val.Val.TheVariants as val
use Rattle.flat_expr.specs.declared.expr.Direction.{Direction}
use Rattle.flat_expr.specs.declared.expr.Direction.TheVariants.{To, Downto}
use Rattle.flat_expr.specs.declared.statement.Statement.{Statement, out-Statement}
use Rattle.flat_design.specs.declared.objects.Variable.{Variable}
use Rattle.flat_design.specs.declared.objects.WaitPlace.{WaitPlace}
use Rattle.flat_design.specs.declared.objects.Process.{Process}
use Rattle.step_data.specs.declared.outcome.Refusal.{Refusal}
use Rattle.step_model.specs.System.{ProcessState}
use Rattle.cycle_meaning.specs.Task.{Task, statement, again, first_turn, next_turn, statements, behind}
use Rattle.cycle_meaning.specs.World.{Context, Local, refusal, holds}
use Rattle.cycle_meaning.specs.Statements.{Step, goes_on, waits, refuses, executed, integer_of}

-- ---- what counts next

-- a statement begins; a turn of a loop begins; the process returns to its first statement; or a condition of a loop has a fault
pub data Next : Type 0 where
  begins : Statement → List Task → Next
  turns : List Task → Local → Next
  returns : Next
  faulty : Refusal → Next

abbrev pub stepped : Direction → ℤ → ℤ
stepped To i = i +ℤ pos 1
stepped Downto i = i -ℤ pos 1

abbrev pub with_parameter : ℕ → ℤ → Local → Local
with_parameter p i l = record l { variables = slice_set l.variables p (val.Int i) }

abbrev pub parameter_of : Local → ℕ → ℤ
parameter_of l p = integer_of (slice_index_or l.variables p (val.Int (pos 0)))

abbrev pub by_condition : Result Bool Refusal → Next → Next → Next
by_condition (Ok true) turn rest = turn
by_condition (Ok false) turn rest = rest
by_condition (Err r) turn rest = faulty r

-- a loop that has no further turn is left, which counts nothing
unfoldable pub next_of : Context → Local → List Task → Next
next_of here l [] = returns
next_of here l (statement s ∷ rest) = begins s rest
next_of here l (again condition body ∷ rest) =
    by_condition (holds here l condition) (turns (statements body ++ again condition body ∷ rest) l) (next_of here l rest)
next_of here l (first_turn p direction from last body ∷ rest) =
    turns (statements body ++ next_turn p direction last body ∷ rest) (with_parameter p from l)
next_of here l (next_turn p direction last body ∷ rest) =
    if int_eq (parameter_of l p) last then next_of here l rest
    else turns (statements body ++ next_turn p direction last body ∷ rest) (with_parameter p (stepped direction (parameter_of l p)) l)

-- ---- the run

-- how the activation of a process ends: it waits, with what is left behind the wait; or it is refused
pub data Stop : Type 0 where
  stopped : ℕ → Option ℕ → List Task → Local → Stop
  refused : Local → Refusal → Stop

abbrev pub after_step : (Local → List Task → Stop) → Step → Stop
after_step further (goes_on rest l) = further l rest
after_step further (waits number at rest l) = stopped number at rest l
after_step further (refuses l r) = refused l r

-- the whole body again, after a return to the first statement
abbrev pub body_of : Option Process → List Statement
body_of (Some p) = p.statements
body_of None = []

abbrev pub process_body : Context → List Statement
process_body here = body_of (slice_get here.objects.processes here.process)

-- no statement is left: the next one that counts is refused
abbrev pub spent : Context → Local → Next → Stop
spent here l (faulty r) = refused l r
spent here l _ = refused l (refusal here process_budget)

abbrev pub counted : (Local → List Task → Stop) → Context → Local → Next → Stop
counted further here l (begins s rest) = after_step further (executed here l rest (out-Statement s))
counted further here l (turns rest turned) = further turned rest
counted further here l returns = further l (statements (process_body here))
counted further here l (faulty r) = refused l r

-- a process with so many statements left in this activation
unfoldable pub run : ℕ → Context → Local → List Task → Stop
run zero here l rest = spent here l (next_of here l rest)
run (suc n) here l rest = counted (run n here) here l (next_of here l rest)

-- the most statements in an activation
unfoldable pub statement_budget : ℕ
statement_budget = 100000

-- ---- the state between two activations

-- the variables that the process declares
abbrev pub declared_values : List Variable → List Val → List Val
declared_values [] vs = []
declared_values (x ∷ xs) [] = []
declared_values (x ∷ xs) (v ∷ vs) = if x.is_parameter then declared_values xs vs else v ∷ declared_values xs vs

-- the same in their places; a parameter has its initial value
abbrev pub with_parameters : List Variable → List Val → List Val
with_parameters [] vs = []
with_parameters (x ∷ xs) vs = by_kind x.is_parameter x.initial vs (with_parameters xs)
  where
    by_kind : Bool → Val → List Val → (List Val → List Val) → List Val
    by_kind true initial vs rest = initial ∷ rest vs
    by_kind false initial [] rest = initial ∷ rest []
    by_kind false initial (v ∷ vs) rest = v ∷ rest vs

-- the parameters of the loops round a wait have their current values
abbrev pub with_loops : List ℕ → List (ℤ × ℤ) → List Val → List Val
with_loops [] loops vs = vs
with_loops (p ∷ ps) [] vs = vs
with_loops (p ∷ ps) (l ∷ loops) vs = with_loops ps loops (slice_set vs p (val.Int l.0))

-- the loops round a wait, the outer ones first: the current and the last value of each parameter
abbrev pub loops_in : Local → List Task → List (ℤ × ℤ)
loops_in l [] = []
loops_in l (next_turn p direction last body ∷ rest) = loops_in l rest ++ (parameter_of l p, last) ∷ []
loops_in l (_ ∷ rest) = loops_in l rest

abbrev pub state_of : List Variable → ℕ → Option ℕ → List Task → Local → ProcessState
state_of variables number at rest l =
    record { wait = number; timeout = at; variables = declared_values variables l.variables; loops = loops_in l rest }

abbrev pub left_at : Process → ProcessState → Option WaitPlace → List Task
left_at p s (Some w) = behind w.path s.loops p.statements
left_at p s None = statements p.statements

-- what is left behind the wait at which a process stands
abbrev pub left_behind : Process → ProcessState → List Task
left_behind p s = left_at p s (slice_get p.waits s.wait)

abbrev pub parameters_at : Option WaitPlace → List ℕ
parameters_at (Some w) = w.parameters
parameters_at None = []

abbrev pub variables_at : Process → ProcessState → List Val
variables_at p s = with_loops (parameters_at (slice_get p.waits s.wait)) s.loops (with_parameters p.variables s.variables)
