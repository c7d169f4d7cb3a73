-- What the statements of a process do to the world and to its variables.
use Rattle.std.specs.Prelude.{◌≡◌, ℕ, Bool, true, false, List, Option, Result, Ok, Err}
use Rattle.std.specs.List.{slice_set}
use Rattle.ams_value.specs.declared.val.Val.{Val}
use Rattle.flat_expr.specs.declared.statement.Severity.{Severity}
use Rattle.flat_expr.specs.declared.statement.Severity.TheVariants as severity
use Rattle.step_data.specs.declared.trans.Trans.{Trans}
use Rattle.waveform.specs.declared.trans.DelayKind.{DelayKind}
use Rattle.fix_core.specs.Passes.{◌>>=◌}
use Rattle.flat_expr.specs.declared.expr.FlatExpr.{FlatExpr}
use Rattle.flat_expr.specs.declared.statement.BreakElement.{BreakElement}
use Rattle.step_data.specs.declared.outcome.Refusal.{Refusal}
use Rattle.waveform.specs.Projected.{projected}
use Rattle.cycle_meaning.specs.World.{Context, Local, holds, pending_of, with_pending}
use Rattle.cycle_meaning.specs.Statements.{break_by}
use Rattle.statement_lists.specs.declared.fault.ListFault.{ListFault}
use Rattle.statement_lists.specs.declared.fault.ListFault.TheVariants as fault
use Rattle.process_place.specs.ProcessPlace.{ProcessPlace}
use Rattle.process_place.specs.Moves.{Moved, goes_to, is_refused}

abbrev pub with_variable : ℕ → Val → Local → Local
with_variable i v l = record l { variables = slice_set l.variables i v }

-- the driver of a signal has the projected waveform with the new transactions
abbrev pub with_waveform : Context → ℕ → DelayKind → ℕ → List Trans → Local → Local
with_waveform here i kind reject new l =
    record l { world = with_pending here.objects i (projected kind reject (pending_of here.objects l.world i) new) l.world }

-- what a statement gives at the place behind it: the process goes on there, or it is refused. Where there was no memory, it
-- gave no event
abbrev pub Leads : (ProcessPlace → Moved) → Local → Local → Result Unit ListFault → Type 0
Leads m before l (Ok _) = (p : ProcessPlace) → m p ≡ goes_to p l
Leads m before l (Err (fault.Refused r)) = (p : ProcessPlace) → m p ≡ is_refused l r
Leads m before l (Err fault.Memory) = l.world.events ≡ before.world.events

abbrev pub is_failure : Severity → Bool
is_failure severity.Failure = true
is_failure s = false

-- a break, which is executed where its condition holds
abbrev pub break_where : Context → Local → List BreakElement → Option FlatExpr → Result Local Refusal
break_where here l elements condition = holds here l condition >>= break_by here l elements
