-- A statement of a process, as it is performed.
use Rattle.std.specs.Prelude.{◌≡◌, ◌+◌, Bool, true, false, Option, None, Result, Ok, Err}
use Rattle.ams_value.specs.declared.val.Val.{Val}
use Rattle.ams_value.specs.Values.{is_true}
use Rattle.flat_expr.specs.declared.statement.Statement.TheOpen.{Statement-F}
use Rattle.cycle_meaning.specs.Task.{Layer}
use Rattle.cycle_meaning.specs.World.{Context, Local, evaluated}
use Rattle.cycle_meaning.specs.Statements.{signal_assignment, variable_assignment}
use Rattle.statement_lists.specs.declared.fault.ListFault.{ListFault}
use Rattle.process_place.specs.ProcessPlace.{ProcessPlace}
use Rattle.process_place.specs.Moves.{Moved, goes_to, or_refused, reported_at, asserted_at}
use Rattle.process_stack.specs.Stacks.{Stacked}
use Rattle.process_control.specs.declared.control.Wait.{Wait}
use Rattle.process_effects.specs.Effects.{break_where}

-- a statement that leads the process on; the others change the world or the variables
abbrev pub is_leading : Layer → Bool
is_leading (Statement-F.If branches last) = true
is_leading (Statement-F.Case e alternatives) = true
is_leading (Statement-F.Loop condition body) = true
is_leading (Statement-F.For p left direction right body) = true
is_leading (Statement-F.Exit condition) = true
is_leading (Statement-F.Next condition) = true
is_leading (Statement-F.Wait number on condition timeout) = true
is_leading _ = false

-- what one of the others gives at the place behind it
abbrev pub changed : Context → Local → Layer → ProcessPlace → Moved
changed here l (Statement-F.SignalAssignment i constraint m wave) p = or_refused l (goes_to p) (signal_assignment here l i constraint m wave)
changed here l (Statement-F.VariableAssignment i constraint e) p = or_refused l (goes_to p) (variable_assignment here l i constraint e)
changed here l (Statement-F.Assert e text s) p =
    or_refused l (λ (v : Val). asserted_at (is_true v) (reported_at here s text p l) p l) (evaluated here l e)
changed here l (Statement-F.Report text s) p = reported_at here s text p l
changed here l (Statement-F.Break elements condition) p = or_refused l (goes_to p) (break_where here l elements condition)
changed here l _ p = goes_to p l

-- the stack is behind the statement, unless there was a fault
abbrev pub IsPassed : Result Unit ListFault → Stacked → Stacked → Result (Option Wait) ListFault → Type 0
IsPassed (Ok _) s now r = (r ≡ Ok None) × (now ≡ record s { next = s.next + 1 })
IsPassed (Err f) s now r = (r ≡ Err f) × (now ≡ s)
