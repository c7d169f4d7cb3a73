-- What counts next, as it is answered.
use Rattle.std.specs.Prelude.{ℤ, ◌+◌, ◌<◌, ◌^◌, length, List, Option, Some, None, Result, Ok, Err}
use Rattle.flat_expr.specs.declared.statement.Statement.{Statement}
use Rattle.flat_expr.specs.declared.statement.Statement.TheOpen.{Statement-F}
use Rattle.cycle_meaning.specs.Task.{Layer}
use Rattle.step_data.specs.declared.outcome.Refusal.{Refusal}
use Rattle.cycle_meaning.specs.World.{Local}
use Rattle.cycle_meaning.specs.Processes.{with_parameter}
use Rattle.process_laws.specs.Resumed.{Surroundings}
use Rattle.process_place.specs.ProcessPlace.{at}
use Rattle.process_place.specs.Moves.{Coming, begins_at, turns_to, starts_again, has_fault}
use Rattle.process_stack.specs.Stacks.{Stacked, round_of, place_of}
use Rattle.process_control.specs.declared.next.Parameter.{Parameter}
use Rattle.process_control.specs.declared.next.End.{End}
use Rattle.process_control.specs.declared.next.End.TheVariants as end
use Rattle.process_control.specs.declared.next.Counted.{Counted}
use Rattle.process_control.specs.declared.next.Counted.TheVariants as counted

-- the parameter of a for loop with the value of its first turn
abbrev pub first_of : Layer → ℤ → Option Parameter
first_of (Statement-F.For p left direction right body) first = Some (record { number = p; value = first })
first_of _ first = None

-- a parameter has its value
abbrev pub turned : Option Parameter → Local → Local
turned None l = l
turned (Some p) l = with_parameter p.number p.value l

abbrev pub past_by : Surroundings → Local → Coming → Result End Refusal → Coming
past_by c l others (Ok (end.Turn p)) = turns_to (at c 0) (turned p l)
past_by c l others (Ok end.Left) = others
past_by c l others (Err r) = has_fault r

abbrev pub coming_by : List Statement → Local → Stacked → Result Counted Refusal → Coming
coming_by top l s (Ok (counted.Begins statement)) = begins_at statement.now (round_of top s.frames) s.next
coming_by top l s (Ok (counted.Turns p)) = turns_to (place_of top s) (turned p l)
coming_by top l s (Ok counted.Restarts) = starts_again
coming_by top l s (Err r) = has_fault r

-- the number of a statement that begins isn't the greatest one, and the parameter of a turn is a variable
abbrev pub IsSmall : Local → Stacked → Result Counted Refusal → Type 0
IsSmall l s (Ok (counted.Begins statement)) = s.next + 1 < 2 ^ 64
IsSmall l s (Ok (counted.Turns (Some p))) = p.number < length l.variables
IsSmall l s _ = Unit {0}

abbrev pub IsVariable : Local → Result End Refusal → Type 0
IsVariable l (Ok (end.Turn (Some p))) = p.number < length l.variables
IsVariable l _ = Unit {0}
