-- What a process does next from a place in its text.
use Rattle.std.specs.Prelude.{ℕ, zero, suc, ◌+◌, Bool, true, false, if◌then◌else◌, ℤ, pos, List, length, Option, Some, None, Result, Ok, Err}
use Rattle.std.specs.List.{slice_get}
use Rattle.std.specs.Ordering.{int_eq}
use Rattle.message_codes.specs.Codes.{process_budget, failure}
use Rattle.fix_core.specs.Passes.{◌>>=◌}
use Rattle.ams_value.specs.declared.val.Val.{Val}
use Rattle.ams_value.specs.Values.{is_true}
use Rattle.flat_expr.specs.declared.statement.Severity.{Severity}
use Rattle.flat_expr.specs.declared.statement.Severity.TheVariants as severity
use Rattle.flat_expr.specs.declared.statement.Statement.{Statement, out-Statement}
use Rattle.flat_expr.specs.declared.statement.Statement.TheOpen.{Statement-F}
use Rattle.step_data.specs.declared.outcome.Refusal.{Refusal}
use Rattle.cycle_meaning.specs.Task.{Layer}
use Rattle.cycle_meaning.specs.World.{Context, Local, refusal, evaluated, holds}
use Rattle.cycle_meaning.specs.Statements.{signal_assignment, variable_assignment, with_report, number_of_severity, break_by, timeout_of}
use Rattle.cycle_meaning.specs.Processes.{stepped, with_parameter, parameter_of}
use Rattle.design_rules.specs.Ways.{inner_body}
use Rattle.process_laws.specs.Resumed.{Surroundings, outermost, inside}
use Rattle.statement_values.specs.declared.range.LoopRange.{LoopRange}
use Rattle.statement_values.specs.LoopRanges.{loop_range}
use Rattle.statement_lists.specs.Branches.{branch_number}
use Rattle.statement_lists.specs.Alternatives.{alternative_number}
use Rattle.process_place.specs.ProcessPlace.{ProcessPlace, at, turning, at_start}

-- ---- what counts next

-- the statement with a number begins; a turn of a loop begins; the process returns to its first statement; or a condition of a loop has a fault
pub data Coming : Type 0 where
  begins_at : Statement → Surroundings → ℕ → Coming
  turns_to : ProcessPlace → Local → Coming
  starts_again : Coming
  has_fault : Refusal → Coming

abbrev pub by_truth : Result Bool Refusal → Coming → Coming → Coming
by_truth (Ok true) turn others = turn
by_truth (Ok false) turn others = others
by_truth (Err r) turn others = has_fault r

-- behind the last statement inside a statement: a further turn of a loop, or what comes behind it
abbrev pub past_end : Context → Local → Surroundings → Layer → ℤ → Coming → Coming
past_end here l round (Statement-F.Loop condition body) last others = by_truth (holds here l condition) (turns_to (at round 0) l) others
past_end here l round (Statement-F.For p left direction right body) last others =
    if int_eq (parameter_of l p) last then others else turns_to (at round 0) (with_parameter p (stepped direction (parameter_of l p)) l)
past_end here l round _ last others = others

abbrev pub begun_or : Option Statement → Surroundings → ℕ → Coming → Coming
begun_or (Some s) round k others = begins_at s round k
begun_or None round k others = others

unfoldable pub coming_at : Context → Local → List Statement → Surroundings → ℕ → Coming
coming_at here l top outermost k = begun_or (slice_get top k) outermost k starts_again
coming_at here l top (inside c j b layer last) k =
    begun_or (slice_get (inner_body b layer) k) (inside c j b layer last) k (past_end here l (inside c j b layer last) layer last (coming_at here l top c (j + 1)))

-- the first turn of a for loop
abbrev pub first_turned : Local → Surroundings → ℕ → Layer → ℤ → ℤ → Coming
first_turned l c k (Statement-F.For p left direction right body) from last =
    turns_to (at (inside c k 0 (Statement-F.For p left direction right body) last) 0) (with_parameter p from l)
first_turned l c k _ from last = starts_again

abbrev pub coming : Context → Local → List Statement → ProcessPlace → Coming
coming here l top (at c k) = coming_at here l top c k
coming here l top (turning c k layer from last) = first_turned l c k layer from last

-- ---- a statement

-- the process goes on at a place; it waits, with the place behind the wait; or a refusal
pub data Moved : Type 0 where
  goes_to : ProcessPlace → Local → Moved
  waits_at : ℕ → Option ℕ → ProcessPlace → Local → Moved
  is_refused : Local → Refusal → Moved

abbrev pub or_refused : {A : Type 0} → Local → (A → Moved) → Result A Refusal → Moved
or_refused l go (Ok a) = go a
or_refused l go (Err r) = is_refused l r

-- behind the innermost loop; behind the whole text where there is none
abbrev pub behind_loop_at : List Statement → Surroundings → ProcessPlace
behind_loop_at top outermost = at outermost (length top)
behind_loop_at top (inside c j b (Statement-F.Loop condition body) last) = at c (j + 1)
behind_loop_at top (inside c j b (Statement-F.For p left direction right body) last) = at c (j + 1)
behind_loop_at top (inside c j b _ last) = behind_loop_at top c

-- at the end of the innermost loop's body
abbrev pub end_of_turn_at : List Statement → Surroundings → ProcessPlace
end_of_turn_at top outermost = at outermost (length top)
end_of_turn_at top (inside c j b (Statement-F.Loop condition body) last) = at (inside c j b (Statement-F.Loop condition body) last) (length body)
end_of_turn_at top (inside c j b (Statement-F.For p left direction right body) last) =
    at (inside c j b (Statement-F.For p left direction right body) last) (length body)
end_of_turn_at top (inside c j b _ last) = end_of_turn_at top c

abbrev pub chosen_at : Surroundings → ℕ → Layer → Option ℕ → ProcessPlace
chosen_at c k layer (Some b) = at (inside c k b layer (pos 0)) 0
chosen_at c k layer None = at c (k + 1)

abbrev pub ranged_at : Surroundings → ℕ → Layer → Option LoopRange → ProcessPlace
ranged_at c k layer (Some range) = turning c k layer range.first range.last
ranged_at c k layer None = at c (k + 1)

abbrev pub reported_at : Context → Severity → List ℕ → ProcessPlace → Local → Moved
reported_at here severity.Failure text p l = is_refused (with_report here (number_of_severity severity.Failure) text l) (refusal here failure)
reported_at here s text p l = goes_to p (with_report here (number_of_severity s) text l)

abbrev pub asserted_at : Bool → Moved → ProcessPlace → Local → Moved
asserted_at true report p l = goes_to p l
asserted_at false report p l = report

-- the statement with a number, by cases
abbrev pub moved : Context → Local → List Statement → Surroundings → ℕ → Layer → Moved
moved here l top c k (Statement-F.SignalAssignment i constraint m wave) = or_refused l (goes_to (at c (k + 1))) (signal_assignment here l i constraint m wave)
moved here l top c k (Statement-F.VariableAssignment i constraint e) = or_refused l (goes_to (at c (k + 1))) (variable_assignment here l i constraint e)
moved here l top c k (Statement-F.If branches last) =
    or_refused l (λ (b : ℕ). goes_to (at (inside c k b (Statement-F.If branches last) (pos 0)) 0) l) (branch_number here l branches)
moved here l top c k (Statement-F.Case e alternatives) =
    or_refused l (λ (v : Val). goes_to (chosen_at c k (Statement-F.Case e alternatives) (alternative_number alternatives v)) l) (evaluated here l e)
moved here l top c k (Statement-F.Loop condition body) = goes_to (at (inside c k 0 (Statement-F.Loop condition body) (pos 0)) (length body)) l
moved here l top c k (Statement-F.For p left direction right body) =
    or_refused l (λ (range : Option LoopRange). goes_to (ranged_at c k (Statement-F.For p left direction right body) range) l) (loop_range here l left direction right)
moved here l top c k (Statement-F.Exit condition) =
    or_refused l (λ (b : Bool). goes_to (if b then behind_loop_at top c else at c (k + 1)) l) (holds here l condition)
moved here l top c k (Statement-F.Next condition) =
    or_refused l (λ (b : Bool). goes_to (if b then end_of_turn_at top c else at c (k + 1)) l) (holds here l condition)
moved here l top c k (Statement-F.Wait number on condition timeout) =
    or_refused l (λ (t : Option ℕ). waits_at number t (at c (k + 1)) l) (timeout_of here l timeout)
moved here l top c k (Statement-F.Assert e text s) =
    or_refused l (λ (v : Val). asserted_at (is_true v) (reported_at here s text (at c (k + 1)) l) (at c (k + 1)) l) (evaluated here l e)
moved here l top c k (Statement-F.Report text s) = reported_at here s text (at c (k + 1)) l
moved here l top c k (Statement-F.Break elements condition) =
    or_refused l (goes_to (at c (k + 1))) (holds here l condition >>= break_by here l elements)
moved here l top c k Statement-F.Null = goes_to (at c (k + 1)) l

-- ---- the run

pub data Ended : Type 0 where
  waiting : ℕ → Option ℕ → ProcessPlace → Local → Ended
  ended_refused : Local → Refusal → Ended

abbrev pub after_move : (Local → ProcessPlace → Ended) → Moved → Ended
after_move further (goes_to p l) = further l p
after_move further (waits_at number t p l) = waiting number t p l
after_move further (is_refused l r) = ended_refused l r

abbrev pub nothing_left : Context → Local → Coming → Ended
nothing_left here l (has_fault r) = ended_refused l r
nothing_left here l _ = ended_refused l (refusal here process_budget)

abbrev pub one_counted : (Local → ProcessPlace → Ended) → Context → Local → List Statement → Coming → Ended
one_counted further here l top (begins_at s c k) = after_move further (moved here l top c k (out-Statement s))
one_counted further here l top (turns_to p turned) = further turned p
one_counted further here l top starts_again = further l at_start
one_counted further here l top (has_fault r) = ended_refused l r

-- a process with this text and so many statements left in this activation
unfoldable pub run_at : ℕ → Context → List Statement → Local → ProcessPlace → Ended
run_at zero here top l p = nothing_left here l (coming here l top p)
run_at (suc n) here top l p = one_counted (run_at n here top) here l top (coming here l top p)
