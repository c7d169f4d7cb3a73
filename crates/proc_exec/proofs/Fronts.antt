-- The events of a process so far are those at the front of its run.
use Rattle.std.proofs.Common.{◌≡◌, refl, sym, ◌∙◌, ap, subst, ℕ, ◌+◌, Bool, true, false, not, ◌&&◌, ℤ, if◌then◌else◌, List, [], ◌++◌, append_assoc, Option, Some, None, Result, Ok, Err, slice_set}
use Rattle.std.specs.List.{slice_get}
use Rattle.std.specs.Ordering.{int_eq}
use Rattle.std.proofs.lemmas.List.{append-nil}
use Rattle.message_codes.specs.Codes.{range}
use Rattle.fix_core.specs.Passes.{◌>>=◌}
use Rattle.ams_value.specs.declared.val.Val.{Val}
use Rattle.ams_value.specs.Values.{is_true}
use Rattle.flat_expr.specs.declared.expr.FlatExpr.{FlatExpr}
use Rattle.flat_expr.specs.declared.subtype.Constraint.{Constraint}
use Rattle.flat_expr.specs.Subtype.{lies_in}
use Rattle.flat_expr.specs.declared.statement.BreakElement.{BreakElement}
use Rattle.flat_expr.specs.declared.statement.WaveElement.{WaveElement}
use Rattle.flat_expr.specs.declared.statement.DelayMechanism.{DelayMechanism}
use Rattle.flat_expr.specs.declared.statement.Severity.{Severity}
use Rattle.flat_expr.specs.declared.statement.Severity.TheVariants as severity
use Rattle.flat_expr.specs.declared.statement.Statement.{Statement, out-Statement}
use Rattle.flat_expr.specs.declared.statement.Statement.TheOpen.{Statement-F}
use Rattle.step_data.specs.declared.event.Event.{Event}
use Rattle.step_data.specs.declared.outcome.Refusal.{Refusal}
use Rattle.cycle_meaning.specs.Task.{Layer}
use Rattle.cycle_meaning.specs.World.{World, Context, Local, evaluated, holds, refusal, refused_where}
use Rattle.cycle_meaning.specs.Statements.{signal_assignment, variable_assignment, limit_of, transactions, assigned, constraint_of, break_by, elements_of, with_elements, timeout_of}
use Rattle.cycle_meaning.specs.Processes.{stepped, with_parameter, parameter_of}
use Rattle.design_rules.specs.Ways.{inner_body}
use Rattle.process_laws.specs.Resumed.{Surroundings, outermost, inside}
use Rattle.statement_values.specs.LoopRanges.{loop_range}
use Rattle.statement_lists.specs.Branches.{branch_number}
use Rattle.process_place.specs.ProcessPlace.{ProcessPlace, at, turning}
use Rattle.process_place.specs.Moves.{Coming, begins_at, turns_to, starts_again, has_fault, by_truth, past_end, begun_or, coming_at, first_turned, coming, Moved, goes_to, waits_at, is_refused, or_refused, reported_at, asserted_at, moved}
use Rattle.process_ready.proofs.Staying.{by_steps}
use Rattle.proc_exec.specs.Running.{IsFront, counted_at}

pub front_same : (xs : List Event) → IsFront xs xs
front_same xs = ([], sym (append-nil xs))

front_more : (xs ys : List Event) → IsFront xs (xs ++ ys)
front_more xs ys = (ys, refl)

pub front_on : (a b c : List Event) → IsFront a b → IsFront b c → IsFront a c
front_on a b c f g = (f.0 ++ g.0, g.1 ∙ (ap (λ x. x ++ g.0) f.1 ∙ append_assoc a f.0 g.0))

-- ---- a turn gives no event

abbrev pub TurnsIn : Local → Coming → Type 0
TurnsIn l (turns_to p turned) = turned.world ≡ l.world
TurnsIn l _ = Unit {0}

truth_turns : (l : Local) (r : Result Bool Refusal) (turn others : Coming) → TurnsIn l turn → TurnsIn l others → TurnsIn l (by_truth r turn others)
truth_turns l (Ok true) turn others a b = a
truth_turns l (Ok false) turn others a b = b
truth_turns l (Err r) turn others a b = tt

test_turns : (l : Local) (t : Bool) (a b : Coming) → TurnsIn l a → TurnsIn l b → TurnsIn l (if t then a else b)
test_turns l true a b x y = x
test_turns l false a b x y = y

past_turns : (here : Context) (l : Local) (c : Surroundings) (layer : Layer) (last : ℤ) (others : Coming) → TurnsIn l others → TurnsIn l (past_end here l c layer last others)
past_turns here l c (Statement-F.Loop condition body) last others h = truth_turns l (holds here l condition) (turns_to (at c 0) l) others refl h
past_turns here l c (Statement-F.For p left direction right body) last others h =
    test_turns l (int_eq (parameter_of l p) last) others (turns_to (at c 0) (with_parameter p (stepped direction (parameter_of l p)) l)) h refl
past_turns here l c (Statement-F.SignalAssignment _ _ _ _) last others h = h
past_turns here l c (Statement-F.VariableAssignment _ _ _) last others h = h
past_turns here l c (Statement-F.If _ _) last others h = h
past_turns here l c (Statement-F.Case _ _) last others h = h
past_turns here l c (Statement-F.Exit _) last others h = h
past_turns here l c (Statement-F.Next _) last others h = h
past_turns here l c (Statement-F.Wait _ _ _ _) last others h = h
past_turns here l c (Statement-F.Assert _ _ _) last others h = h
past_turns here l c (Statement-F.Report _ _) last others h = h
past_turns here l c (Statement-F.Break _ _) last others h = h
past_turns here l c Statement-F.Null last others h = h

begun_turns : (l : Local) (o : Option Statement) (c : Surroundings) (k : ℕ) (others : Coming) → TurnsIn l others → TurnsIn l (begun_or o c k others)
begun_turns l (Some s) c k others h = tt
begun_turns l None c k others h = h

from_turns : (here : Context) (l : Local) (top : List Statement) (c : Surroundings) (k : ℕ) → TurnsIn l (coming_at here l top c k)
unfolding coming_at
from_turns here l top outermost k = begun_turns l (slice_get top k) outermost k starts_again tt
from_turns here l top (inside c j b layer last) k =
    begun_turns l (slice_get (inner_body b layer) k) (inside c j b layer last) k (past_end here l (inside c j b layer last) layer last (coming_at here l top c (j + 1)))
    (past_turns here l (inside c j b layer last) layer last (coming_at here l top c (j + 1)) (from_turns here l top c (j + 1)))

first_turns : (l : Local) (c : Surroundings) (k : ℕ) (layer : Layer) (from last : ℤ) → TurnsIn l (first_turned l c k layer from last)
first_turns l c k (Statement-F.For p left direction right body) from last = refl
first_turns l c k (Statement-F.SignalAssignment _ _ _ _) from last = tt
first_turns l c k (Statement-F.VariableAssignment _ _ _) from last = tt
first_turns l c k (Statement-F.If _ _) from last = tt
first_turns l c k (Statement-F.Case _ _) from last = tt
first_turns l c k (Statement-F.Loop _ _) from last = tt
first_turns l c k (Statement-F.Exit _) from last = tt
first_turns l c k (Statement-F.Next _) from last = tt
first_turns l c k (Statement-F.Wait _ _ _ _) from last = tt
first_turns l c k (Statement-F.Assert _ _ _) from last = tt
first_turns l c k (Statement-F.Report _ _) from last = tt
first_turns l c k (Statement-F.Break _ _) from last = tt
first_turns l c k Statement-F.Null from last = tt

coming_turns : (here : Context) (l : Local) (top : List Statement) (p : ProcessPlace) → TurnsIn l (coming here l top p)
coming_turns here l top (at c k) = from_turns here l top c k
coming_turns here l top (turning c k layer from last) = first_turns l c k layer from last

-- ---- a statement gives its events behind the earlier ones

abbrev pub MovesOn : List Event → Moved → Type 0
MovesOn events (goes_to p l) = IsFront events l.world.events
MovesOn events (waits_at number t p l) = IsFront events l.world.events
MovesOn events (is_refused l r) = IsFront events l.world.events

or_refused_on : {A : Type 0} (l : Local) (go : A → Moved) (r : Result A Refusal) → ((a : A) → r ≡ Ok a → MovesOn l.world.events (go a)) → MovesOn l.world.events (or_refused l go r)
or_refused_on l go (Ok a) follow = follow a refl
or_refused_on l go (Err r) follow = front_same l.world.events

assigned_on : (here : Context) (l : Local) (i : ℕ) (c : Constraint) (m : DelayMechanism) (wave : List WaveElement) (after : Local) → signal_assignment here l i c m wave ≡ Ok after → IsFront l.world.events after.world.events
assigned_on here l i c m wave =
    let fits : Val → Bool = λ v. lies_in c v && lies_in (constraint_of (slice_get here.objects.signals i)) v in
    by_steps (λ (after : Local). IsFront l.world.events after.world.events) (limit_of here l m) (λ limit. transactions here l fits limit None wave >>= (λ new. Ok (assigned here i m limit new l)))
    (λ limit b _. by_steps (λ (after : Local). IsFront l.world.events after.world.events) (transactions here l fits limit None wave) (λ new. Ok (assigned here i m limit new l))
    (λ new after _ e. let same : assigned here i m limit new l ≡ after = cc in subst (λ (after : Local). IsFront l.world.events after.world.events) same (front_same l.world.events)) b)

variable_on : (here : Context) (l : Local) (i : ℕ) (c : Constraint) (e : FlatExpr) (after : Local) → variable_assignment here l i c e ≡ Ok after → IsFront l.world.events after.world.events
variable_on here l i c e =
    by_steps (λ (after : Local). IsFront l.world.events after.world.events) (evaluated here l e) (λ v. refused_where (not (lies_in c v)) (refusal here range) v >>= (λ tested. Ok (record l { variables = slice_set l.variables i tested })))
    (λ v b _. by_steps (λ (after : Local). IsFront l.world.events after.world.events) (refused_where (not (lies_in c v)) (refusal here range) v) (λ tested. Ok (record l { variables = slice_set l.variables i tested }))
    (λ tested after _ e. let same : record l { variables = slice_set l.variables i tested } ≡ after = cc in subst (λ (after : Local). IsFront l.world.events after.world.events) same (front_same l.world.events)) b)

broken_on : (here : Context) (l : Local) (elements : List BreakElement) (holding : Result Bool Refusal) (after : Local) → (holding >>= break_by here l elements) ≡ Ok after → IsFront l.world.events after.world.events
broken_on here l elements (Err r) after e = absurd cc
broken_on here l elements (Ok false) after e = let same : l ≡ after = cc in subst (λ (after : Local). IsFront l.world.events after.world.events) same (front_same l.world.events)
broken_on here l elements (Ok true) after e =
    by_steps (λ (after : Local). IsFront l.world.events after.world.events) (elements_of here l l.world.elements elements) (λ made. Ok (with_elements here made l))
    (λ made b _ e. let same : with_elements here made l ≡ b = cc in subst (λ (after : Local). IsFront l.world.events after.world.events) same (front_more l.world.events _)) after e

reported_on : (here : Context) (s : Severity) (text : List ℕ) (p : ProcessPlace) (l : Local) → MovesOn l.world.events (reported_at here s text p l)
reported_on here severity.Failure text p l = front_more l.world.events _
reported_on here severity.Note text p l = front_more l.world.events _
reported_on here severity.Warning text p l = front_more l.world.events _
reported_on here severity.Error text p l = front_more l.world.events _

asserted_on : (t : Bool) (report : Moved) (p : ProcessPlace) (l : Local) → MovesOn l.world.events report → MovesOn l.world.events (asserted_at t report p l)
asserted_on true report p l h = front_same l.world.events
asserted_on false report p l h = h

moves_on : (here : Context) (l : Local) (top : List Statement) (c : Surroundings) (k : ℕ) (layer : Layer) → MovesOn l.world.events (moved here l top c k layer)
moves_on here l top c k (Statement-F.SignalAssignment i constraint m wave) =
    or_refused_on l (goes_to (at c (k + 1))) (signal_assignment here l i constraint m wave) (assigned_on here l i constraint m wave)
moves_on here l top c k (Statement-F.VariableAssignment i constraint e) =
    or_refused_on l (goes_to (at c (k + 1))) (variable_assignment here l i constraint e) (variable_on here l i constraint e)
moves_on here l top c k (Statement-F.If branches last) =
    or_refused_on l _ (branch_number here l branches) (λ b _. front_same l.world.events)
moves_on here l top c k (Statement-F.Case e alternatives) =
    or_refused_on l _ (evaluated here l e) (λ v _. front_same l.world.events)
moves_on here l top c k (Statement-F.Loop condition body) = front_same l.world.events
moves_on here l top c k (Statement-F.For p left direction right body) =
    or_refused_on l _ (loop_range here l left direction right) (λ o _. front_same l.world.events)
moves_on here l top c k (Statement-F.Exit condition) =
    or_refused_on l _ (holds here l condition) (λ b _. front_same l.world.events)
moves_on here l top c k (Statement-F.Next condition) =
    or_refused_on l _ (holds here l condition) (λ b _. front_same l.world.events)
moves_on here l top c k (Statement-F.Wait number on condition timeout) =
    or_refused_on l _ (timeout_of here l timeout) (λ t _. front_same l.world.events)
moves_on here l top c k (Statement-F.Assert e text s) =
    or_refused_on l (λ (v : Val). asserted_at (is_true v) (reported_at here s text (at c (k + 1)) l) (at c (k + 1)) l) (evaluated here l e)
    (λ v _. asserted_on (is_true v) (reported_at here s text (at c (k + 1)) l) (at c (k + 1)) l (reported_on here s text (at c (k + 1)) l))
moves_on here l top c k (Statement-F.Report text s) = reported_on here s text (at c (k + 1)) l
moves_on here l top c k (Statement-F.Break elements condition) =
    or_refused_on l (goes_to (at c (k + 1))) (holds here l condition >>= break_by here l elements) (broken_on here l elements (holds here l condition))
moves_on here l top c k Statement-F.Null = front_same l.world.events

counted_on_by : (here : Context) (l : Local) (top : List Statement) (q : Coming) → TurnsIn l q → MovesOn l.world.events (counted_at here l top q)
counted_on_by here l top (begins_at s c k) h = moves_on here l top c k (out-Statement s)
counted_on_by here l top (turns_to p turned) same = subst (λ (w : World). IsFront l.world.events w.events) (sym same) (front_same l.world.events)
counted_on_by here l top starts_again h = front_same l.world.events
counted_on_by here l top (has_fault r) h = front_same l.world.events

pub counted_on : (here : Context) (l : Local) (top : List Statement) (p : ProcessPlace) → MovesOn l.world.events (counted_at here l top (coming here l top p))
counted_on here l top p = counted_on_by here l top (coming here l top p) (coming_turns here l top p)
