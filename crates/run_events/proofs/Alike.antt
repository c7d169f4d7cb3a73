-- A process that runs behind earlier events.
use Rattle.std.proofs.Common.{◌≡◌, refl, ap, ◌∙◌, ℕ, zero, suc, Bool, true, false, not, ◌&&◌, ℤ, if◌then◌else◌, List, [], ◌∷◌, ◌++◌, append_assoc, Option, None, Result, Ok, Err, slice_set}
use Rattle.std.specs.List.{slice_get}
use Rattle.std.specs.Ordering.{int_eq}
use Rattle.message_codes.specs.Codes.{range, failure}
use Rattle.fix_core.specs.Passes.{◌>>=◌}
use Rattle.ams_value.specs.declared.val.Val.{Val}
use Rattle.ams_value.specs.Values.{is_true}
use Rattle.flat_expr.specs.declared.expr.FlatExpr.{FlatExpr}
use Rattle.flat_expr.specs.declared.subtype.Constraint.{Constraint}
use Rattle.flat_expr.specs.Subtype.{lies_in}
use Rattle.flat_expr.specs.declared.statement.BreakElement.{BreakElement}
use Rattle.flat_expr.specs.declared.statement.WaveElement.{WaveElement}
use Rattle.flat_expr.specs.declared.statement.DelayMechanism.{DelayMechanism}
use Rattle.flat_expr.specs.declared.statement.Severity.{Severity}
use Rattle.flat_expr.specs.declared.statement.Severity.TheVariants as severity
use Rattle.flat_expr.specs.declared.statement.Statement.{Statement, out-Statement}
use Rattle.flat_expr.specs.declared.statement.Statement.TheOpen.{Statement-F}
use Rattle.step_data.specs.declared.event.Event.{Event}
use Rattle.step_data.specs.declared.event.Event.TheVariants as event
use Rattle.step_data.specs.declared.breaks.Element.{Element}
use Rattle.step_data.specs.declared.outcome.Refusal.{Refusal}
use Rattle.cycle_meaning.specs.Task.{Task, statement, again, first_turn, next_turn, statements, behind_loop, at_next_turn, Layer}
use Rattle.cycle_meaning.specs.World.{Context, Local, evaluated, holds, refusal, refused_where}
use Rattle.cycle_meaning.specs.Statements.{Step, goes_on, waits, refuses, or_refuses, goes, signal_assignment, variable_assignment, limit_of, transactions, assigned, constraint_of, branch_taken, alternative_taken, for_loop, reported, asserted, with_report, break_by, elements_of, with_elements, timeout_of, executed}
use Rattle.cycle_meaning.specs.Processes.{Next, begins, turns, returns, faulty, stepped, with_parameter, parameter_of, by_condition, next_of, Stop, after_step, spent, counted, run, process_body}
use Rattle.run_laws.specs.Events.{local_behind, stop_behind, RunAlike}
use Rattle.run_events.proofs.Parts.{bind_alike, holds_alike, timeout_alike, limit_alike, transactions_alike, branch_alike, elements_alike}

-- ---- a statement

abbrev step_behind : List Event → Step → Step
step_behind events (goes_on rest l) = goes_on rest (local_behind events l)
step_behind events (waits number at rest l) = waits number at rest (local_behind events l)
step_behind events (refuses l r) = refuses (local_behind events l) r

abbrev result_behind : List Event → Result Local Refusal → Result Local Refusal
result_behind events (Ok l) = Ok (local_behind events l)
result_behind events (Err r) = Err r

each_alike : {A : Type 0} (events : List Event) (l : Local) (go move : A → Step) (r : Result A Refusal) → ((a : A) → go a ≡ step_behind events (move a)) → or_refuses (local_behind events l) go r ≡ step_behind events (or_refuses l move r)
each_alike events l go move (Ok a) follow = follow a
each_alike events l go move (Err r) follow = refl

or_alike : {A : Type 0} (events : List Event) (l : Local) (go move : A → Step) (r s : Result A Refusal) → r ≡ s → ((a : A) → go a ≡ step_behind events (move a))
    → or_refuses (local_behind events l) go r ≡ step_behind events (or_refuses l move s)
or_alike events l go move r s same follow = ap (or_refuses (local_behind events l) go) same ∙ each_alike events l go move s follow

goes_alike : (events : List Event) (l : Local) (rest : List Task) (r : Result Local Refusal) → or_refuses (local_behind events l) (goes rest) (result_behind events r) ≡ step_behind events (or_refuses l (goes rest) r)
goes_alike events l rest (Ok a) = refl
goes_alike events l rest (Err r) = refl

bind_behind : {A : Type 0} (events : List Event) (m : Result A Refusal) (f g : A → Result Local Refusal) → ((a : A) → f a ≡ result_behind events (g a)) → (m >>= f) ≡ result_behind events (m >>= g)
bind_behind events (Ok a) f g follow = follow a
bind_behind events (Err r) f g follow = refl

assigned_alike : (here : Context) (l : Local) (events : List Event) (i : ℕ) (c : Constraint) (m : DelayMechanism) (wave : List WaveElement) →
    signal_assignment here (local_behind events l) i c m wave ≡ result_behind events (signal_assignment here l i c m wave)
assigned_alike here l events i c m wave =
    bind_alike (limit_of here (local_behind events l) m) (limit_of here l m) (made (local_behind events l)) (λ limit. transactions here l fits limit None wave >>= (λ new. Ok (assigned here i m limit new (local_behind events l))))
    (limit_alike here l events m)
    (λ limit. ap (λ r. r >>= (λ new. Ok (assigned here i m limit new (local_behind events l)))) (transactions_alike here l events fits limit None wave))
    ∙ bind_behind events (limit_of here l m) (λ limit. transactions here l fits limit None wave >>= (λ new. Ok (assigned here i m limit new (local_behind events l)))) (made l)
    (λ limit. bind_behind events (transactions here l fits limit None wave) (λ new. Ok (assigned here i m limit new (local_behind events l))) (λ new. Ok (assigned here i m limit new l)) (λ new. refl))
  where
    fits : Val → Bool
    fits v = lies_in c v && lies_in (constraint_of (slice_get here.objects.signals i)) v

    made : Local → Option ℤ → Result Local Refusal
    made k limit = transactions here k fits limit None wave >>= (λ new. Ok (assigned here i m limit new k))

variable_alike : (here : Context) (l : Local) (events : List Event) (i : ℕ) (c : Constraint) (e : FlatExpr) →
    variable_assignment here (local_behind events l) i c e ≡ result_behind events (variable_assignment here l i c e)
variable_alike here l events i c e =
    bind_behind events (evaluated here l e) (tested (local_behind events l)) (tested l)
    (λ v. bind_behind events (refused_where (not (lies_in c v)) (refusal here range) v) (stored (local_behind events l)) (stored l) (λ u. refl))
  where
    stored : Local → Val → Result Local Refusal
    stored k u = Ok (record k { variables = slice_set k.variables i u })

    tested : Local → Val → Result Local Refusal
    tested k v = refused_where (not (lies_in c v)) (refusal here range) v >>= stored k

report_alike : (here : Context) (n : ℕ) (text : List ℕ) (events : List Event) (l : Local) → with_report here n text (local_behind events l) ≡ local_behind events (with_report here n text l)
report_alike here n text events l =
    ap (λ (es : List Event). record l { world = record l.world { events = es } }) (append_assoc events l.world.events (event.Report here.t here.n n text ∷ []))

reported_alike : (here : Context) (events : List Event) (s : Severity) (text : List ℕ) (rest : List Task) (l : Local) → reported here s text rest (local_behind events l) ≡ step_behind events (reported here s text rest l)
reported_alike here events severity.Failure text rest l = ap (λ (k : Local). refuses k (refusal here failure)) (report_alike here 3 text events l)
reported_alike here events severity.Note text rest l = ap (goes_on rest) (report_alike here 0 text events l)
reported_alike here events severity.Warning text rest l = ap (goes_on rest) (report_alike here 1 text events l)
reported_alike here events severity.Error text rest l = ap (goes_on rest) (report_alike here 2 text events l)

asserted_alike : (events : List Event) (t : Bool) (report other : Step) (rest : List Task) (l : Local) → report ≡ step_behind events other → asserted t report rest (local_behind events l) ≡ step_behind events (asserted t other rest l)
asserted_alike events true report other rest l same = refl
asserted_alike events false report other rest l same = same

elements_told : (here : Context) (events : List Event) (made : List Element) (l : Local) → with_elements here made (local_behind events l) ≡ local_behind events (with_elements here made l)
elements_told here events made l =
    ap (λ (es : List Event). record l { world = record l.world { elements = l.world.elements ++ made; broke = true; events = es } }) (append_assoc events l.world.events (event.Broke here.t here.n made ∷ []))

broken_alike : (here : Context) (l : Local) (events : List Event) (elements : List BreakElement) (b : Bool) → break_by here (local_behind events l) elements b ≡ result_behind events (break_by here l elements b)
broken_alike here l events elements false = refl
broken_alike here l events elements true =
    ap (λ r. r >>= (λ made. Ok (with_elements here made (local_behind events l)))) (elements_alike here l events l.world.elements elements)
    ∙ bind_behind events (elements_of here l l.world.elements elements) (λ made. Ok (with_elements here made (local_behind events l))) (λ made. Ok (with_elements here made l))
    (λ made. ap (λ (k : Local). Ok k) (elements_told here events made l))

break_alike : (here : Context) (l : Local) (events : List Event) (elements : List BreakElement) (holding : Result Bool Refusal) → (holding >>= break_by here (local_behind events l) elements) ≡ result_behind events (holding >>= break_by here l elements)
break_alike here l events elements holding = bind_behind events holding (break_by here (local_behind events l) elements) (break_by here l elements) (broken_alike here l events elements)

test_alike : (events : List Event) (l : Local) (b : Bool) (xs ys : List Task) → goes_on (if b then xs else ys) (local_behind events l) ≡ step_behind events (goes_on (if b then xs else ys) l)
test_alike events l b xs ys = refl

executed_alike : (here : Context) (l : Local) (events : List Event) (rest : List Task) (layer : Layer) → executed here (local_behind events l) rest layer ≡ step_behind events (executed here l rest layer)
executed_alike here l events rest (Statement-F.SignalAssignment i c m wave) =
    ap (or_refuses (local_behind events l) (goes rest)) (assigned_alike here l events i c m wave) ∙ goes_alike events l rest (signal_assignment here l i c m wave)
executed_alike here l events rest (Statement-F.VariableAssignment i c e) =
    ap (or_refuses (local_behind events l) (goes rest)) (variable_alike here l events i c e) ∙ goes_alike events l rest (variable_assignment here l i c e)
executed_alike here l events rest (Statement-F.If branches last) =
    or_alike events l _ (λ (body : List Statement). goes_on (statements body ++ rest) l) (branch_taken here (local_behind events l) branches last) (branch_taken here l branches last) (branch_alike here l events branches last) (λ body. refl)
executed_alike here l events rest (Statement-F.Case e alternatives) =
    each_alike events l _ (λ (v : Val). goes_on (statements (alternative_taken alternatives v) ++ rest) l) (evaluated here l e) (λ v. refl)
executed_alike here l events rest (Statement-F.Loop condition body) = refl
executed_alike here l events rest (Statement-F.For p left direction right body) =
    each_alike events l _ (λ (turn : List Task). goes_on (turn ++ rest) l) (for_loop here l p left direction right body) (λ turn. refl)
executed_alike here l events rest (Statement-F.Exit condition) =
    or_alike events l _ (λ (b : Bool). goes_on (if b then behind_loop rest else rest) l) (holds here (local_behind events l) condition) (holds here l condition) (holds_alike here l events condition) (λ b. refl)
executed_alike here l events rest (Statement-F.Next condition) =
    or_alike events l _ (λ (b : Bool). goes_on (if b then at_next_turn rest else rest) l) (holds here (local_behind events l) condition) (holds here l condition) (holds_alike here l events condition) (λ b. refl)
executed_alike here l events rest (Statement-F.Wait number on condition timeout) =
    or_alike events l _ (λ (at : Option ℕ). waits number at rest l) (timeout_of here (local_behind events l) timeout) (timeout_of here l timeout) (timeout_alike here l events timeout) (λ at. refl)
executed_alike here l events rest (Statement-F.Assert e text s) =
    each_alike events l _ (λ (v : Val). asserted (is_true v) (reported here s text rest l) rest l) (evaluated here l e)
    (λ v. asserted_alike events (is_true v) (reported here s text rest (local_behind events l)) (reported here s text rest l) rest l (reported_alike here events s text rest l))
executed_alike here l events rest (Statement-F.Report text s) = reported_alike here events s text rest l
executed_alike here l events rest (Statement-F.Break elements condition) =
    ap (λ (h : Result Bool Refusal). or_refuses (local_behind events l) (goes rest) (h >>= break_by here (local_behind events l) elements)) (holds_alike here l events condition)
    ∙ (ap (or_refuses (local_behind events l) (goes rest)) (break_alike here l events elements (holds here l condition)) ∙ goes_alike events l rest (holds here l condition >>= break_by here l elements))
executed_alike here l events rest Statement-F.Null = refl

-- ---- what counts next

abbrev next_behind : List Event → Next → Next
next_behind events (begins s rest) = begins s rest
next_behind events (turns rest l) = turns rest (local_behind events l)
next_behind events returns = returns
next_behind events (faulty r) = faulty r

condition_alike : (events : List Event) (r : Result Bool Refusal) (a b p q : Next) → a ≡ next_behind events p → b ≡ next_behind events q → by_condition r a b ≡ next_behind events (by_condition r p q)
condition_alike events (Ok true) a b p q x y = x
condition_alike events (Ok false) a b p q x y = y
condition_alike events (Err r) a b p q x y = refl

turn_alike : (events : List Event) (t : Bool) (a b p q : Next) → a ≡ next_behind events p → b ≡ next_behind events q → (if t then a else b) ≡ next_behind events (if t then p else q)
turn_alike events true a b p q x y = x
turn_alike events false a b p q x y = y

next_alike : (here : Context) (l : Local) (events : List Event) (rest : List Task) → next_of here (local_behind events l) rest ≡ next_behind events (next_of here l rest)
unfolding next_of
next_alike here l events [] = refl
next_alike here l events (statement s ∷ rest) = refl
next_alike here l events (again condition body ∷ rest) =
    ap (λ (h : Result Bool Refusal). by_condition h (turns (statements body ++ again condition body ∷ rest) (local_behind events l)) (next_of here (local_behind events l) rest)) (holds_alike here l events condition)
    ∙ condition_alike events (holds here l condition) _ (next_of here (local_behind events l) rest) (turns (statements body ++ again condition body ∷ rest) l) (next_of here l rest) refl (next_alike here l events rest)
next_alike here l events (first_turn p direction from last body ∷ rest) = refl
next_alike here l events (next_turn p direction last body ∷ rest) =
    turn_alike events (int_eq (parameter_of l p) last) (next_of here (local_behind events l) rest) _ (next_of here l rest)
    (turns (statements body ++ next_turn p direction last body ∷ rest) (with_parameter p (stepped direction (parameter_of l p)) l)) (next_alike here l events rest) refl

-- ---- the run

after_alike : (events : List Event) (further : Local → List Task → Stop) (s : Step) → ((l : Local) (rest : List Task) → further (local_behind events l) rest ≡ stop_behind events (further l rest))
    → after_step further (step_behind events s) ≡ stop_behind events (after_step further s)
after_alike events further (goes_on rest l) on = on l rest
after_alike events further (waits number at rest l) on = refl
after_alike events further (refuses l r) on = refl

spent_alike : (here : Context) (l : Local) (events : List Event) (q : Next) → spent here (local_behind events l) (next_behind events q) ≡ stop_behind events (spent here l q)
spent_alike here l events (begins s rest) = refl
spent_alike here l events (turns rest turned) = refl
spent_alike here l events returns = refl
spent_alike here l events (faulty r) = refl

counted_alike : (further : Local → List Task → Stop) (here : Context) (l : Local) (events : List Event) (q : Next) → ((m : Local) (rest : List Task) → further (local_behind events m) rest ≡ stop_behind events (further m rest))
    → counted further here (local_behind events l) (next_behind events q) ≡ stop_behind events (counted further here l q)
counted_alike further here l events (begins s rest) on =
    ap (after_step further) (executed_alike here l events rest (out-Statement s)) ∙ after_alike events further (executed here l rest (out-Statement s)) on
counted_alike further here l events (turns rest turned) on = on turned rest
counted_alike further here l events returns on = on l (statements (process_body here))
counted_alike further here l events (faulty r) on = refl

pub run_alike : RunAlike
unfolding run
run_alike zero here l rest events = ap (spent here (local_behind events l)) (next_alike here l events rest) ∙ spent_alike here l events (next_of here l rest)
run_alike (suc n) here l rest events =
    ap (counted (run n here) here (local_behind events l)) (next_alike here l events rest)
    ∙ counted_alike (run n here) here l events (next_of here l rest) (λ m others. run_alike n here m others events)
