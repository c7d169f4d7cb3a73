-- What the runs of processes change of a world: signals, thresholds and DOMAIN stay, and their events tell nothing.
use Rattle.std.proofs.Common.{◌≡◌, refl, ◌∙◌, sym, subst, ℕ, zero, suc, ◌+◌, Bool, true, false, not, ◌&&◌, if◌then◌else◌, List, [], ◌∷◌, ◌++◌, Option, None, Result, Ok, Err, slice_set, map}
use Rattle.std.specs.List.{slice_get}
use Rattle.std.specs.Ordering.{int_eq}
use Rattle.message_codes.specs.Codes.{range}
use Rattle.fix_core.specs.Passes.{◌>>=◌}
use Rattle.ams_value.specs.declared.val.Val.{Val}
use Rattle.ams_value.specs.Values.{is_true}
use Rattle.flat_expr.specs.declared.expr.FlatExpr.{FlatExpr}
use Rattle.flat_expr.specs.declared.subtype.Constraint.{Constraint}
use Rattle.flat_expr.specs.Subtype.{lies_in}
use Rattle.flat_expr.specs.declared.statement.BreakElement.{BreakElement}
use Rattle.flat_expr.specs.declared.statement.WaveElement.{WaveElement}
use Rattle.flat_expr.specs.declared.statement.DelayMechanism.{DelayMechanism}
use Rattle.flat_expr.specs.declared.statement.Severity.{Severity}
use Rattle.flat_expr.specs.declared.statement.Severity.TheVariants as severity
use Rattle.flat_expr.specs.declared.statement.Statement.{Statement, out-Statement}
use Rattle.flat_expr.specs.declared.statement.Statement.TheOpen.{Statement-F}
use Rattle.flat_design.specs.declared.objects.Variable.{Variable}
use Rattle.flat_design.specs.declared.objects.Process.{Process}
use Rattle.step_data.specs.declared.event.Event.{Event}
use Rattle.step_data.specs.declared.event.Event.TheVariants as event
use Rattle.step_data.specs.declared.outcome.Refusal.{Refusal}
use Rattle.step_model.specs.System.{ProcessState}
use Rattle.cycle_meaning.specs.Task.{Task, statement, again, first_turn, next_turn, statements, behind_loop, at_next_turn, Layer}
use Rattle.cycle_meaning.specs.World.{World, Context, Local, evaluated, holds, refusal, refused_where, with_event}
use Rattle.cycle_meaning.specs.Statements.{Step, goes_on, waits, refuses, or_refuses, goes, signal_assignment, variable_assignment, limit_of, transactions, assigned, constraint_of, branch_taken, alternative_taken, for_loop, reported, asserted, break_by, elements_of, with_elements, timeout_of, executed}
use Rattle.cycle_meaning.specs.Processes.{Next, begins, turns, returns, faulty, stepped, with_parameter, parameter_of, by_condition, next_of, Stop, stopped, refused, after_step, spent, counted, run, process_body, statement_budget, state_of, left_behind}
use Rattle.cycle_meaning.specs.Cycles.{Ran_of, all_ran, one_refused, with_state, after_stop, by_resumption, run_all, start_all, local_of}
use Rattle.point_laws.specs.Told.{Told, told_over, EachPoint}
use Rattle.point_laws.proofs.Telling.{over_append, each_append}
use Rattle.point_laws.proofs.Giving.{NoPoint}

-- what a process leaves of a world
pub record Keeps (before after : World) : Type 0 where
  pub signals : after.signals ≡ before.signals
  pub thresholds : after.thresholds ≡ before.thresholds
  pub told : (told : Told) → told_over told after.events ≡ told_over told before.events
  pub points : (told : Told) → EachPoint NoPoint told before.events → EachPoint NoPoint told after.events

pub keeps_all : (w : World) → Keeps w w
keeps_all w = record { signals = refl; thresholds = refl; told = λ told. refl; points = λ told h. h }

pub keeps_on : (a b c : World) → Keeps a b → Keeps b c → Keeps a c
keeps_on a b c f g =
    record {
      signals = g.signals ∙ f.signals;
      thresholds = g.thresholds ∙ f.thresholds;
      told = λ told. g.told told ∙ f.told told;
      points = λ told h. g.points told (f.points told h);
    }

-- a further event that tells nothing
quiet : (w : World) (e : Event) → ((told : Told) → told_over told (e ∷ []) ≡ told) → ((told : Told) → EachPoint NoPoint told (e ∷ [])) → Keeps w (with_event e w)
quiet w e tells points =
    record {
      signals = refl;
      thresholds = refl;
      told = λ told. over_append told w.events (e ∷ []) ∙ tells (told_over told w.events);
      points = λ told h. each_append NoPoint told w.events (e ∷ []) h (points (told_over told w.events));
    }

-- ---- what follows a call that passed

by_steps : {A B : Type 0} (Q : B → Type 0) (m : Result A Refusal) (f : A → Result B Refusal) → ((a : A) (b : B) → m ≡ Ok a → f a ≡ Ok b → Q b) → (b : B) → (m >>= f) ≡ Ok b → Q b
by_steps Q (Ok a) f h b e = h a b refl e
by_steps Q (Err r) f h b e = absurd cc

abbrev passed : {A : Type 0} → A → Result A Refusal
passed a = Ok a

ok_is : {A : Type 0} (a b : A) → passed a ≡ passed b → a ≡ b
ok_is a b e = cc

-- ---- a statement

abbrev StepKeeps : World → Step → Type 0
StepKeeps w (goes_on rest l) = Keeps w l.world
StepKeeps w (waits number at rest l) = Keeps w l.world
StepKeeps w (refuses l r) = Keeps w l.world

each_keeps : {A : Type 0} (l : Local) (go : A → Step) (r : Result A Refusal) → ((a : A) → r ≡ Ok a → StepKeeps l.world (go a)) → StepKeeps l.world (or_refuses l go r)
each_keeps l go (Ok a) follow = follow a refl
each_keeps l go (Err r) follow = keeps_all l.world

assigned_keeps : (here : Context) (l : Local) (i : ℕ) (c : Constraint) (m : DelayMechanism) (wave : List WaveElement) (after : Local) → signal_assignment here l i c m wave ≡ Ok after → Keeps l.world after.world
assigned_keeps here l i c m wave =
    by_steps (λ (after : Local). Keeps l.world after.world) (limit_of here l m) (λ limit. transactions here l fits limit None wave >>= (λ new. Ok (assigned here i m limit new l)))
    (λ limit b _. by_steps (λ (after : Local). Keeps l.world after.world) (transactions here l fits limit None wave) (λ new. Ok (assigned here i m limit new l))
    (λ new after made e. subst (λ (after : Local). Keeps l.world after.world) (ok_is (assigned here i m limit new l) after e)
    (record { signals = refl; thresholds = refl; told = λ told. refl; points = λ told h. h })) b)
  where
    fits : Val → Bool
    fits v = lies_in c v && lies_in (constraint_of (slice_get here.objects.signals i)) v

variable_keeps : (here : Context) (l : Local) (i : ℕ) (c : Constraint) (e : FlatExpr) (after : Local) → variable_assignment here l i c e ≡ Ok after → Keeps l.world after.world
variable_keeps here l i c e =
    by_steps (λ (after : Local). Keeps l.world after.world) (evaluated here l e) (λ v. refused_where (not (lies_in c v)) (refusal here range) v >>= (λ tested. Ok (record l { variables = slice_set l.variables i tested })))
    (λ v b _. by_steps (λ (after : Local). Keeps l.world after.world) (refused_where (not (lies_in c v)) (refusal here range) v) (λ tested. Ok (record l { variables = slice_set l.variables i tested }))
    (λ tested after _ is. subst (λ (after : Local). Keeps l.world after.world) (ok_is (record l { variables = slice_set l.variables i tested }) after is) (keeps_all l.world)) b)

report_keeps : (here : Context) (n : ℕ) (text : List ℕ) (w : World) → Keeps w (with_event (event.Report here.t here.n n text) w)
report_keeps here n text w = quiet w (event.Report here.t here.n n text) (λ told. refl) (λ told. tt)

reported_keeps : (here : Context) (s : Severity) (text : List ℕ) (rest : List Task) (l : Local) → StepKeeps l.world (reported here s text rest l)
reported_keeps here severity.Note text rest l = report_keeps here 0 text l.world
reported_keeps here severity.Warning text rest l = report_keeps here 1 text l.world
reported_keeps here severity.Error text rest l = report_keeps here 2 text l.world
reported_keeps here severity.Failure text rest l = report_keeps here 3 text l.world

asserted_keeps : (t : Bool) (report : Step) (rest : List Task) (l : Local) → StepKeeps l.world report → StepKeeps l.world (asserted t report rest l)
asserted_keeps true report rest l h = keeps_all l.world
asserted_keeps false report rest l h = h

broken_keeps : (here : Context) (l : Local) (elements : List BreakElement) (holding : Result Bool Refusal) (after : Local) → (holding >>= break_by here l elements) ≡ Ok after → Keeps l.world after.world
broken_keeps here l elements (Err r) after e = absurd cc
broken_keeps here l elements (Ok false) after e = subst (λ (after : Local). Keeps l.world after.world) (ok_is l after e) (keeps_all l.world)
broken_keeps here l elements (Ok true) after e =
    by_steps (λ (after : Local). Keeps l.world after.world) (elements_of here l l.world.elements elements) (λ made. Ok (with_elements here made l))
    (λ made b _ is. subst (λ (after : Local). Keeps l.world after.world) (ok_is (with_elements here made l) b is)
    (let told = quiet l.world (event.Broke here.t here.n made) (λ told. refl) (λ told. tt) in
    record { signals = refl; thresholds = refl; told = told.told; points = told.points })) after e

executed_keeps : (here : Context) (l : Local) (rest : List Task) (layer : Layer) → StepKeeps l.world (executed here l rest layer)
executed_keeps here l rest (Statement-F.SignalAssignment i c m wave) =
    each_keeps l (goes rest) (signal_assignment here l i c m wave) (λ after e. assigned_keeps here l i c m wave after e)
executed_keeps here l rest (Statement-F.VariableAssignment i c e) =
    each_keeps l (goes rest) (variable_assignment here l i c e) (λ after is. variable_keeps here l i c e after is)
executed_keeps here l rest (Statement-F.If branches last) =
    each_keeps l (λ (body : List Statement). goes_on (statements body ++ rest) l) (branch_taken here l branches last) (λ body e. keeps_all l.world)
executed_keeps here l rest (Statement-F.Case e alternatives) =
    each_keeps l (λ (v : Val). goes_on (statements (alternative_taken alternatives v) ++ rest) l) (evaluated here l e) (λ v is. keeps_all l.world)
executed_keeps here l rest (Statement-F.Loop condition body) = keeps_all l.world
executed_keeps here l rest (Statement-F.For p left direction right body) =
    each_keeps l (λ (turn : List Task). goes_on (turn ++ rest) l) (for_loop here l p left direction right body) (λ turn e. keeps_all l.world)
executed_keeps here l rest (Statement-F.Exit condition) =
    each_keeps l (λ (b : Bool). goes_on (if b then behind_loop rest else rest) l) (holds here l condition) (λ b e. keeps_all l.world)
executed_keeps here l rest (Statement-F.Next condition) =
    each_keeps l (λ (b : Bool). goes_on (if b then at_next_turn rest else rest) l) (holds here l condition) (λ b e. keeps_all l.world)
executed_keeps here l rest (Statement-F.Wait number on condition timeout) =
    each_keeps l (λ (at : Option ℕ). waits number at rest l) (timeout_of here l timeout) (λ at e. keeps_all l.world)
executed_keeps here l rest (Statement-F.Assert e text s) =
    each_keeps l (λ (v : Val). asserted (is_true v) (reported here s text rest l) rest l) (evaluated here l e)
    (λ v is. asserted_keeps (is_true v) (reported here s text rest l) rest l (reported_keeps here s text rest l))
executed_keeps here l rest (Statement-F.Report text s) = reported_keeps here s text rest l
executed_keeps here l rest (Statement-F.Break elements condition) =
    each_keeps l (goes rest) (holds here l condition >>= break_by here l elements) (λ after e. broken_keeps here l elements (holds here l condition) after e)
executed_keeps here l rest Statement-F.Null = keeps_all l.world

-- ---- a process

-- what counts next leaves the world as it is
abbrev TurnsIn : World → Next → Type 0
TurnsIn w (turns rest turned) = turned.world ≡ w
TurnsIn w _ = Unit {0}

condition_turns : (w : World) (r : Result Bool Refusal) (turn others : Next) → TurnsIn w turn → TurnsIn w others → TurnsIn w (by_condition r turn others)
condition_turns w (Ok true) turn others a b = a
condition_turns w (Ok false) turn others a b = b
condition_turns w (Err r) turn others a b = tt

test_turns : (w : World) (t : Bool) (a b : Next) → TurnsIn w a → TurnsIn w b → TurnsIn w (if t then a else b)
test_turns w true a b x y = x
test_turns w false a b x y = y

next_turns : (here : Context) (l : Local) (rest : List Task) → TurnsIn l.world (next_of here l rest)
unfolding next_of
next_turns here l [] = tt
next_turns here l (statement s ∷ rest) = tt
next_turns here l (again condition body ∷ rest) =
    condition_turns l.world (holds here l condition) (turns (statements body ++ again condition body ∷ rest) l) (next_of here l rest) refl (next_turns here l rest)
next_turns here l (first_turn p direction from last body ∷ rest) = refl
next_turns here l (next_turn p direction last body ∷ rest) =
    test_turns l.world (int_eq (parameter_of l p) last) (next_of here l rest)
    (turns (statements body ++ next_turn p direction last body ∷ rest) (with_parameter p (stepped direction (parameter_of l p)) l)) (next_turns here l rest) refl

abbrev StopKeeps : World → Stop → Type 0
StopKeeps w (stopped number at rest l) = Keeps w l.world
StopKeeps w (refused l r) = Keeps w l.world

stop_on : (a b : World) (e : Stop) → Keeps a b → StopKeeps b e → StopKeeps a e
stop_on a b (stopped number at rest l) f h = keeps_on a b l.world f h
stop_on a b (refused l r) f h = keeps_on a b l.world f h

step_on : (w : World) (further : Local → List Task → Stop) (s : Step) → ((l : Local) (rest : List Task) → StopKeeps l.world (further l rest)) → StepKeeps w s → StopKeeps w (after_step further s)
step_on w further (goes_on rest l) on h = stop_on w l.world (further l rest) h (on l rest)
step_on w further (waits number at rest l) on h = h
step_on w further (refuses l r) on h = h

spent_keeps : (here : Context) (l : Local) (q : Next) → StopKeeps l.world (spent here l q)
spent_keeps here l (begins s rest) = keeps_all l.world
spent_keeps here l (turns rest turned) = keeps_all l.world
spent_keeps here l returns = keeps_all l.world
spent_keeps here l (faulty r) = keeps_all l.world

counted_keeps : (further : Local → List Task → Stop) (here : Context) (l : Local) (q : Next) → ((m : Local) (rest : List Task) → StopKeeps m.world (further m rest)) → TurnsIn l.world q → StopKeeps l.world (counted further here l q)
counted_keeps further here l (begins s rest) on h = step_on l.world further (executed here l rest (out-Statement s)) on (executed_keeps here l rest (out-Statement s))
counted_keeps further here l (turns rest turned) on same = subst (λ (w : World). StopKeeps w (further turned rest)) same (on turned rest)
counted_keeps further here l returns on h = on l (statements (process_body here))
counted_keeps further here l (faulty r) on h = keeps_all l.world

run_keeps : (n : ℕ) (here : Context) (l : Local) (rest : List Task) → StopKeeps l.world (run n here l rest)
unfolding run
run_keeps zero here l rest = spent_keeps here l (next_of here l rest)
run_keeps (suc n) here l rest = counted_keeps (run n here) here l (next_of here l rest) (run_keeps n here) (next_turns here l rest)

-- ---- all processes

-- the world behind the runs, or where one is refused
abbrev pub world_behind : Ran_of → World
world_behind (all_ran w states) = w
world_behind (one_refused w r) = w

with_state_behind : (s : ProcessState) (r : Ran_of) → world_behind (with_state s r) ≡ world_behind r
with_state_behind s (all_ran w states) = refl
with_state_behind s (one_refused w r) = refl

stop_keeps : (others : World → Ran_of) (p : Process) (w : World) (e : Stop) → ((v : World) → Keeps v (world_behind (others v))) → StopKeeps w e → Keeps w (world_behind (after_stop others p e))
stop_keeps others p w (stopped number at rest l) on h =
    subst (Keeps w) (sym (with_state_behind (state_of p.variables number at rest l) (others l.world))) (keeps_on w l.world (world_behind (others l.world)) h (on l.world))
stop_keeps others p w (refused l r) on h = h

resumed_keeps : (b : Bool) (others : World → Ran_of) (here : Context) (w : World) (p : Process) (s : ProcessState) → ((v : World) → Keeps v (world_behind (others v))) → Keeps w (world_behind (by_resumption b others here w p s))
resumed_keeps true others here w p s on = stop_keeps others p w (run statement_budget here (local_of w p s) (left_behind p s)) on (run_keeps statement_budget here (local_of w p s) (left_behind p s))
resumed_keeps false others here w p s on = subst (Keeps w) (sym (with_state_behind s (others w))) (on w)

pub runs_keep : (at : ℕ → Context) (k : ℕ) (ps : List Process) (states : List ProcessState) (resumed : List Bool) (w : World) → Keeps w (world_behind (run_all at k ps states resumed w))
unfolding run_all
runs_keep at k [] states bs w = keeps_all w
runs_keep at k (p ∷ ps) [] bs w = keeps_all w
runs_keep at k (p ∷ ps) (s ∷ states) [] w = keeps_all w
runs_keep at k (p ∷ ps) (s ∷ states) (b ∷ bs) w = resumed_keeps b (run_all at (k + 1) ps states bs) (at k) w p s (runs_keep at (k + 1) ps states bs)

pub starts_keep : (at : ℕ → Context) (k : ℕ) (ps : List Process) (w : World) → Keeps w (world_behind (start_all at k ps w))
unfolding start_all
starts_keep at k [] w = keeps_all w
starts_keep at k (p ∷ ps) w =
    stop_keeps (start_all at (k + 1) ps) p w (run statement_budget (at k) (record { world = w; variables = map (λ (v : Variable). v.initial) p.variables }) (statements p.statements))
    (starts_keep at (k + 1) ps) (run_keeps statement_budget (at k) (record { world = w; variables = map (λ (v : Variable). v.initial) p.variables }) (statements p.statements))
