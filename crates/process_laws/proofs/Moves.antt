-- What counts next, a statement and a run lead from places to places.
use Rattle.std.proofs.Common.{◌≡◌, refl, ap, sym, ◌∙◌, subst, ℕ, zero, suc, ◌+◌, ◌≤◌, ◌<◌, inl, inr, Bool, true, false, ℤ, pos, if◌then◌else◌, List, [], ◌∷◌, ◌++◌, length, drop, append-nil, Option, Some, None, Result, Ok, Err, add-one, arith}
use Rattle.std.specs.List.{list_any}
use Rattle.std.specs.Ordering.{int_eq}
use Rattle.ams_value.specs.declared.val.Val.{Val}
use Rattle.ams_value.specs.Values.{equals}
use Rattle.flat_expr.specs.declared.expr.FlatExpr.{FlatExpr}
use Rattle.flat_expr.specs.declared.expr.SignalName.{SignalName}
use Rattle.flat_expr.specs.declared.expr.Direction.{Direction}
use Rattle.flat_expr.specs.declared.statement.Branch.{Branch, out-Branch}
use Rattle.flat_expr.specs.declared.statement.Alternative.{Alternative, out-Alternative}
use Rattle.flat_expr.specs.declared.statement.Severity.{Severity}
use Rattle.flat_expr.specs.declared.statement.Severity.TheVariants as severity
use Rattle.flat_expr.specs.declared.statement.Statement.{Statement, out-Statement}
use Rattle.flat_expr.specs.declared.statement.Statement.TheOpen.{Statement-F}
use Rattle.step_data.specs.declared.outcome.Refusal.{Refusal}
use Rattle.cycle_meaning.specs.Task.{Task, first_turn, statements, behind_loop, at_next_turn, branch_body, alternative_body, Layer}
use Rattle.fix_core.specs.Passes.{◌>>=◌}
use Rattle.ams_value.specs.Values.{is_true}
use Rattle.cycle_meaning.specs.World.{Context, Local, evaluated, holds}
use Rattle.cycle_meaning.specs.Statements.{Step, goes_on, waits, refuses, or_refuses, executed, goes, signal_assignment, variable_assignment, branch_taken, body_if, alternative_taken, either, first_body, for_loop, is_empty, integer_of, reported, asserted, break_by, timeout_of}
use Rattle.cycle_meaning.specs.Processes.{Next, begins, turns, returns, faulty, by_condition, next_of, parameter_of, Stop, stopped, refused, after_step, spent, counted, run, process_body}
use Rattle.design_rules.specs.Ways.{layer_at}
use Rattle.process_laws.specs.Resumed.{Surroundings, outermost, inside, body_in, AreOf, left_round, left_from, StandIn}
use Rattle.process_laws.proofs.Places.{drop_past, drop_whole, statement_at}

-- ---- places

pub at : (top : List Statement) (c : Surroundings) (k : ℕ) → AreOf top c → StandIn top (left_from top c k)
at top c k h = inl (record { round = c; number = k; of_text = h; tasks_are = refl })

-- at the first statement of a list
pub at_first : (top : List Statement) (c : Surroundings) → AreOf top c → StandIn top (statements (body_in top c) ++ left_round top c)
at_first top c h = at top c 0 h

-- at the start
pub at_start : (top : List Statement) → StandIn top (statements top)
at_start top = subst (StandIn top) (append-nil (statements top)) (at_first top outermost tt)

-- behind the last one
pub at_last : (top : List Statement) (c : Surroundings) → AreOf top c → StandIn top (left_round top c)
at_last top c h =
    subst (StandIn top) (ap (λ (z : List Statement). statements z ++ left_round top c) (drop_whole (body_in top c))) (at top c (length (body_in top c)) h)

-- ---- what counts next

-- the statement that begins, and what is left behind it
pub record Begins (top : List Statement) (s : Statement) (rest : List Task) : Type 0 where
  pub round : Surroundings
  pub number : ℕ
  pub of_text : AreOf top round
  pub statement_is : layer_at number (body_in top round) ≡ Some (out-Statement s)
  pub rest_is : rest ≡ left_from top round (number + 1)

abbrev pub AfterNext : List Statement → Next → Type 0
AfterNext top (begins s rest) = Begins top s rest
AfterNext top (turns tasks l) = StandIn top tasks
AfterNext top returns = Unit {0}
AfterNext top (faulty r) = Unit {0}

by_condition_stands : (top : List Statement) (r : Result Bool Refusal) (a b : Next) → AfterNext top a → AfterNext top b → AfterNext top (by_condition r a b)
by_condition_stands top (Ok true) a b ha hb = ha
by_condition_stands top (Ok false) a b ha hb = hb
by_condition_stands top (Err r) a b ha hb = tt

if_stands : (top : List Statement) (t : Bool) (a b : Next) → AfterNext top a → AfterNext top b → AfterNext top (if t then a else b)
if_stands top true a b ha hb = ha
if_stands top false a b ha hb = hb

begins_at : (top : List Statement) (c : Surroundings) (k : ℕ) (s : Statement) (ys : List Statement)
    → AreOf top c → drop k (body_in top c) ≡ s ∷ ys → Begins top s (statements ys ++ left_round top c)
begins_at top c k s ys h d =
    record {
      round = c;
      number = k;
      of_text = h;
      statement_is = statement_at (body_in top c) k s ys d;
      rest_is = ap (λ (z : List Statement). statements z ++ left_round top c) (sym (ap (λ (n : ℕ). drop n (body_in top c)) (add-one k) ∙ drop_past (body_in top c) k s ys d));
    }

pub next_from : (here : Context) (l : Local) (top : List Statement) (c : Surroundings) (k : ℕ) (xs : List Statement)
    → AreOf top c → drop k (body_in top c) ≡ xs → AfterNext top (next_of here l (statements xs ++ left_round top c))
unfolding next_of
next_from here l top c k (s ∷ ys) h d = begins_at top c k s ys h d
next_from here l top outermost k [] h d = tt
next_from here l top (inside c j b (Statement-F.Loop condition body) last) k [] h d =
    by_condition_stands top (holds here l condition) _ _
    (at_first top (inside c j b (Statement-F.Loop condition body) last) h)
    (next_from here l top c (j + 1) (drop (j + 1) (body_in top c)) h.0 refl)
next_from here l top (inside c j b (Statement-F.For p left direction right body) last) k [] h d =
    if_stands top (int_eq (parameter_of l p) last) _ _
    (next_from here l top c (j + 1) (drop (j + 1) (body_in top c)) h.0 refl)
    (at_first top (inside c j b (Statement-F.For p left direction right body) last) h)
next_from here l top (inside c j b (Statement-F.If x y) last) k [] h d = next_from here l top c (j + 1) (drop (j + 1) (body_in top c)) h.0 refl
next_from here l top (inside c j b (Statement-F.Case x y) last) k [] h d = next_from here l top c (j + 1) (drop (j + 1) (body_in top c)) h.0 refl
next_from here l top (inside c j b _ last) k [] h d = absurd h.2

pub next_stands : (here : Context) (l : Local) (top : List Statement) (tasks : List Task) → StandIn top tasks → AfterNext top (next_of here l tasks)
unfolding next_of
next_stands here l top tasks (inl w) =
    rw w.tasks_are (next_from here l top w.round w.number (drop w.number (body_in top w.round)) w.of_text refl)
next_stands here l top tasks (inr w) =
    rw w.tasks_are
    (at_first top (inside w.round w.number 0 (Statement-F.For w.p w.left w.direction w.right w.body) w.last) (w.of_text, w.statement_is, refl))

-- ---- exit and next

skips : (body : List Statement) (rest : List Task) → behind_loop (statements body ++ rest) ≡ behind_loop rest
skips [] rest = refl
skips (s ∷ body) rest = skips body rest

skips_to_turn : (body : List Statement) (rest : List Task) → at_next_turn (statements body ++ rest) ≡ at_next_turn rest
skips_to_turn [] rest = refl
skips_to_turn (s ∷ body) rest = skips_to_turn body rest

pub exit_from : (top : List Statement) (c : Surroundings) → AreOf top c → StandIn top (behind_loop (left_round top c))
exit_from top outermost h = at_last top outermost tt
exit_from top (inside c j b (Statement-F.Loop condition body) last) h = at top c (j + 1) h.0
exit_from top (inside c j b (Statement-F.For p left direction right body) last) h = at top c (j + 1) h.0
exit_from top (inside c j b (Statement-F.If x y) last) h = rw skips (exit_from top c h.0)
exit_from top (inside c j b (Statement-F.Case x y) last) h = rw skips (exit_from top c h.0)
exit_from top (inside c j b _ last) h = absurd h.2

pub next_turn_from : (top : List Statement) (c : Surroundings) → AreOf top c → StandIn top (at_next_turn (left_round top c))
next_turn_from top outermost h = at_last top outermost tt
next_turn_from top (inside c j b (Statement-F.Loop condition body) last) h = at_last top (inside c j b (Statement-F.Loop condition body) last) h
next_turn_from top (inside c j b (Statement-F.For p left direction right body) last) h =
    at_last top (inside c j b (Statement-F.For p left direction right body) last) h
next_turn_from top (inside c j b (Statement-F.If x y) last) h = rw skips_to_turn (next_turn_from top c h.0)
next_turn_from top (inside c j b (Statement-F.Case x y) last) h = rw skips_to_turn (next_turn_from top c h.0)
next_turn_from top (inside c j b _ last) h = absurd h.2

-- ---- a statement

-- a wait, and what is left behind it
pub record Waits (top : List Statement) (number : ℕ) (rest : List Task) : Type 0 where
  pub round : Surroundings
  pub place : ℕ
  pub of_text : AreOf top round
  pub on : List SignalName
  pub condition : Option FlatExpr
  pub timeout : Option FlatExpr
  pub statement_is : layer_at place (body_in top round) ≡ Some (Statement-F.Wait number on condition timeout)
  pub rest_is : rest ≡ left_from top round (place + 1)

abbrev pub AfterStep : List Statement → Step → Type 0
AfterStep top (goes_on tasks l) = StandIn top tasks
AfterStep top (waits number at rest l) = Waits top number rest
AfterStep top (refuses l r) = Unit {0}

abbrev pub OkHas : {A : Type 0} → (A → Type 0) → Result A Refusal → Type 0
OkHas P (Ok a) = P a
OkHas P (Err r) = Unit {0}

pub all_go : {A : Type 0} (top : List Statement) (l : Local) (go : A → Step) (r : Result A Refusal) → ((a : A) → AfterStep top (go a)) → AfterStep top (or_refuses l go r)
all_go top l go (Ok a) h = h a
all_go top l go (Err e) h = tt

pub some_go : {A : Type 0} (P : A → Type 0) (top : List Statement) (l : Local) (go : A → Step) (r : Result A Refusal)
    → OkHas P r → ((a : A) → P a → AfterStep top (go a)) → AfterStep top (or_refuses l go r)
some_go P top l go (Ok a) has h = h a has
some_go P top l go (Err e) has h = tt

-- ---- if

abbrev IsBranchBody : List Branch → List Statement → List Statement → Type 0
IsBranchBody branches last body = (b : ℕ) × (b ≤ length branches) × (branch_body branches last b ≡ body)

later_branch : (x : Branch) (more : List Branch) (last : List Statement) (r : Result (List Statement) Refusal)
    → OkHas (IsBranchBody more last) r → OkHas (IsBranchBody (x ∷ more) last) r
later_branch x more last (Ok body) h = (suc h.0, omega (arith, h.1), h.2)
later_branch x more last (Err e) h = tt

this_or_later : (x : Branch) (more : List Branch) (last : List Statement) (t : Bool) (r : Result (List Statement) Refusal)
    → OkHas (IsBranchBody more last) r → OkHas (IsBranchBody (x ∷ more) last) (body_if t (out-Branch x).body r)
this_or_later x more last true r h = (zero, omega arith, refl)
this_or_later x more last false r h = later_branch x more last r h

by_value : (x : Branch) (more : List Branch) (last : List Statement) (v : Result Val Refusal) (r : Result (List Statement) Refusal)
    → OkHas (IsBranchBody more last) r → OkHas (IsBranchBody (x ∷ more) last) (v >>= (λ a. body_if (is_true a) (out-Branch x).body r))
by_value x more last (Ok a) r h = this_or_later x more last (is_true a) r h
by_value x more last (Err e) r h = tt

branch_found : (here : Context) (l : Local) (branches : List Branch) (last : List Statement) → OkHas (IsBranchBody branches last) (branch_taken here l branches last)
unfolding branch_taken
branch_found here l [] last = (zero, omega arith, refl)
branch_found here l (x ∷ more) last =
    by_value x more last (evaluated here l (out-Branch x).condition) (branch_taken here l more last) (branch_found here l more last)

-- ---- case

abbrev IsAlternativeBody : List Alternative → Option (List Statement) → Type 0
IsAlternativeBody alternatives None = Unit {0}
IsAlternativeBody alternatives (Some body) = (b : ℕ) × (b < length alternatives) × (alternative_body alternatives b ≡ body)

later_alternative : (x : Alternative) (more : List Alternative) (o : Option (List Statement)) → IsAlternativeBody more o → IsAlternativeBody (x ∷ more) o
later_alternative x more None h = tt
later_alternative x more (Some body) h = (suc h.0, omega (arith, h.1), h.2)

this_alternative : (x : Alternative) (more : List Alternative) (t : Bool) (o : Option (List Statement))
    → IsAlternativeBody more o → IsAlternativeBody (x ∷ more) (if t then Some (out-Alternative x).body else o)
this_alternative x more true o h = (zero, omega arith, refl)
this_alternative x more false o h = later_alternative x more o h

first_found : (test : Alternative → Bool) (alternatives : List Alternative) → IsAlternativeBody alternatives (first_body test alternatives)
first_found test [] = tt
first_found test (x ∷ more) = this_alternative x more (test x) (first_body test more) (first_found test more)

either_found : (alternatives : List Alternative) (P : List Statement → Type 0) (a b : Option (List Statement))
    → IsAlternativeBody alternatives a → IsAlternativeBody alternatives b
    → ((n : ℕ) → n < length alternatives → P (alternative_body alternatives n)) → P [] → P (either a b)
either_found alternatives P (Some x) b ha hb h none = subst P ha.2 (h ha.0 ha.1)
either_found alternatives P None (Some y) ha hb h none = subst P hb.2 (h hb.0 hb.1)
either_found alternatives P None None ha hb h none = none

-- ---- for

pub by_range : (P : List Task → Type 0) (t : Bool) (a b : List Task) → P a → P b → P (if t then a else b)
by_range P true a b ha hb = ha
by_range P false a b ha hb = hb

pub for_found : (P : List Task → Type 0) (p : ℕ) (direction : Direction) (body : List Statement) (ra rb : Result Val Refusal)
    → P [] → ((a b : ℤ) → P (first_turn p direction a b body ∷ []))
    → OkHas P (ra >>= (λ a. rb >>= (λ b. Ok (if is_empty direction (integer_of a) (integer_of b) then [] else first_turn p direction (integer_of a) (integer_of b) body ∷ []))))
for_found P p direction body (Ok a) (Ok b) none one =
    by_range P (is_empty direction (integer_of a) (integer_of b)) [] (first_turn p direction (integer_of a) (integer_of b) body ∷ []) none (one (integer_of a) (integer_of b))
for_found P p direction body (Ok a) (Err e) none one = tt
for_found P p direction body (Err e) rb none one = tt

-- ---- all statements

left_if : (top : List Statement) (t : Bool) (a b : List Task) → StandIn top a → StandIn top b → StandIn top (if t then a else b)
left_if top true a b ha hb = ha
left_if top false a b ha hb = hb

reported_stands : (here : Context) (l : Local) (top : List Statement) (s : Severity) (text : List ℕ) (rest : List Task) → StandIn top rest → AfterStep top (reported here s text rest l)
reported_stands here l top severity.Failure text rest h = tt
reported_stands here l top severity.Note text rest h = h
reported_stands here l top severity.Warning text rest h = h
reported_stands here l top severity.Error text rest h = h

asserted_stands : (top : List Statement) (t : Bool) (report : Step) (rest : List Task) (l : Local) → StandIn top rest → AfterStep top report → AfterStep top (asserted t report rest l)
asserted_stands top true report rest l h r = h
asserted_stands top false report rest l h r = r

pub step_from : (here : Context) (l : Local) (top : List Statement) (c : Surroundings) (k : ℕ) (layer : Layer)
    → AreOf top c → layer_at k (body_in top c) ≡ Some layer → AfterStep top (executed here l (left_from top c (k + 1)) layer)
step_from here l top c k (Statement-F.SignalAssignment i constraint m wave) h is =
    all_go top l (goes (left_from top c (k + 1))) (signal_assignment here l i constraint m wave) (λ a. at top c (k + 1) h)
step_from here l top c k (Statement-F.VariableAssignment i constraint e) h is =
    all_go top l (goes (left_from top c (k + 1))) (variable_assignment here l i constraint e) (λ a. at top c (k + 1) h)
step_from here l top c k (Statement-F.If branches last) h is =
    some_go (IsBranchBody branches last) top l (λ (body : List Statement). goes_on (statements body ++ left_from top c (k + 1)) l) (branch_taken here l branches last)
    (branch_found here l branches last)
    (λ body found. subst (λ (z : List Statement). StandIn top (statements z ++ left_from top c (k + 1))) found.2
    (at_first top (inside c k found.0 (Statement-F.If branches last) (pos 0)) (h, is, found.1)))
step_from here l top c k (Statement-F.Case e alternatives) h is =
    all_go top l (λ (v : Val). goes_on (statements (alternative_taken alternatives v) ++ left_from top c (k + 1)) l) (evaluated here l e)
    (λ v. either_found alternatives (λ (z : List Statement). StandIn top (statements z ++ left_from top c (k + 1)))
    (first_body (λ (a : Alternative). list_any (equals v) (out-Alternative a).choices) alternatives) (first_body (λ (a : Alternative). (out-Alternative a).others) alternatives)
    (first_found _ alternatives) (first_found _ alternatives)
    (λ b within. at_first top (inside c k b (Statement-F.Case e alternatives) (pos 0)) (h, is, within))
    (at top c (k + 1) h))
step_from here l top c k (Statement-F.Loop condition body) h is = at_last top (inside c k 0 (Statement-F.Loop condition body) (pos 0)) (h, is, refl)
step_from here l top c k (Statement-F.For p left direction right body) h is =
    some_go (λ (turn : List Task). StandIn top (turn ++ left_from top c (k + 1))) top l (λ (turn : List Task). goes_on (turn ++ left_from top c (k + 1)) l) (for_loop here l p left direction right body)
    (for_found (λ (turn : List Task). StandIn top (turn ++ left_from top c (k + 1))) p direction body (evaluated here l left) (evaluated here l right) (at top c (k + 1) h)
    (λ a b. inr (record { round = c; number = k; of_text = h; p = p; left = left; direction = direction; right = right; body = body; from = a; last = b; statement_is = is; tasks_are = refl })))
    (λ turn stands. stands)
step_from here l top c k (Statement-F.Exit condition) h is =
    all_go top l (λ (b : Bool). goes_on (if b then behind_loop (left_from top c (k + 1)) else left_from top c (k + 1)) l) (holds here l condition)
    (λ b. left_if top b (behind_loop (left_from top c (k + 1))) (left_from top c (k + 1))
    (subst (StandIn top) (sym (skips (drop (k + 1) (body_in top c)) (left_round top c))) (exit_from top c h)) (at top c (k + 1) h))
step_from here l top c k (Statement-F.Next condition) h is =
    all_go top l (λ (b : Bool). goes_on (if b then at_next_turn (left_from top c (k + 1)) else left_from top c (k + 1)) l) (holds here l condition)
    (λ b. left_if top b (at_next_turn (left_from top c (k + 1))) (left_from top c (k + 1))
    (subst (StandIn top) (sym (skips_to_turn (drop (k + 1) (body_in top c)) (left_round top c))) (next_turn_from top c h)) (at top c (k + 1) h))
step_from here l top c k (Statement-F.Wait number on condition timeout) h is =
    all_go top l (λ (at : Option ℕ). waits number at (left_from top c (k + 1)) l) (timeout_of here l timeout)
    (λ a. record { round = c; place = k; of_text = h; on = on; condition = condition; timeout = timeout; statement_is = is; rest_is = refl })
step_from here l top c k (Statement-F.Assert e text s) h is =
    all_go top l (λ (v : Val). asserted (is_true v) (reported here s text (left_from top c (k + 1)) l) (left_from top c (k + 1)) l) (evaluated here l e)
    (λ v. asserted_stands top (is_true v) (reported here s text (left_from top c (k + 1)) l) (left_from top c (k + 1)) l (at top c (k + 1) h)
    (reported_stands here l top s text (left_from top c (k + 1)) (at top c (k + 1) h)))
step_from here l top c k (Statement-F.Report text s) h is = reported_stands here l top s text (left_from top c (k + 1)) (at top c (k + 1) h)
step_from here l top c k (Statement-F.Break elements condition) h is =
    all_go top l (goes (left_from top c (k + 1))) (holds here l condition >>= break_by here l elements) (λ a. at top c (k + 1) h)
step_from here l top c k Statement-F.Null h is = at top c (k + 1) h

-- ---- the run

abbrev pub AfterRun : List Statement → Stop → Type 0
AfterRun top (stopped number at rest l) = Waits top number rest
AfterRun top (refused l r) = Unit {0}

spent_stands : (here : Context) (l : Local) (top : List Statement) (next : Next) → AfterRun top (spent here l next)
spent_stands here l top (begins s rest) = tt
spent_stands here l top (turns tasks m) = tt
spent_stands here l top returns = tt
spent_stands here l top (faulty r) = tt

step_stands : (top : List Statement) (further : Local → List Task → Stop) (step : Step)
    → ((l : Local) (tasks : List Task) → StandIn top tasks → AfterRun top (further l tasks)) → AfterStep top step → AfterRun top (after_step further step)
step_stands top further (goes_on rest l) go h = go l rest h
step_stands top further (waits number at rest l) go h = h
step_stands top further (refuses l r) go h = tt

counted_stands : (here : Context) (l : Local) (top : List Statement) (further : Local → List Task → Stop) (next : Next) → process_body here ≡ top
    → ((l : Local) (tasks : List Task) → StandIn top tasks → AfterRun top (further l tasks)) → AfterNext top next → AfterRun top (counted further here l next)
counted_stands here l top further (begins s rest) is go h =
    step_stands top further (executed here l rest (out-Statement s)) go
    (subst (λ (z : List Task). AfterStep top (executed here l z (out-Statement s))) (sym h.rest_is) (step_from here l top h.round h.number (out-Statement s) h.of_text h.statement_is))
counted_stands here l top further (turns tasks m) is go h = go m tasks h
counted_stands here l top further returns is go h =
    go l (statements (process_body here))
    (subst (λ (z : List Statement). StandIn top (statements z)) (sym is) (at_start top))
counted_stands here l top further (faulty r) is go h = tt

pub run_stands : (here : Context) (top : List Statement) → process_body here ≡ top → (n : ℕ) (l : Local) (tasks : List Task) → StandIn top tasks → AfterRun top (run n here l tasks)
unfolding run
run_stands here top is zero l tasks h = spent_stands here l top (next_of here l tasks)
run_stands here top is (suc n) l tasks h =
    counted_stands here l top (run n here) (next_of here l tasks) is (λ m more. run_stands here top is n m more) (next_stands here l top tasks h)
