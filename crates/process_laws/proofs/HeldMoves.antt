-- The variables hold, step by step.
use Rattle.std.proofs.Common.{◌≡◌, refl, ap, sym, ◌∙◌, subst, ℕ, zero, suc, ◌+◌, ◌<◌, Bool, true, false, not, ◌||◌, nat_eq, ℤ, if◌then◌else◌, List, [], ◌∷◌, ◌++◌, length, drop, append-nil, length-set, Option, Some, None, Result, Ok, Err, slice_get, slice_set, arith}
use Rattle.std.specs.List.{list_any}
use Rattle.std.specs.Ordering.{int_eq}
use Rattle.ams_value.specs.declared.val.Val.{Val}
use Rattle.ams_value.specs.declared.val.Val.TheVariants as val
use Rattle.flat_expr.specs.declared.expr.FlatExpr.{FlatExpr}
use Rattle.flat_expr.specs.declared.expr.Direction.{Direction}
use Rattle.flat_expr.specs.Subtype.{lies_in}
use Rattle.flat_expr.specs.declared.statement.Severity.{Severity}
use Rattle.flat_expr.specs.declared.statement.Severity.TheVariants as severity
use Rattle.flat_expr.specs.declared.statement.Statement.{Statement, out-Statement}
use Rattle.flat_expr.specs.declared.statement.Statement.TheOpen.{Statement-F}
use Rattle.flat_expr.specs.declared.statement.BreakElement.{BreakElement}
use Rattle.flat_expr.specs.declared.statement.WaveElement.{WaveElement}
use Rattle.flat_expr.specs.declared.statement.DelayMechanism.{DelayMechanism}
use Rattle.flat_expr.specs.declared.subtype.Constraint.{Constraint}
use Rattle.flat_design.specs.declared.objects.PathStep.{PathStep}
use Rattle.step_data.specs.declared.outcome.Refusal.{Refusal}
use Rattle.cycle_meaning.specs.Task.{Task, statement, again, first_turn, next_turn, statements, behind_loop, at_next_turn, Layer}
use Rattle.message_codes.specs.Codes.{range}
use Rattle.fix_core.specs.Passes.{◌>>=◌}
use Rattle.ams_value.specs.Values.{is_true}
use Rattle.cycle_meaning.specs.World.{Context, Local, evaluated, holds, refused_where, refusal}
use Rattle.cycle_meaning.specs.Statements.{Step, goes_on, waits, refuses, or_refuses, executed, goes, signal_assignment, limit_of, transactions, variable_assignment, branch_taken, alternative_taken, for_loop, reported, asserted, break_by, elements_of, timeout_of}
use Rattle.cycle_meaning.specs.Processes.{Next, begins, turns, returns, faulty, by_condition, next_of, parameter_of, with_parameter, stepped, Stop, stopped, refused, after_step, spent, counted, run, process_body}
use Rattle.design_rules.specs.Ways.{IsSafe, layer_at, parameter_in, LeadsTo}
use Rattle.process_laws.specs.Resumed.{Surroundings, outermost, inside, body_in, AreOf, turns_of, left_round, left_from, StandIn}
use Rattle.process_laws.specs.Held.{IsInteger, HoldIn}
use Rattle.process_laws.proofs.Places.{way, parameters_round, leads_on}
use Rattle.process_laws.proofs.Moves.{AfterNext, next_stands, AfterStep, OkHas, step_from, for_found, at_start}

-- ---- one variable changes

pub get_set_same : (vs : List Val) (i : ℕ) (v : Val) → i < length vs → slice_get (slice_set vs i v) i ≡ Some v
get_set_same [] i v h = absurd (omega (arith, h))
get_set_same (x ∷ vs) zero v h = refl
get_set_same (x ∷ vs) (suc i) v h = get_set_same vs i v (omega (arith, h))

pub get_set_other : (vs : List Val) (i j : ℕ) (v : Val) → nat_eq i j ≡ false → slice_get (slice_set vs i v) j ≡ slice_get vs j
get_set_other [] i j v h = refl
get_set_other (x ∷ vs) zero zero v h = absurd (grind arith)
get_set_other (x ∷ vs) zero (suc j) v h = refl
get_set_other (x ∷ vs) (suc i) zero v h = refl
get_set_other (x ∷ vs) (suc i) (suc j) v h = get_set_other vs i j v (grind arith)

-- an integer in place of any value
still_integer : (vs : List Val) (i j : ℕ) (z : ℤ) → IsInteger (slice_get vs j) → IsInteger (slice_get (slice_set vs i (val.Int z)) j)
still_integer [] i j z h = h
still_integer (x ∷ vs) zero zero z h = (z, refl)
still_integer (x ∷ vs) zero (suc j) z h = h
still_integer (x ∷ vs) (suc i) zero z h = h
still_integer (x ∷ vs) (suc i) (suc j) z h = still_integer vs i j z h

pub within : (vs : List Val) (i : ℕ) → IsInteger (slice_get vs i) → i < length vs
within [] i h = absurd (let e : None ≡ Some (val.Int h.0) = h.1 in grind arith)
within (x ∷ vs) zero h = omega arith
within (x ∷ vs) (suc i) h = omega (arith, within vs i h)

pub hold_with : (vs : List Val) (i : ℕ) (z : ℤ) (tasks : List Task) → HoldIn vs tasks → HoldIn (slice_set vs i (val.Int z)) tasks
hold_with vs i z [] h = tt
hold_with vs i z (statement s ∷ rest) h = hold_with vs i z rest h
hold_with vs i z (again condition body ∷ rest) h = hold_with vs i z rest h
hold_with vs i z (first_turn p direction from last body ∷ rest) h = (subst (λ n. p < n) (sym (length-set vs i (val.Int z))) h.0, hold_with vs i z rest h.1)
hold_with vs i z (next_turn p direction last body ∷ rest) h = (still_integer vs i p z h.0, hold_with vs i z rest h.1)

-- ---- a variable that is assigned

-- it is no parameter of the loops in which the process stands
abbrev pub Avoids : ℕ → List Task → Type 0
Avoids i [] = Unit {0}
Avoids i (statement s ∷ rest) = Avoids i rest
Avoids i (again condition body ∷ rest) = Avoids i rest
Avoids i (first_turn p direction from last body ∷ rest) = Avoids i rest
Avoids i (next_turn p direction last body ∷ rest) = (nat_eq i p ≡ false) × Avoids i rest

pub hold_assigned : (vs : List Val) (i : ℕ) (v : Val) (tasks : List Task) → Avoids i tasks → HoldIn vs tasks → HoldIn (slice_set vs i v) tasks
hold_assigned vs i v [] a h = tt
hold_assigned vs i v (statement s ∷ rest) a h = hold_assigned vs i v rest a h
hold_assigned vs i v (again condition body ∷ rest) a h = hold_assigned vs i v rest a h
hold_assigned vs i v (first_turn p direction from last body ∷ rest) a h = (subst (λ n. p < n) (sym (length-set vs i v)) h.0, hold_assigned vs i v rest a h.1)
hold_assigned vs i v (next_turn p direction last body ∷ rest) a h =
    (subst IsInteger (sym (get_set_other vs i p v a.0)) h.0, hold_assigned vs i v rest a.1 h.1)

avoids_both : (i : ℕ) (xs ys : List Task) → Avoids i xs → Avoids i ys → Avoids i (xs ++ ys)
avoids_both i [] ys a b = b
avoids_both i (statement s ∷ xs) ys a b = avoids_both i xs ys a b
avoids_both i (again condition body ∷ xs) ys a b = avoids_both i xs ys a b
avoids_both i (first_turn p direction from last body ∷ xs) ys a b = avoids_both i xs ys a b
avoids_both i (next_turn p direction last body ∷ xs) ys a b = (a.0, avoids_both i xs ys a.1 b)

avoids_statements : (i : ℕ) (body : List Statement) → Avoids i (statements body)
avoids_statements i [] = tt
avoids_statements i (s ∷ body) = avoids_statements i body

pub or_apart : (a b : Bool) → (a || b) ≡ false → (a ≡ false) × (b ≡ false)
or_apart true b h = absurd (grind arith)
or_apart false b h = (refl, h)

none_of_both : (t : ℕ → Bool) (xs ys : List ℕ) → list_any t (xs ++ ys) ≡ false → (list_any t xs ≡ false) × (list_any t ys ≡ false)
none_of_both t [] ys h = (refl, h)
none_of_both t (x ∷ xs) ys h =
    let apart = or_apart (t x) (list_any t (xs ++ ys)) h in
    let more = none_of_both t xs ys apart.1 in
    (ap (λ b. b || list_any t xs) apart.0 ∙ more.0, more.1)

avoids_turns : (i : ℕ) (layer : Layer) (last : ℤ) → list_any (nat_eq i) (parameter_in layer) ≡ false → Avoids i (turns_of layer last)
avoids_turns i (Statement-F.Loop condition body) last h = tt
avoids_turns i (Statement-F.For p left direction right body) last h = ((or_apart (nat_eq i p) false h).0, tt)
avoids_turns i _ last h = tt

avoids_round : (i : ℕ) (top : List Statement) (c : Surroundings) → list_any (nat_eq i) (parameters_round c) ≡ false → Avoids i (left_round top c)
unfolding parameters_round
avoids_round i top outermost h = tt
avoids_round i top (inside c k b layer last) h =
    let apart = none_of_both (nat_eq i) (parameters_round c) (parameter_in layer) h in
    avoids_both i (turns_of layer last) _ (avoids_turns i layer last apart.1)
    (avoids_both i (statements (drop (k + 1) (body_in top c))) _ (avoids_statements i (drop (k + 1) (body_in top c))) (avoids_round i top c apart.0))

avoids_from : (i : ℕ) (top : List Statement) (c : Surroundings) (k : ℕ) → list_any (nat_eq i) (parameters_round c) ≡ false → Avoids i (left_from top c k)
avoids_from i top c k h = avoids_both i (statements (drop k (body_in top c))) _ (avoids_statements i (drop k (body_in top c))) (avoids_round i top c h)

-- ---- what counts next

pub hold_body : (vs : List Val) (body : List Statement) (rest : List Task) → HoldIn vs rest → HoldIn vs (statements body ++ rest)
hold_body vs [] rest h = h
hold_body vs (s ∷ body) rest h = hold_body vs body rest h

-- there are so many variables, and they hold
abbrev pub AreHeld : ℕ → Local → List Task → Type 0
AreHeld n l tasks = (length l.variables ≡ n) × HoldIn l.variables tasks

abbrev pub HeldNext : ℕ → Local → Next → Type 0
HeldNext n l (begins s rest) = AreHeld n l rest
HeldNext n l (turns tasks m) = AreHeld n m tasks
HeldNext n l returns = Unit {0}
HeldNext n l (faulty r) = Unit {0}

held_condition : (n : ℕ) (l : Local) (r : Result Bool Refusal) (a b : Next) → HeldNext n l a → HeldNext n l b → HeldNext n l (by_condition r a b)
held_condition n l (Ok true) a b ha hb = ha
held_condition n l (Ok false) a b ha hb = hb
held_condition n l (Err r) a b ha hb = tt

held_if : (n : ℕ) (l : Local) (t : Bool) (a b : Next) → HeldNext n l a → HeldNext n l b → HeldNext n l (if t then a else b)
held_if n l true a b ha hb = ha
held_if n l false a b ha hb = hb

-- a turn of a for loop with this value
held_turn : (n : ℕ) (l : Local) (p : ℕ) (z : ℤ) (direction : Direction) (last : ℤ) (body : List Statement) (rest : List Task)
    → p < length l.variables → AreHeld n l rest → AreHeld n (with_parameter p z l) (statements body ++ next_turn p direction last body ∷ rest)
held_turn n l p z direction last body rest in_range h = (
  length-set l.variables p (val.Int z) ∙ h.0,
  hold_body (slice_set l.variables p (val.Int z)) body (next_turn p direction last body ∷ rest)
      ((z, get_set_same l.variables p (val.Int z) in_range), hold_with l.variables p z rest h.1),
)

pub held_next : (n : ℕ) (here : Context) (l : Local) (tasks : List Task) → AreHeld n l tasks → HeldNext n l (next_of here l tasks)
unfolding next_of
held_next n here l [] h = tt
held_next n here l (statement s ∷ rest) h = h
held_next n here l (again condition body ∷ rest) h =
    held_condition n l (holds here l condition) _ _ (h.0, hold_body l.variables body (again condition body ∷ rest) h.1) (held_next n here l rest h)
held_next n here l (first_turn p direction from last body ∷ rest) h = held_turn n l p from direction last body rest h.1.0 (h.0, h.1.1)
held_next n here l (next_turn p direction last body ∷ rest) h =
    held_if n l (int_eq (parameter_of l p) last) _ _ (held_next n here l rest (h.0, h.1.1))
    (held_turn n l p (stepped direction (parameter_of l p)) direction last body rest (within l.variables p h.1.0) (h.0, h.1.1))

-- ---- a statement

abbrev pub HeldStep : ℕ → Step → Type 0
HeldStep n (goes_on tasks l) = AreHeld n l tasks
HeldStep n (waits number at rest l) = AreHeld n l rest
HeldStep n (refuses l r) = Unit {0}

hold_behind_loop : (vs : List Val) (tasks : List Task) → HoldIn vs tasks → HoldIn vs (behind_loop tasks)
hold_behind_loop vs [] h = tt
hold_behind_loop vs (statement s ∷ rest) h = hold_behind_loop vs rest h
hold_behind_loop vs (again condition body ∷ rest) h = h
hold_behind_loop vs (first_turn p direction from last body ∷ rest) h = h.1
hold_behind_loop vs (next_turn p direction last body ∷ rest) h = h.1

hold_next_turn : (vs : List Val) (tasks : List Task) → HoldIn vs tasks → HoldIn vs (at_next_turn tasks)
hold_next_turn vs [] h = tt
hold_next_turn vs (statement s ∷ rest) h = hold_next_turn vs rest h
hold_next_turn vs (again condition body ∷ rest) h = h
hold_next_turn vs (first_turn p direction from last body ∷ rest) h = h
hold_next_turn vs (next_turn p direction last body ∷ rest) h = h

some_held : {A : Type 0} (P : A → Type 0) (n : ℕ) (l : Local) (go : A → Step) (r : Result A Refusal)
    → OkHas P r → ((a : A) → P a → HeldStep n (go a)) → HeldStep n (or_refuses l go r)
some_held P n l go (Ok a) has h = h a has
some_held P n l go (Err e) has h = tt

all_held : {A : Type 0} (n : ℕ) (l : Local) (go : A → Step) (r : Result A Refusal) → ((a : A) → HeldStep n (go a)) → HeldStep n (or_refuses l go r)
all_held n l go (Ok a) h = h a
all_held n l go (Err e) h = tt

then_has : {A B : Type 0} (P : B → Type 0) (r : Result A Refusal) (f : A → Result B Refusal) → ((a : A) → OkHas P (f a)) → OkHas P (r >>= f)
then_has P (Ok a) f h = h a
then_has P (Err e) f h = tt

-- the variables stay
abbrev SameVariables : Local → Local → Type 0
SameVariables l m = m.variables ≡ l.variables

assignment_keeps : (here : Context) (l : Local) (i : ℕ) (constraint : Constraint) (m : DelayMechanism) (wave : List WaveElement)
    → OkHas (SameVariables l) (signal_assignment here l i constraint m wave)
assignment_keeps here l i constraint m wave =
    then_has (SameVariables l) (limit_of here l m) _ (λ limit. then_has (SameVariables l) (transactions here l _ limit None wave) _ (λ new. refl))

break_keeps : (here : Context) (l : Local) (elements : List BreakElement) (b : Bool) → OkHas (SameVariables l) (break_by here l elements b)
break_keeps here l elements false = refl
break_keeps here l elements true = then_has (SameVariables l) (elements_of here l l.world.elements elements) _ (λ made. refl)

one_changes : (here : Context) (l : Local) (i : ℕ) (constraint : Constraint) (e : FlatExpr)
    → OkHas (λ (m : Local). (v : Val) × (m.variables ≡ slice_set l.variables i v)) (variable_assignment here l i constraint e)
one_changes here l i constraint e =
    then_has (λ (m : Local). (v : Val) × (m.variables ≡ slice_set l.variables i v)) (evaluated here l e) _
    (λ v. then_has (λ (m : Local). (v : Val) × (m.variables ≡ slice_set l.variables i v)) (refused_where (not (lies_in constraint v)) (refusal here range) v) _ (λ tested. (tested, refl)))

same_held : (n : ℕ) (l m : Local) (rest : List Task) → AreHeld n l rest → SameVariables l m → AreHeld n m rest
same_held n l m rest h e = subst (λ (vs : List Val). (length vs ≡ n) × HoldIn vs rest) (sym e) h

held_reported : (n : ℕ) (here : Context) (l : Local) (s : Severity) (text : List ℕ) (rest : List Task) → AreHeld n l rest → HeldStep n (reported here s text rest l)
held_reported n here l severity.Failure text rest h = tt
held_reported n here l severity.Note text rest h = h
held_reported n here l severity.Warning text rest h = h
held_reported n here l severity.Error text rest h = h

held_asserted : (n : ℕ) (t : Bool) (report : Step) (rest : List Task) (l : Local) → AreHeld n l rest → HeldStep n report → HeldStep n (asserted t report rest l)
held_asserted n true report rest l h r = h
held_asserted n false report rest l h r = r

hold_if : (vs : List Val) (t : Bool) (a b : List Task) → HoldIn vs a → HoldIn vs b → HoldIn vs (if t then a else b)
hold_if vs true a b ha hb = ha
hold_if vs false a b ha hb = hb

-- what a statement asks: what it assigns is no parameter, and its own parameter is a variable
abbrev pub Suits : ℕ → List Task → Layer → Type 0
Suits n rest (Statement-F.VariableAssignment i constraint e) = Avoids i rest
Suits n rest (Statement-F.For p left direction right body) = p < n
Suits n rest _ = Unit {0}

pub held_step : (n : ℕ) (here : Context) (l : Local) (rest : List Task) (layer : Layer) → Suits n rest layer → AreHeld n l rest → HeldStep n (executed here l rest layer)
held_step n here l rest (Statement-F.SignalAssignment i constraint m wave) ok h =
    some_held (SameVariables l) n l (goes rest) (signal_assignment here l i constraint m wave) (assignment_keeps here l i constraint m wave) (λ a e. same_held n l a rest h e)
held_step n here l rest (Statement-F.VariableAssignment i constraint e) ok h =
    some_held (λ (m : Local). (v : Val) × (m.variables ≡ slice_set l.variables i v)) n l (goes rest) (variable_assignment here l i constraint e) (one_changes here l i constraint e)
    (λ a found. subst (λ (vs : List Val). (length vs ≡ n) × HoldIn vs rest) (sym found.1)
    (length-set l.variables i found.0 ∙ h.0, hold_assigned l.variables i found.0 rest ok h.1))
held_step n here l rest (Statement-F.If branches last) ok h =
    all_held n l (λ (body : List Statement). goes_on (statements body ++ rest) l) (branch_taken here l branches last) (λ body. (h.0, hold_body l.variables body rest h.1))
held_step n here l rest (Statement-F.Case e alternatives) ok h =
    all_held n l (λ (v : Val). goes_on (statements (alternative_taken alternatives v) ++ rest) l) (evaluated here l e)
    (λ v. (h.0, hold_body l.variables (alternative_taken alternatives v) rest h.1))
held_step n here l rest (Statement-F.Loop condition body) ok h = h
held_step n here l rest (Statement-F.For p left direction right body) ok h =
    some_held (λ (turn : List Task). AreHeld n l (turn ++ rest)) n l (λ (turn : List Task). goes_on (turn ++ rest) l) (for_loop here l p left direction right body)
    (for_found (λ (turn : List Task). AreHeld n l (turn ++ rest)) p direction body (evaluated here l left) (evaluated here l right) h
    (λ a b. (h.0, (subst (λ k. p < k) (sym h.0) ok, h.1))))
    (λ turn stands. stands)
held_step n here l rest (Statement-F.Exit condition) ok h =
    all_held n l (λ (b : Bool). goes_on (if b then behind_loop rest else rest) l) (holds here l condition)
    (λ b. (h.0, hold_if l.variables b (behind_loop rest) rest (hold_behind_loop l.variables rest h.1) h.1))
held_step n here l rest (Statement-F.Next condition) ok h =
    all_held n l (λ (b : Bool). goes_on (if b then at_next_turn rest else rest) l) (holds here l condition)
    (λ b. (h.0, hold_if l.variables b (at_next_turn rest) rest (hold_next_turn l.variables rest h.1) h.1))
held_step n here l rest (Statement-F.Wait number on condition timeout) ok h =
    all_held n l (λ (at : Option ℕ). waits number at rest l) (timeout_of here l timeout) (λ a. h)
held_step n here l rest (Statement-F.Assert e text s) ok h =
    all_held n l (λ (v : Val). asserted (is_true v) (reported here s text rest l) rest l) (evaluated here l e)
    (λ v. held_asserted n (is_true v) (reported here s text rest l) rest l h (held_reported n here l s text rest h))
held_step n here l rest (Statement-F.Report text s) ok h = held_reported n here l s text rest h
held_step n here l rest (Statement-F.Break elements condition) ok h =
    some_held (SameVariables l) n l (goes rest) (holds here l condition >>= break_by here l elements)
    (then_has (SameVariables l) (holds here l condition) (break_by here l elements) (λ b. break_keeps here l elements b)) (λ a e. same_held n l a rest h e)
held_step n here l rest Statement-F.Null ok h = h

-- ---- the run

abbrev pub AreSafe : ℕ → List Statement → Type 0
AreSafe n top = (steps : List PathStep) (ps : List ℕ) (k : ℕ) (goal : Layer) → LeadsTo steps ps k goal top → IsSafe n ps goal

-- what the promise says of a statement at a place
suits : (n : ℕ) (top : List Statement) (c : Surroundings) (k : ℕ) (layer : Layer) → IsSafe n (parameters_round c) layer → Suits n (left_from top c (k + 1)) layer
suits n top c k (Statement-F.VariableAssignment i constraint e) h = avoids_from i top c (k + 1) h
suits n top c k (Statement-F.For p left direction right body) h = h
suits n top c k _ h = tt

suits_at : (n : ℕ) (top : List Statement) (c : Surroundings) (k : ℕ) (layer : Layer)
    → AreSafe n top → AreOf top c → layer_at k (body_in top c) ≡ Some layer → Suits n (left_from top c (k + 1)) layer
suits_at n top c k layer safe h is =
    suits n top c k layer
    (subst (λ (ps : List ℕ). IsSafe n ps layer) (append-nil (parameters_round c))
    (safe (way c ++ []) (parameters_round c ++ []) k layer (leads_on top c h [] [] k layer (refl, is))))

-- tasks that stand in the text, with variables that hold in them
abbrev pub StandAndHold : ℕ → List Statement → Local → List Task → Type 0
StandAndHold n top l tasks = StandIn top tasks × AreHeld n l tasks

abbrev pub HeldRun : ℕ → Stop → Type 0
HeldRun n (stopped number at rest l) = AreHeld n l rest
HeldRun n (refused l r) = Unit {0}

held_spent : (n : ℕ) (here : Context) (l : Local) (next : Next) → HeldRun n (spent here l next)
held_spent n here l (begins s rest) = tt
held_spent n here l (turns tasks m) = tt
held_spent n here l returns = tt
held_spent n here l (faulty r) = tt

held_after : (n : ℕ) (top : List Statement) (further : Local → List Task → Stop) (step : Step)
    → ((l : Local) (tasks : List Task) → StandAndHold n top l tasks → HeldRun n (further l tasks)) → AfterStep top step → HeldStep n step → HeldRun n (after_step further step)
held_after n top further (goes_on rest l) go a h = go l rest (a, h)
held_after n top further (waits number at rest l) go a h = h
held_after n top further (refuses l r) go a h = tt

pub hold_statements : (vs : List Val) (body : List Statement) → HoldIn vs (statements body)
hold_statements vs [] = tt
hold_statements vs (s ∷ body) = hold_statements vs body

held_counted : (n : ℕ) (here : Context) (l : Local) (top : List Statement) (further : Local → List Task → Stop) (next : Next)
    → process_body here ≡ top → AreSafe n top → length l.variables ≡ n
    → ((m : Local) (tasks : List Task) → StandAndHold n top m tasks → HeldRun n (further m tasks)) → AfterNext top next → HeldNext n l next → HeldRun n (counted further here l next)
held_counted n here l top further (begins s rest) is safe so_many go a h =
    held_after n top further (executed here l rest (out-Statement s)) go
    (subst (λ (z : List Task). AfterStep top (executed here l z (out-Statement s))) (sym a.rest_is) (step_from here l top a.round a.number (out-Statement s) a.of_text a.statement_is))
    (held_step n here l rest (out-Statement s)
    (subst (λ (z : List Task). Suits n z (out-Statement s)) (sym a.rest_is) (suits_at n top a.round a.number (out-Statement s) safe a.of_text a.statement_is)) h)
held_counted n here l top further (turns tasks m) is safe so_many go a h = go m tasks (a, h)
held_counted n here l top further returns is safe so_many go a h =
    go l (statements (process_body here))
    (subst (λ (z : List Statement). StandIn top (statements z)) (sym is) (at_start top), (so_many, hold_statements l.variables (process_body here)))
held_counted n here l top further (faulty r) is safe so_many go a h = tt

pub held_run : (n : ℕ) (here : Context) (top : List Statement) → process_body here ≡ top → AreSafe n top
    → (budget : ℕ) (l : Local) (tasks : List Task) → StandAndHold n top l tasks → HeldRun n (run budget here l tasks)
unfolding run
held_run n here top is safe zero l tasks h = held_spent n here l (next_of here l tasks)
held_run n here top is safe (suc budget) l tasks h =
    held_counted n here l top (run budget here) (next_of here l tasks) is safe h.1.0
    (λ m more k. held_run n here top is safe budget m more k) (next_stands here l top tasks h.0) (held_next n here l tasks h.1)
