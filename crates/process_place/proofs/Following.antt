-- What a process does from a place, case by case.
use Rattle.std.proofs.Common.{◌≡◌, refl, ap, sym, ◌∙◌, ℕ, zero, suc, ◌+◌, ◌<◌, ◌≤◌, inl, inr, Bool, true, false, ℤ, pos, if◌then◌else◌, List, [], ◌∷◌, ◌++◌, length, drop, append-nil, Option, Some, None, Result, Ok, Err, add-one, arith}
use Rattle.std.specs.List.{slice_get, position}
use Rattle.std.proofs.lemmas.List.Quantifiers.{position-Some}
use Rattle.std.specs.Ordering.{int_eq}
use Rattle.fix_core.specs.Passes.{◌>>=◌}
use Rattle.ams_value.specs.declared.val.Val.{Val}
use Rattle.ams_value.specs.Values.{is_true}
use Rattle.flat_expr.specs.declared.expr.Direction.{Direction}
use Rattle.flat_expr.specs.declared.expr.FlatExpr.{FlatExpr}
use Rattle.flat_expr.specs.declared.statement.Alternative.{Alternative}
use Rattle.flat_expr.specs.declared.statement.Branch.{Branch, out-Branch}
use Rattle.flat_expr.specs.declared.statement.Severity.{Severity}
use Rattle.flat_expr.specs.declared.statement.Severity.TheVariants as severity
use Rattle.flat_expr.specs.declared.statement.Statement.{Statement, out-Statement}
use Rattle.flat_expr.specs.declared.statement.Statement.TheOpen.{Statement-F}
use Rattle.step_data.specs.declared.outcome.Refusal.{Refusal}
use Rattle.cycle_meaning.specs.Task.{Task, statements, behind_loop, at_next_turn, branch_body, Layer}
use Rattle.cycle_meaning.specs.World.{Context, Local, evaluated, holds}
use Rattle.cycle_meaning.specs.Statements.{Step, goes_on, or_refuses, executed, goes, signal_assignment, variable_assignment, alternative_taken, reported, asserted, break_by, timeout_of, waits}
use Rattle.cycle_meaning.specs.Processes.{Next, begins, by_condition, next_of, parameter_of, Stop, after_step, spent, counted, run, process_body}
use Rattle.design_rules.specs.Ways.{layer_of, layer_at, inner_body}
use Rattle.process_laws.specs.Resumed.{Surroundings, outermost, inside, body_in, AreOf, left_round, left_from, StandIn}
use Rattle.process_laws.proofs.Places.{drop_past, drop_whole, get_at}
use Rattle.statement_values.specs.declared.range.LoopRange.{LoopRange}
use Rattle.statement_values.specs.LoopRanges.{loop_range, turn_of}
use Rattle.statement_values.proofs.RangeLaws.{ranges}
use Rattle.statement_lists.specs.Branches.{one_later, branch_number}
use Rattle.statement_lists.specs.Alternatives.{names, has_others, else_number, alternative_number, numbered_body}
use Rattle.statement_lists.proofs.Taken.{branches}
use Rattle.statement_lists.proofs.Chosen.{alternatives}
use Rattle.process_place.specs.ProcessPlace.{ProcessPlace, at, turning, at_start, tasks_at, IsIn}
use Rattle.process_place.specs.Moves.{Coming, begins_at, turns_to, starts_again, begun_or, past_end, by_truth, coming_at, coming, Moved, goes_to, or_refused, behind_loop_at, end_of_turn_at, chosen_at, ranged_at, reported_at, asserted_at, moved, waits_at, is_refused, has_fault, Ended, after_move, nothing_left, one_counted, run_at}
use Rattle.process_place.specs.Follows.{next_in, step_in, stop_in, ComesIn, MovesIn, EndsIn, PlacesFollow}

-- ---- what counts next

none_at : (xs : List Statement) (k : ℕ) → drop k xs ≡ [] → slice_get xs k ≡ None
none_at [] zero h = refl
none_at [] (suc k) h = refl
none_at (x ∷ xs) zero h = grind arith
none_at (x ∷ xs) (suc k) h = none_at xs k h

by_truth_same : (top : List Statement) (r : Result Bool Refusal) (a b : Next) (p q : Coming) → a ≡ next_in top p → b ≡ next_in top q → by_condition r a b ≡ next_in top (by_truth r p q)
by_truth_same top (Ok true) a b p q ea eb = ea
by_truth_same top (Ok false) a b p q ea eb = eb
by_truth_same top (Err r) a b p q ea eb = refl

if_same : (top : List Statement) (t : Bool) (a b : Next) (p q : Coming) → a ≡ next_in top p → b ≡ next_in top q → (if t then a else b) ≡ next_in top (if t then p else q)
if_same top true a b p q ea eb = ea
if_same top false a b p q ea eb = eb

begun : (top : List Statement) (c : Surroundings) (k : ℕ) (s : Statement) (ys : List Statement) → drop k (body_in top c) ≡ s ∷ ys →
    begins s (statements ys ++ left_round top c) ≡ begins s (left_from top c (k + 1))
begun top c k s ys d = ap (λ (z : List Statement). begins s (statements z ++ left_round top c)) (sym (ap (λ (n : ℕ). drop n (body_in top c)) (add-one k) ∙ drop_past (body_in top c) k s ys d))

begins_here : (here : Context) (l : Local) (top : List Statement) (c : Surroundings) (k : ℕ) (s : Statement) (ys : List Statement) → drop k (body_in top c) ≡ s ∷ ys →
    coming_at here l top c k ≡ begins_at s c k
unfolding coming_at
begins_here here l top outermost k s ys d = rw (get_at top k s ys d) refl
begins_here here l top (inside c j b layer last) k s ys d = rw (get_at (inner_body b layer) k s ys d) refl

ends_here : (here : Context) (l : Local) (top : List Statement) (c : Surroundings) (j b : ℕ) (layer : Layer) (last : ℤ) (k : ℕ) → drop k (inner_body b layer) ≡ [] →
    past_end here l (inside c j b layer last) layer last (coming_at here l top c (j + 1)) ≡ coming_at here l top (inside c j b layer last) k
unfolding coming_at
ends_here here l top c j b layer last k d = rw (none_at (inner_body b layer) k d) refl

starts_here : (here : Context) (l : Local) (top : List Statement) (k : ℕ) → drop k top ≡ [] → coming_at here l top outermost k ≡ starts_again
unfolding coming_at
starts_here here l top k d = rw (none_at top k d) refl

next_from : (here : Context) (l : Local) (top : List Statement) (c : Surroundings) (k : ℕ) (xs : List Statement) → AreOf top c → drop k (body_in top c) ≡ xs →
    next_of here l (statements xs ++ left_round top c) ≡ next_in top (coming_at here l top c k)
unfolding next_of
next_from here l top c k (s ∷ ys) h d = begun top c k s ys d ∙ ap (next_in top) (sym (begins_here here l top c k s ys d))
next_from here l top outermost k [] h d = ap (next_in top) (sym (starts_here here l top k d))
next_from here l top (inside c j b (Statement-F.Loop condition body) last) k [] h d =
    by_truth_same top (holds here l condition) _ _ (turns_to (at (inside c j b (Statement-F.Loop condition body) last) 0) l) (coming_at here l top c (j + 1)) refl
    (next_from here l top c (j + 1) (drop (j + 1) (body_in top c)) h.0 refl)
    ∙ ap (next_in top) (ends_here here l top c j b (Statement-F.Loop condition body) last k d)
next_from here l top (inside c j b (Statement-F.For p left direction right body) last) k [] h d =
    if_same top (int_eq (parameter_of l p) last) _ _ (coming_at here l top c (j + 1)) _ (next_from here l top c (j + 1) (drop (j + 1) (body_in top c)) h.0 refl) refl
    ∙ ap (next_in top) (ends_here here l top c j b (Statement-F.For p left direction right body) last k d)
next_from here l top (inside c j b (Statement-F.If x y) last) k [] h d =
    next_from here l top c (j + 1) (drop (j + 1) (body_in top c)) h.0 refl ∙ ap (next_in top) (ends_here here l top c j b (Statement-F.If x y) last k d)
next_from here l top (inside c j b (Statement-F.Case x y) last) k [] h d =
    next_from here l top c (j + 1) (drop (j + 1) (body_in top c)) h.0 refl ∙ ap (next_in top) (ends_here here l top c j b (Statement-F.Case x y) last k d)
next_from here l top (inside c j b _ last) k [] h d = absurd h.2

next_same : (here : Context) (l : Local) (top : List Statement) (p : ProcessPlace) → IsIn top p → next_of here l (tasks_at top p) ≡ next_in top (coming here l top p)
unfolding next_of
next_same here l top (at c k) h = next_from here l top c k (drop k (body_in top c)) h refl
next_same here l top (turning c k (Statement-F.For p left direction right body) from last) h = refl
next_same here l top (turning c k _ from last) h = absurd h.2

-- ---- exit and next

skips : (body : List Statement) (rest : List Task) → behind_loop (statements body ++ rest) ≡ behind_loop rest
skips [] rest = refl
skips (s ∷ body) rest = skips body rest

skips_to_turn : (body : List Statement) (rest : List Task) → at_next_turn (statements body ++ rest) ≡ at_next_turn rest
skips_to_turn [] rest = refl
skips_to_turn (s ∷ body) rest = skips_to_turn body rest

-- nothing is left of a list behind its end
at_end : (body : List Statement) (rest : List Task) → rest ≡ statements (drop (length body) body) ++ rest
at_end body rest = rw (drop_whole body) refl

left_behind_loop : (top : List Statement) (c : Surroundings) → AreOf top c → behind_loop (left_round top c) ≡ tasks_at top (behind_loop_at top c)
left_behind_loop top outermost h = at_end top []
left_behind_loop top (inside c j b (Statement-F.Loop condition body) last) h = refl
left_behind_loop top (inside c j b (Statement-F.For p left direction right body) last) h = refl
left_behind_loop top (inside c j b (Statement-F.If x y) last) h = skips (drop (j + 1) (body_in top c)) (left_round top c) ∙ left_behind_loop top c h.0
left_behind_loop top (inside c j b (Statement-F.Case x y) last) h = skips (drop (j + 1) (body_in top c)) (left_round top c) ∙ left_behind_loop top c h.0
left_behind_loop top (inside c j b _ last) h = absurd h.2

left_at_turn : (top : List Statement) (c : Surroundings) → AreOf top c → at_next_turn (left_round top c) ≡ tasks_at top (end_of_turn_at top c)
left_at_turn top outermost h = at_end top []
left_at_turn top (inside c j b (Statement-F.Loop condition body) last) h = at_end body (left_round top (inside c j b (Statement-F.Loop condition body) last))
left_at_turn top (inside c j b (Statement-F.For p left direction right body) last) h = at_end body (left_round top (inside c j b (Statement-F.For p left direction right body) last))
left_at_turn top (inside c j b (Statement-F.If x y) last) h = skips_to_turn (drop (j + 1) (body_in top c)) (left_round top c) ∙ left_at_turn top c h.0
left_at_turn top (inside c j b (Statement-F.Case x y) last) h = skips_to_turn (drop (j + 1) (body_in top c)) (left_round top c) ∙ left_at_turn top c h.0
left_at_turn top (inside c j b _ last) h = absurd h.2

-- ---- a statement

all_same : {A : Type 0} (top : List Statement) (l : Local) (go : A → Step) (move : A → Moved) (r : Result A Refusal) → ((a : A) → go a ≡ step_in top (move a)) →
    or_refuses l go r ≡ step_in top (or_refused l move r)
all_same top l go move (Ok a) same = same a
all_same top l go move (Err e) same = refl

made_same : {A B : Type 0} (top : List Statement) (l : Local) (go : B → Step) (make : A → B) (move : A → Moved) (r : Result A Refusal) → ((a : A) → go (make a) ≡ step_in top (move a)) →
    or_refuses l go (r >>= (λ a. Ok (make a))) ≡ step_in top (or_refused l move r)
made_same top l go make move (Ok a) same = same a
made_same top l go make move (Err e) same = refl

where_true : (top : List Statement) (l : Local) (t : Bool) (a b : List Task) (p q : ProcessPlace) → a ≡ tasks_at top p → b ≡ tasks_at top q →
    goes_on (if t then a else b) l ≡ step_in top (goes_to (if t then p else q) l)
where_true top l true a b p q ea eb = ap (λ (z : List Task). goes_on z l) ea
where_true top l false a b p q ea eb = ap (λ (z : List Task). goes_on z l) eb

chosen_same : (top : List Statement) (l : Local) (c : Surroundings) (k : ℕ) (e : FlatExpr) (all : List Alternative) (number : Option ℕ) →
    goes_on (statements (numbered_body all number) ++ left_from top c (k + 1)) l ≡ step_in top (goes_to (chosen_at c k (Statement-F.Case e all) number) l)
chosen_same top l c k e all (Some b) = refl
chosen_same top l c k e all None = refl

ranged_same : (top : List Statement) (l : Local) (c : Surroundings) (k p : ℕ) (left : FlatExpr) (direction : Direction) (right : FlatExpr) (body : List Statement) (range : Option LoopRange) →
    goes_on (turn_of p direction body range ++ left_from top c (k + 1)) l ≡ step_in top (goes_to (ranged_at c k (Statement-F.For p left direction right body) range) l)
ranged_same top l c k p left direction right body (Some range) = refl
ranged_same top l c k p left direction right body None = refl

reported_same : (here : Context) (l : Local) (top : List Statement) (s : Severity) (text : List ℕ) (p : ProcessPlace) → reported here s text (tasks_at top p) l ≡ step_in top (reported_at here s text p l)
reported_same here l top severity.Failure text p = refl
reported_same here l top severity.Note text p = refl
reported_same here l top severity.Warning text p = refl
reported_same here l top severity.Error text p = refl

asserted_same : (top : List Statement) (t : Bool) (report : Step) (move : Moved) (p : ProcessPlace) (l : Local) → report ≡ step_in top move → asserted t report (tasks_at top p) l ≡ step_in top (asserted_at t move p l)
asserted_same top true report move p l same = refl
asserted_same top false report move p l same = same

step_same : (here : Context) (l : Local) (top : List Statement) (c : Surroundings) (k : ℕ) (layer : Layer) → AreOf top c → layer_at k (body_in top c) ≡ Some layer →
    executed here l (left_from top c (k + 1)) layer ≡ step_in top (moved here l top c k layer)
step_same here l top c k (Statement-F.SignalAssignment i constraint m wave) h is =
    all_same top l (goes (left_from top c (k + 1))) (goes_to (at c (k + 1))) (signal_assignment here l i constraint m wave) (λ a. refl)
step_same here l top c k (Statement-F.VariableAssignment i constraint e) h is =
    all_same top l (goes (left_from top c (k + 1))) (goes_to (at c (k + 1))) (variable_assignment here l i constraint e) (λ a. refl)
step_same here l top c k (Statement-F.If bs last) h is =
    ap (or_refuses l (λ (body : List Statement). goes_on (statements body ++ left_from top c (k + 1)) l)) (branches here l bs last)
    ∙ made_same top l (λ (body : List Statement). goes_on (statements body ++ left_from top c (k + 1)) l) (branch_body bs last)
    (λ (b : ℕ). goes_to (at (inside c k b (Statement-F.If bs last) (pos 0)) 0) l) (branch_number here l bs) (λ b. refl)
step_same here l top c k (Statement-F.Case e all) h is =
    all_same top l (λ (v : Val). goes_on (statements (alternative_taken all v) ++ left_from top c (k + 1)) l)
    (λ (v : Val). goes_to (chosen_at c k (Statement-F.Case e all) (alternative_number all v)) l) (evaluated here l e)
    (λ v. ap (λ (z : List Statement). goes_on (statements z ++ left_from top c (k + 1)) l) (alternatives all v) ∙ chosen_same top l c k e all (alternative_number all v))
step_same here l top c k (Statement-F.Loop condition body) h is =
    ap (λ (z : List Task). goes_on z l) (at_end body (left_round top (inside c k 0 (Statement-F.Loop condition body) (pos 0))))
step_same here l top c k (Statement-F.For p left direction right body) h is =
    ap (or_refuses l (λ (turn : List Task). goes_on (turn ++ left_from top c (k + 1)) l)) (ranges here l p left direction right body)
    ∙ made_same top l (λ (turn : List Task). goes_on (turn ++ left_from top c (k + 1)) l) (turn_of p direction body)
    (λ (range : Option LoopRange). goes_to (ranged_at c k (Statement-F.For p left direction right body) range) l) (loop_range here l left direction right)
    (ranged_same top l c k p left direction right body)
step_same here l top c k (Statement-F.Exit condition) h is =
    all_same top l (λ (b : Bool). goes_on (if b then behind_loop (left_from top c (k + 1)) else left_from top c (k + 1)) l)
    (λ (b : Bool). goes_to (if b then behind_loop_at top c else at c (k + 1)) l) (holds here l condition)
    (λ b. where_true top l b (behind_loop (left_from top c (k + 1))) (left_from top c (k + 1)) (behind_loop_at top c) (at c (k + 1))
    (skips (drop (k + 1) (body_in top c)) (left_round top c) ∙ left_behind_loop top c h) refl)
step_same here l top c k (Statement-F.Next condition) h is =
    all_same top l (λ (b : Bool). goes_on (if b then at_next_turn (left_from top c (k + 1)) else left_from top c (k + 1)) l)
    (λ (b : Bool). goes_to (if b then end_of_turn_at top c else at c (k + 1)) l) (holds here l condition)
    (λ b. where_true top l b (at_next_turn (left_from top c (k + 1))) (left_from top c (k + 1)) (end_of_turn_at top c) (at c (k + 1))
    (skips_to_turn (drop (k + 1) (body_in top c)) (left_round top c) ∙ left_at_turn top c h) refl)
step_same here l top c k (Statement-F.Wait number on condition timeout) h is =
    all_same top l (λ (t : Option ℕ). waits number t (left_from top c (k + 1)) l) (λ (t : Option ℕ). waits_at number t (at c (k + 1)) l) (timeout_of here l timeout) (λ t. refl)
step_same here l top c k (Statement-F.Assert e text s) h is =
    all_same top l (λ (v : Val). asserted (is_true v) (reported here s text (left_from top c (k + 1)) l) (left_from top c (k + 1)) l)
    (λ (v : Val). asserted_at (is_true v) (reported_at here s text (at c (k + 1)) l) (at c (k + 1)) l) (evaluated here l e)
    (λ v. asserted_same top (is_true v) (reported here s text (left_from top c (k + 1)) l) (reported_at here s text (at c (k + 1)) l) (at c (k + 1)) l
    (reported_same here l top s text (at c (k + 1))))
step_same here l top c k (Statement-F.Report text s) h is = reported_same here l top s text (at c (k + 1))
step_same here l top c k (Statement-F.Break elements condition) h is =
    all_same top l (goes (left_from top c (k + 1))) (goes_to (at c (k + 1))) (holds here l condition >>= break_by here l elements) (λ a. refl)
step_same here l top c k Statement-F.Null h is = refl

-- ---- places in the text

begun_in : (top : List Statement) (c : Surroundings) (k : ℕ) (o : Option Statement) (others : Coming) → AreOf top c → slice_get (body_in top c) k ≡ o → ComesIn top others →
    ComesIn top (begun_or o c k others)
begun_in top c k (Some s) others h is more = (h, ap layer_of is)
begun_in top c k None others h is more = more

truth_in : (top : List Statement) (r : Result Bool Refusal) (p q : Coming) → ComesIn top p → ComesIn top q → ComesIn top (by_truth r p q)
truth_in top (Ok true) p q hp hq = hp
truth_in top (Ok false) p q hp hq = hq
truth_in top (Err r) p q hp hq = tt

if_in : (top : List Statement) (t : Bool) (p q : Coming) → ComesIn top p → ComesIn top q → ComesIn top (if t then p else q)
if_in top true p q hp hq = hp
if_in top false p q hp hq = hq

past_in : (here : Context) (l : Local) (top : List Statement) (c : Surroundings) (j b : ℕ) (layer : Layer) (last : ℤ) (others : Coming) → AreOf top (inside c j b layer last) → ComesIn top others →
    ComesIn top (past_end here l (inside c j b layer last) layer last others)
past_in here l top c j b (Statement-F.Loop condition body) last others h more = truth_in top (holds here l condition) _ others h more
past_in here l top c j b (Statement-F.For p left direction right body) last others h more = if_in top (int_eq (parameter_of l p) last) others _ more h
past_in here l top c j b (Statement-F.If x y) last others h more = more
past_in here l top c j b (Statement-F.Case x y) last others h more = more
past_in here l top c j b _ last others h more = absurd h.2

coming_at_in : (here : Context) (l : Local) (top : List Statement) (c : Surroundings) (k : ℕ) → AreOf top c → ComesIn top (coming_at here l top c k)
unfolding coming_at
coming_at_in here l top outermost k h = begun_in top outermost k (slice_get top k) starts_again tt refl tt
coming_at_in here l top (inside c j b layer last) k h =
    begun_in top (inside c j b layer last) k (slice_get (inner_body b layer) k) _ h refl (past_in here l top c j b layer last (coming_at here l top c (j + 1)) h (coming_at_in here l top c (j + 1) h.0))

next_inside : (here : Context) (l : Local) (top : List Statement) (p : ProcessPlace) → IsIn top p → ComesIn top (coming here l top p)
next_inside here l top (at c k) h = coming_at_in here l top c k h
next_inside here l top (turning c k (Statement-F.For p left direction right body) from last) h = (h.0, h.1, refl)
next_inside here l top (turning c k _ from last) h = absurd h.2

abbrev OkHas : {A : Type 0} → (A → Type 0) → Result A Refusal → Type 0
OkHas P (Ok a) = P a
OkHas P (Err r) = Unit {0}

all_in : {A : Type 0} (top : List Statement) (l : Local) (move : A → Moved) (r : Result A Refusal) → ((a : A) → MovesIn top (move a)) → MovesIn top (or_refused l move r)
all_in top l move (Ok a) h = h a
all_in top l move (Err e) h = tt

some_in : {A : Type 0} (P : A → Type 0) (top : List Statement) (l : Local) (move : A → Moved) (r : Result A Refusal) → OkHas P r → ((a : A) → P a → MovesIn top (move a)) →
    MovesIn top (or_refused l move r)
some_in P top l move (Ok a) has h = h a has
some_in P top l move (Err e) has h = tt

later_within : (n : ℕ) (r : Result ℕ Refusal) → OkHas (λ b. b ≤ n) r → OkHas (λ b. b ≤ suc n) (one_later r)
later_within n (Ok b) h = omega (arith, h)
later_within n (Err e) h = tt

truth_within : (n : ℕ) (t : Bool) (r : Result ℕ Refusal) → OkHas (λ b. b ≤ n) r → OkHas (λ b. b ≤ suc n) (if t then Ok 0 else one_later r)
truth_within n true r h = omega arith
truth_within n false r h = later_within n r h

taken_within : (n : ℕ) (v : Result Bool Refusal) (r : Result ℕ Refusal) → OkHas (λ b. b ≤ n) r → OkHas (λ b. b ≤ suc n) (v >>= (λ t. if t then Ok 0 else one_later r))
taken_within n (Ok t) r h = truth_within n t r h
taken_within n (Err e) r h = tt

branch_within : (here : Context) (l : Local) (bs : List Branch) → OkHas (λ b. b ≤ length bs) (branch_number here l bs)
unfolding branch_number
branch_within here l [] = omega arith
branch_within here l (x ∷ more) = taken_within (length more) (holds here l (Some (out-Branch x).condition)) (branch_number here l more) (branch_within here l more)

abbrev SomeHas : (ℕ → Type 0) → Option ℕ → Type 0
SomeHas P (Some b) = P b
SomeHas P None = Unit {0}

position_within : (test : Alternative → Bool) (all : List Alternative) (o : Option ℕ) → position test all ≡ o → SomeHas (λ b. b < length all) o
position_within test all None is = tt
position_within test [] (Some b) is = absurd cc
position_within test (a ∷ more) (Some b) is = (position-Some test (a ∷ more) b a is).0

either_within : (n : ℕ) (named others : Option ℕ) → SomeHas (λ b. b < n) named → SomeHas (λ b. b < n) others → SomeHas (λ b. b < n) (else_number named others)
either_within n (Some b) others h k = h
either_within n None others h k = k

alternative_within : (all : List Alternative) (v : Val) → SomeHas (λ b. b < length all) (alternative_number all v)
alternative_within all v =
    either_within (length all) (position (names v) all) (position has_others all) (position_within (names v) all (position (names v) all) refl)
    (position_within has_others all (position has_others all) refl)

chosen_in : (top : List Statement) (c : Surroundings) (k : ℕ) (e : FlatExpr) (all : List Alternative) (number : Option ℕ) → AreOf top c → layer_at k (body_in top c) ≡ Some (Statement-F.Case e all) →
    SomeHas (λ b. b < length all) number → IsIn top (chosen_at c k (Statement-F.Case e all) number)
chosen_in top c k e all (Some b) h is within = (h, is, within)
chosen_in top c k e all None h is within = h

ranged_in : (top : List Statement) (c : Surroundings) (k p : ℕ) (left : FlatExpr) (direction : Direction) (right : FlatExpr) (body : List Statement) (range : Option LoopRange) →
    AreOf top c → layer_at k (body_in top c) ≡ Some (Statement-F.For p left direction right body) → IsIn top (ranged_at c k (Statement-F.For p left direction right body) range)
ranged_in top c k p left direction right body (Some range) h is = (h, is, tt)
ranged_in top c k p left direction right body None h is = h

behind_loop_in : (top : List Statement) (c : Surroundings) → AreOf top c → IsIn top (behind_loop_at top c)
behind_loop_in top outermost h = tt
behind_loop_in top (inside c j b (Statement-F.Loop condition body) last) h = h.0
behind_loop_in top (inside c j b (Statement-F.For p left direction right body) last) h = h.0
behind_loop_in top (inside c j b (Statement-F.If x y) last) h = behind_loop_in top c h.0
behind_loop_in top (inside c j b (Statement-F.Case x y) last) h = behind_loop_in top c h.0
behind_loop_in top (inside c j b _ last) h = absurd h.2

end_of_turn_in : (top : List Statement) (c : Surroundings) → AreOf top c → IsIn top (end_of_turn_at top c)
end_of_turn_in top outermost h = tt
end_of_turn_in top (inside c j b (Statement-F.Loop condition body) last) h = h
end_of_turn_in top (inside c j b (Statement-F.For p left direction right body) last) h = h
end_of_turn_in top (inside c j b (Statement-F.If x y) last) h = end_of_turn_in top c h.0
end_of_turn_in top (inside c j b (Statement-F.Case x y) last) h = end_of_turn_in top c h.0
end_of_turn_in top (inside c j b _ last) h = absurd h.2

one_of_in : (top : List Statement) (t : Bool) (p q : ProcessPlace) → IsIn top p → IsIn top q → IsIn top (if t then p else q)
one_of_in top true p q hp hq = hp
one_of_in top false p q hp hq = hq

reported_in : (here : Context) (l : Local) (top : List Statement) (s : Severity) (text : List ℕ) (p : ProcessPlace) → IsIn top p → MovesIn top (reported_at here s text p l)
reported_in here l top severity.Failure text p h = tt
reported_in here l top severity.Note text p h = h
reported_in here l top severity.Warning text p h = h
reported_in here l top severity.Error text p h = h

asserted_in : (top : List Statement) (t : Bool) (move : Moved) (p : ProcessPlace) (l : Local) → IsIn top p → MovesIn top move → MovesIn top (asserted_at t move p l)
asserted_in top true move p l h m = h
asserted_in top false move p l h m = m

moved_in : (here : Context) (l : Local) (top : List Statement) (c : Surroundings) (k : ℕ) (layer : Layer) → AreOf top c → layer_at k (body_in top c) ≡ Some layer →
    MovesIn top (moved here l top c k layer)
moved_in here l top c k (Statement-F.SignalAssignment i constraint m wave) h is = all_in top l (goes_to (at c (k + 1))) (signal_assignment here l i constraint m wave) (λ a. h)
moved_in here l top c k (Statement-F.VariableAssignment i constraint e) h is = all_in top l (goes_to (at c (k + 1))) (variable_assignment here l i constraint e) (λ a. h)
moved_in here l top c k (Statement-F.If bs last) h is =
    some_in (λ (b : ℕ). b ≤ length bs) top l (λ (b : ℕ). goes_to (at (inside c k b (Statement-F.If bs last) (pos 0)) 0) l) (branch_number here l bs) (branch_within here l bs) (λ b within. (h, is, within))
moved_in here l top c k (Statement-F.Case e all) h is =
    all_in top l (λ (v : Val). goes_to (chosen_at c k (Statement-F.Case e all) (alternative_number all v)) l) (evaluated here l e)
    (λ v. chosen_in top c k e all (alternative_number all v) h is (alternative_within all v))
moved_in here l top c k (Statement-F.Loop condition body) h is = (h, is, refl)
moved_in here l top c k (Statement-F.For p left direction right body) h is =
    all_in top l (λ (range : Option LoopRange). goes_to (ranged_at c k (Statement-F.For p left direction right body) range) l) (loop_range here l left direction right)
    (λ range. ranged_in top c k p left direction right body range h is)
moved_in here l top c k (Statement-F.Exit condition) h is =
    all_in top l (λ (b : Bool). goes_to (if b then behind_loop_at top c else at c (k + 1)) l) (holds here l condition)
    (λ b. one_of_in top b (behind_loop_at top c) (at c (k + 1)) (behind_loop_in top c h) h)
moved_in here l top c k (Statement-F.Next condition) h is =
    all_in top l (λ (b : Bool). goes_to (if b then end_of_turn_at top c else at c (k + 1)) l) (holds here l condition)
    (λ b. one_of_in top b (end_of_turn_at top c) (at c (k + 1)) (end_of_turn_in top c h) h)
moved_in here l top c k (Statement-F.Wait number on condition timeout) h is = all_in top l (λ (t : Option ℕ). waits_at number t (at c (k + 1)) l) (timeout_of here l timeout) (λ t. h)
moved_in here l top c k (Statement-F.Assert e text s) h is =
    all_in top l (λ (v : Val). asserted_at (is_true v) (reported_at here s text (at c (k + 1)) l) (at c (k + 1)) l) (evaluated here l e)
    (λ v. asserted_in top (is_true v) (reported_at here s text (at c (k + 1)) l) (at c (k + 1)) l h (reported_in here l top s text (at c (k + 1)) h))
moved_in here l top c k (Statement-F.Report text s) h is = reported_in here l top s text (at c (k + 1)) h
moved_in here l top c k (Statement-F.Break elements condition) h is = all_in top l (goes_to (at c (k + 1))) (holds here l condition >>= break_by here l elements) (λ a. h)
moved_in here l top c k Statement-F.Null h is = h

-- ---- the run

spent_same : (here : Context) (l : Local) (top : List Statement) (q : Coming) → spent here l (next_in top q) ≡ stop_in top (nothing_left here l q)
spent_same here l top (begins_at s c k) = refl
spent_same here l top (turns_to p m) = refl
spent_same here l top starts_again = refl
spent_same here l top (has_fault r) = refl

after_same : (top : List Statement) (further : Local → List Task → Stop) (further_at : Local → ProcessPlace → Ended) (move : Moved) →
    ((l : Local) (p : ProcessPlace) → IsIn top p → further l (tasks_at top p) ≡ stop_in top (further_at l p)) → MovesIn top move →
    after_step further (step_in top move) ≡ stop_in top (after_move further_at move)
after_same top further further_at (goes_to p l) same h = same l p h
after_same top further further_at (waits_at number t p l) same h = refl
after_same top further further_at (is_refused l r) same h = refl

counted_same : (here : Context) (l : Local) (top : List Statement) (further : Local → List Task → Stop) (further_at : Local → ProcessPlace → Ended) (q : Coming) → process_body here ≡ top →
    ((m : Local) (p : ProcessPlace) → IsIn top p → further m (tasks_at top p) ≡ stop_in top (further_at m p)) → ComesIn top q →
    counted further here l (next_in top q) ≡ stop_in top (one_counted further_at here l top q)
counted_same here l top further further_at (begins_at s c k) is same h =
    ap (after_step further) (step_same here l top c k (out-Statement s) h.0 h.1)
    ∙ after_same top further further_at (moved here l top c k (out-Statement s)) same (moved_in here l top c k (out-Statement s) h.0 h.1)
counted_same here l top further further_at (turns_to p m) is same h = same m p h
counted_same here l top further further_at starts_again is same h =
    ap (further l) (ap statements is ∙ sym (append-nil (statements top))) ∙ same l at_start tt
counted_same here l top further further_at (has_fault r) is same h = refl

run_same : (here : Context) (top : List Statement) (n : ℕ) (l : Local) (p : ProcessPlace) → process_body here ≡ top → IsIn top p → run n here l (tasks_at top p) ≡ stop_in top (run_at n here top l p)
unfolding run run_at
run_same here top zero l p is h = ap (spent here l) (next_same here l top p h) ∙ spent_same here l top (coming here l top p)
run_same here top (suc n) l p is h =
    ap (counted (run n here) here l) (next_same here l top p h)
    ∙ counted_same here l top (run n here) (run_at n here top) (coming here l top p) is (λ m q. run_same here top n m q is) (next_inside here l top p h)

spent_in : (here : Context) (l : Local) (top : List Statement) (q : Coming) → EndsIn top (nothing_left here l q)
spent_in here l top (begins_at s c k) = tt
spent_in here l top (turns_to p m) = tt
spent_in here l top starts_again = tt
spent_in here l top (has_fault r) = tt

after_in : (top : List Statement) (further_at : Local → ProcessPlace → Ended) (move : Moved) → ((l : Local) (p : ProcessPlace) → IsIn top p → EndsIn top (further_at l p)) → MovesIn top move →
    EndsIn top (after_move further_at move)
after_in top further_at (goes_to p l) stays h = stays l p h
after_in top further_at (waits_at number t p l) stays h = h
after_in top further_at (is_refused l r) stays h = tt

counted_in : (here : Context) (l : Local) (top : List Statement) (further_at : Local → ProcessPlace → Ended) (q : Coming) → ((m : Local) (p : ProcessPlace) → IsIn top p → EndsIn top (further_at m p)) → ComesIn top q →
    EndsIn top (one_counted further_at here l top q)
counted_in here l top further_at (begins_at s c k) stays h =
    after_in top further_at (moved here l top c k (out-Statement s)) stays (moved_in here l top c k (out-Statement s) h.0 h.1)
counted_in here l top further_at (turns_to p m) stays h = stays m p h
counted_in here l top further_at starts_again stays h = stays l at_start tt
counted_in here l top further_at (has_fault r) stays h = tt

run_in : (here : Context) (top : List Statement) (n : ℕ) (l : Local) (p : ProcessPlace) → process_body here ≡ top → IsIn top p → EndsIn top (run_at n here top l p)
unfolding run_at
run_in here top zero l p is h = spent_in here l top (coming here l top p)
run_in here top (suc n) l p is h = counted_in here l top (run_at n here top) (coming here l top p) (λ m q. run_in here top n m q is) (next_inside here l top p h)

stands_there : (top : List Statement) (p : ProcessPlace) → IsIn top p → StandIn top (tasks_at top p)
stands_there top (at c k) h = inl (record { round = c; number = k; of_text = h; tasks_are = refl })
stands_there top (turning c k (Statement-F.For p left direction right body) from last) h =
    inr (record { round = c; number = k; of_text = h.0; p = p; left = left; direction = direction; right = right; body = body; from = from; last = last; statement_is = h.1; tasks_are = refl })
stands_there top (turning c k _ from last) h = absurd h.2

pub follows : PlacesFollow
follows =
    record {
      next = next_same;
      next_in_text = next_inside;
      statement = step_same;
      statement_in_text = moved_in;
      runs = run_same;
      runs_in_text = run_in;
      stands = stands_there;
    }
