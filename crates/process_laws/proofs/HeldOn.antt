-- The variables that a process sees are those of the state between cycles.
use Rattle.std.proofs.Common.{◌≡◌, refl, ap, sym, ◌∙◌, subst, ℕ, zero, suc, ◌+◌, ◌<◌, ◌⊎◌, inl, inr, ⊎_elim, Bool, true, false, not, ◌&&◌, ◌||◌, if◌then◌else◌, nat_eq, ℤ, pos, List, [], ◌∷◌, ◌++◌, length, drop, append-nil, length-set, Option, Some, None, slice_get, slice_set, slice_index_or, arith}
use Rattle.std.specs.List.{list_any}
use Rattle.std.proofs.lemmas.Bool.Decides.{nat_tests}
use Rattle.ams_value.specs.declared.val.Val.{Val}
use Rattle.ams_value.specs.declared.val.Val.TheVariants as val
use Rattle.flat_expr.specs.declared.statement.Statement.{Statement}
use Rattle.flat_expr.specs.declared.statement.Statement.TheOpen.{Statement-F}
use Rattle.flat_design.specs.declared.objects.Variable.{Variable}
use Rattle.flat_design.specs.declared.objects.WaitPlace.{WaitPlace}
use Rattle.flat_design.specs.declared.objects.Process.{Process}
use Rattle.step_model.specs.System.{ProcessState}
use Rattle.cycle_meaning.specs.Task.{Task, statement, again, first_turn, next_turn, statements, Layer}
use Rattle.cycle_meaning.specs.World.{Local}
use Rattle.cycle_meaning.specs.Statements.{integer_of}
use Rattle.cycle_meaning.specs.Processes.{run, left_behind, state_of, loops_in, parameter_of, declared_values, with_parameters, with_loops, parameters_at, variables_at, body_of}
use Rattle.design_rules.specs.Ways.{parameter_in, AreWaysRight}
use Rattle.process_laws.specs.Resumed.{Surroundings, outermost, inside, body_in, turns_of, left_round}
use Rattle.design_rules.specs.Types.{IsDeclared}
use Rattle.process_laws.specs.Held.{IsInteger, HoldIn, Stops, KeepsVariables, HoldAgain, HoldAtStart, UnseenBeginAgain, begun, begun_again, kept_variables, RunsAgain}
use Rattle.process_laws.proofs.Places.{parameters_round, loop_of, loops_round}
use Rattle.process_laws.proofs.Moves.{Waits, AfterRun, run_stands}
use Rattle.process_laws.proofs.GoOn.{place_of, loops_are, goes_on_there}
use Rattle.process_laws.proofs.HeldMoves.{get_set_same, get_set_other, within, hold_statements, HeldRun, AreHeld, held_run, or_apart}

-- ---- the declared variables

by_bool : (C : Bool → Type 0) (b : Bool) → C true → C false → C b
by_bool C true t f = t
by_bool C false t f = f

by_kind : (P : Variable → Type 0) (x : Variable) → P (record x { is_parameter = true }) → P (record x { is_parameter = false }) → P x
by_kind P x t f = by_bool (λ b. P (record x { is_parameter = b })) x.is_parameter t f

length-with_parameters : (xs : List Variable) (vs : List Val) → length (with_parameters xs vs) ≡ length xs
length-with_parameters [] vs = refl
length-with_parameters (x ∷ xs) [] =
    by_kind (λ (y : Variable). length (with_parameters (y ∷ xs) []) ≡ suc (length xs)) x (ap suc (length-with_parameters xs [])) (ap suc (length-with_parameters xs []))
length-with_parameters (x ∷ xs) (v ∷ vs) =
    by_kind (λ (y : Variable). length (with_parameters (y ∷ xs) (v ∷ vs)) ≡ suc (length xs)) x (ap suc (length-with_parameters xs (v ∷ vs))) (ap suc (length-with_parameters xs vs))

abbrev some_value : Val → Option Val → Val
some_value d None = d
some_value d (Some v) = v

abbrev some_variable : Variable → Option Variable → Variable
some_variable d None = d
some_variable d (Some x) = x

declared_stay : (xs : List Variable) (vs : List Val) (i : ℕ) → length vs ≡ length xs → IsDeclared xs i
    → slice_get (with_parameters xs (declared_values xs vs)) i ≡ slice_get vs i
declared_stay [] [] i h d = refl
declared_stay [] (v ∷ vs) i h d = absurd (omega (arith, h))
declared_stay (x ∷ xs) [] i h d = absurd (omega (arith, h))
declared_stay (x ∷ xs) (v ∷ vs) zero h d =
    by_kind (λ (y : Variable). y.is_parameter ≡ false → slice_get (with_parameters (y ∷ xs) (declared_values (y ∷ xs) (v ∷ vs))) 0 ≡ Some v) x
    (λ no. absurd (grind arith)) (λ yes. refl)
    (ap (λ (o : Option Variable). (some_variable x o).is_parameter) d.1 ∙ d.2)
declared_stay (x ∷ xs) (v ∷ vs) (suc i) h d =
    by_kind (λ (y : Variable). slice_get (with_parameters (y ∷ xs) (declared_values (y ∷ xs) (v ∷ vs))) (suc i) ≡ slice_get vs i) x
    (declared_stay xs vs i (omega (arith, h)) d) (declared_stay xs vs i (omega (arith, h)) d)

-- ---- the parameters

-- each loop has its parameter's value
abbrev AreLoops : Local → List ℕ → List (ℤ × ℤ) → Type 0
AreLoops l [] [] = Unit {0}
AreLoops l [] (x ∷ loops) = ⊥
AreLoops l (p ∷ ps) [] = ⊥
AreLoops l (p ∷ ps) (x ∷ loops) = (x.0 ≡ parameter_of l p) × AreLoops l ps loops

loops_both : (l : Local) (ps qs : List ℕ) (a b : List (ℤ × ℤ)) → AreLoops l ps a → AreLoops l qs b → AreLoops l (ps ++ qs) (a ++ b)
loops_both l [] qs [] b ha hb = hb
loops_both l [] qs (x ∷ a) b ha hb = absurd ha
loops_both l (p ∷ ps) qs [] b ha hb = absurd ha
loops_both l (p ∷ ps) qs (x ∷ a) b ha hb = (ha.0, loops_both l ps qs a b ha.1 hb)

one_loop : (l : Local) (layer : Layer) (last : ℤ) → AreLoops l (parameter_in layer) (loop_of l layer last)
one_loop l (Statement-F.For p left direction right body) last = (refl, tt)
one_loop l _ last = tt

loops_of_round : (l : Local) (c : Surroundings) → AreLoops l (parameters_round c) (loops_round l c)
unfolding parameters_round loops_round
loops_of_round l outermost = tt
loops_of_round l (inside c k b layer last) = loops_both l (parameters_round c) (parameter_in layer) (loops_round l c) (loop_of l layer last) (loops_of_round l c) (one_loop l layer last)

-- all parameters are integers
abbrev AreIntegers : List Val → List ℕ → Type 0
AreIntegers vs [] = Unit {0}
AreIntegers vs (p ∷ ps) = IsInteger (slice_get vs p) × AreIntegers vs ps

integers_both : (vs : List Val) (ps qs : List ℕ) → AreIntegers vs ps → AreIntegers vs qs → AreIntegers vs (ps ++ qs)
integers_both vs [] qs a b = b
integers_both vs (p ∷ ps) qs a b = (a.0, integers_both vs ps qs a.1 b)

rest_holds : (vs : List Val) (body : List Statement) (rest : List Task) → HoldIn vs (statements body ++ rest) → HoldIn vs rest
rest_holds vs [] rest h = h
rest_holds vs (s ∷ body) rest h = rest_holds vs body rest h

turn_holds : (vs : List Val) (layer : Layer) (last : ℤ) (rest : List Task) → HoldIn vs (turns_of layer last ++ rest) → AreIntegers vs (parameter_in layer) × HoldIn vs rest
turn_holds vs (Statement-F.For p left direction right body) last rest h = ((h.0, tt), h.1)
turn_holds vs (Statement-F.Loop condition body) last rest h = (tt, h)
turn_holds vs _ last rest h = (tt, h)

integers_round : (vs : List Val) (top : List Statement) (c : Surroundings) → HoldIn vs (left_round top c) → AreIntegers vs (parameters_round c)
unfolding parameters_round
integers_round vs top outermost h = tt
integers_round vs top (inside c k b layer last) h =
    let apart = turn_holds vs layer last (statements (drop (k + 1) (body_in top c)) ++ left_round top c) h in
    integers_both vs (parameters_round c) (parameter_in layer)
    (integers_round vs top c (rest_holds vs (drop (k + 1) (body_in top c)) (left_round top c) apart.1)) apart.0

index_is : (vs : List Val) (p : ℕ) (d v : Val) → slice_get vs p ≡ Some v → slice_index_or vs p d ≡ v
index_is [] p d v h = absurd (grind arith)
index_is (x ∷ vs) zero d v h = grind arith
index_is (x ∷ vs) (suc p) d v h = index_is vs p d v h

parameter_is : (l : Local) (p : ℕ) → IsInteger (slice_get l.variables p) → slice_get l.variables p ≡ Some (val.Int (parameter_of l p))
parameter_is l p h = h.1 ∙ ap (λ (z : ℤ). Some (val.Int z)) (sym (ap integer_of (index_is l.variables p (val.Int (pos 0)) (val.Int h.0) h.1)))

eq_of : (i j : ℕ) → nat_eq i j ≡ true → i ≡ j
eq_of i j h = grind (arith, nat_tests)

apart_of : (i j : ℕ) → nat_eq i j ≡ false → nat_eq j i ≡ false
apart_of i j h = grind (arith, nat_tests)

or_right : (a b : Bool) → a ≡ false → (a || b) ≡ true → b ≡ true
or_right true b n h = absurd (grind arith)
or_right false b n h = h

itself : (i : ℕ) → nat_eq i i ≡ true
itself i = grind (arith, nat_tests)

or_map : (a b c : Bool) → (a || b) ≡ true → (b ≡ true → c ≡ true) → (a || c) ≡ true
or_map true b c h f = refl
or_map false b c h f = f h

or_second : (a b : Bool) → b ≡ true → (a || b) ≡ true
or_second true b h = refl
or_second false b h = h

any_left : (t : ℕ → Bool) (xs ys : List ℕ) → list_any t xs ≡ true → list_any t (xs ++ ys) ≡ true
any_left t [] ys h = absurd (grind arith)
any_left t (x ∷ xs) ys h = or_map (t x) (list_any t xs) (list_any t (xs ++ ys)) h (any_left t xs ys)

any_right : (t : ℕ → Bool) (xs ys : List ℕ) → list_any t ys ≡ true → list_any t (xs ++ ys) ≡ true
any_right t [] ys h = h
any_right t (x ∷ xs) ys h = or_second (t x) (list_any t (xs ++ ys)) (any_right t xs ys h)

bool_cases : (b : Bool) → (b ≡ true) ⊎ (b ≡ false)
bool_cases true = inl refl
bool_cases false = inr refl

seen_after : (l : Local) (ps : List ℕ) (loops : List (ℤ × ℤ)) (vs : List Val) → AreLoops l ps loops → AreIntegers l.variables ps → length vs ≡ length l.variables
    → (i : ℕ) → (list_any (nat_eq i) ps ≡ true) ⊎ (slice_get vs i ≡ slice_get l.variables i) → slice_get (with_loops ps loops vs) i ≡ slice_get l.variables i
seen_after l [] [] vs z n len i (inl none) = absurd (grind arith)
seen_after l [] [] vs z n len i (inr same) = same
seen_after l [] (x ∷ loops) vs z n len i s = absurd z
seen_after l (p ∷ ps) [] vs z n len i s = absurd z
seen_after l (p ∷ ps) (x ∷ loops) vs z n len i s =
    seen_after l ps loops (slice_set vs p (val.Int x.0)) z.1 n.1 (length-set vs p (val.Int x.0) ∙ len) i
    (⊎_elim
    (λ same. inr
    (subst (λ j. slice_get (slice_set vs p (val.Int x.0)) j ≡ slice_get l.variables j) (sym (eq_of i p same))
    (get_set_same vs p (val.Int x.0) (subst (λ m. p < m) (sym len) (within l.variables p n.0)) ∙ (ap (λ (y : ℤ). Some (val.Int y)) z.0 ∙ sym (parameter_is l p n.0)))))
    (λ other. ⊎_elim
    (λ any. inl (or_right (nat_eq i p) (list_any (nat_eq i) ps) other any))
    (λ same. inr (get_set_other vs p i (val.Int x.0) (apart_of i p other) ∙ same))
    s)
    (bool_cases (nat_eq i p)))

length-with_loops : (ps : List ℕ) (loops : List (ℤ × ℤ)) (vs : List Val) → length (with_loops ps loops vs) ≡ length vs
length-with_loops [] loops vs = refl
length-with_loops (p ∷ ps) [] vs = refl
length-with_loops (p ∷ ps) (x ∷ loops) vs = length-with_loops ps loops (slice_set vs p (val.Int x.0)) ∙ length-set vs p (val.Int x.0)

-- ---- the law

waits_there : (p : Process) (k : ℕ) (wait : Option ℕ) (rest : List Task) (after : Local) → Stops p k wait rest after → Waits p.statements k rest
waits_there p k wait rest after s =
    subst (AfterRun p.statements) s.stops (run_stands s.here p.statements (ap body_of s.process_is) s.budget s.before s.tasks s.stands)

held_there : (p : Process) (k : ℕ) (wait : Option ℕ) (rest : List Task) (after : Local) → Stops p k wait rest after → AreHeld (length p.variables) after rest
held_there p k wait rest after s =
    subst (HeldRun (length p.variables)) s.stops
    (held_run (length p.variables) s.here p.statements (ap body_of s.process_is) s.parameters s.budget s.before s.tasks (s.stands, (s.values, s.holds)))

-- the state's variables, by the place of the wait
variables_are : (p : Process) (k : ℕ) (wait : Option ℕ) (rest : List Task) (after : Local) (s : Stops p k wait rest after) (w : Waits p.statements k rest)
    → variables_at p (state_of p.variables k wait rest after)
    ≡ with_loops (parameters_round w.round) (loops_round after w.round) (with_parameters p.variables (declared_values p.variables after.variables))
variables_are p k wait rest after s w =
    ap (λ (o : Option WaitPlace). with_loops (parameters_at o) (loops_in after rest) (with_parameters p.variables (declared_values p.variables after.variables))) (place_of p s.ways k rest w)
    ∙ ap (λ (z : List (ℤ × ℤ)). with_loops (parameters_round w.round) z (with_parameters p.variables (declared_values p.variables after.variables)))
    (loops_are after p.statements k rest w ∙ append-nil (loops_round after w.round))

parameters_are : (p : Process) (k : ℕ) (rest : List Task) → AreWaysRight p → (w : Waits p.statements k rest) → parameters_at (slice_get p.waits k) ≡ parameters_round w.round
parameters_are p k rest right w = ap parameters_at (place_of p right k rest w)

integers_there : (p : Process) (k : ℕ) (rest : List Task) (after : Local) (w : Waits p.statements k rest) → HoldIn after.variables rest → AreIntegers after.variables (parameters_round w.round)
integers_there p k rest after w h =
    integers_round after.variables p.statements w.round
    (rest_holds after.variables (drop (w.place + 1) (body_in p.statements w.round)) (left_round p.statements w.round) (subst (HoldIn after.variables) w.rest_is h))

pub keeps_variables : KeepsVariables
keeps_variables p k wait rest after s i seen =
    let w : Waits p.statements k rest = waits_there p k wait rest after s in
    let h : AreHeld (length p.variables) after rest = held_there p k wait rest after s in
    ap (λ (vs : List Val). slice_get vs i) (variables_are p k wait rest after s w)
    ∙ seen_after after (parameters_round w.round) (loops_round after w.round) (with_parameters p.variables (declared_values p.variables after.variables))
    (loops_of_round after w.round) (integers_there p k rest after w h.1) (length-with_parameters p.variables (declared_values p.variables after.variables) ∙ sym h.0) i
    (⊎_elim
    (λ declared. inr (declared_stay p.variables after.variables i h.0 declared))
    (λ any. inl (subst (λ (ps : List ℕ). list_any (nat_eq i) ps ≡ true) (parameters_are p k rest s.ways w) any))
    seen)

-- integers at the places of parameters are enough
abbrev SameAt : List Val → List Val → List Task → Type 0
SameAt vs us [] = Unit {0}
SameAt vs us (next_turn p direction last body ∷ rest) = (slice_get us p ≡ slice_get vs p) × SameAt vs us rest
SameAt vs us (_ ∷ rest) = SameAt vs us rest

hold_same : (vs us : List Val) → length us ≡ length vs → (tasks : List Task) → SameAt vs us tasks → HoldIn vs tasks → HoldIn us tasks
hold_same vs us len [] same h = tt
hold_same vs us len (statement s ∷ rest) same h = hold_same vs us len rest same h
hold_same vs us len (again condition body ∷ rest) same h = hold_same vs us len rest same h
hold_same vs us len (first_turn p direction from last body ∷ rest) same h = (subst (λ n. p < n) (sym len) h.0, hold_same vs us len rest same h.1)
hold_same vs us len (next_turn p direction last body ∷ rest) same h = (subst IsInteger (sym same.0) h.0, hold_same vs us len rest same.1 h.1)

pub hold_at_start : HoldAtStart
hold_at_start vs top = hold_statements vs top

same_both : (vs us : List Val) (xs ys : List Task) → SameAt vs us xs → SameAt vs us ys → SameAt vs us (xs ++ ys)
same_both vs us [] ys a b = b
same_both vs us (statement s ∷ xs) ys a b = same_both vs us xs ys a b
same_both vs us (again condition body ∷ xs) ys a b = same_both vs us xs ys a b
same_both vs us (first_turn p direction from last body ∷ xs) ys a b = same_both vs us xs ys a b
same_both vs us (next_turn p direction last body ∷ xs) ys a b = (a.0, same_both vs us xs ys a.1 b)

same_statements : (vs us : List Val) (body : List Statement) → SameAt vs us (statements body)
same_statements vs us [] = tt
same_statements vs us (s ∷ body) = same_statements vs us body

-- the values at these numbers are the same
abbrev SameFor : List Val → List Val → List ℕ → Type 0
SameFor vs us ps = (i : ℕ) → list_any (nat_eq i) ps ≡ true → slice_get us i ≡ slice_get vs i

same_turns : (vs us : List Val) (layer : Layer) (last : ℤ) → SameFor vs us (parameter_in layer) → SameAt vs us (turns_of layer last)
same_turns vs us (Statement-F.For p left direction right body) last f = (f p (ap (λ b. b || false) (itself p)), tt)
same_turns vs us (Statement-F.Loop condition body) last f = tt
same_turns vs us _ last f = tt

same_round : (vs us : List Val) (top : List Statement) (c : Surroundings) → SameFor vs us (parameters_round c) → SameAt vs us (left_round top c)
unfolding parameters_round
same_round vs us top outermost f = tt
same_round vs us top (inside c k b layer last) f =
    same_both vs us (turns_of layer last) _ (same_turns vs us layer last (λ i h. f i (any_right (nat_eq i) (parameters_round c) (parameter_in layer) h)))
    (same_both vs us (statements (drop (k + 1) (body_in top c))) _ (same_statements vs us (drop (k + 1) (body_in top c)))
    (same_round vs us top c (λ i h. f i (any_left (nat_eq i) (parameters_round c) (parameter_in layer) h))))

pub hold_again : HoldAgain
hold_again p k wait rest after s =
    let w : Waits p.statements k rest = waits_there p k wait rest after s in
    let h : AreHeld (length p.variables) after rest = held_there p k wait rest after s in
    let so_many : length (variables_at p (state_of p.variables k wait rest after)) ≡ length p.variables =
    ap length (variables_are p k wait rest after s w)
    ∙ (length-with_loops (parameters_round w.round) (loops_round after w.round) (with_parameters p.variables (declared_values p.variables after.variables))
    ∙ length-with_parameters p.variables (declared_values p.variables after.variables)) in (
      so_many,
      hold_same after.variables (variables_at p (state_of p.variables k wait rest after)) (so_many ∙ sym h.0) rest
          (subst (SameAt after.variables (variables_at p (state_of p.variables k wait rest after))) (sym w.rest_is)
          (same_both after.variables (variables_at p (state_of p.variables k wait rest after)) (statements (drop (w.place + 1) (body_in p.statements w.round))) _
          (same_statements after.variables (variables_at p (state_of p.variables k wait rest after)) (drop (w.place + 1) (body_in p.statements w.round)))
          (same_round after.variables (variables_at p (state_of p.variables k wait rest after)) p.statements w.round
          (λ i seen. keeps_variables p k wait rest after s i (inr (subst (λ (ps : List ℕ). list_any (nat_eq i) ps ≡ true) (sym (parameters_are p k rest s.ways w)) seen)))))) h.1,
    )

-- ---- what isn't seen

first_again : (xs : List Variable) (vs : List Val) (i : ℕ) (x : Variable) → slice_get xs i ≡ Some x → x.is_parameter ≡ true
    → slice_get (with_parameters xs vs) i ≡ Some x.initial
first_again [] vs i x is so = absurd (grind arith)
first_again (y ∷ xs) [] zero x is so =
    by_kind (λ (z : Variable). slice_get (with_parameters (z ∷ xs) []) 0 ≡ Some z.initial) y refl refl ∙ ap (λ (o : Option Variable). Some (some_variable y o).initial) is
first_again (y ∷ xs) [] (suc i) x is so =
    by_kind (λ (z : Variable). slice_get (with_parameters (z ∷ xs) []) (suc i) ≡ Some x.initial) y (first_again xs [] i x is so) (first_again xs [] i x is so)
first_again (y ∷ xs) (v ∷ vs) zero x is so =
    by_kind (λ (z : Variable). z.is_parameter ≡ true → slice_get (with_parameters (z ∷ xs) (v ∷ vs)) 0 ≡ Some z.initial) y (λ t. refl) (λ t. absurd (grind arith))
    (ap (λ (o : Option Variable). (some_variable y o).is_parameter) is ∙ so)
    ∙ ap (λ (o : Option Variable). Some (some_variable y o).initial) is
first_again (y ∷ xs) (v ∷ vs) (suc i) x is so =
    by_kind (λ (z : Variable). slice_get (with_parameters (z ∷ xs) (v ∷ vs)) (suc i) ≡ Some x.initial) y (first_again xs (v ∷ vs) i x is so) (first_again xs vs i x is so)

others_stay : (ps : List ℕ) (loops : List (ℤ × ℤ)) (vs : List Val) (i : ℕ) → list_any (nat_eq i) ps ≡ false → slice_get (with_loops ps loops vs) i ≡ slice_get vs i
others_stay [] loops vs i h = refl
others_stay (p ∷ ps) [] vs i h = refl
others_stay (p ∷ ps) (x ∷ loops) vs i h =
    let apart = or_apart (nat_eq i p) (list_any (nat_eq i) ps) h in
    others_stay ps loops (slice_set vs p (val.Int x.0)) i apart.1 ∙ get_set_other vs p i (val.Int x.0) (apart_of i p apart.0)

pub unseen_begin_again : UnseenBeginAgain
unseen_begin_again p s i x is so none =
    others_stay (parameters_at (slice_get p.waits s.wait)) s.loops (with_parameters p.variables s.variables) i none ∙ first_again p.variables s.variables i x is so

-- ---- the whole run

same_gets : (vs us : List Val) → length vs ≡ length us → ((i : ℕ) → i < length vs → slice_get vs i ≡ slice_get us i) → vs ≡ us
same_gets [] [] len f = refl
same_gets [] (u ∷ us) len f = absurd (omega (arith, len))
same_gets (v ∷ vs) [] len f = absurd (omega (arith, len))
same_gets (v ∷ vs) (u ∷ us) len f =
    let one : Some v ≡ Some u = f 0 (omega arith) in
    ap (λ (z : Val). z ∷ vs) (ap (some_value v) one)
    ∙ ap (λ (z : List Val). u ∷ z) (same_gets vs us (omega (arith, len)) (λ i h. f (suc i) (omega (arith, h))))

there : {X : Type 0} (xs : List X) (i : ℕ) → i < length xs → (x : X) × (slice_get xs i ≡ Some x)
there [] i h = absurd (omega (arith, h))
there (x ∷ xs) zero h = (x, refl)
there (x ∷ xs) (suc i) h = there xs i (omega (arith, h))

get_begun : (xs : List Variable) (ps : List ℕ) (i : ℕ) (vs : List Val) (j : ℕ) (x : Variable) (v : Val)
    → slice_get xs j ≡ Some x → slice_get vs j ≡ Some v → slice_get (begun_again xs ps i vs) j ≡ Some (begun x ps (i + j) v)
get_begun [] ps i vs j x v hx hv = absurd (grind arith)
get_begun (y ∷ xs) ps i [] j x v hx hv = absurd (grind arith)
get_begun (y ∷ xs) ps i (u ∷ vs) zero x v hx hv =
    ap (λ (z : Variable). Some (begun z ps i u)) (ap (some_variable y) hx)
    ∙ (ap (λ (z : Val). Some (begun x ps i z)) (ap (some_value u) hv) ∙ ap (λ (n : ℕ). Some (begun x ps n v)) (omega arith))
get_begun (y ∷ xs) ps i (u ∷ vs) (suc j) x v hx hv =
    get_begun xs ps (i + 1) vs j x v hx hv ∙ ap (λ (n : ℕ). Some (begun x ps n v)) (omega arith)

length-begun_again : (xs : List Variable) (ps : List ℕ) (i : ℕ) (vs : List Val) → length vs ≡ length xs → length (begun_again xs ps i vs) ≡ length xs
length-begun_again [] ps i vs h = refl
length-begun_again (x ∷ xs) ps i [] h = absurd (omega (arith, h))
length-begun_again (x ∷ xs) ps i (v ∷ vs) h = ap suc (length-begun_again xs ps (i + 1) vs (omega (arith, h)))

pick_is : (b a : Bool) (first v : Val) (o : Option Val) → (b ≡ false → o ≡ Some v) → (a ≡ true → o ≡ Some v) → (b ≡ true → a ≡ false → o ≡ Some first)
    → o ≡ Some (if b && not a then first else v)
pick_is false a first v o declared seen unseen = declared refl
pick_is true true first v o declared seen unseen = seen refl
pick_is true false first v o declared seen unseen = unseen refl refl

pub variables_kept : (p : Process) (k : ℕ) (wait : Option ℕ) (rest : List Task) (after : Local) → Stops p k wait rest after
    → variables_at p (state_of p.variables k wait rest after) ≡ kept_variables p k after
variables_kept p k wait rest after s =
    let h : AreHeld (length p.variables) after rest = held_there p k wait rest after s in
    let state : ProcessState = state_of p.variables k wait rest after in
    let ps : List ℕ = parameters_at (slice_get p.waits k) in
    let many : length (variables_at p state) ≡ length p.variables = (hold_again p k wait rest after s).0 in
    same_gets (variables_at p state) (kept_variables p k after) (many ∙ sym (length-begun_again p.variables ps 0 after.variables h.0))
    (λ i inside_it.
    let x = there p.variables i (subst (λ n. i < n) many inside_it) in
    let v = there after.variables i (subst (λ n. i < n) (many ∙ sym h.0) inside_it) in
    pick_is x.0.is_parameter (list_any (nat_eq i) ps) x.0.initial v.0 (slice_get (variables_at p state) i)
    (λ declared. keeps_variables p k wait rest after s i (inl (x.0, x.1, declared)) ∙ v.1)
    (λ seen. keeps_variables p k wait rest after s i (inr seen) ∙ v.1)
    (λ parameter unseen. unseen_begin_again p state i x.0 x.1 parameter unseen)
    ∙ (ap (λ (n : ℕ). Some (begun x.0 ps n v.0)) (omega arith) ∙ sym (get_begun p.variables ps 0 after.variables i x.0 v.0 x.1 v.1)))

pub runs_again : RunsAgain
runs_again p k wait rest after s later world budget =
    ap (λ (vs : List Val). run budget later (record { world = world; variables = vs }) (left_behind p (state_of p.variables k wait rest after))) (variables_kept p k wait rest after s)
    ∙ ap (run budget later (record { world = world; variables = kept_variables p k after }))
    (goes_on_there p s.here s.budget s.tasks s.before k wait rest after s.ways s.process_is s.stands s.stops)
