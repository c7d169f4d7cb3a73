-- A process that rests waits in the state that is known from what is kept.
use Rattle.std.proofs.Common.{◌≡◌, refl, ap, sym, ◌∙◌, subst, ℕ, zero, suc, ◌+◌, Bool, true, false, not, ◌&&◌, ◌||◌, if◌then◌else◌, nat_eq, ℤ, pos, List, [], ◌∷◌, ◌++◌, drop, Some, arith}
use Rattle.std.specs.Prelude.{slice_index_or}
use Rattle.std.specs.List.{slice_get, list_any}
use Rattle.std.proofs.lemmas.Bool.Decides.{nat_tests}
use Rattle.std.proofs.lemmas.List.Folds.{list_any-append}
use Rattle.ams_value.specs.declared.val.Val.{Val}
use Rattle.ams_value.specs.declared.val.Val.TheVariants as val
use Rattle.flat_expr.specs.declared.statement.Statement.{Statement}
use Rattle.flat_expr.specs.declared.statement.Statement.TheOpen.{Statement-F}
use Rattle.flat_design.specs.declared.objects.Variable.{Variable}
use Rattle.flat_design.specs.declared.objects.Process.{Process}
use Rattle.step_model.specs.System.{ProcessState}
use Rattle.cycle_meaning.specs.Task.{Layer}
use Rattle.cycle_meaning.specs.World.{World, Context, Local}
use Rattle.cycle_meaning.specs.Statements.{integer_of}
use Rattle.cycle_meaning.specs.Processes.{parameters_at, declared_values, loops_in, state_of, statement_budget}
use Rattle.design_rules.specs.Ways.{parameter_in}
use Rattle.process_laws.specs.Resumed.{Surroundings, outermost, inside, body_in, left_round}
use Rattle.process_laws.specs.Held.{begun_again, kept_variables}
use Rattle.process_laws.proofs.Places.{way, parameters_round, loop_of, loops_round, loops_in-body, loops_in-round}
use Rattle.process_place.specs.ProcessPlace.{ProcessPlace, tasks_at}
use Rattle.process_place.specs.Kept.{KeepsPlace}
use Rattle.process_place.specs.Moves.{run_at}
use Rattle.process_ready.specs.Ready.{IsReady}
use Rattle.process_ready.proofs.Allowed.{leads_to, as_many}
use Rattle.process_stack.specs.Stacks.{Stacked, place_of}
use Rattle.proc_exec.specs.Running.{StandsReady}
use Rattle.process_rest.proofs.Begins.{seen_same}
use Rattle.process_rest.proofs.Behind.{IsBehind, EndsBehind, run_behind}
use Rattle.process_rest.proofs.ReadyAgain.{rests_ready, goes_on_ready}
use Rattle.process_runs.specs.Kept.{Kept, place_kept, with_own, no_world, state_kept, IsWaiting}
use Rattle.process_runs.specs.Ran.{Rested}

-- ---- declared variables stay

declared_one : (b t : Bool) (initial v : Val) (xs ys : List Val) → xs ≡ ys
    → (if b then xs else (if b && t then initial else v) ∷ xs) ≡ (if b then ys else v ∷ ys)
declared_one true t initial v xs ys e = e
declared_one false t initial v xs ys e = ap (λ (zs : List Val). v ∷ zs) e

declared_same : (xs : List Variable) (ps : List ℕ) (i : ℕ) (vs : List Val) → declared_values xs (begun_again xs ps i vs) ≡ declared_values xs vs
declared_same [] ps i vs = refl
declared_same (x ∷ xs) ps i [] = refl
declared_same (x ∷ xs) ps i (v ∷ vs) =
    declared_one x.is_parameter (not (list_any (nat_eq i) ps)) x.initial v (declared_values xs (begun_again xs ps (i + 1) vs)) (declared_values xs vs) (declared_same xs ps (i + 1) vs)

-- ---- so do the parameters of the loops round a place

index_same : (vs us : List Val) (i : ℕ) (d : Val) → slice_get us i ≡ slice_get vs i → slice_index_or vs i d ≡ slice_index_or us i d
index_same [] [] i d h = refl
index_same [] (u ∷ us) zero d h = absurd (cc)
index_same [] (u ∷ us) (suc i) d h = index_same [] us i d h
index_same (v ∷ vs) [] zero d h = absurd (cc)
index_same (v ∷ vs) [] (suc i) d h = index_same vs [] i d h
index_same (v ∷ vs) (u ∷ us) zero d h = let same : v ≡ u = cc in same
index_same (v ∷ vs) (u ∷ us) (suc i) d h = index_same vs us i d h

abbrev SameFor : List Val → List Val → List ℕ → Type 0
SameFor vs us ps = (q : ℕ) → list_any (nat_eq q) ps ≡ true → slice_get us q ≡ slice_get vs q

any_left : (t : ℕ → Bool) (xs ys : List ℕ) → list_any t xs ≡ true → list_any t (xs ++ ys) ≡ true
any_left t xs ys h = list_any-append t xs ys ∙ ap (λ b. b || list_any t ys) h

any_right : (t : ℕ → Bool) (xs ys : List ℕ) → list_any t ys ≡ true → list_any t (xs ++ ys) ≡ true
any_right t xs ys h = list_any-append t xs ys ∙ (ap (λ b. list_any t xs || b) h ∙ or_true (list_any t xs))
  where
    or_true : (a : Bool) → (a || true) ≡ true
    or_true true = refl
    or_true false = refl

itself : (q : ℕ) → list_any (nat_eq q) (q ∷ []) ≡ true
itself q = ap (λ b. b || false) (same q)
  where
    same : (i : ℕ) → nat_eq i i ≡ true
    same i = grind (arith, nat_tests)

loop_same : (l m : Local) (layer : Layer) (last : ℤ) → SameFor l.variables m.variables (parameter_in layer) → loop_of l layer last ≡ loop_of m layer last
loop_same l m (Statement-F.For p left direction right body) last same =
    ap (λ (v : Val). (integer_of v, last) ∷ []) (index_same l.variables m.variables p (val.Int (pos 0)) (same p (itself p)))
loop_same l m (Statement-F.SignalAssignment _ _ _ _) last same = refl
loop_same l m (Statement-F.VariableAssignment _ _ _) last same = refl
loop_same l m (Statement-F.If _ _) last same = refl
loop_same l m (Statement-F.Case _ _) last same = refl
loop_same l m (Statement-F.Loop _ _) last same = refl
loop_same l m (Statement-F.Exit _) last same = refl
loop_same l m (Statement-F.Next _) last same = refl
loop_same l m (Statement-F.Wait _ _ _ _) last same = refl
loop_same l m (Statement-F.Assert _ _ _) last same = refl
loop_same l m (Statement-F.Report _ _) last same = refl
loop_same l m (Statement-F.Break _ _) last same = refl
loop_same l m Statement-F.Null last same = refl

loops_same : (l m : Local) (c : Surroundings) → SameFor l.variables m.variables (parameters_round c) → loops_round l c ≡ loops_round m c
unfolding loops_round parameters_round
loops_same l m outermost same = refl
loops_same l m (inside c k b layer last) same =
    ap (λ (z : List (ℤ × ℤ)). z ++ loop_of l layer last) (loops_same l m c (λ q h. same q (any_left (nat_eq q) (parameters_round c) (parameter_in layer) h)))
    ∙ ap (λ (z : List (ℤ × ℤ)). loops_round m c ++ z) (loop_same l m layer last (λ q h. same q (any_right (nat_eq q) (parameters_round c) (parameter_in layer) h)))

loops_at : (l : Local) (top : List Statement) (n : ℕ) (q : ProcessPlace) (b : IsBehind top n q) → loops_in l (tasks_at top q) ≡ loops_round l b.round
loops_at l top n q b =
    ap (λ (z : ProcessPlace). loops_in l (tasks_at top z)) b.place_is
    ∙ (loops_in-body l (drop (b.statement + 1) (body_in top b.round)) (left_round top b.round) ∙ loops_in-round l top b.round)

-- the parameters of the loops round the wait are those of the place
round_wait : (here : Context) (p : Process) (l : Local) → IsReady here p l → (k : ℕ) (q : ProcessPlace) (b : IsBehind p.statements k q) → parameters_at (slice_get p.waits k) ≡ parameters_round b.round ++ []
round_wait here p l ready k q b =
    ap parameters_at (ready.rules.ways (way b.round ++ []) (parameters_round b.round ++ []) b.statement k b.on b.condition b.timeout
    (leads_to p.statements b.round b.statement (Statement-F.Wait k b.on b.condition b.timeout) b.of_text b.wait_is))

-- ---- the state

pub state_is : (here : Context) (p : Process) (k : Kept) (after : Local) → IsReady here p after → IsBehind p.statements k.wait (place_kept p k) → k.variables ≡ kept_variables p k.wait after
    → state_of p.variables k.wait k.timeout (tasks_at p.statements (place_kept p k)) after ≡ state_kept p k
state_is here p k after ready b variables =
    let own : Local = with_own no_world k in
    let ps : List ℕ = parameters_at (slice_get p.waits k.wait) in
    let state : List Val → List (ℤ × ℤ) → ProcessState = λ vs ls. record { wait = k.wait; timeout = k.timeout; variables = vs; loops = ls } in
    let values : declared_values p.variables after.variables ≡ declared_values p.variables k.variables =
    sym (declared_same p.variables ps 0 after.variables) ∙ ap (declared_values p.variables) (sym variables) in
    let same : SameFor after.variables k.variables (parameters_round b.round) = λ q seen.
    ap (λ (vs : List Val). slice_get vs q) variables
    ∙ seen_same p.variables ps 0 after.variables q (as_many here p after ready)
    (ap (λ (n : ℕ). list_any (nat_eq n) ps) (omega arith)
    ∙ (ap (list_any (nat_eq q)) (round_wait here p after ready k.wait (place_kept p k) b) ∙ any_left (nat_eq q) (parameters_round b.round) [] seen)) in
    let loops : loops_in after (tasks_at p.statements (place_kept p k)) ≡ loops_in own (tasks_at p.statements (place_kept p k)) =
    loops_at after p.statements k.wait (place_kept p k) b ∙ (loops_same after own b.round same ∙ sym (loops_at own p.statements k.wait (place_kept p k) b)) in
    ap (λ (vs : List Val). state vs (loops_in after (tasks_at p.statements (place_kept p k)))) values
    ∙ ap (state (declared_values p.variables k.variables)) loops

-- ---- it waits

the_same : (here : Context) (p q : Process) → slice_get here.objects.processes here.process ≡ Some p → slice_get here.objects.processes here.process ≡ Some q → q ≡ p
the_same here p q a b = cc

pub ready_there : (here : Context) (p : Process) (l : Local) (s : Stacked) → slice_get here.objects.processes here.process ≡ Some p → StandsReady here l p.statements s → IsReady here p l
ready_there here p l s there h = subst (λ (q : Process). IsReady here q l) (the_same here p h.process there h.ready.ready.process_is) h.ready.ready

pub waits : (here : Context) (p : Process) (k : Kept) (w : World) (before : Local) (from : Stacked) → slice_get here.objects.processes here.process ≡ Some p → StandsReady here before p.statements from
    → (r : Rested here p k w (run_at statement_budget here p.statements before (place_of p.statements from)))
    → KeepsPlace p (state_of p.variables k.wait k.timeout (tasks_at p.statements (place_kept p k)) r.after) (place_kept p k) (kept_variables p k.wait r.after)
    → (state_of p.variables k.wait k.timeout (tasks_at p.statements (place_kept p k)) r.after ≡ state_kept p k) × IsWaiting here.objects here.process p k
waits here p k w before from there stands r keeps =
    let behind : IsBehind p.statements k.wait (place_kept p k) =
    subst (EndsBehind p.statements) r.ends (run_behind statement_budget here p.statements before (place_of p.statements from) stands.is_in) in
    let same : state_of p.variables k.wait k.timeout (tasks_at p.statements (place_kept p k)) r.after ≡ state_kept p k =
    state_is here p k r.after (ready_there here p r.after k.stack there r.ready) behind r.variables in (
      same,
      record {
        keeps = subst (λ (vs : List Val). KeepsPlace p (state_kept p k) (place_kept p k) vs) (sym r.variables)
            (subst (λ (s : ProcessState). KeepsPlace p s (place_kept p k) (kept_variables p k.wait r.after)) same keeps);
        ready = λ later v objects_are process_is world.
            subst (λ (vs : List Val). StandsReady later (record { world = v; variables = vs }) p.statements k.stack) (sym r.variables)
            (goes_on_ready here later (record r.after { variables = kept_variables p k.wait r.after }) v p.statements k.stack objects_are process_is world
            (rests_ready here p statement_budget before r.after (place_of p.statements from) k.stack k.wait k.timeout there stands.is_in r.ends r.ready));
      },
    )
