-- The runs, one behind the other.
use Rattle.std.proofs.Common.{◌≡◌, refl, sym, ◌∙◌, ap, subst, ℕ, zero, suc, ◌+◌, ◌<◌, Bool, true, false, List, [], ◌∷◌, length, slice_set, Option, Some, arith}
use Rattle.std.specs.List.{slice_get}
use Rattle.flat_design.specs.declared.objects.Process.{Process}
use Rattle.step_data.specs.declared.event.Event.{Event}
use Rattle.step_data.specs.declared.outcome.Refusal.{Refusal}
use Rattle.step_model.specs.System.{ProcessState}
use Rattle.cycle_meaning.specs.Task.{Task, statements}
use Rattle.cycle_meaning.specs.World.{World, Context, Local}
use Rattle.cycle_meaning.specs.Processes.{stopped, refused, run, statement_budget, left_behind, state_of}
use Rattle.cycle_meaning.specs.Cycles.{Ran_of, all_ran, one_refused, with_state, after_stop, by_resumption, run_all, start_all, local_of}
use Rattle.proc_exec.specs.Running.{IsFront}
use Rattle.process_runs.specs.Kept.{Kept, state_kept, states_kept}
use Rattle.process_runs.specs.Ran.{events_in, ran_from, started_from}
use Rattle.process_runs.proofs.Fronts.{events_at, with_state_events, stop_front, AllFront, front_later, all_front, first_local, StartFront, start_later, start_front}

-- ---- states by number

pub states_length : (ps : List Process) (ks : List Kept) → length ks ≡ length ps → length (states_kept ps ks) ≡ length ps
states_length [] ks h = refl
states_length (p ∷ ps) [] h = absurd (omega (arith, h))
states_length (p ∷ ps) (k ∷ ks) h = ap suc (states_length ps ks (omega (arith, h)))

pub state_at : (ps : List Process) (ks : List Kept) (i : ℕ) (p : Process) (k : Kept) → slice_get ps i ≡ Some p → slice_get ks i ≡ Some k → slice_get (states_kept ps ks) i ≡ Some (state_kept p k)
state_at [] ks i p k hp hk = absurd (cc)
state_at (q ∷ ps) [] i p k hp hk = absurd (cc)
state_at (q ∷ ps) (j ∷ ks) zero p k hp hk = let a : q ≡ p = cc in let b : j ≡ k = cc in ap (λ (x : Process). Some (state_kept x j)) a ∙ ap (λ (x : Kept). Some (state_kept p x)) b
state_at (q ∷ ps) (j ∷ ks) (suc i) p k hp hk = state_at ps ks i p k hp hk

pub state_with : (ps : List Process) (ks : List Kept) (i : ℕ) (p : Process) (k : Kept) → slice_get ps i ≡ Some p → states_kept ps (slice_set ks i k) ≡ slice_set (states_kept ps ks) i (state_kept p k)
state_with [] ks i p k hp = absurd (cc)
state_with (q ∷ ps) [] zero p k hp = refl
state_with (q ∷ ps) [] (suc i) p k hp = refl
state_with (q ∷ ps) (j ∷ ks) zero p k hp = let a : q ≡ p = cc in ap (λ (x : Process). state_kept x k ∷ states_kept ps ks) a
state_with (q ∷ ps) (j ∷ ks) (suc i) p k hp = ap (λ (z : List ProcessState). state_kept q j ∷ z) (state_with ps ks i p k hp)

-- ---- the next one

one_resumes : (b : Bool) (others : World → Ran_of) (here there : Context) (w : World) (q p : Process) (r s : ProcessState) → b ≡ true → there ≡ here → q ≡ p → r ≡ s
    → by_resumption b others here w q r ≡ after_stop others p (run statement_budget there (local_of w p s) (left_behind p s))
one_resumes b others here there w q p r s eb et eq er =
    ap (λ (c : Bool). by_resumption c others here w q r) eb
    ∙ (ap (λ (x : Process). by_resumption true others here w x r) eq
    ∙ (ap (λ (x : ProcessState). by_resumption true others here w p x) er
    ∙ ap (λ (h : Context). after_stop others p (run statement_budget h (local_of w p s) (left_behind p s))) (sym et)))

pub ran_next : (n : ℕ) (at : ℕ → Context) (k j : ℕ) (ps : List Process) (states : List ProcessState) (bs : List Bool) (w : World) (p : Process) (s : ProcessState) (number : ℕ) (t : Option ℕ) (rest : List Task) (l : Local)
    → j ≡ k + n → slice_get ps n ≡ Some p → slice_get states n ≡ Some s → slice_get bs n ≡ Some true
    → run statement_budget (at j) (local_of w p s) (left_behind p s) ≡ stopped number t rest l
    → ran_from n at k ps states bs w ≡ ran_from (suc n) at k ps (slice_set states n (state_of p.variables number t rest l)) bs l.world
unfolding ran_from run_all
ran_next n at k j [] states bs w p s number t rest l e hp hs hb ends = absurd (cc)
ran_next n at k j (q ∷ ps) [] bs w p s number t rest l e hp hs hb ends = absurd (cc)
ran_next n at k j (q ∷ ps) (r ∷ states) [] w p s number t rest l e hp hs hb ends = absurd (cc)
ran_next zero at k j (q ∷ ps) (r ∷ states) (b ∷ bs) w p s number t rest l e hp hs hb ends =
    let same : j ≡ k = omega (arith, e) in
    one_resumes b (run_all at (k + 1) ps states bs) (at k) (at j) w q p r s (cc) (ap at same) (cc) (cc)
    ∙ ap (after_stop (run_all at (k + 1) ps states bs) p) ends
ran_next (suc n) at k j (q ∷ ps) (r ∷ states) (b ∷ bs) w p s number t rest l e hp hs hb ends =
    ap (with_state r) (ran_next n at (k + 1) j ps states bs w p s number t rest l (omega (arith, e)) hp hs hb ends)

pub ran_past : (n : ℕ) (at : ℕ → Context) (k : ℕ) (ps : List Process) (states : List ProcessState) (bs : List Bool) (w : World)
    → n < length ps → n < length states → slice_get bs n ≡ Some false → ran_from n at k ps states bs w ≡ ran_from (suc n) at k ps states bs w
unfolding ran_from run_all
ran_past n at k [] states bs w hp hs hb = absurd (omega (arith, hp))
ran_past n at k (q ∷ ps) [] bs w hp hs hb = absurd (omega (arith, hs))
ran_past n at k (q ∷ ps) (r ∷ states) [] w hp hs hb = absurd (cc)
ran_past zero at k (q ∷ ps) (r ∷ states) (b ∷ bs) w hp hs hb =
    let e : b ≡ false = cc in ap (λ (c : Bool). by_resumption c (run_all at (k + 1) ps states bs) (at k) w q r) e
ran_past (suc n) at k (q ∷ ps) (r ∷ states) (b ∷ bs) w hp hs hb = ap (with_state r) (ran_past n at (k + 1) ps states bs w (omega (arith, hp)) (omega (arith, hs)) hb)

pub ran_refused : (n : ℕ) (at : ℕ → Context) (k j : ℕ) (ps : List Process) (states : List ProcessState) (bs : List Bool) (w : World) (p : Process) (s : ProcessState) (l : Local) (f : Refusal)
    → j ≡ k + n → slice_get ps n ≡ Some p → slice_get states n ≡ Some s → slice_get bs n ≡ Some true
    → run statement_budget (at j) (local_of w p s) (left_behind p s) ≡ refused l f → ran_from n at k ps states bs w ≡ one_refused l.world f
unfolding ran_from run_all
ran_refused n at k j [] states bs w p s l f e hp hs hb ends = absurd (cc)
ran_refused n at k j (q ∷ ps) [] bs w p s l f e hp hs hb ends = absurd (cc)
ran_refused n at k j (q ∷ ps) (r ∷ states) [] w p s l f e hp hs hb ends = absurd (cc)
ran_refused zero at k j (q ∷ ps) (r ∷ states) (b ∷ bs) w p s l f e hp hs hb ends =
    let same : j ≡ k = omega (arith, e) in
    one_resumes b (run_all at (k + 1) ps states bs) (at k) (at j) w q p r s (cc) (ap at same) (cc) (cc)
    ∙ ap (after_stop (run_all at (k + 1) ps states bs) p) ends
ran_refused (suc n) at k j (q ∷ ps) (r ∷ states) (b ∷ bs) w p s l f e hp hs hb ends =
    ap (with_state r) (ran_refused n at (k + 1) j ps states bs w p s l f (omega (arith, e)) hp hs hb ends)

pub ran_front : (n : ℕ) (at : ℕ → Context) (k j : ℕ) (ps : List Process) (states : List ProcessState) (bs : List Bool) (w : World) (p : Process) (s : ProcessState) (events : List Event)
    → j ≡ k + n → slice_get ps n ≡ Some p → slice_get states n ≡ Some s → slice_get bs n ≡ Some true → AllFront at k ps states
    → IsFront events (events_at (run statement_budget (at j) (local_of w p s) (left_behind p s))) → IsFront events (events_in (ran_from n at k ps states bs w))
unfolding ran_from run_all
ran_front n at k j [] states bs w p s events e hp hs hb f h = absurd (cc)
ran_front n at k j (q ∷ ps) [] bs w p s events e hp hs hb f h = absurd (cc)
ran_front n at k j (q ∷ ps) (r ∷ states) [] w p s events e hp hs hb f h = absurd (cc)
ran_front zero at k j (q ∷ ps) (r ∷ states) (b ∷ bs) w p s events e hp hs hb f h =
    let same : j ≡ k = omega (arith, e) in
    subst (λ (z : Ran_of). IsFront events (events_in z)) (sym (one_resumes b (run_all at (k + 1) ps states bs) (at k) (at j) w q p r s (cc) (ap at same) (cc) (cc)))
    (stop_front (run_all at (k + 1) ps states bs) p events (run statement_budget (at j) (local_of w p s) (left_behind p s))
    (λ v. all_front at (k + 1) ps states bs v (front_later at k q ps r states f)) h)
ran_front (suc n) at k j (q ∷ ps) (r ∷ states) (b ∷ bs) w p s events e hp hs hb f h =
    subst (IsFront events) (sym (with_state_events r (ran_from n at (k + 1) ps states bs w)))
    (ran_front n at (k + 1) j ps states bs w p s events (omega (arith, e)) hp hs hb (front_later at k q ps r states f) h)

-- none is left
pub ran_end : (n : ℕ) (at : ℕ → Context) (k : ℕ) (ps : List Process) (states : List ProcessState) (bs : List Bool) (w : World) → n ≡ length ps → length states ≡ length ps → length bs ≡ length ps
    → ran_from n at k ps states bs w ≡ all_ran w states
unfolding ran_from run_all
ran_end zero at k [] [] bs w e hs hb = refl
ran_end zero at k [] (s ∷ states) bs w e hs hb = absurd (omega (arith, hs))
ran_end zero at k (p ∷ ps) states bs w e hs hb = absurd (omega (arith, e))
ran_end (suc n) at k [] states bs w e hs hb = absurd (omega (arith, e))
ran_end (suc n) at k (p ∷ ps) [] bs w e hs hb = absurd (omega (arith, hs))
ran_end (suc n) at k (p ∷ ps) (s ∷ states) [] w e hs hb = absurd (omega (arith, hb))
ran_end (suc n) at k (p ∷ ps) (s ∷ states) (b ∷ bs) w e hs hb =
    ap (with_state s) (ran_end n at (k + 1) ps states bs w (omega (arith, e)) (omega (arith, hs)) (omega (arith, hb)))

pub ran_begins : (at : ℕ → Context) (k : ℕ) (ps : List Process) (states : List ProcessState) (bs : List Bool) (w : World) → run_all at k ps states bs w ≡ ran_from 0 at k ps states bs w
unfolding ran_from
ran_begins at k ps states bs w = refl

-- ---- the first runs

pub started_next : (n : ℕ) (at : ℕ → Context) (k j : ℕ) (ps : List Process) (states : List ProcessState) (w : World) (p : Process) (number : ℕ) (t : Option ℕ) (rest : List Task) (l : Local)
    → j ≡ k + n → slice_get ps n ≡ Some p → n < length states
    → run statement_budget (at j) (first_local w p) (statements p.statements) ≡ stopped number t rest l
    → started_from n at k ps states w ≡ started_from (suc n) at k ps (slice_set states n (state_of p.variables number t rest l)) l.world
unfolding started_from start_all
started_next n at k j [] states w p number t rest l e hp hs ends = absurd (cc)
started_next n at k j (q ∷ ps) [] w p number t rest l e hp hs ends = absurd (omega (arith, hs))
started_next zero at k j (q ∷ ps) (r ∷ states) w p number t rest l e hp hs ends =
    let same : k ≡ j = omega (arith, e) in
    let this : q ≡ p = cc in
    ap (λ (x : Process). after_stop (start_all at (k + 1) ps) x (run statement_budget (at k) (first_local w x) (statements x.statements))) this
    ∙ (ap (λ (i : ℕ). after_stop (start_all at (k + 1) ps) p (run statement_budget (at i) (first_local w p) (statements p.statements))) same
    ∙ ap (after_stop (start_all at (k + 1) ps) p) ends)
started_next (suc n) at k j (q ∷ ps) (r ∷ states) w p number t rest l e hp hs ends =
    ap (with_state r) (started_next n at (k + 1) j ps states w p number t rest l (omega (arith, e)) hp (omega (arith, hs)) ends)

pub started_refused : (n : ℕ) (at : ℕ → Context) (k j : ℕ) (ps : List Process) (states : List ProcessState) (w : World) (p : Process) (l : Local) (f : Refusal)
    → j ≡ k + n → slice_get ps n ≡ Some p → n < length states
    → run statement_budget (at j) (first_local w p) (statements p.statements) ≡ refused l f → started_from n at k ps states w ≡ one_refused l.world f
unfolding started_from start_all
started_refused n at k j [] states w p l f e hp hs ends = absurd (cc)
started_refused zero at k j (q ∷ ps) states w p l f e hp hs ends =
    let same : k ≡ j = omega (arith, e) in
    let this : q ≡ p = cc in
    ap (λ (x : Process). after_stop (start_all at (k + 1) ps) x (run statement_budget (at k) (first_local w x) (statements x.statements))) this
    ∙ (ap (λ (i : ℕ). after_stop (start_all at (k + 1) ps) p (run statement_budget (at i) (first_local w p) (statements p.statements))) same
    ∙ ap (after_stop (start_all at (k + 1) ps) p) ends)
started_refused (suc n) at k j (q ∷ ps) [] w p l f e hp hs ends = absurd (omega (arith, hs))
started_refused (suc n) at k j (q ∷ ps) (r ∷ states) w p l f e hp hs ends =
    ap (with_state r) (started_refused n at (k + 1) j ps states w p l f (omega (arith, e)) hp (omega (arith, hs)) ends)

pub started_front : (n : ℕ) (at : ℕ → Context) (k j : ℕ) (ps : List Process) (states : List ProcessState) (w : World) (p : Process) (events : List Event)
    → j ≡ k + n → slice_get ps n ≡ Some p → n < length states → StartFront at k ps
    → IsFront events (events_at (run statement_budget (at j) (first_local w p) (statements p.statements))) → IsFront events (events_in (started_from n at k ps states w))
unfolding started_from start_all
started_front n at k j [] states w p events e hp hs f h = absurd (cc)
started_front zero at k j (q ∷ ps) states w p events e hp hs f h =
    let same : j ≡ k = omega (arith, e) in
    let this : p ≡ q = cc in
    let there : IsFront events (events_at (run statement_budget (at k) (first_local w q) (statements q.statements))) =
    subst (λ (i : ℕ). IsFront events (events_at (run statement_budget (at i) (first_local w q) (statements q.statements)))) same
    (subst (λ (x : Process). IsFront events (events_at (run statement_budget (at j) (first_local w x) (statements x.statements)))) this h) in
    stop_front (start_all at (k + 1) ps) q events (run statement_budget (at k) (first_local w q) (statements q.statements)) (λ v. start_front at (k + 1) ps v (start_later at k q ps f)) there
started_front (suc n) at k j (q ∷ ps) [] w p events e hp hs f h = absurd (omega (arith, hs))
started_front (suc n) at k j (q ∷ ps) (r ∷ states) w p events e hp hs f h =
    subst (IsFront events) (sym (with_state_events r (started_from n at (k + 1) ps states w)))
    (started_front n at (k + 1) j ps states w p events (omega (arith, e)) hp (omega (arith, hs)) (start_later at k q ps f) h)

pub started_end : (n : ℕ) (at : ℕ → Context) (k : ℕ) (ps : List Process) (states : List ProcessState) (w : World) → n ≡ length ps → length states ≡ length ps → started_from n at k ps states w ≡ all_ran w states
unfolding started_from start_all
started_end zero at k [] [] w e hs = refl
started_end zero at k [] (s ∷ states) w e hs = absurd (omega (arith, hs))
started_end zero at k (p ∷ ps) states w e hs = absurd (omega (arith, e))
started_end (suc n) at k [] states w e hs = absurd (omega (arith, e))
started_end (suc n) at k (p ∷ ps) [] w e hs = absurd (omega (arith, hs))
started_end (suc n) at k (p ∷ ps) (s ∷ states) w e hs = ap (with_state s) (started_end n at (k + 1) ps states w (omega (arith, e)) (omega (arith, hs)))

pub started_begins : (at : ℕ → Context) (k : ℕ) (ps : List Process) (states : List ProcessState) (w : World) → start_all at k ps w ≡ started_from 0 at k ps states w
unfolding started_from
started_begins at k ps states w = refl
