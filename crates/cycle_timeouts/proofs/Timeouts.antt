-- The timeouts behind the runs are those of the states.
use Rattle.std.proofs.Common.{◌≡◌, refl, ap, sym, ◌∙◌, ℕ, ◌+◌, Bool, true, false, List, [], ◌∷◌, length, map, subst, arith, Option, Some, None, Result, Ok, Err}
use Rattle.std.specs.Prelude.{nat_eq, if◌then◌else◌}
use Rattle.std.specs.List.{list_any}
use Rattle.std.proofs.lemmas.Bool.Decides.{nat_tests}
use Rattle.design_meaning.specs.Readings.{seen_of}
use Rattle.flat_design.specs.declared.objects.Process.{Process}
use Rattle.step_data.specs.declared.outcome.Refusal.{Refusal}
use Rattle.step_model.specs.System.{ProcessState}
use Rattle.cycle_meaning.specs.World.{World, Context, readings_at, holds}
use Rattle.cycle_meaning.specs.Processes.{Stop, stopped, refused, run, statement_budget, state_of, left_behind}
use Rattle.cycle_meaning.specs.Cycles.{Ran_of, all_ran, one_refused, with_state, after_stop, by_resumption, run_all, is_timed_out, condition_met, waiting_of, is_met_by, is_met, joined, resumes, local_of}
use Rattle.next_cycle.specs.Next.{timeouts_of}
use Rattle.cycle_timeouts.specs.Entered.{unless_due, entered}

-- ---- what an answer says of its parts

joined_parts : (m : Result Bool Refusal) (more : Result (List Bool) Refusal) (b : Bool) (bs : List Bool) → joined m more ≡ Ok (b ∷ bs) → (m ≡ Ok b) × (more ≡ Ok bs)
joined_parts (Ok c) (Ok cs) b bs e = (cc, cc)
joined_parts (Ok c) (Err r) b bs e = absurd (cc)
joined_parts (Err r) more b bs e = absurd (cc)

joined_some : (m : Result Bool Refusal) (more : Result (List Bool) Refusal) → joined m more ≡ Ok [] → ⊥
joined_some (Ok c) (Ok cs) e = cc
joined_some (Ok c) (Err r) e = cc
joined_some (Err r) more e = cc

-- the first state and the others
with_parts : (s x : ProcessState) (r : Ran_of) (w : World) (xs : List ProcessState) → with_state s r ≡ all_ran w (x ∷ xs) → (s ≡ x) × (r ≡ all_ran w xs)
with_parts s x (all_ran v ys) w xs e = (cc, cc)
with_parts s x (one_refused v r) w xs e = absurd (cc)

with_some : (s : ProcessState) (r : Ran_of) (w : World) → with_state s r ≡ all_ran w [] → ⊥
with_some s (all_ran v ys) w e = cc
with_some s (one_refused v r) w e = cc

-- a process that ran stopped, and the others ran behind it
stop_parts : (others : World → Ran_of) (p : Process) (stop : Stop) (w : World) (x : ProcessState) (xs : List ProcessState) → after_stop others p stop ≡ all_ran w (x ∷ xs) → (v : World) × (others v ≡ all_ran w xs)
stop_parts others p (stopped number at rest l) w x xs e = (l.world, (with_parts (state_of p.variables number at rest l) x (others l.world) w xs e).1)
stop_parts others p (refused l r) w x xs e = absurd (cc)

stop_some : (others : World → Ran_of) (p : Process) (stop : Stop) (w : World) → after_stop others p stop ≡ all_ran w [] → ⊥
stop_some others p (stopped number at rest l) w e = with_some (state_of p.variables number at rest l) (others l.world) w e
stop_some others p (refused l r) w e = cc

-- ---- timeouts

-- one that is due is met
not_due : (now : ℕ) (at : Option ℕ) (otherwise : Result Bool Refusal) → is_met_by (is_timed_out now at) otherwise ≡ Ok false → unless_due now at ≡ at
not_due now None otherwise e = refl
not_due now (Some u) otherwise e = by (nat_eq now u) (nat_eq u now) (same now u) e
  where
    same : (a b : ℕ) → nat_eq a b ≡ nat_eq b a
    same a b = grind (arith, nat_tests)

    by : (b c : Bool) → b ≡ c → is_met_by b otherwise ≡ Ok false → (if c then None else Some u) ≡ Some u
    by true true h f = absurd (cc)
    by true false h f = absurd (cc)
    by false true h f = absurd (cc)
    by false false h f = refl

-- ---- all

-- the first process, whether it ran or not
first_entered : (b : Bool) (others : World → Ran_of) (here : Context) (now : ℕ) (w left begun : World) (p : Process) (s x : ProcessState) (xs : List ProcessState) → here.t ≡ now
    → is_met here begun p s ≡ Ok b → by_resumption b others here w p s ≡ all_ran left (x ∷ xs)
    → ((if b then x.timeout else unless_due now s.timeout) ≡ x.timeout) × ((v : World) × (others v ≡ all_ran left xs))
first_entered true others here now w left begun p s x xs moment met ran =
    (refl, stop_parts others p (run statement_budget here (local_of w p s) (left_behind p s)) left x xs ran)
first_entered false others here now w left begun p s x xs moment met ran =
    let parts = with_parts s x (others w) left xs ran in (
      not_due now s.timeout _ (subst (λ (t : ℕ). is_met_by (is_timed_out t s.timeout) (condition_met (list_any (λ i. (seen_of (readings_at here (local_of begun p s)) i).event) (waiting_of p s).0) (holds here (local_of begun p s) (waiting_of p s).1)) ≡ Ok false) moment met)
          ∙ ap (λ (y : ProcessState). y.timeout) parts.0,
      (w, parts.1),
    )

-- there is a state behind it
first_some : (b : Bool) (others : World → Ran_of) (here : Context) (w left : World) (p : Process) (s : ProcessState) → by_resumption b others here w p s ≡ all_ran left [] → ⊥
first_some true others here w left p s e = stop_some others p (run statement_budget here (local_of w p s) (left_behind p s)) left e
first_some false others here w left p s e = with_some s (others w) left e

no_state : (w left : World) (after : List ProcessState) → all_ran w [] ≡ all_ran left after → after ≡ []
no_state w left after e = cc

pub timeouts_entered : (at : ℕ → Context) (now k : ℕ) (ps : List Process) (states after : List ProcessState) (bs : List Bool) (begun w left : World) → length states ≡ length ps
    → ((j : ℕ) → (at j).t ≡ now) → resumes at begun k ps states ≡ Ok bs → run_all at k ps states bs w ≡ all_ran left after
    → entered (map (unless_due now) (timeouts_of states)) (timeouts_of after) bs ≡ timeouts_of after
unfolding resumes run_all
timeouts_entered at now k [] [] after bs begun w left ls moment met ran = sym (ap timeouts_of (no_state w left after ran))
timeouts_entered at now k [] (s ∷ states) after bs begun w left ls moment met ran = absurd (omega arith)
timeouts_entered at now k (p ∷ ps) [] after bs begun w left ls moment met ran = absurd (omega arith)
timeouts_entered at now k (p ∷ ps) (s ∷ states) after [] begun w left ls moment met ran = absurd (joined_some (is_met (at k) begun p s) (resumes at begun (k + 1) ps states) met)
timeouts_entered at now k (p ∷ ps) (s ∷ states) [] (b ∷ bs) begun w left ls moment met ran = absurd (first_some b (run_all at (k + 1) ps states bs) (at k) w left p s ran)
timeouts_entered at now k (p ∷ ps) (s ∷ states) (x ∷ after) (b ∷ bs) begun w left ls moment met ran =
    let answers = joined_parts (is_met (at k) begun p s) (resumes at begun (k + 1) ps states) b bs met in
    let here = first_entered b (run_all at (k + 1) ps states bs) (at k) now w left begun p s x after (moment k) answers.0 ran in
    ap (λ (o : Option ℕ). o ∷ entered (map (unless_due now) (timeouts_of states)) (timeouts_of after) bs) here.0
    ∙ ap (λ (l : List (Option ℕ)). x.timeout ∷ l) (timeouts_entered at now (k + 1) ps states after bs begun here.1.0 left (omega arith) moment answers.1 here.1.1)
