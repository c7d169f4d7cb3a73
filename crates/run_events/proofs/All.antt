-- All processes behind earlier events.
use Rattle.std.proofs.Common.{◌≡◌, refl, ap, ◌∙◌, ◌+◌, Bool, true, false, ℤ, List, [], ◌∷◌, ◌++◌, map, Result}
use Rattle.std.specs.List.{list_any}
use Rattle.flat_design.specs.declared.objects.Variable.{Variable}
use Rattle.flat_design.specs.declared.objects.Process.{Process}
use Rattle.step_data.specs.declared.event.Event.{Event}
use Rattle.step_data.specs.declared.outcome.Refusal.{Refusal}
use Rattle.step_model.specs.System.{ProcessState}
use Rattle.design_meaning.specs.Readings.{seen_of}
use Rattle.cycle_meaning.specs.Task.{Task, statement, again, first_turn, next_turn, statements}
use Rattle.cycle_meaning.specs.World.{World, Context, Local, readings_at}
use Rattle.cycle_meaning.specs.Processes.{Stop, stopped, refused, run, statement_budget, parameter_of, loops_in, declared_values, state_of, left_behind}
use Rattle.cycle_meaning.specs.Cycles.{waiting_of, is_timed_out, condition_met, is_met_by, is_met, joined, resumes, Ran_of, all_ran, one_refused, with_state, after_stop, by_resumption, local_of, run_all, start_all}
use Rattle.run_laws.specs.Events.{behind}
use Rattle.run_laws.specs.Events.{local_behind, stop_behind, ran_behind, ResumesAlike, RunsAlike, StartsAlike}
use Rattle.run_events.proofs.Parts.{holds_alike}
use Rattle.run_events.proofs.Alike.{run_alike}

-- ---- resumption

met_alike : (here : Context) (w : World) (p : Process) (s : ProcessState) (events : List Event) → is_met here (behind events w) p s ≡ is_met here w p s
met_alike here w p s events =
    ap (λ (h : Result Bool Refusal). is_met_by (is_timed_out here.t s.timeout) (condition_met (list_any (λ i. (seen_of (readings_at here (local_of w p s)) i).event) (waiting_of p s).0) h))
    (holds_alike here (local_of w p s) events (waiting_of p s).1)

pub resumes_alike : ResumesAlike
unfolding resumes
resumes_alike at w k [] states events = refl
resumes_alike at w k (p ∷ ps) [] events = refl
resumes_alike at w k (p ∷ ps) (s ∷ states) events =
    ap (λ (r : Result Bool Refusal). joined r (resumes at (behind events w) (k + 1) ps states)) (met_alike (at k) w p s events)
    ∙ ap (joined (is_met (at k) w p s)) (resumes_alike at w (k + 1) ps states events)

-- ---- runs

loops_alike : (l : Local) (events : List Event) (rest : List Task) → loops_in (local_behind events l) rest ≡ loops_in l rest
loops_alike l events [] = refl
loops_alike l events (next_turn p direction last body ∷ rest) = ap (λ (z : List (ℤ × ℤ)). z ++ (parameter_of l p, last) ∷ []) (loops_alike l events rest)
loops_alike l events (statement s ∷ rest) = loops_alike l events rest
loops_alike l events (again condition body ∷ rest) = loops_alike l events rest
loops_alike l events (first_turn p direction from last body ∷ rest) = loops_alike l events rest

state_alike : (events : List Event) (s : ProcessState) (r : Ran_of) → with_state s (ran_behind events r) ≡ ran_behind events (with_state s r)
state_alike events s (all_ran w states) = refl
state_alike events s (one_refused w r) = refl

stop_alike : (events : List Event) (others : World → Ran_of) (p : Process) (e : Stop) → ((w : World) → others (behind events w) ≡ ran_behind events (others w))
    → after_stop others p (stop_behind events e) ≡ ran_behind events (after_stop others p e)
stop_alike events others p (stopped number at rest l) on =
    ap (λ (z : List (ℤ × ℤ)). with_state (record { wait = number; timeout = at; variables = declared_values p.variables l.variables; loops = z }) (others (behind events l.world))) (loops_alike l events rest)
    ∙ (ap (with_state (state_of p.variables number at rest l)) (on l.world) ∙ state_alike events (state_of p.variables number at rest l) (others l.world))
stop_alike events others p (refused l r) on = refl

resumed_alike : (b : Bool) (events : List Event) (others : World → Ran_of) (here : Context) (w : World) (p : Process) (s : ProcessState) → ((v : World) → others (behind events v) ≡ ran_behind events (others v))
    → by_resumption b others here (behind events w) p s ≡ ran_behind events (by_resumption b others here w p s)
resumed_alike true events others here w p s on =
    ap (after_stop others p) (run_alike statement_budget here (local_of w p s) (left_behind p s) events)
    ∙ stop_alike events others p (run statement_budget here (local_of w p s) (left_behind p s)) on
resumed_alike false events others here w p s on = ap (with_state s) (on w) ∙ state_alike events s (others w)

pub runs_alike : RunsAlike
unfolding run_all
runs_alike at k [] states bs w events = refl
runs_alike at k (p ∷ ps) [] bs w events = refl
runs_alike at k (p ∷ ps) (s ∷ states) [] w events = refl
runs_alike at k (p ∷ ps) (s ∷ states) (b ∷ bs) w events =
    resumed_alike b events (run_all at (k + 1) ps states bs) (at k) w p s (λ v. runs_alike at (k + 1) ps states bs v events)

abbrev first_local : World → Process → Local
first_local w p = record { world = w; variables = map (λ (v : Variable). v.initial) p.variables }

pub starts_alike : StartsAlike
unfolding start_all
starts_alike at k [] w events = refl
starts_alike at k (p ∷ ps) w events =
    ap (after_stop (start_all at (k + 1) ps) p) (run_alike statement_budget (at k) (first_local w p) (statements p.statements) events)
    ∙ stop_alike events (start_all at (k + 1) ps) p (run statement_budget (at k) (first_local w p) (statements p.statements)) (λ v. starts_alike at (k + 1) ps v events)
