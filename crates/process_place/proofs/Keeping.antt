-- What a kernel keeps.
use Rattle.std.proofs.Common.{◌≡◌, ap, sym, ◌∙◌, subst, ℕ, map, append-nil, Option, Some}
use Rattle.std.specs.List.{slice_get}
use Rattle.flat_design.specs.declared.objects.Process.{Process}
use Rattle.cycle_meaning.specs.Task.{statements}
use Rattle.cycle_meaning.specs.World.{Context, Local}
use Rattle.cycle_meaning.specs.Processes.{body_of, process_body, run, stopped}
use Rattle.process_laws.proofs.KeptOn.{kept_runs, kept_again, kept_from_start}
use Rattle.process_place.specs.ProcessPlace.{ProcessPlace, at_start, tasks_at, IsIn}
use Rattle.process_place.specs.Moves.{waiting, run_at}
use Rattle.process_place.specs.Follows.{stop_in, EndsIn}
use Rattle.process_place.specs.Kept.{PlacesAreKept}
use Rattle.process_place.proofs.Following.{follows}

body_is : (here : Context) (p : Process) → slice_get here.objects.processes here.process ≡ Some p → process_body here ≡ p.statements
body_is here p is = ap body_of is

stops_there : (here : Context) (p : Process) (budget : ℕ) (l : Local) (place : ProcessPlace) (k : ℕ) (t : Option ℕ) (rest : ProcessPlace) (after : Local) → slice_get here.objects.processes here.process ≡ Some p →
    IsIn p.statements place → run_at budget here p.statements l place ≡ waiting k t rest after →
    run budget here l (tasks_at p.statements place) ≡ stopped k t (tasks_at p.statements rest) after
stops_there here p budget l place k t rest after is h ends = follows.runs here p.statements budget l place (body_is here p is) h ∙ ap (stop_in p.statements) ends

ends_there : (here : Context) (p : Process) (budget : ℕ) (l : Local) (place : ProcessPlace) (k : ℕ) (t : Option ℕ) (rest : ProcessPlace) (after : Local) → slice_get here.objects.processes here.process ≡ Some p →
    IsIn p.statements place → run_at budget here p.statements l place ≡ waiting k t rest after → IsIn p.statements rest
ends_there here p budget l place k t rest after is h ends = subst (EndsIn p.statements) ends (follows.runs_in_text here p.statements budget l place (body_is here p is) h)

pub places_are_kept : PlacesAreKept
places_are_kept =
    record {
      runs = λ p s place variables kept budget here w is.
          kept_runs p s (tasks_at p.statements place) variables kept.keeps budget here w
          ∙ follows.runs here p.statements budget (record { world = w; variables = variables }) place (body_is here p is) kept.is_in;
      again = λ p s place variables sound kept budget here w k t rest after is ends.
          record {
            is_in = ends_there here p budget (record { world = w; variables = variables }) place k t rest after is kept.is_in ends;
            keeps = kept_again p s (tasks_at p.statements place) variables sound kept.keeps budget here w k t (tasks_at p.statements rest) after is
                (stops_there here p budget (record { world = w; variables = variables }) place k t rest after is kept.is_in ends);
          };
      from_start = λ p sound budget here w k t rest after is ends.
          record {
            is_in = ends_there here p budget (record { world = w; variables = map (λ v. v.initial) p.variables }) at_start k t rest after is tt ends;
            keeps = kept_from_start p sound budget here w k t (tasks_at p.statements rest) after is
                (ap (run budget here (record { world = w; variables = map (λ v. v.initial) p.variables })) (sym (append-nil (statements p.statements)))
                ∙ stops_there here p budget (record { world = w; variables = map (λ v. v.initial) p.variables }) at_start k t rest after is tt ends);
          };
    }
