-- What a kernel may keep of a process.
use Rattle.std.proofs.Common.{◌≡◌, refl, ap, ◌∙◌, subst, ℕ, suc, List, [], ◌∷◌, map, length, Option}
use Rattle.ams_value.specs.declared.val.Val.{Val}
use Rattle.flat_design.specs.declared.objects.Variable.{Variable}
use Rattle.flat_design.specs.declared.objects.Process.{Process}
use Rattle.cycle_meaning.specs.Task.{Task, statements}
use Rattle.cycle_meaning.specs.World.{Local}
use Rattle.cycle_meaning.specs.Processes.{run, state_of, left_behind, variables_at}
use Rattle.process_laws.specs.Held.{HoldIn, Stops, kept_variables}
use Rattle.process_laws.specs.Kept.{Keeps, KeptRuns, KeptAgain, KeptFromStart}
use Rattle.process_laws.proofs.GoOn.{goes_on_there, stands_again, stands_at_start}
use Rattle.process_laws.proofs.HeldOn.{hold_again, hold_at_start, variables_kept}

pub kept_runs : KeptRuns
kept_runs p s tasks variables keeps budget here w =
    ap (λ (vs : List Val). run budget here (record { world = w; variables = vs }) (left_behind p s)) keeps.variables_are
    ∙ ap (run budget here (record { world = w; variables = variables })) keeps.tasks_are

keeps_there : (p : Process) (k : ℕ) (wait : Option ℕ) (rest : List Task) (after : Local) → Stops p k wait rest after
    → Keeps p (state_of p.variables k wait rest after) rest (kept_variables p k after)
keeps_there p k wait rest after s =
    let same : variables_at p (state_of p.variables k wait rest after) ≡ kept_variables p k after = variables_kept p k wait rest after s in
    let held = hold_again p k wait rest after s in
    record {
      tasks_are = goes_on_there p s.here s.budget s.tasks s.before k wait rest after s.ways s.process_is s.stands s.stops;
      variables_are = same;
      stands = stands_again p s.here s.budget s.tasks s.before k wait rest after s.process_is s.stands s.stops;
      holds = subst (λ (vs : List Val). HoldIn vs rest) same held.1;
      values = subst (λ (vs : List Val). length vs ≡ length p.variables) same held.0;
    }

pub kept_again : KeptAgain
kept_again p s tasks variables sound keeps budget here w k wait rest after is stops =
    keeps_there p k wait rest after (record {
      here = here;
      budget = budget;
      tasks = tasks;
      before = record { world = w; variables = variables };
      ways = sound.0;
      parameters = sound.1;
      process_is = is;
      stands = keeps.stands;
      values = keeps.values;
      holds = keeps.holds;
      stops = stops;
    })

length_initial : (xs : List Variable) → length (map (λ v. v.initial) xs) ≡ length xs
length_initial [] = refl
length_initial (x ∷ xs) = ap suc (length_initial xs)

pub kept_from_start : KeptFromStart
kept_from_start p sound budget here w k wait rest after is stops =
    keeps_there p k wait rest after (record {
      here = here;
      budget = budget;
      tasks = statements p.statements;
      before = record { world = w; variables = map (λ v. v.initial) p.variables };
      ways = sound.0;
      parameters = sound.1;
      process_is = is;
      stands = stands_at_start p.statements;
      values = length_initial p.variables;
      holds = hold_at_start (map (λ v. v.initial) p.variables) p.statements;
      stops = stops;
    })
