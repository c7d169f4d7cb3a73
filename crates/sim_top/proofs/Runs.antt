-- The run of a text, in step or on threads, kept in another place.
use Rattle.std.proofs.Common.{◌≡◌, ℕ, List, subst}
use Rattle.step_data.specs.declared.outcome.Options.{Options}
use Rattle.program_output.specs.Port.{Port}
use Rattle.program_output.specs.declared.status.Status.{Status}
use Rattle.text_modes.specs.TextRun.{RunsText}
use Rattle.text_threads.specs.TextThreads.{RunsTextOnThreads}

pub runs_same : (s : Status) (text other top : List ℕ) (options : Options) (trace notes : Port) → text ≡ other → RunsText s text top options trace notes →
    RunsText s other top options trace notes
runs_same s text other top options trace notes e h = subst (λ (t : List ℕ). RunsText s t top options trace notes) e h

pub runs_ahead_same : (s : Status) (text other top : List ℕ) (options : Options) (trace notes : Port) → text ≡ other → RunsTextOnThreads s text top options trace notes →
    RunsTextOnThreads s other top options trace notes
runs_ahead_same s text other top options trace notes e h = subst (λ (t : List ℕ). RunsTextOnThreads s t top options trace notes) e h
