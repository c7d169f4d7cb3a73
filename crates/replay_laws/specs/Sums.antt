-- The attempts of a run, behind a replay (own).
use Rattle.std.specs.Prelude.{◌≡◌, ◌+◌, ◌<◌, ◌^◌, List, Some}
use Rattle.flat_design.specs.declared.objects.Objects.{Objects}
use Rattle.step_data.specs.declared.outcome.Options.{Options}
use Rattle.step_model.specs.System.{System}
use Rattle.lockstep_model.specs.Lockstep.{lockstep}
use Rattle.lockstep_model.specs.Works.{Work, attempts_in}
use Rattle.step_schedule.specs.declared.Step.{Step}
use Rattle.ahead_report.specs.declared.Report.{Report}
use Rattle.replay_model.specs.Replays.{replayed, report_of}
use Rattle.system_model.specs.System.{system_of}
use Rattle.system_model.specs.Trace.{run_of}

-- each attempt among the works is an own one or a reused one
abbrev pub AreOwnOrReused : Report → List Work → Type 0
AreOwnOrReused report works = report.own + report.counts.reused ≡ attempts_in works

-- behind each replay the end of the lockstep run was told
abbrev pub ReplaysEnd : Type 0
ReplaysEnd = (sys : System) (schedule : List Step) → (replayed sys schedule).ended ≡ Some (lockstep sys).end

-- the report of each replay, where the counts hold the number of attempts
abbrev pub ReplaysUseEach : Type 0
ReplaysUseEach =
    (sys : System) (schedule : List Step) → attempts_in (lockstep sys).works < 2 ^ 62 → AreOwnOrReused (report_of sys schedule) (lockstep sys).works

-- that of each design, with any options
abbrev pub DesignsUseEach : Type 0
DesignsUseEach =
    (objects : Objects) (options : Options) (schedule : List Step) → AreOwnOrReused (report_of (system_of objects options) schedule) (run_of objects options).works
