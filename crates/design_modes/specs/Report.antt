-- The report of a design's replay.
use Rattle.std.specs.Prelude.{List}
use Rattle.flat_design.specs.declared.objects.Objects.{Objects}
use Rattle.step_data.specs.declared.outcome.Options.{Options}
use Rattle.step_schedule.specs.declared.Step.{Step}
use Rattle.system_model.specs.System.{system_of}
use Rattle.ahead_report.specs.declared.Report.{Report}
use Rattle.replay_model.specs.Replays.{report_of}

-- of a design with its options, by a schedule
unfoldable pub design_report : Objects → Options → List Step → Report
design_report objects options schedule = report_of (system_of objects options) schedule
