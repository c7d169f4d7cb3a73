use Rattle.std.proofs.Common.{◌<◌, take}
use Rattle.std.specs.List.{All}
use Rattle.waveform.proofs.project.early_of.Given as goal

abbrev pub invariant-loop-early : goal.invariant-loop-early
invariant-loop-early l = All (λ x. x.at < l.limit) (take l.early l.old)
