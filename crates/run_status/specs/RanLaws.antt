-- What a run has handed on.
use Rattle.std.proofs.Common.{◌≡◌, ℕ, List, Result, Ok, Err, refl, ap, inl, inr}
use Rattle.step_data.specs.declared.outcome.End.{End}
use Rattle.trace_sink.specs.declared.TraceFault.TheVariants as faults
use Rattle.program_output.specs.OutputLaws.{gains_nothing}
use Rattle.run_status.specs.Ran.{end_status, RunsHandOn}

pub runs_hand_on : RunsHandOn
runs_hand_on (Ok told) end lines trace notes p same stays = inl (ap end_status same, p.ok, gains_nothing notes stays)
runs_hand_on (Err faults.WriteFault) end lines trace notes p same stays = inr (inl (refl, (p.fault refl, p.front refl), stays))
runs_hand_on (Err faults.Memory) end lines trace notes p same stays = inr (inr (inr (refl, p.memory refl, stays)))
