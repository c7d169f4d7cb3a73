use Rattle.std.proofs.Common.{◌≡◌, drop}
use Rattle.cycle_meaning.specs.Cycles.{waiting_at}
use Rattle.process_callers.proofs.callers.set_at.Given as goal

-- what is left of the way leads on from here
abbrev pub invariant-loop-step : goal.invariant-loop-step
invariant-loop-step l = waiting_at (drop l.step-index l.path) l.body ≡ waiting_at l.path l.text
