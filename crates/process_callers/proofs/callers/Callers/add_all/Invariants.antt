use Rattle.std.proofs.Common.{ℕ, ◌<◌, take}
use Rattle.process_callers.specs.Growing.{Grows}
use Rattle.process_callers.proofs.callers.Callers.add_all.Given as goal

abbrev pub invariant-loop-name : goal.invariant-loop-name
invariant-loop-name l = (count : ℕ) → l.process < count → Grows count l.process (take l.name-index l.names) l.initial.self l.self
