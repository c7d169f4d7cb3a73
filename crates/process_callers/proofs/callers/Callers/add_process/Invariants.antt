use Rattle.std.proofs.Common.{ℕ, ◌<◌, map, take}
use Rattle.flat_design.specs.declared.objects.WaitPlace.{WaitPlace}
use Rattle.cycle_meaning.specs.Cycles.{waiting_at}
use Rattle.process_callers.specs.Callers.{names_of}
use Rattle.process_callers.specs.Growing.{Grows}
use Rattle.process_callers.proofs.callers.Callers.add_process.Given as goal

abbrev pub invariant-loop-place : goal.invariant-loop-place
invariant-loop-place l = (count : ℕ) → l.number < count → Grows count l.number (names_of (map (λ (w : WaitPlace). waiting_at w.path l.text) (take l.place-index l.place-items))) l.initial.self l.self
