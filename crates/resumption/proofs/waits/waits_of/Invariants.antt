use Rattle.std.proofs.Common.{◌≡◌, map, take}
use Rattle.flat_design.specs.declared.objects.WaitPlace.{WaitPlace}
use Rattle.cycle_meaning.specs.Cycles.{waiting_at}
use Rattle.resumption.specs.Waits.{row_of}
use Rattle.resumption.proofs.waits.waits_of.Given as goal

abbrev pub invariant-loop-place : goal.invariant-loop-place
invariant-loop-place l = row_of l.row.items ≡ map (λ (w : WaitPlace). waiting_at w.path l.text) (take l.place-index l.place-items)
