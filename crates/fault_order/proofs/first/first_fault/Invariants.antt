use Rattle.std.proofs.Common.{◌≡◌, None, drop}
use Rattle.std.specs.List.{fold}
use Rattle.elab_meaning.specs.Notes.{if_told}
use Rattle.fault_order.specs.Stages.{tells}
use Rattle.fault_order.proofs.first.first_fault.Given as goal

abbrev pub invariant-loop-fault : goal.invariant-loop-fault
invariant-loop-fault l = fold (if_told (tells l.stage)) l.first (drop l.fault-index l.faults) ≡ fold (if_told (tells l.stage)) None l.faults
