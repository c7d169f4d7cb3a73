use Rattle.std.proofs.Common.{◌≡◌, drop}
use Rattle.lockstep_model.specs.Lockstep.{gathered_with}
use Rattle.run_place.proofs.gathered.gather.Given as goal

abbrev pub invariant-loop-k : goal.invariant-loop-k
invariant-loop-k l = record { left : gathered_with l.list (drop l.k l.more) ≡ gathered_with l.initial.list l.more }
