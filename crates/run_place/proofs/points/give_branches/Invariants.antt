use Rattle.lockstep_model.specs.Lockstep.{branch_events}
use Rattle.run_place.specs.Places.{branches_of}
use Rattle.run_place.specs.Giving.{Gave}
use Rattle.run_place.proofs.Branching.{branches_left}
use Rattle.run_place.proofs.points.give_branches.Given as goal

abbrev pub invariant-loop-k : goal.invariant-loop-k
invariant-loop-k l =
    record {
      given : Gave l.initial.out l.out (branch_events l.at.t l.at.n 0 l.branches (branches_of l.has_old l.old)) (branches_left l.at.t l.at.n l.branches l.has_old l.old l.k);
    }
