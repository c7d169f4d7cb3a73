use Rattle.std.proofs.Common.{◌≡◌, ◌++◌, take, drop}
use Rattle.lockstep_model.specs.Lockstep.{with_element}
use Rattle.run_place.proofs.gathered.put.Given as goal

abbrev pub invariant-loop-i : goal.invariant-loop-i
invariant-loop-i l =
    record {
      same : l.list ≡ l.initial.list;
      left : take l.i l.list ++ with_element (drop l.i l.list) l.element ≡ with_element l.initial.list l.element;
    }
