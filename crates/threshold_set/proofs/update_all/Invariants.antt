use Rattle.std.proofs.Common.{◌≡◌, drop, map}
use Rattle.cycle_meaning.specs.Cycles.{crossings}
use Rattle.threshold_set.specs.Crossed.{after, crossed, crossed_of, silenced}
use Rattle.threshold_set.specs.Given.{Given}
use Rattle.threshold_set.proofs.Steps.{done}
use Rattle.threshold_set.proofs.update_all.Given as goal

abbrev pub invariant-loop-k : goal.invariant-loop-k
invariant-loop-k l = record {
  list : l.list ≡ done (after l.point) l.k l.initial.list l.initial.list;
  events : l.events.items ≡ done (λ s. (crossed l.point s).event) l.k l.initial.list l.initial.events.items;
  given : Given l.initial.out l.out (crossings l.t l.n l.k (crossed_of l.point (drop l.k l.initial.list))) (crossings l.t l.n 0 (crossed_of l.point l.initial.list));
  same : map silenced l.list ≡ map silenced l.initial.list;
}
