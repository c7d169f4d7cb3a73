use Rattle.std.proofs.Common.{sym, ap, subst, ◌∙◌}
use Rattle.driver_set.specs.Queues.{times_of, AreRising}
use Rattle.driver_set.proofs.QueueSteps.{none_pending, none_rising}
use Rattle.driver_set.proofs.queues.DriverSet.new.Goals as goal

pub invariant_of-result : goal.invariant_of-result
invariant_of-result c = record {
  times = c.in_ok-agenda.ensures ∙ sym (ap times_of c.in_ok-drivers.ensures ∙ none_pending c.args.count);
  rising = subst AreRising (sym c.in_ok-drivers.ensures) (none_rising c.args.count);
}
