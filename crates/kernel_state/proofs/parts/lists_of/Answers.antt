use Rattle.kernel_state.proofs.parts.lists_of.Goals as goal

pub returns : goal.returns
returns c = record {
  callers = c.in_ok-callers.ensures.callers;
  within = c.in_ok-callers.ensures.within;
  signals = c.in_ok-callers.ensures.signals;
  thresholds = c.in_ok-callers.ensures.thresholds;
}
