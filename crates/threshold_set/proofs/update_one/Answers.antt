use Rattle.std.proofs.Common.{◌∙◌, ap, map, List}
use Rattle.step_data.specs.declared.breaks.ThresholdState.{ThresholdState}
use Rattle.threshold_set.specs.Crossed.{silenced}
use Rattle.threshold_set.proofs.Steps.{silenced_set}
use Rattle.threshold_set.proofs.update_one.Goals as goal

pub returns-clause-same : goal.returns-clause-same
returns-clause-same c =
    ap (λ (l : List ThresholdState). map silenced l) c.set.ensures ∙ silenced_set c.args.list.now c.args.k c.get-state.result c.is_above-on.result c.get-state.ensures
