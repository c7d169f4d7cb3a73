use Rattle.std.proofs.Common.{ap, ◌∙◌, List}
use Rattle.std.specs.Prelude.{slice_get}
use Rattle.step_data.specs.declared.breaks.ThresholdState.{ThresholdState}
use Rattle.threshold_set.specs.Crossed.{value_of}
use Rattle.threshold_set.proofs.Sights.{value_is}
use Rattle.threshold_set.proofs.ThresholdSet.value.Goals as goal

pub returns : goal.returns
returns c =
    rw (← c.self.view_is)
    (c.value_at.ensures ∙ ap (λ (states : List ThresholdState). value_of (slice_get states c.args.k)) c.as_slice.ensures
    ∙ value_is c.self.inside.list c.self.inside.events.items c.args.k c.self.invariant)
