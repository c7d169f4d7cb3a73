use Rattle.std.proofs.Common.{ap, ◌∙◌, Bool, false, List}
use Rattle.std.specs.Prelude.{slice_index_or}
use Rattle.threshold_set.proofs.Sights.{event_is}
use Rattle.threshold_set.proofs.ThresholdSet.event.Goals as goal

pub returns : goal.returns
returns c =
    rw (← c.self.view_is)
    (c.event_at.ensures ∙ ap (λ (events : List Bool). slice_index_or events c.args.k false) c.as_slice.ensures.value
    ∙ event_is c.self.inside.list c.self.inside.events.items c.args.k c.self.invariant)
