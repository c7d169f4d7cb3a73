use Rattle.std.proofs.Common.{◌∙◌}
use Rattle.kernel_world.proofs.Beginning.{kept_states}
use Rattle.kernel_world.proofs.world.World.threshold_list.Goals as goal

pub returns : goal.returns
returns c =
    let w = c.args.self.now in
    c.list.ensures ∙ kept_states w.flat.now.thresholds w.thresholds.states w.thresholds.events w.places.thresholds w.places.as_many
