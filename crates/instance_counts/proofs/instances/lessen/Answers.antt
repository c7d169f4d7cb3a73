use Rattle.std.proofs.Common.{set, sym, ap, ◌∙◌}
use Rattle.instance_counts.proofs.Lessened.{there}
use Rattle.instance_counts.proofs.instances.lessen.Goals as goal

pub returns : goal.returns
returns c =
    c.set.ensures
    ∙ (ap (set c.args.instances.now c.args.outer) c.in_ok-fewer.ensures ∙ there c.args.outer c.args.count c.args.instances.now c.in-Some.instance.now (sym c.in-Some.ensures.value))
