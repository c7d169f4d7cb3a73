use Rattle.std.proofs.Common.{get_or}
use Rattle.std.proofs.lemmas.List.{get_or_default}
use Rattle.ams_tree.specs.declared.expression.Name.{Name}
use Rattle.expr_spell.proofs.Loops.{joined_more}
use Rattle.ams_spell.specs.Designs.{prefix_kinds}
use Rattle.ams_spell.proofs.designs.put_prefixes.Goals as goal

pub loop-prefix-preserved : goal.loop-prefix-preserved
loop-prefix-preserved c =
    let prefix : Name = get_or c.args.names.now c.loop-prefix.prefix-index (record { number = 0; place = record { line = 0; column = 0 } }) in
    joined_more prefix_kinds _ _ prefix c.loop-prefix-test.true (get_or_default _ _ _ prefix c.loop-prefix-test.true) _ _ _ c.loop-prefix.invariant c.in_ok-put_prefix.ensures
