use Rattle.std.proofs.Common.{◌≡◌, ◌++◌, map, take}
use Rattle.expr_spell.specs.Kinds.{joined}
use Rattle.ams_spell.specs.Designs.{prefix_kinds}
use Rattle.ams_spell.proofs.designs.put_prefixes.Given as goal

abbrev pub invariant-loop-prefix : goal.invariant-loop-prefix
invariant-loop-prefix l = l.out ≡ l.initial.out ++ joined (map prefix_kinds (take l.prefix-index l.names))
