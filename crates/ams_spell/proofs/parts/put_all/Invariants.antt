use Rattle.std.proofs.Common.{◌≡◌, ◌++◌, map, take}
use Rattle.expr_spell.specs.Kinds.{joined}
use Rattle.ams_spell.proofs.parts.put_all.Given as goal

abbrev pub invariant-loop-item : goal.invariant-loop-item
invariant-loop-item g l = l.out ≡ l.initial.out ++ joined (map g.T.Spell.kinds (take l.item-index l.items))
