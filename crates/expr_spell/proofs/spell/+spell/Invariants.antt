use Rattle.std.proofs.Common.{◌≡◌, ◌++◌, map, take}
use Rattle.ams_token.specs.declared.token.TokenKind.TheVariants as kind
use Rattle.ams_token.specs.declared.mark.Mark.TheVariants as m
use Rattle.expr_spell.specs.Kinds.{behind}
use Rattle.expr_spell.specs.Spelling as spec
use Rattle.expr_spell.proofs.spell.+spell.Given as goal

abbrev pub invariant-put_separated-loop-argument : goal.invariant-put_separated-loop-argument
invariant-put_separated-loop-argument l = l.out ≡ l.initial.out ++ behind (kind.Mark m.Comma) (map spec.spelling (take l.argument-index l.more))
