use Rattle.std.proofs.Common.{◌≡◌, ◌++◌, map, take}
use Rattle.ams_token.specs.declared.token.TokenKind.TheVariants as kind
use Rattle.ams_token.specs.declared.word.Word.TheVariants as w
use Rattle.expr_spell.specs.Kinds.{joined, behind}
use Rattle.ams_spell.specs.Statements as spec
use Rattle.ams_spell.proofs.nested.+statements.Given as goal

abbrev pub invariant-put_body-loop-statement : goal.invariant-put_body-loop-statement
invariant-put_body-loop-statement l = l.out ≡ l.initial.out ++ joined (map spec.statement_kinds (take l.statement-index l.body))

abbrev pub invariant-put_branches-loop-branch : goal.invariant-put_branches-loop-branch
invariant-put_branches-loop-branch l = l.out ≡ l.initial.out ++ behind (kind.Word w.Elsif) (map spec.branch_kinds (take l.branch-index l.more))

abbrev pub invariant-put_alternatives-loop-alternative : goal.invariant-put_alternatives-loop-alternative
invariant-put_alternatives-loop-alternative l = l.out ≡ l.initial.out ++ joined (map spec.alternative_kinds (take l.alternative-index l.alternatives))
