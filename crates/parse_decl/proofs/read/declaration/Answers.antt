use Rattle.std.proofs.Common.{◌-◌, length, drop, subst}
use Rattle.ams_tree.specs.declared.declaration.Declaration.{Declaration}
use Rattle.ams_tree.specs.Declarations as grammar
use Rattle.ams_tree.specs.Answer.{SpellsWithin}
use Rattle.parse_steps.specs.Reply.{IsTree, most_levels, most_operators}
use Rattle.parse_decl.proofs.read.declaration.Goals as goal

pub returns-clause-back : goal.returns-clause-back
returns-clause-back c = subst (λ ts. (tree : Declaration) → SpellsWithin grammar.declaration (most_levels - c.args.depth) most_operators tree (drop c.args.at ts) → IsTree tree (length ts) c.read.result) c.as_slice.ensures.value c.read.ensures.back
