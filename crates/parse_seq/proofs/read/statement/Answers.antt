use Rattle.std.proofs.Common.{◌-◌, length, drop, subst}
use Rattle.ams_tree.specs.declared.sequential.Seq.{Seq}
use Rattle.ams_tree.specs.Statements as grammar
use Rattle.ams_tree.specs.Answer.{SpellsWithin}
use Rattle.parse_steps.specs.Reply.{IsTree, most_levels, most_operators}
use Rattle.parse_seq.proofs.read.statement.Goals as goal

pub returns-clause-back : goal.returns-clause-back
returns-clause-back c = subst (λ ts. (tree : Seq) → SpellsWithin grammar.statement (most_levels - c.args.depth) most_operators tree (drop c.args.at ts) → IsTree tree (length ts) c.read.result) c.as_slice.ensures.value c.read.ensures.back
