use Rattle.std.proofs.Common.{subst}
use Rattle.ams_tree.specs.declared.design.DesignFile.{DesignFile}
use Rattle.ams_tree.specs.Designs as grammar
use Rattle.ams_tree.specs.Answer.{SpellsWithin}
use Rattle.parse_steps.specs.Reply.{most_levels, most_operators}
use Rattle.ams_parser.specs.Whole.{IsWhole}
use Rattle.ams_parser.proofs.read.parse.Goals as goal

pub returns-clause-back : goal.returns-clause-back
returns-clause-back c = subst (λ ts. (file : DesignFile) → SpellsWithin grammar.design_file most_levels most_operators file ts → IsWhole file c.whole.result) c.as_slice.ensures.value c.whole.ensures.back
