use Rattle.std.proofs.Common.{Err, sym, subst}
use Rattle.ams_tree.specs.Designs as grammar
use Rattle.parse_steps.specs.Reply.{most_levels, most_operators}
use Rattle.ams_parser.specs.Files as R
use Rattle.ams_parser.specs.Whole.{AnswersWhole, IsWhole}
use Rattle.ams_parser.proofs.Whole.{whole_answers, left_refused, left_fits, left_back, tree_back, stop_fits, stop_answers, stop_back, from_all}
use Rattle.ams_parser.proofs.Called.{answering}
use Rattle.ams_parser.proofs.read.whole.Goals as goal

pub overflow_sub-result : goal.overflow_sub-result
overflow_sub-result c = left_fits answering most_levels most_operators c.args.tokens.now _ _ (from_all (R.design_file most_operators most_levels) most_operators c.args.tokens.now c.new-reader.result _ c.new-reader.ensures c.in-Ok.ensures) _ c.left-left.ensures

pub returns-then-left-gt0-clause-answer : goal.returns-then-left-gt0-clause-answer
returns-then-left-gt0-clause-answer c = left_refused answering most_levels most_operators c.args.tokens.now _ _ (from_all (R.design_file most_operators most_levels) most_operators c.args.tokens.now c.new-reader.result _ c.new-reader.ensures c.in-Ok.ensures) _ c.left-left.ensures c.if-left-gt0.true

pub returns-then-left-gt0-clause-back : goal.returns-then-left-gt0-clause-back
returns-then-left-gt0-clause-back c = left_back answering most_levels most_operators c.args.tokens.now _ _ (from_all (R.design_file most_operators most_levels) most_operators c.args.tokens.now c.new-reader.result _ c.new-reader.ensures c.in-Ok.ensures) _ c.left-left.ensures c.if-left-gt0.true

pub fault_at-requires : goal.fault_at-requires
fault_at-requires c = stop_fits answering most_levels most_operators c.args.tokens.now c.in-Err.stop (λ m. from_all (R.design_file most_operators most_levels) most_operators c.args.tokens.now c.new-reader.result _ c.new-reader.ensures (c.in-Err.ensures m))

pub returns-else-left-gt0-clause-answer : goal.returns-else-left-gt0-clause-answer
returns-else-left-gt0-clause-answer c = whole_answers answering most_levels most_operators c.args.tokens.now _ _ (from_all (R.design_file most_operators most_levels) most_operators c.args.tokens.now c.new-reader.result _ c.new-reader.ensures c.in-Ok.ensures) _ c.left-left.ensures c.if-left-gt0.false

pub returns-else-left-gt0-clause-back : goal.returns-else-left-gt0-clause-back
returns-else-left-gt0-clause-back c file w = (tree_back answering most_levels most_operators c.args.tokens.now _ _ (from_all (R.design_file most_operators most_levels) most_operators c.args.tokens.now c.new-reader.result _ c.new-reader.ensures c.in-Ok.ensures) file w).0

pub returns-in-Err-clause-answer : goal.returns-in-Err-clause-answer
returns-in-Err-clause-answer c = subst (λ f. AnswersWhole grammar.design_file most_levels most_operators c.args.tokens.now (Err f)) (sym c.fault_at.ensures) (stop_answers answering most_levels most_operators c.args.tokens.now c.in-Err.stop (λ m. from_all (R.design_file most_operators most_levels) most_operators c.args.tokens.now c.new-reader.result _ c.new-reader.ensures (c.in-Err.ensures m)))

pub returns-in-Err-clause-back : goal.returns-in-Err-clause-back
returns-in-Err-clause-back c file w = subst (λ f. IsWhole file (Err f)) (sym c.fault_at.ensures) (stop_back answering most_levels most_operators c.args.tokens.now c.in-Err.stop (λ m. from_all (R.design_file most_operators most_levels) most_operators c.args.tokens.now c.new-reader.result _ c.new-reader.ensures (c.in-Err.ensures m)) file w)
