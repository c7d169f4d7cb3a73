use Rattle.std.proofs.Common.{Err, length, sym, subst}
use Rattle.parse_steps.specs.Reply.{IsTree, most_operators}
use Rattle.parse_steps.proofs.Answering.{tree_fits, tree_answers, tree_back, stop_fits, stop_answers, stop_back, from_range}
use Rattle.parse_decl.specs.Parsing as R
use Rattle.parse_decl.proofs.Called.{answering}
use Rattle.parse_decl.proofs.read.read.Goals as goal

pub fault_at-requires : goal.fault_at-requires
fault_at-requires c = stop_fits answering _ c.args.at c.args.tokens.now c.in-Err.stop (λ m. from_range (R.declaration most_operators c.args.levels) c.args.at c.args.tokens.now c.new-reader.result _ c.new-reader.ensures (c.in-Err.ensures m))

pub overflow_sub-result : goal.overflow_sub-result
overflow_sub-result c = rw c.left.ensures (tree_fits answering _ c.args.at c.args.tokens.now _ _ c.requires (from_range (R.declaration most_operators c.args.levels) c.args.at c.args.tokens.now c.new-reader.result _ c.new-reader.ensures c.in-Ok.ensures))

pub returns-in-Ok-clause-answer : goal.returns-in-Ok-clause-answer
returns-in-Ok-clause-answer c = rw c.left.ensures (tree_answers answering _ c.args.at c.args.tokens.now _ _ c.requires (from_range (R.declaration most_operators c.args.levels) c.args.at c.args.tokens.now c.new-reader.result _ c.new-reader.ensures c.in-Ok.ensures))

pub returns-in-Ok-clause-back : goal.returns-in-Ok-clause-back
returns-in-Ok-clause-back c = rw c.left.ensures (tree_back answering _ c.args.at c.args.tokens.now _ _ (from_range (R.declaration most_operators c.args.levels) c.args.at c.args.tokens.now c.new-reader.result _ c.new-reader.ensures c.in-Ok.ensures))

pub returns-in-Err-clause-answer : goal.returns-in-Err-clause-answer
returns-in-Err-clause-answer c = rw c.fault_at.ensures (stop_answers answering _ c.args.at c.args.tokens.now c.in-Err.stop c.requires (λ m. from_range (R.declaration most_operators c.args.levels) c.args.at c.args.tokens.now c.new-reader.result _ c.new-reader.ensures (c.in-Err.ensures m)))

pub returns-in-Err-clause-back : goal.returns-in-Err-clause-back
returns-in-Err-clause-back c y w = subst (λ f. IsTree y (length c.args.tokens.now) (Err f)) (sym c.fault_at.ensures) (stop_back answering _ c.args.at c.args.tokens.now c.in-Err.stop (λ m. from_range (R.declaration most_operators c.args.levels) c.args.at c.args.tokens.now c.new-reader.result _ c.new-reader.ensures (c.in-Err.ensures m)) y w)
