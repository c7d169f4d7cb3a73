use Rattle.std.proofs.Common.{rules, arith}
use Rattle.ams_tree.specs.Terminals.{word}
use Rattle.std.proofs.lemmas.Grind.{common_steps}
use Rattle.parse_steps.proofs.Steps.{one_more, terminal_seen}
use Rattle.ams_tree.specs.Expressions.{allows}
use Rattle.parse_expr.specs.Parsing.{link_turns, inside}
use Rattle.parse_expr.proofs.rules.Rules.more_links.Goals as goal

pub returns-in_err-expect_within : goal.returns-in_err-expect_within
returns-in_err-expect_within g c =
    let e = one_more (λ n. link_turns (allows c.args.self.now.levels) (inside c.args.self.now.listed c.args.self.now.levels) (word c.args.word) c.args.op n c.loop-turn.left c.loop-turn.reader) _ c.loop-turn._turn c.loop-turn-test.true c.loop-turn.invariant in
    first_of (search (rules, terminal_seen), grind (arith, common_steps, terminal_seen))

pub returns-in_err-right : goal.returns-in_err-right
returns-in_err-right g c =
    let e = one_more (λ n. link_turns (allows c.args.self.now.levels) (inside c.args.self.now.listed c.args.self.now.levels) (word c.args.word) c.args.op n c.loop-turn.left c.loop-turn.reader) _ c.loop-turn._turn c.loop-turn-test.true c.loop-turn.invariant in
    first_of (search (rules, terminal_seen), grind (arith, common_steps, terminal_seen))

pub loop-turn-preserved : goal.loop-turn-preserved
loop-turn-preserved g c =
    let e = one_more (λ n. link_turns (allows c.args.self.now.levels) (inside c.args.self.now.listed c.args.self.now.levels) (word c.args.word) c.args.op n c.loop-turn.left c.loop-turn.reader) _ c.loop-turn._turn c.loop-turn-test.true c.loop-turn.invariant in
    first_of (search (rules, terminal_seen), grind (arith, common_steps, terminal_seen))
