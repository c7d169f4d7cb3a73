use Rattle.std.proofs.Common.{rules, arith}
use Rattle.std.proofs.lemmas.Grind.{common_steps}
use Rattle.parse_steps.proofs.Steps.{one_more, terminal_seen}
use Rattle.ams_tree.specs.Expressions.{allows}
use Rattle.parse_expr.specs.Parsing.{term_turns, inside}
use Rattle.parse_expr.proofs.rules.Rules.more_terms.Goals as goal

pub returns-in_err-take : goal.returns-in_err-take
returns-in_err-take g c =
    let e = one_more (λ n. term_turns (allows c.args.self.now.levels) (inside c.args.self.now.listed c.args.self.now.levels) n c.loop-turn.left c.loop-turn.reader) _ c.loop-turn._turn c.loop-turn-test.true c.loop-turn.invariant in
    first_of (search (rules, terminal_seen), grind (arith, common_steps, terminal_seen))

pub returns-in_err-right : goal.returns-in_err-right
returns-in_err-right g c =
    let e = one_more (λ n. term_turns (allows c.args.self.now.levels) (inside c.args.self.now.listed c.args.self.now.levels) n c.loop-turn.left c.loop-turn.reader) _ c.loop-turn._turn c.loop-turn-test.true c.loop-turn.invariant in
    first_of (search (rules, terminal_seen), grind (arith, common_steps, terminal_seen))

pub loop-turn-preserved : goal.loop-turn-preserved
loop-turn-preserved g c =
    let e = one_more (λ n. term_turns (allows c.args.self.now.levels) (inside c.args.self.now.listed c.args.self.now.levels) n c.loop-turn.left c.loop-turn.reader) _ c.loop-turn._turn c.loop-turn-test.true c.loop-turn.invariant in
    first_of (search (rules, terminal_seen), grind (arith, common_steps, terminal_seen))
