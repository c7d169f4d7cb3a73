use Rattle.std.proofs.Common.{rules, arith}
use Rattle.std.proofs.lemmas.Grind.{common_steps}
use Rattle.parse_steps.proofs.Steps.{one_more}
use Rattle.ams_tree.specs.Expressions.{allows}
use Rattle.parse_expr.specs.Parsing.{argument_turns, inside}
use Rattle.parse_expr.proofs.rules.Rules.more_arguments.Goals as goal

pub returns-in_err-nested : goal.returns-in_err-nested
returns-in_err-nested g c =
    let e = one_more (λ n. argument_turns (allows c.args.self.now.levels) (inside c.args.self.now.listed c.args.self.now.levels) n c.loop-turn.all c.loop-turn.reader) _ c.loop-turn._turn c.loop-turn-test.true c.loop-turn.invariant in
    first_of (search rules, grind (arith, common_steps))

pub loop-turn-preserved : goal.loop-turn-preserved
loop-turn-preserved g c =
    let e = one_more (λ n. argument_turns (allows c.args.self.now.levels) (inside c.args.self.now.listed c.args.self.now.levels) n c.loop-turn.all c.loop-turn.reader) _ c.loop-turn._turn c.loop-turn-test.true c.loop-turn.invariant in
    first_of (search rules, grind (arith, common_steps))

pub returns-then-not-at : goal.returns-then-not-at
returns-then-not-at g c =
    let e = one_more (λ n. argument_turns (allows c.args.self.now.levels) (inside c.args.self.now.listed c.args.self.now.levels) n c.loop-turn.all c.loop-turn.reader) _ c.loop-turn._turn c.loop-turn-test.true c.loop-turn.invariant in
    first_of (search rules, grind (arith, common_steps))
