use Rattle.std.proofs.Common.{rules, arith}
use Rattle.std.proofs.lemmas.Grind.{common_steps}
use Rattle.parse_steps.proofs.Steps.{one_more}
use Rattle.parse_steps.specs.Reply.{most_operators}
use Rattle.ams_parser.specs.Parsing.{generic_turns}
use Rattle.ams_parser.proofs.entities.more_generics.Goals as goal

pub returns-in_err-generic : goal.returns-in_err-generic
returns-in_err-generic c =
    let e = one_more (λ n. generic_turns most_operators c.args.levels n c.loop-turn.all c.loop-turn.reader) _ c.loop-turn._turn c.loop-turn-test.true c.loop-turn.invariant in
    first_of (search rules, grind (arith, common_steps))

pub loop-turn-preserved : goal.loop-turn-preserved
loop-turn-preserved c =
    let e = one_more (λ n. generic_turns most_operators c.args.levels n c.loop-turn.all c.loop-turn.reader) _ c.loop-turn._turn c.loop-turn-test.true c.loop-turn.invariant in
    first_of (search rules, grind (arith, common_steps))
