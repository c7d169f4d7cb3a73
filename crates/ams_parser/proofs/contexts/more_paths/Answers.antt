use Rattle.std.proofs.Common.{rules, arith}
use Rattle.std.proofs.lemmas.Grind.{common_steps}
use Rattle.parse_steps.proofs.Steps.{one_more}
use Rattle.ams_parser.specs.Parsing.{use_turns}
use Rattle.ams_parser.proofs.contexts.more_paths.Goals as goal

pub returns-in_err-path : goal.returns-in_err-path
returns-in_err-path c =
    let e = one_more (λ n. use_turns n c.loop-turn.all c.loop-turn.reader) _ c.loop-turn._turn c.loop-turn-test.true c.loop-turn.invariant in
    first_of (search rules, grind (arith, common_steps))

pub loop-turn-preserved : goal.loop-turn-preserved
loop-turn-preserved c =
    let e = one_more (λ n. use_turns n c.loop-turn.all c.loop-turn.reader) _ c.loop-turn._turn c.loop-turn-test.true c.loop-turn.invariant in
    first_of (search rules, grind (arith, common_steps))
