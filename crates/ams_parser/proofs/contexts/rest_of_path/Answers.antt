use Rattle.std.proofs.Common.{rules, arith}
use Rattle.std.proofs.lemmas.Grind.{common_steps}
use Rattle.parse_steps.proofs.Steps.{one_more, terminal_seen}
use Rattle.ams_parser.specs.Parsing.{path_turns}
use Rattle.ams_parser.proofs.contexts.rest_of_path.Goals as goal

pub loop-turn-preserved : goal.loop-turn-preserved
loop-turn-preserved c =
    let e = one_more (λ n. path_turns n c.loop-turn.names c.loop-turn.reader) _ c.loop-turn._turn c.loop-turn-test.true c.loop-turn.invariant in
    first_of (search (rules, terminal_seen), grind (arith, common_steps, terminal_seen))
