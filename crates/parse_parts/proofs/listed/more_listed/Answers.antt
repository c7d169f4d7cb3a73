use Rattle.std.proofs.Common.{rules, arith}
use Rattle.std.proofs.lemmas.Grind.{common_steps}
use Rattle.parse_steps.proofs.Steps.{one_more}
use Rattle.parse_steps.specs.Reply.{most_operators}
use Rattle.parse_parts.specs.Parsing.{listed_turns}
use Rattle.parse_parts.proofs.listed.more_listed.Goals as goal

pub returns-in_err-listed_name : goal.returns-in_err-listed_name
returns-in_err-listed_name c =
    let e = one_more (λ n. listed_turns most_operators c.args.levels n c.loop-turn.all c.loop-turn.reader) _ c.loop-turn._turn c.loop-turn-test.true c.loop-turn.invariant in
    first_of (search rules, grind (arith, common_steps))

pub loop-turn-preserved : goal.loop-turn-preserved
loop-turn-preserved c =
    let e = one_more (λ n. listed_turns most_operators c.args.levels n c.loop-turn.all c.loop-turn.reader) _ c.loop-turn._turn c.loop-turn-test.true c.loop-turn.invariant in
    first_of (search rules, grind (arith, common_steps))

pub returns-then-not-at : goal.returns-then-not-at
returns-then-not-at c =
    let e = one_more (λ n. listed_turns most_operators c.args.levels n c.loop-turn.all c.loop-turn.reader) _ c.loop-turn._turn c.loop-turn-test.true c.loop-turn.invariant in
    first_of (search rules, grind (arith, common_steps))
