use Rattle.std.proofs.Common.{rules, arith}
use Rattle.std.proofs.lemmas.Grind.{common_steps}
use Rattle.parse_steps.proofs.Steps.{one_more}
use Rattle.parse_steps.specs.Reply.{most_operators}
use Rattle.parse_conc.specs.Parsing.{wave_turns}
use Rattle.parse_conc.proofs.assignments.more_waveforms.Goals as goal

pub returns-in_err-when_condition : goal.returns-in_err-when_condition
returns-in_err-when_condition c =
    let e = one_more (λ n. wave_turns most_operators c.args.levels n (c.loop-turn.conditional, c.loop-turn.last) c.loop-turn.reader) _ c.loop-turn._turn c.loop-turn-test.true c.loop-turn.invariant in
    first_of (search rules, grind (arith, common_steps))

pub returns-in_err-next : goal.returns-in_err-next
returns-in_err-next c =
    let e = one_more (λ n. wave_turns most_operators c.args.levels n (c.loop-turn.conditional, c.loop-turn.last) c.loop-turn.reader) _ c.loop-turn._turn c.loop-turn-test.true c.loop-turn.invariant in
    first_of (search rules, grind (arith, common_steps))

pub loop-turn-preserved : goal.loop-turn-preserved
loop-turn-preserved c =
    let e = one_more (λ n. wave_turns most_operators c.args.levels n (c.loop-turn.conditional, c.loop-turn.last) c.loop-turn.reader) _ c.loop-turn._turn c.loop-turn-test.true c.loop-turn.invariant in
    first_of (search rules, grind (arith, common_steps))
