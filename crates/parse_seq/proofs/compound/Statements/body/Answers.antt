use Rattle.std.proofs.Common.{rules, arith}
use Rattle.std.proofs.lemmas.Grind.{common_steps}
use Rattle.parse_steps.proofs.Steps.{one_more}
use Rattle.parse_seq.specs.Parsing.{body_turns, at_level}
use Rattle.parse_seq.proofs.compound.Statements.body.Goals as goal

pub returns-in_err-inner : goal.returns-in_err-inner
returns-in_err-inner g c =
    let e = one_more (λ n. at_level body_turns c.args.self.now.levels n c.loop-turn.all c.loop-turn.reader) _ c.loop-turn._turn c.loop-turn-test.true c.loop-turn.invariant in
    first_of (search rules, grind (arith, common_steps))

pub loop-turn-preserved : goal.loop-turn-preserved
loop-turn-preserved g c =
    let e = one_more (λ n. at_level body_turns c.args.self.now.levels n c.loop-turn.all c.loop-turn.reader) _ c.loop-turn._turn c.loop-turn-test.true c.loop-turn.invariant in
    first_of (search rules, grind (arith, common_steps))
