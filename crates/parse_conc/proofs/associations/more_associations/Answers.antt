use Rattle.std.proofs.Common.{rules, arith}
use Rattle.std.proofs.lemmas.Grind.{common_steps}
use Rattle.parse_steps.proofs.Steps.{one_more}
use Rattle.parse_steps.specs.Reply.{most_operators}
use Rattle.parse_conc.specs.Parsing.{association_turns}
use Rattle.parse_conc.proofs.associations.more_associations.Goals as goal

pub returns-in_err-one_association : goal.returns-in_err-one_association
returns-in_err-one_association c =
    let e = one_more (λ n. association_turns most_operators c.args.levels n c.loop-turn.all c.loop-turn.reader) _ c.loop-turn._turn c.loop-turn-test.true c.loop-turn.invariant in
    first_of (search rules, grind (arith, common_steps))

pub loop-turn-preserved : goal.loop-turn-preserved
loop-turn-preserved c =
    let e = one_more (λ n. association_turns most_operators c.args.levels n c.loop-turn.all c.loop-turn.reader) _ c.loop-turn._turn c.loop-turn-test.true c.loop-turn.invariant in
    first_of (search rules, grind (arith, common_steps))

pub returns-then-not-at : goal.returns-then-not-at
returns-then-not-at c =
    let e = one_more (λ n. association_turns most_operators c.args.levels n c.loop-turn.all c.loop-turn.reader) _ c.loop-turn._turn c.loop-turn-test.true c.loop-turn.invariant in
    first_of (search rules, grind (arith, common_steps))
