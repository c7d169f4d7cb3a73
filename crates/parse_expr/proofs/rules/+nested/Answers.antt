use Rattle.std.proofs.Common.{arith}
use Rattle.parse_steps.proofs.Steps.{deeper}
use Rattle.parse_expr.specs.Parsing.{nested, inside}
use Rattle.parse_expr.proofs.rules.+nested.Goals as goal

pub returns : goal.returns
unfolding nested inside
returns t c = rw (deeper (λ n. nested n c.args.reader.now) c.args.levels (omega arith)) c.logical.ensures
