use Rattle.std.proofs.Common.{arith}
use Rattle.parse_steps.proofs.Steps.{deeper}
use Rattle.parse_steps.specs.Reply.{most_operators}
use Rattle.parse_seq.specs.Parsing.{nested}
use Rattle.parse_seq.proofs.compound.+nested.Goals as goal

pub returns : goal.returns
unfolding nested
returns t c = rw (deeper (λ n. nested most_operators n c.args.reader.now) c.args.levels (omega arith)) c.any.ensures
