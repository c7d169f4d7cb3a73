use Rattle.std.proofs.Common.{rules}
use Rattle.step_data.proofs.SameLaws.{tip_test}
use Rattle.step_data.proofs.tip.Tip.is_same.Goals as goal

pub returns-then-self-other-2-clause-test : goal.returns-then-self-other-2-clause-test
returns-then-self-other-2-clause-test c = tip_test c.is_same.result c.args.self.now c.args.other.now (search rules) (search rules)
