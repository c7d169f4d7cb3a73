use Rattle.eval_tape.proofs.Results.{slope_is, constant_is}
use Rattle.eval_tape.proofs.run.run_slope.Goals as goal

pub returns : goal.returns
returns c = slope_is c.args.unknown c.args.constant c.args.code.now c.args.numbers.now c.fill_slopes.new.slopes c.last.result c.last.ensures c.in_ok-fill_slopes.ensures

pub returns-in-Some : goal.returns-in-Some
returns-in-Some c = constant_is c.args.unknown c.args.constant c.args.code.now c.args.numbers.now c.in-Some.slope c.in-Some.is
