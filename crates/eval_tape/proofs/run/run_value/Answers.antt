use Rattle.eval_tape.proofs.Results.{value_is}
use Rattle.eval_tape.proofs.run.run_value.Goals as goal

pub returns-clause-value : goal.returns-clause-value
returns-clause-value g c = value_is (g.V.Values.readings c.args.values.now) c.args.code.now c.fill_numbers.new.numbers c.last.result c.last.ensures c.in_ok-fill_numbers.ensures
