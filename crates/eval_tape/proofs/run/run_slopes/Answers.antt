use Rattle.std.proofs.Common.{◌≡◌, length, arith}
use Rattle.eval_tape.proofs.Results.{results_are}
use Rattle.eval_tape.proofs.run.run_slopes.Goals as goal

pub returns : goal.returns
returns g c =
    let size : length c.write_slopes.new.out ≡ length c.args.unknowns.now = omega (arith, c.write_slopes.auto.out, c.requires.places) in
    results_are (g.V.Values.readings c.args.values.now) c.args.unknowns.now c.args.constants.now c.args.code.now c.run_value.new.numbers c.in_ok-value.value c.write_slopes.new.out size
    c.in_ok-value.ensures.value c.in_ok-value.ensures.numbers c.in_ok-write_slopes.ensures
