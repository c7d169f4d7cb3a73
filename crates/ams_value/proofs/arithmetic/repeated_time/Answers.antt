use Rattle.std.proofs.Common.{◌*ℤ◌, ◌∙◌, ap, arith}
use Rattle.std.proofs.lemmas.Int.{to_z-of_z}
use Rattle.std.specs.Prelude.{FitsSigned}
use Rattle.std.specs.Int.{w128}
use Rattle.ams_value.specs.Values.{time_ranged}
use Rattle.ams_value.proofs.Times.{repeated_fits}
use Rattle.ams_value.proofs.arithmetic.repeated_time.Goals as goal

pub overflow_mul-from : goal.overflow_mul-from
overflow_mul-from c = grind (arith, to_z-of_z, repeated_fits)

pub returns : goal.returns
returns c =
    let f : FitsSigned w128 (c.args.t *ℤ c.args.i) = repeated_fits c.args.t c.args.i c.requires.time c.requires.factor in
    c.time.ensures ∙ ap time_ranged (grind (arith, to_z-of_z))
