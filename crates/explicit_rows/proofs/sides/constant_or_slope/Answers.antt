use Rattle.std.proofs.Common.{sym, ◌∙◌}
use Rattle.equation_values.specs.Reading.{readings_in}
use Rattle.explicit_rows.proofs.Constants.{constant_is}
use Rattle.explicit_rows.proofs.sides.constant_or_slope.Goals as goal

pub returns-in-Some : goal.returns-in-Some
returns-in-Some c = constant_is c.args.pair.now (readings_in c.args.values.now) c.args.unknown c.in-Some.slope (sym c.in-Some.is ∙ c.requires.constant) c.requires.residual
