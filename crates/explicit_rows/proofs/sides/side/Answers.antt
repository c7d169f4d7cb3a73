-- The value of a short tape.
use Rattle.std.proofs.Common.{refl}
use Rattle.explicit_rows.proofs.sides.side.Goals as goal

pub returns-in-Some : goal.returns-in-Some
returns-in-Some c = rw (c.in-Some.ensures c.args.expr.now c.requires.tape) refl
