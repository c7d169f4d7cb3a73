-- The error by one division.
use Rattle.std.proofs.Common.{arith}
use Rattle.step_parts.proofs.Changing.{product_small, error_found}
use Rattle.step_parts.proofs.errors.step_error.Goals as goal

pub overflow_mul-product : goal.overflow_mul-product
overflow_mul-product c =
    let small = product_small c.from.result c.largest_change.result (omega arith) c.largest_change.ensures.bound in
    omega (arith, small)

pub halved-requires : goal.halved-requires
halved-requires c = product_small c.from.result c.largest_change.result (omega arith) c.largest_change.ensures.bound

pub returns : goal.returns
returns c = error_found c.args.s c.from.result c.largest_change.result c.halved.result c.args.before.now c.args.after.now c.from.ensures c.largest_change.ensures.value c.halved.ensures
