-- What is rounded down is less than a divisor below.
use Rattle.std.proofs.Common.{◌≡◌, ◌*◌, ◌%◌, ◌^◌, arith}
use Rattle.std.proofs.lemmas.Nat.{leading_le, one_shl}
use Rattle.number_ratio.proofs.Naturals.{divided_near}
use Rattle.number_ratio.proofs.ways.Estimate.new.Goals as goal

pub invariant_of-result-clause-near : goal.invariant_of-result-clause-near
invariant_of-result-clause-near c =
    let s = c.saturating_sub-shift.result in
    let whole : (1 * 2 ^ s) % 2 ^ 128 ≡ 2 ^ s = one_shl s 128 (omega (arith, leading_le 64 c.args.factor)) in
    grind (arith, whole, divided_near c.in_ok-scaled.field-0 c.args.divisor)
