-- A number is within half a turn of the nearest multiple.
use Rattle.std.proofs.Common.{◌≡◌, pos, arith}
use Rattle.std.proofs.lemmas.Int.{ints, to_z-of_z}
use Rattle.fix_core.specs.Rounding.{rnd}
use Rattle.math_fix.specs.Functions.{angle_of}
use Rattle.math_fix.proofs.Bounds.{turns_near, units_fit}
use Rattle.math_fix.proofs.angle.Goals as goal

pub overflow_mul-round_quotient : goal.overflow_mul-round_quotient
overflow_mul-round_quotient c = let e : c.round_quotient.result ≡ rnd c.args.x (pos 6283185307180) = grind (arith, to_z-of_z, units_fit) in let h = turns_near c.args.x c.round_quotient.result e in omega (arith, ints, h)

pub overflow_sub-units : goal.overflow_sub-units
overflow_sub-units c = let e : c.round_quotient.result ≡ rnd c.args.x (pos 6283185307180) = grind (arith, to_z-of_z, units_fit) in let h = turns_near c.args.x c.round_quotient.result e in omega (arith, ints, h)

pub exactly-requires : goal.exactly-requires
exactly-requires c = let e : c.round_quotient.result ≡ rnd c.args.x (pos 6283185307180) = grind (arith, to_z-of_z, units_fit) in let h = turns_near c.args.x c.round_quotient.result e in omega (arith, ints, h)

pub returns-clause-value : goal.returns-clause-value
unfolding angle_of
returns-clause-value c = let e : c.round_quotient.result ≡ rnd c.args.x (pos 6283185307180) = grind (arith, to_z-of_z, units_fit) in let h = turns_near c.args.x c.round_quotient.result e in rw (← e) (omega (arith, ints, h))

pub returns-clause-bound : goal.returns-clause-bound
returns-clause-bound c = let e : c.round_quotient.result ≡ rnd c.args.x (pos 6283185307180) = grind (arith, to_z-of_z, units_fit) in let h = turns_near c.args.x c.round_quotient.result e in omega (arith, ints, h)
