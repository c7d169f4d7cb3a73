-- The estimate is at most one too small, and the remainder says how much is left.
use Rattle.std.proofs.Common.{◌≡◌, ◌+◌, ◌-◌, ◌*◌, ◌/◌, ◌≤◌, ◌<◌, ◌^◌, ℕ, arith}
use Rattle.number_ratio.proofs.Naturals.{estimate_le, estimate_near, estimate_fits, rest_counts}
use Rattle.number_ratio.proofs.ways.Estimate.apply.Goals as goal

pub overflow_sub-rest : goal.overflow_sub-rest
overflow_sub-rest c = grind (arith, estimate_le)

pub overflow_cast-rest : goal.overflow_cast-rest
overflow_cast-rest c = grind (arith, estimate_le, estimate_near)

pub overflow_add-result : goal.overflow_add-result
overflow_add-result c =
    let s = c.args.self in
    rw (c.from.ensures, c.from-2.ensures) (omega (arith, c.steps.ensures.bound, estimate_fits c.args.u s.factor s.divisor s.scaled s.shift s.last s.below c.requires s.room))

pub returns : goal.returns
returns c =
    let s = c.args.self in
    let u = c.args.u in
    let q : ℕ = u * s.scaled / 2 ^ s.shift in
    let rest : ℕ = c.from-3.result * c.from-4.result - c.from-5.result * c.from-6.result in
    let low : u * s.scaled / 2 ^ s.shift * s.divisor ≤ u * s.factor = estimate_le u s.factor s.divisor s.scaled s.shift s.below in
    let high : u * s.factor < u * s.scaled / 2 ^ s.shift * s.divisor + 2 * s.divisor = estimate_near u s.factor s.divisor s.scaled s.shift s.positive s.near (omega arith) in
    let e : c.from-3.result * c.from-4.result - c.from-5.result * c.from-6.result ≡ u * s.factor - u * s.scaled / 2 ^ s.shift * s.divisor = cc in
    rw (c.from.ensures, c.from-2.ensures) (rest_counts (u * s.factor) s.divisor q c.steps.result rest s.half s.more low high s.halved s.one_more e c.steps.ensures.none c.steps.ensures.one c.steps.ensures.two)
