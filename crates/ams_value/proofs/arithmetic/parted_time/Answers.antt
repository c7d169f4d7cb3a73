use Rattle.std.proofs.Common.{◌≡◌, ◌∙◌, ap, arith}
use Rattle.std.proofs.lemmas.Int.{ints, quot_is}
use Rattle.std.specs.Prelude.{int_div}
use Rattle.std.specs.Int.{w64}
use Rattle.ams_value.specs.Values.{time_ranged}
use Rattle.ams_value.proofs.Times.{parts_some, quotient_fits}
use Rattle.ams_value.proofs.arithmetic.parted_time.Goals as goal

pub returns : goal.returns
returns c =
    let t = c.args.t in
    let i = c.args.i in
    let e : c.from.result ≡ int_div t i = c.from.ensures ∙ quot_is w64 t i c.ranges.t c.ranges.i (quotient_fits t i c.requires) in
    c.time.ensures ∙ ap time_ranged (omega (arith, ints)) ∙ ap time_ranged e ∙ parts_some t i (omega (arith, ints))
