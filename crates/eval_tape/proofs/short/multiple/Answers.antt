use Rattle.std.proofs.Common.{◌≡◌, Ok, sym, ap, ◌∙◌}
use Rattle.fix_core.specs.Fixed.{ranged}
use Rattle.design_meaning.specs.Faults.{numeric}
use Rattle.design_meaning.specs.Readings.{unknown_of}
use Rattle.eval_tape.proofs.ShortTapes.{multiple_is}
use Rattle.eval_tape.proofs.short.multiple.Goals as goal

pub returns-in-Ok-operator_number : goal.returns-in-Ok-operator_number
returns-in-Ok-operator_number g c =
    let r = g.V.Values.readings c.args.values.now in
    let number : numeric (ranged (unknown_of r c.args.unknown)) ≡ Ok c.in-Ok.number = ap (λ z. numeric (ranged z)) (sym c.unknown.ensures) ∙ sym c.in-Ok.ensures in
    multiple_is r c.args.factor c.args.unknown c.in-Ok.number c.in-Ok-operator_number.product number (sym c.in-Ok-operator_number.ensures)
