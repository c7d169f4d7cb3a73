use Rattle.std.proofs.Common.{◌<◌, length, ap, ◌∙◌, arith, List, ℕ}
use Rattle.std.proofs.lemmas.List.{get_or_default}
use Rattle.std.proofs.lemmas.Grind.{common_steps}
use Rattle.driver_set.specs.Numbers.{number_of}
use Rattle.driver_set.proofs.NumberSteps.{driven_inside}
use Rattle.driver_set.proofs.numbers.DriverNumbers.number.Goals as goal

pub index-requires : goal.index-requires
index-requires c =
    let asked : number_of c.self.inside.signals.items c.args.signal < length c.self.inside.signals.items = rw c.self.view_is c.requires in
    let inside : c.args.signal < length c.self.inside.numbers.items =
    driven_inside c.self.inside.signals.items c.args.signal (length c.self.inside.numbers.items) asked c.self.invariant.within in
    grind (arith, common_steps, inside)

pub returns : goal.returns
returns c =
    let asked : number_of c.self.inside.signals.items c.args.signal < length c.self.inside.signals.items = rw c.self.view_is c.requires in
    let inside : c.args.signal < length c.self.inside.numbers.items =
    driven_inside c.self.inside.signals.items c.args.signal (length c.self.inside.numbers.items) asked c.self.invariant.within in
    c.index.ensures ∙ get_or_default c.self.inside.numbers.items c.args.signal c.index.result.now 0 inside
    ∙ c.self.invariant.are c.args.signal inside ∙ ap (λ (driven : List ℕ). number_of driven c.args.signal) c.self.view_is
