use Rattle.std.proofs.Common.{◌≡◌, ◌+◌, take, drop}
use Rattle.fix_core.specs.Passes.{each, joined}
use Rattle.design_meaning.specs.Equations.{augmentations_from}
use Rattle.equation_values.specs.Residuals.{residual_at}
use Rattle.equation_values.specs.Reading.{readings_in}
use Rattle.augmentation_rows.specs.Sets.{set_by}
use Rattle.augmentation_rows.proofs.fill.write_residuals.Given as goal

abbrev pub invariant-loop-i : goal.invariant-loop-i
invariant-loop-i l =
    let f = residual_at (readings_in l.values) in
    joined (take l.first l.fn.out) (each f (augmentations_from (set_by l.set) l.elements 0 l.flat.dots)) ≡ joined (take (l.first + l.i) l.out) (each f (augmentations_from (set_by l.set) l.elements l.i (drop l.i l.flat.dots)))
