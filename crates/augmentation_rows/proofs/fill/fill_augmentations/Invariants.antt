use Rattle.std.proofs.Common.{◌≡◌, ◌+◌, length, take, drop}
use Rattle.fix_core.specs.Passes.{each, joined}
use Rattle.flat_design.specs.Order.{unknowns}
use Rattle.design_meaning.specs.Equations.{augmentations_from}
use Rattle.design_meaning.specs.Newton.{linear_row}
use Rattle.equation_values.specs.Reading.{readings_in}
use Rattle.augmentation_rows.specs.Sets.{set_by}
use Rattle.augmentation_rows.proofs.fill.fill_augmentations.Given as goal

abbrev pub invariant-loop-i : goal.invariant-loop-i
invariant-loop-i l =
    let f = linear_row (unknowns l.flat) (readings_in l.values) in
    record {
      told : joined (take l.first l.fn.rows) (each f (augmentations_from (set_by l.set) l.elements 0 l.flat.dots)) ≡ joined (take (l.first + l.i) l.rows) (each f (augmentations_from (set_by l.set) l.elements l.i (drop l.i l.flat.dots)));
      count : length l.rows ≡ length l.fn.rows;
    }
