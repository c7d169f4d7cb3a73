-- The augmentation sets, by what the code holds.
use Rattle.std.specs.Prelude.{◌≤◌}
use Rattle.design_meaning.specs.Equations.{Augmentation as AugmentationSet, quiescent, discontinuity, time_domain}
use Rattle.equation_values.specs.Reading.{readings_in}
use Rattle.augmentation_rows.specs.declared.set.Augmentation.{Augmentation}
use Rattle.augmentation_rows.specs.declared.set.Augmentation.TheVariants as set

abbrev pub set_by : Augmentation → AugmentationSet
set_by set.Quiescent = quiescent
set_by (set.Discontinuity before) = discontinuity (readings_in before)
set_by (set.TimeDomain tip fresh step) = time_domain (readings_in tip) fresh step

-- a step of at most a second
abbrev pub HasStep : Augmentation → Type 0
HasStep set.Quiescent = Unit {0}
HasStep (set.Discontinuity before) = Unit {0}
HasStep (set.TimeDomain tip fresh step) = step ≤ 1000000000000
