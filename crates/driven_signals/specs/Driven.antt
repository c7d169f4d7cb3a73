-- The driven signals of a design.
use Rattle.std.specs.Prelude.{ℕ, Bool, false, List, length}
use Rattle.std.specs.List.{slice_index_or}
use Rattle.flat_design.specs.declared.objects.Objects.{Objects}
use Rattle.cycle_meaning.specs.World.{driven_of}
use Rattle.driving_values.specs.Driving.{IsOrdered}

-- whether a signal is marked
abbrev pub flag : List Bool → ℕ → Bool
flag flags i = slice_index_or flags i false

abbrev pub DrivenAreOrdered : Type 0
DrivenAreOrdered = (objects : Objects) → IsOrdered (length objects.signals) (driven_of objects)
