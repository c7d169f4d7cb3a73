-- The flat design of a text is well formed.
use Rattle.std.specs.Prelude.{◌≤◌, ℕ, List, length, Ok}
use Rattle.flat_design.specs.declared.objects.Objects.{Objects}
use Rattle.design_rules.specs.Design.{IsDesign}
use Rattle.short_laws.specs.Short.{most_tokens}
use Rattle.design_reading.specs.Reading.{Gives}

abbrev pub TextsGiveDesigns : Type 0
TextsGiveDesigns = (text top : List ℕ) (objects : Objects) → length text ≤ most_tokens → Gives text top (Ok objects) → IsDesign objects
