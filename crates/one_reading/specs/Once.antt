-- A text gives one flat design, or one note.
use Rattle.std.specs.Prelude.{◌≡◌, ℕ, List, Result}
use Rattle.flat_design.specs.declared.objects.Objects.{Objects}
use Rattle.design_reading.specs.Reading.{Gives}

abbrev pub GivesOnce : Type 0
GivesOnce = (text top : List ℕ) (one other : Result Objects (List ℕ)) → Gives text top one → Gives text top other → one ≡ other
