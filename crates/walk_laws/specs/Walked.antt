-- What holds of the flat design that a walk has made.
use Rattle.std.specs.Prelude.{◌≡◌, ℕ, List, Option, Ok}
use Rattle.ams_tree.specs.declared.design.DesignUnit.{DesignUnit}
use Rattle.unit_meaning.specs.declared.site.Site.{Site}
use Rattle.unit_meaning.specs.Walk.{walked}
use Rattle.walk_laws.specs.Steps.{IsWithin}

abbrev pub WalkKeepsLimits : Type 0
WalkKeepsLimits = (texts : List (List ℕ)) (units : List DesignUnit) (top : List ℕ) (x : Option ℕ) (s : Site) → walked texts units top x ≡ Ok s → IsWithin s
