-- The limits of a flat design that a walk has left.
use Rattle.std.specs.Prelude.{◌≡◌, ◌≢◌, ◌<◌, ℕ, false, List, length, Option, Some, Ok}
use Rattle.std.specs.List.{slice_get, All, AllPairs, Contains}
use Rattle.ams_tree.specs.declared.design.DesignUnit.{DesignUnit}
use Rattle.flat_design.specs.Flat.{HasNumbers}
use Rattle.flat_design.specs.Lists.{same_threshold}
use Rattle.flat_design.specs.declared.objects.Objects.{Objects}
use Rattle.unit_meaning.specs.declared.site.Site.{Site}
use Rattle.unit_meaning.specs.Drivers.{flattened}
use Rattle.unit_meaning.specs.Walk.{walked}
use Rattle.design_rules.specs.Branches.{HasFewBranches}
use Rattle.design_rules.specs.Design.{KeepsLimits, domain_type}
use Rattle.short_laws.specs.Short.{UnitIsShort}

-- ---- the walk

pub record MadeFew (s : Site) : Type 0 where
  pub equations : length s.objects.equations < 4294967296
  pub branches : All HasFewBranches s.objects.equations

-- the dots and thresholds that have numbers stand once, among those that are counted
pub record IsNumbered (s : Site) : Type 0 where
  pub dots : All (Contains s.dots) s.objects.dots
  pub dots_once : AllPairs (λ a b. a ≢ b) s.objects.dots
  pub thresholds : All (Contains s.thresholds) s.objects.thresholds
  pub thresholds_once : AllPairs (λ a b. same_threshold a b ≡ false) s.objects.thresholds

pub record IsLimited (objects : Objects) : Type 0 where
  pub numbers : HasNumbers objects
  pub limits : KeepsLimits objects
  pub domain : slice_get objects.enumerations 0 ≡ Some domain_type

pub record FlatDesignsKeepLimits : Type 0 where
  pub made : (texts : List (List ℕ)) (units : List DesignUnit) (top : List ℕ) (x : Option ℕ) (s : Site) → All UnitIsShort units → walked texts units top x ≡ Ok s → MadeFew s
  pub whole : (texts : List (List ℕ)) (units : List DesignUnit) (top : List ℕ) (objects : Objects) → All UnitIsShort units → flattened texts units top ≡ Ok objects
      → ((x : Option ℕ) (s : Site) → walked texts units top x ≡ Ok s → IsNumbered s) → IsLimited objects
