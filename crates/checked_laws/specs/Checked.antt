-- What the tests behind the walk tell of a flat design.
use Rattle.std.specs.Prelude.{◌≡◌, ◌≤◌, ◌<◌, ◌≢◌, ℕ, List, length, position, Option, None, Ok}
use Rattle.std.specs.List.{flat_map, All, AllPairs}
use Rattle.std.specs.Str.{bytes_eq}
use Rattle.ams_tree.specs.declared.design.DesignUnit.{DesignUnit}
use Rattle.flat_design.specs.Limits.{frame_limit}
use Rattle.flat_design.specs.Reads.{frame_of}
use Rattle.flat_design.specs.declared.objects.Objects.{Objects}
use Rattle.flat_design.specs.declared.objects.Process.{Process}
use Rattle.unit_meaning.specs.declared.site.Site.{Site}
use Rattle.unit_meaning.specs.Walk.{walked}
use Rattle.unit_meaning.specs.Drivers.{doubly_driven, flattened, unsolvable}
use Rattle.design_rules.specs.Design.{IsSolvable}

-- a process has a driver once, of a signal that there is
pub record HasDrivers (objects : Objects) (p : Process) : Type 0 where
  pub signals : All (λ i. i < length objects.signals) p.drivers
  pub once : AllPairs (λ a b. a ≢ b) p.drivers

-- a signal has one driver at most
abbrev pub DriversOnce : Objects → Type 0
DriversOnce objects = AllPairs (λ a b. a ≢ b) (flat_map (λ (p : Process). p.drivers) objects.processes)

-- a flat design is what the walk has made, and keeps what is asked of it behind
pub record IsFlattened (texts : List (List ℕ)) (units : List DesignUnit) (top : List ℕ) (objects : Objects) : Type 0 where
  pub site : Site
  pub walked_is : walked texts units top (position (bytes_eq top) texts) ≡ Ok site
  pub objects_are : site.objects ≡ objects
  pub drivers : All (HasDrivers objects) objects.processes → DriversOnce objects
  pub frame : length (frame_of objects) ≤ frame_limit

pub record FlatDesignsAreChecked : Type 0 where
  pub flat : (texts : List (List ℕ)) (units : List DesignUnit) (top : List ℕ) (objects : Objects) → flattened texts units top ≡ Ok objects → IsFlattened texts units top objects
  pub drivers : (objects : Objects) → doubly_driven objects ≡ None → All (HasDrivers objects) objects.processes → DriversOnce objects
  pub instances : (objects : Objects) → unsolvable objects ≡ None → All IsSolvable objects.instances
