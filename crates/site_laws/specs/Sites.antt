-- What holds of the flat design that a walk leaves.
use Rattle.std.specs.Prelude.{◌≡◌, ◌≤◌, ℕ, List, [], length, Option, Some, Ok}
use Rattle.std.specs.List.{slice_get}
use Rattle.ams_tree.specs.declared.design.DesignUnit.{DesignUnit}
use Rattle.flat_design.specs.Limits.{process_limit, instance_limit}
use Rattle.flat_design.specs.declared.objects.Signal.{Signal}
use Rattle.flat_design.specs.declared.objects.Quantity.{Quantity}
use Rattle.flat_design.specs.declared.objects.Node.{Node}
use Rattle.flat_design.specs.declared.objects.Equation.{Equation}
use Rattle.flat_design.specs.declared.objects.Process.{Process}
use Rattle.flat_design.specs.declared.objects.Enumeration.{Enumeration}
use Rattle.flat_design.specs.declared.objects.Objects.{Objects}
use Rattle.unit_meaning.specs.declared.request.Request.{Request}
use Rattle.unit_meaning.specs.declared.site.Site.{Site}
use Rattle.unit_meaning.specs.Walk.{enter, walked}
use Rattle.design_rules.specs.Design.{domain_type}
use Rattle.reading_laws.specs.Growing.{Extends}
use Rattle.walk_laws.specs.Steps.{IsWithin}

-- the lists of a flat design stand at the front of those of a later one
pub record IsFront (early late : Objects) : Type 0 where
  pub enumerations : Extends Enumeration early.enumerations late.enumerations
  pub signals : Extends Signal early.signals late.signals
  pub quantities : Extends Quantity early.quantities late.quantities
  pub nodes : Extends Node early.nodes late.nodes
  pub equations : Extends Equation early.equations late.equations
  pub processes : Extends Process early.processes late.processes
  pub ramps : late.ramps ≡ early.ramps

pub record WalkedSite (s : Site) : Type 0 where
  pub within : IsWithin s
  pub processes : length s.objects.processes ≤ process_limit
  pub instances : length s.objects.instances ≤ instance_limit
  pub domain : slice_get s.objects.enumerations 0 ≡ Some domain_type
  pub ramps : s.objects.ramps ≡ []

pub record WalkedSitesHold : Type 0 where
  -- an instance with all inside it only adds objects
  pub front : (texts : List (List ℕ)) (units : List DesignUnit) (depth : ℕ) (above : List ℕ) (r : Request) (s t : Site)
      → enter texts units depth above r s ≡ Ok t → IsFront s.objects t.objects
  pub whole : (texts : List (List ℕ)) (units : List DesignUnit) (top : List ℕ) (x : Option ℕ) (s : Site) → walked texts units top x ≡ Ok s → WalkedSite s
