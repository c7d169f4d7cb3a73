-- What entering an instance leaves of the flat design so far.
use Rattle.std.specs.Prelude.{◌≡◌, ℕ, List, IfSome}
use Rattle.ams_tree.specs.declared.design.Architecture.{Architecture}
use Rattle.ams_tree.specs.declared.design.Entity.{Entity}
use Rattle.flat_design.specs.declared.objects.Signal.{Signal}
use Rattle.flat_design.specs.declared.objects.Quantity.{Quantity}
use Rattle.flat_design.specs.declared.objects.Node.{Node}
use Rattle.flat_design.specs.declared.objects.Enumeration.{Enumeration}
use Rattle.flat_design.specs.declared.objects.Objects.{Objects}
use Rattle.elab_meaning.specs.declared.book.Book.{Book}
use Rattle.unit_meaning.specs.declared.request.Request.{Request}
use Rattle.unit_meaning.specs.declared.site.Site.{Site}
use Rattle.unit_meaning.specs.Units.{opened}
use Rattle.unit_meaning.specs.Walk.{Entry, entry_of_instance}
use Rattle.reading_laws.specs.Growing.{Extends}

-- signals, quantities, nodes and enumeration types are added behind those that there are; all else stays
pub record AddsObjects (old new : Objects) : Type 0 where
  pub enumerations : Extends Enumeration old.enumerations new.enumerations
  pub signals : Extends Signal old.signals new.signals
  pub quantities : Extends Quantity old.quantities new.quantities
  pub nodes : Extends Node old.nodes new.nodes
  pub equations : new.equations ≡ old.equations
  pub dots : new.dots ≡ old.dots
  pub thresholds : new.thresholds ≡ old.thresholds
  pub processes : new.processes ≡ old.processes
  pub instances : new.instances ≡ old.instances
  pub ramps : new.ramps ≡ old.ramps

-- whatever rules are broken
pub record EnteringAddsObjects : Type 0 where
  pub declarations : (texts : List (List ℕ)) (a : Architecture) (b : Book) → AddsObjects b.objects (opened texts a b).objects
  pub interface : (texts : List (List ℕ)) (r : Request) (e : Entity) (s : Site)
      → IfSome (entry_of_instance texts r e s) (λ (entry : Entry). AddsObjects s.objects entry.book.objects)
