-- Flat designs at the front of later ones.
use Rattle.std.proofs.Common.{◌≡◌, List, [], ◌∷◌, ◌++◌, Option, Some, IfSome, refl, sym, ap, ◌∙◌, subst, append-nil}
use Rattle.ams_tree.specs.declared.design.Architecture.{Architecture}
use Rattle.ams_tree.specs.declared.design.Entity.{Entity}
use Rattle.flat_design.specs.declared.objects.Signal.{Signal}
use Rattle.flat_design.specs.declared.objects.Quantity.{Quantity}
use Rattle.flat_design.specs.declared.objects.Node.{Node}
use Rattle.flat_design.specs.declared.objects.Equation.{Equation}
use Rattle.flat_design.specs.declared.objects.Process.{Process}
use Rattle.flat_design.specs.declared.objects.Enumeration.{Enumeration}
use Rattle.flat_design.specs.declared.objects.Objects.{Objects}
use Rattle.reading_laws.specs.Growing.{Extends}
use Rattle.object_laws.specs.Adding.{AddsObjects}
use Rattle.object_laws.proofs.Adding.{extends_same, extends_on}
use Rattle.site_laws.specs.Sites.{IsFront}

pub same_front : (o : Objects) → IsFront o o
same_front o =
    record {
      enumerations = extends_same Enumeration o.enumerations;
      signals = extends_same Signal o.signals;
      quantities = extends_same Quantity o.quantities;
      nodes = extends_same Node o.nodes;
      equations = extends_same Equation o.equations;
      processes = extends_same Process o.processes;
      ramps = refl;
    }

pub front_on : (a b c : Objects) → IsFront a b → IsFront b c → IsFront a c
front_on a b c p q =
    record {
      enumerations = extends_on Enumeration a.enumerations b.enumerations c.enumerations p.enumerations q.enumerations;
      signals = extends_on Signal a.signals b.signals c.signals p.signals q.signals;
      quantities = extends_on Quantity a.quantities b.quantities c.quantities p.quantities q.quantities;
      nodes = extends_on Node a.nodes b.nodes c.nodes p.nodes q.nodes;
      equations = extends_on Equation a.equations b.equations c.equations p.equations q.equations;
      processes = extends_on Process a.processes b.processes c.processes p.processes q.processes;
      ramps = q.ramps ∙ p.ramps;
    }

equal_extends : (A : Type 0) (xs ys : List A) → ys ≡ xs → Extends A xs ys
equal_extends A xs ys e = record { more = []; whole = e ∙ sym (append-nil xs) }

pub added_front : (a b : Objects) → AddsObjects a b → IsFront a b
added_front a b h =
    record {
      enumerations = h.enumerations;
      signals = h.signals;
      quantities = h.quantities;
      nodes = h.nodes;
      equations = equal_extends Equation a.equations b.equations h.equations;
      processes = equal_extends Process a.processes b.processes h.processes;
      ramps = h.ramps;
    }
