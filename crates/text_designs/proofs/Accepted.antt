-- What is accepted, stage by stage.
use Rattle.std.proofs.Common.{◌≡◌, ◌≤◌, ℕ, List, length, Option, Some, None, Result, Ok, Err, refl, sym, ap, ◌∙◌, subst}
use Rattle.ams_tree.specs.declared.design.DesignUnit.{DesignUnit}
use Rattle.parse_steps.specs.Reply.{most_levels, most_operators}
use Rattle.flat_design.specs.declared.objects.Objects.{Objects}
use Rattle.elab_meaning.specs.declared.fault.Fault.{Fault}
use Rattle.unit_meaning.specs.declared.site.Refusal.{Refusal}
use Rattle.unit_meaning.specs.Units.{type_fault, nature_fault}
use Rattle.unit_meaning.specs.Drivers.{flattened, unsolvable}
use Rattle.short_laws.specs.Short.{most_tokens}
use Rattle.accepted_laws.specs.Accepted.{IsAccepted, AcceptedAreDesigns}
use Rattle.design_rules.specs.Design.{IsDesign}
use Rattle.design_reading.specs.Reading.{counted, solvable, ruled, design_of, TextGives, Gives}
use Rattle.text_designs.specs.Designs.{TextsGiveDesigns}

abbrev given : Objects → Result Objects (List ℕ)
given objects = Ok objects

no_design : {A : Type 0} (note : List ℕ) (objects : Objects) → Err note ≡ given objects → A
no_design note objects h = cc

same_design : (o objects : Objects) → given o ≡ given objects → o ≡ objects
same_design o objects h = cc

module _ (texts : List (List ℕ)) (units : List DesignUnit) (top : List ℕ) (objects : Objects) where
  by_count : (o : Objects) (u : Option ℕ) → type_fault texts units ≡ None → nature_fault texts units ≡ None → flattened texts units top ≡ Ok o → unsolvable o ≡ u
      → counted o u ≡ Ok objects → IsAccepted texts units top objects
  by_count o (Some number) a b c d h = no_design _ objects h
  by_count o None a b c d h =
      let same = same_design o objects h in
      record { types = a; natures = b; flat = c ∙ ap (λ (x : Objects). Ok x) same; solvable = subst (λ (x : Objects). unsolvable x ≡ None) same d }

  by_stage : (t n : Option Fault) (f : Result Objects Refusal) → type_fault texts units ≡ t → nature_fault texts units ≡ n → flattened texts units top ≡ f
      → ruled texts t n (solvable texts f) ≡ Ok objects → IsAccepted texts units top objects
  by_stage (Some x) n f a b c h = no_design _ objects h
  by_stage None (Some x) f a b c h = no_design _ objects h
  by_stage None None (Err r) a b c h = no_design _ objects h
  by_stage None None (Ok o) a b c h = by_count o (unsolvable o) a b c refl h

  accepted : design_of texts units top ≡ Ok objects → IsAccepted texts units top objects
  unfolding design_of
  accepted h = by_stage (type_fault texts units) (nature_fault texts units) (flattened texts units top) refl refl refl h

pub texts_give_designs : AcceptedAreDesigns → TextsGiveDesigns
texts_give_designs law text top objects short g =
    law text g.tokens g.gives.file top objects
    (record { short = short; has = g.has; levels = most_levels; operators = most_operators; spells = g.gives.spells })
    (accepted g.tokens.names g.gives.file.units top objects g.gives.design_is)
