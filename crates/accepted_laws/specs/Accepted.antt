-- A flat design that is accepted is well formed.
use Rattle.std.specs.Prelude.{◌≡◌, ◌≤◌, ℕ, List, length, None, Ok}
use Rattle.ams_token.specs.declared.tokens.Tokens.{Tokens}
use Rattle.ams_lexer.specs.Texts.{HasTokens}
use Rattle.ams_tree.specs.Answer.{SpellsWithin}
use Rattle.ams_tree.specs.Designs.{design_file}
use Rattle.ams_tree.specs.declared.design.DesignFile.{DesignFile}
use Rattle.ams_tree.specs.declared.design.DesignUnit.{DesignUnit}
use Rattle.flat_design.specs.declared.objects.Objects.{Objects}
use Rattle.unit_meaning.specs.Units.{type_fault, nature_fault}
use Rattle.unit_meaning.specs.Drivers.{flattened, unsolvable}
use Rattle.design_rules.specs.Design.{IsDesign}
use Rattle.short_laws.specs.Short.{most_tokens}

-- the tokens of a text that isn't too long, and the file that they spell
pub record IsFileOf (text : List ℕ) (tokens : Tokens) (file : DesignFile) : Type 0 where
  pub short : length text ≤ most_tokens
  pub has : HasTokens text tokens
  pub levels : ℕ
  pub operators : ℕ
  pub spells : SpellsWithin design_file levels operators file tokens.list.items

-- the units with a top give this flat design, and no rule is broken
pub record IsAccepted (texts : List (List ℕ)) (units : List DesignUnit) (top : List ℕ) (objects : Objects) : Type 0 where
  pub types : type_fault texts units ≡ None
  pub natures : nature_fault texts units ≡ None
  pub flat : flattened texts units top ≡ Ok objects
  pub solvable : unsolvable objects ≡ None

-- then it is well formed
abbrev pub AcceptedAreDesigns : Type 0
AcceptedAreDesigns =
    (text : List ℕ) (tokens : Tokens) (file : DesignFile) (top : List ℕ) (objects : Objects)
    → IsFileOf text tokens file → IsAccepted tokens.names file.units top objects → IsDesign objects
