-- Tokens are one design file or have one first fault.
use Rattle.std.specs.Prelude.{◌≡◌, ◌≢◌, List, Err}
use Rattle.ams_token.specs.declared.token.Token.{Token}
use Rattle.ams_tree.specs.declared.design.DesignFile.{DesignFile}
use Rattle.ams_tree.specs.Designs.{design_file}
use Rattle.ams_tree.specs.Answer.{SpellsWithin}
use Rattle.parse_steps.specs.declared.fault.ParseFault.{ParseFault}
use Rattle.parse_steps.specs.declared.fault.ParseFault.TheVariants.{Memory}
use Rattle.parse_steps.specs.Reply.{most_levels, most_operators}
use Rattle.ams_parser.specs.Whole.{AnswersWhole}

-- the tokens are this file, within the limits
abbrev pub IsFile : List Token → DesignFile → Type 0
IsFile tokens file = SpellsWithin design_file most_levels most_operators file tokens

-- the tokens have this first fault
pub record HasFault (tokens : List Token) (fault : ParseFault) : Type 0 where
  pub found : AnswersWhole design_file most_levels most_operators tokens (Err fault)
  pub told : fault ≢ Memory

pub record ReadOnce : Type 0 where
  pub file : (tokens : List Token) (x y : DesignFile) → IsFile tokens x → IsFile tokens y → x ≡ y
  pub fault : (tokens : List Token) (f g : ParseFault) → HasFault tokens f → HasFault tokens g → f ≡ g
  pub either : (tokens : List Token) (x : DesignFile) (f : ParseFault) → IsFile tokens x → HasFault tokens f → ⊥
