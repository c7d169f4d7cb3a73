-- Lists of a text's tree, which are no longer than the text.
use Rattle.std.specs.Prelude.{◌≤◌, ℕ, List, length}
use Rattle.std.specs.List.{All}
use Rattle.ams_token.specs.declared.token.Token.{Token}
use Rattle.ams_token.specs.declared.tokens.Tokens.{Tokens}
use Rattle.ams_lexer.specs.Texts.{HasTokens}
use Rattle.ams_tree.specs.Answer.{SpellsWithin}
use Rattle.ams_tree.specs.Designs.{design_file}
use Rattle.ams_tree.specs.declared.concurrent.Concurrent.{Concurrent}
use Rattle.ams_tree.specs.declared.concurrent.ConcurrentStatement.{ConcurrentStatement}
use Rattle.ams_tree.specs.declared.concurrent.ConcurrentStatement.TheVariants as conc
use Rattle.ams_tree.specs.declared.design.Architecture.{Architecture}
use Rattle.ams_tree.specs.declared.design.DesignFile.{DesignFile}
use Rattle.ams_tree.specs.declared.design.DesignUnit.{DesignUnit}
use Rattle.ams_tree.specs.declared.design.DesignUnit.TheVariants as unit

-- the most tokens of a text, which has as many bytes at most
abbrev pub most_tokens : ℕ
most_tokens = 1048576

-- the branches of a choice
abbrev pub BranchesAreFew : ConcurrentStatement → Type 0
BranchesAreFew (conc.If place all last) = length all ≤ most_tokens
BranchesAreFew (conc.Case place x all) = length all ≤ most_tokens
BranchesAreFew x = Unit {0}

pub record IsShort (a : Architecture) : Type 0 where
  pub statements : length a.statements ≤ most_tokens
  pub branches : All (λ (c : Concurrent). BranchesAreFew c.statement) a.statements

abbrev pub UnitIsShort : DesignUnit → Type 0
UnitIsShort (unit.Architecture a) = IsShort a
UnitIsShort u = Unit {0}

pub record TextsWriteShortTrees : Type 0 where
  -- a text has no more tokens than bytes
  pub tokens : (text : List ℕ) (found : Tokens) → HasTokens text found → length found.list.items ≤ length text
  -- a tree that so many tokens spell
  pub trees : (levels operators : ℕ) (file : DesignFile) (ts : List Token) → length ts ≤ most_tokens → SpellsWithin design_file levels operators file ts → All UnitIsShort file.units
