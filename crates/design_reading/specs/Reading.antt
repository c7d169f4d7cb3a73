-- What a text with the name of its top is read as: a flat design, or the note of its first refusal. The stages in order are
-- tokens, design file, types, natures, flattening and count.
use Rattle.std.specs.Prelude.{◌≡◌, ◌≢◌, ℕ, List, Option, Some, None, Result, Ok, Err, ◌⊎◌}
use Rattle.ams_token.specs.declared.tokens.Tokens.{Tokens}
use Rattle.ams_tree.specs.declared.design.DesignFile.{DesignFile}
use Rattle.ams_tree.specs.declared.design.DesignUnit.{DesignUnit}
use Rattle.ams_tree.specs.Designs as grammar
use Rattle.ams_tree.specs.Answer.{SpellsWithin}
use Rattle.ams_lexer.specs.declared.fault.LexFault.{LexFault}
use Rattle.ams_lexer.specs.declared.fault.LexFault.TheVariants as lexing
use Rattle.ams_lexer.specs.Texts.{HasTokens, IsFaultOf}
use Rattle.parse_steps.specs.declared.fault.ParseFault.{ParseFault}
use Rattle.parse_steps.specs.declared.fault.ParseFault.TheVariants as parsing
use Rattle.parse_steps.specs.Reply.{most_levels, most_operators}
use Rattle.ams_parser.specs.Whole.{AnswersWhole}
use Rattle.flat_design.specs.declared.objects.Objects.{Objects}
use Rattle.elab_meaning.specs.declared.fault.Fault.{Fault}
use Rattle.unit_meaning.specs.declared.site.Refusal.{Refusal}
use Rattle.unit_meaning.specs.Units.{type_fault, nature_fault}
use Rattle.unit_meaning.specs.Drivers.{flattened, unsolvable}
use Rattle.refusal_note.specs.Notes.{lex_note, parse_note, fault_note, refusal_note, unsolvable_note}
use Rattle.design_reading.specs.declared.unread.Unread.{Unread}
use Rattle.design_reading.specs.declared.unread.Unread.TheVariants.{Refused, Memory}

-- ---- from a file on

-- each instance has as many equations as unknowns
abbrev pub counted : Objects → Option ℕ → Result Objects (List ℕ)
counted objects None = Ok objects
counted objects (Some number) = Err (unsolvable_note objects number)

abbrev pub solvable : List (List ℕ) → Result Objects Refusal → Result Objects (List ℕ)
solvable texts (Ok objects) = counted objects (unsolvable objects)
solvable texts (Err refusal) = Err (refusal_note texts refusal)

-- a broken rule of types comes before one of natures, and both before what is behind them
abbrev pub ruled : List (List ℕ) → Option Fault → Option Fault → Result Objects (List ℕ) → Result Objects (List ℕ)
ruled texts (Some fault) natures behind = Err (fault_note texts fault)
ruled texts None (Some fault) behind = Err (fault_note texts fault)
ruled texts None None behind = behind

-- the flat design of a top in the units of a file, or the note of the first refusal
unfoldable pub design_of : List (List ℕ) → List DesignUnit → List ℕ → Result Objects (List ℕ)
design_of texts units top =
    ruled texts (type_fault texts units) (nature_fault texts units) (solvable texts (flattened texts units top))

-- ---- up to a file

-- the text has no tokens
pub record NoTokens (text note : List ℕ) : Type 0 where
  pub fault : LexFault
  pub found : IsFaultOf text fault
  pub told : fault ≢ lexing.Memory
  pub note_is : note ≡ lex_note fault

-- the tokens are no design file within the limits
pub record NoFile (tokens : Tokens) (note : List ℕ) : Type 0 where
  pub fault : ParseFault
  pub found : AnswersWhole grammar.design_file most_levels most_operators tokens.list.items (Err fault)
  pub told : fault ≢ parsing.Memory
  pub note_is : note ≡ parse_note tokens fault

-- the tokens are a design file within the limits, and the design of the top in it is this
pub record FileGives (tokens : Tokens) (top : List ℕ) (design : Result Objects (List ℕ)) : Type 0 where
  pub file : DesignFile
  pub spells : SpellsWithin grammar.design_file most_levels most_operators file tokens.list.items
  pub design_is : design_of tokens.names file.units top ≡ design

-- tokens give a flat design, or a note
abbrev pub TokensGive : Tokens → List ℕ → Result Objects (List ℕ) → Type 0
TokensGive tokens top (Ok objects) = FileGives tokens top (Ok objects)
TokensGive tokens top (Err note) = NoFile tokens note ⊎ FileGives tokens top (Err note)

pub record TextGives (text top : List ℕ) (design : Result Objects (List ℕ)) : Type 0 where
  pub tokens : Tokens
  pub has : HasTokens text tokens
  pub gives : TokensGive tokens top design

-- a text gives a flat design, or a note
abbrev pub Gives : List ℕ → List ℕ → Result Objects (List ℕ) → Type 0
Gives text top (Ok objects) = TextGives text top (Ok objects)
Gives text top (Err note) = NoTokens text note ⊎ TextGives text top (Err note)

-- ---- what calls answer

-- this flat design or this note, unless memory ran out
abbrev pub Reads : (Result Objects (List ℕ) → Type 0) → Result Objects Unread → Type 0
Reads P (Ok objects) = P (Ok objects)
Reads P (Err (Refused note)) = P (Err note.items)
Reads P (Err Memory) = Unit {0}

-- this note, unless memory ran out
abbrev pub Notes : (List ℕ → Type 0) → Unread → Type 0
Notes P (Refused note) = P note.items
Notes P Memory = Unit {0}
