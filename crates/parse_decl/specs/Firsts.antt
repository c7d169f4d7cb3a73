-- The tokens that begin a declaration.
use Rattle.std.specs.Prelude.{Option, Some, None}
use Rattle.ams_token.specs.declared.token.Token.{Token}
use Rattle.ams_token.specs.declared.token.TokenKind.{TokenKind}
use Rattle.ams_token.specs.declared.token.TokenKind.TheVariants as kind
use Rattle.ams_token.specs.declared.word.Word.TheVariants as w

abbrev pub declaration_in : TokenKind → Option (Unit {0})
declaration_in (kind.Word w.Signal) = Some tt
declaration_in (kind.Word w.Constant) = Some tt
declaration_in (kind.Word w.Terminal) = Some tt
declaration_in (kind.Word w.Quantity) = Some tt
declaration_in (kind.Word w.Nature) = Some tt
declaration_in (kind.Word w.Type) = Some tt
declaration_in (kind.Word w.Subtype) = Some tt
declaration_in _ = None

-- a token that begins a declaration of an architecture
unfoldable pub begins_declaration : Token → Option (Unit {0})
begins_declaration t = declaration_in t.kind

abbrev pub process_declaration_in : TokenKind → Option (Unit {0})
process_declaration_in (kind.Word w.Variable) = Some tt
process_declaration_in (kind.Word w.Constant) = Some tt
process_declaration_in _ = None

-- a token that begins a declaration of a process
unfoldable pub begins_process_declaration : Token → Option (Unit {0})
begins_process_declaration t = process_declaration_in t.kind
