-- The numbers of the messages that refuse a text.
use Rattle.std.specs.Prelude.{ℕ, Option, Some, None}
use Rattle.message_codes.specs.Codes.{bad_character, bad_literal, unclosed_string, not_ascii}
use Rattle.ams_lexer.specs.declared.fault.LexFault.{LexFault}
use Rattle.ams_lexer.specs.declared.fault.LexFault.TheVariants.{BadCharacter, BadLiteral, UnclosedString, NotAscii, Memory}

abbrev pub code_of : LexFault → Option ℕ
code_of (BadCharacter place) = Some bad_character
code_of (BadLiteral place) = Some bad_literal
code_of (UnclosedString place) = Some unclosed_string
code_of (NotAscii place) = Some not_ascii
code_of Memory = None
