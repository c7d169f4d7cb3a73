use Rattle.std.proofs.Common.{ℕ, false, List, get_or, ap, subst, ◌∙◌}
use Rattle.std.specs.List.{list_all}
use Rattle.std.specs.Char.{is_ascii}
use Rattle.ams_lexer.specs.declared.pieces.Piece.{Piece}
use Rattle.ams_lexer.specs.Pieces.{bits, string, Means}
use Rattle.ams_lexer.specs.Strings.{bit_text, bit_width, undoubled}
use Rattle.ams_lexer.specs.Kinds.{Puts}
use Rattle.ams_lexer.proofs.KindLaws.{tells_word, tells_number, tells_character, tells_mark, tells_string, tells_bits, string_ascii, word_is_ascii}
use Rattle.ams_lexer.proofs.kinds.kind_of.Goals as goal

pub identifier_kind-requires : goal.identifier_kind-requires
identifier_kind-requires c =
    let w = c.args.bytes.now in
    word_is_ascii c.requires.0 w c.requires.1 (subst (λ (x : Piece). Means c.requires.0 x w c.requires.1) c.in-Identifier.is c.requires.2)

pub string_kind-requires : goal.string_kind-requires
string_kind-requires c =
    let w = c.args.bytes.now in
    ap (list_all is_ascii) c.between.ensures ∙ string_ascii c.requires.0 w c.requires.1 (subst (λ (x : Piece). Means c.requires.0 x w c.requires.1) c.in-Text.is c.requires.2)

pub returns-in_ok-kind-in-Identifier : goal.returns-in_ok-kind-in-Identifier
returns-in_ok-kind-in-Identifier c = rw c.in-Identifier.is (tells_word c.args.names.now c.identifier_kind.new.names c.in_ok-kind-in-Identifier.kind c.args.bytes.now c.in_ok-kind-in-Identifier.ensures)

pub returns-in-Number : goal.returns-in-Number
returns-in-Number c = rw c.in-Number.is (tells_number c.args.names.now c.in-Number.number c.number_kind-kind.result c.args.bytes.now (c.number_kind-kind.ensures c.args.names.now))

pub returns-in-Character : goal.returns-in-Character
returns-in-Character c = rw c.in-Character.is (tells_character c.args.names.now c.in-Character.byte c.args.bytes.now)

pub returns-in_ok-kind-in-Text : goal.returns-in_ok-kind-in-Text
returns-in_ok-kind-in-Text c =
    let k = c.in_ok-kind-in-Text.kind in
    let put = subst (λ (t : List ℕ). Puts c.args.names.now c.string_kind.new.names k (string (undoubled false t))) c.between.ensures c.in_ok-kind-in-Text.ensures in
    rw c.in-Text.is (tells_string c.args.names.now c.string_kind.new.names k c.args.bytes.now put)

pub returns-in_ok-kind-in-Bits : goal.returns-in_ok-kind-in-Bits
returns-in_ok-kind-in-Bits c =
    let k = c.in_ok-kind-in-Bits.kind in
    let put = subst (λ (t : List ℕ). Puts c.args.names.now c.bits_kind.new.names k (bits (bit_text (bit_width (get_or c.args.bytes.now 0 0)) t))) c.between-in-Bits.ensures c.in_ok-kind-in-Bits.ensures in
    rw c.in-Bits.is (tells_bits c.args.names.now c.bits_kind.new.names k c.args.bytes.now put)

pub returns-in-Mark : goal.returns-in-Mark
returns-in-Mark c = rw c.in-Mark.is (tells_mark c.args.names.now c.in-Mark.mark c.args.bytes.now)
