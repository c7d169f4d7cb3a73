-- The kind that a piece is given.
use Rattle.std.proofs.Common.{◌≡◌, ℕ, suc, ◌-◌, ◌≤◌, Bool, true, false, List, [], ◌∷◌, ◌++◌, length, take, get_or, map, Option, Some, None, refl, sym, ap, subst, ◌∙◌, arith, inl, inr}
use Rattle.std.specs.Prelude.{slice_get}
use Rattle.std.specs.Option.{option_map}
use Rattle.std.specs.List.{list_all}
use Rattle.std.specs.Char.{is_ascii, to_ascii_lowercase, is_ascii_alphanumeric}
use Rattle.std.proofs.lemmas.List.{take_at, length-append}
use Rattle.ams_token.specs.declared.token.TokenKind.{TokenKind}
use Rattle.ams_token.specs.declared.token.TokenKind.TheVariants as kind
use Rattle.ams_token.specs.declared.word.Word.{Word}
use Rattle.ams_token.specs.Spelling.{word_text}
use Rattle.ams_token.specs.NameTable.{with_name}
use Rattle.ams_lexer.specs.declared.numbers.Number.{Number}
use Rattle.ams_lexer.specs.declared.numbers.Number.TheVariants as n
use Rattle.ams_lexer.specs.declared.pieces.Piece.TheVariants as p
use Rattle.ams_lexer.specs.Strings.{between, spelled, undoubled, bit_width, bit_text}
use Rattle.ams_lexer.specs.Pieces.{Lexeme, reserved, name, number, character, string, bits, mark, takes_attribute, Means, IsIdentifier, IsString, IsBits, IsLexeme}
use Rattle.ams_lexer.specs.Texts.{lexeme_of}
use Rattle.ams_lexer.specs.Kinds.{Puts, IsWord, Tells, takes_attribute_kind}
use Rattle.ams_lexer.proofs.StringLaws.{undoubled-spelled}
use Rattle.ams_lexer.proofs.AgainLaws.{ascii_spelled}
use Rattle.ams_lexer.proofs.LineLaws.{run_all, word_ascii}

pub puts_word : (names : List (List ℕ)) (x : Word) (text lower : List ℕ) → text ≡ lower → word_text x ≡ text → (lexeme : Lexeme) × Puts names names (kind.Word x) lexeme × IsWord lower lexeme
puts_word names x text lower same is = (reserved x, record { shows = refl; names = refl }, is ∙ same)

pub puts_name : (old new : List (List ℕ)) (k : ℕ) (text lower : List ℕ) → text ≡ lower → ((x : Word) → word_text x ≡ text → ⊥) → (new ≡ with_name old text) × (slice_get new k ≡ Some text) → (lexeme : Lexeme) × Puts old new (kind.Name k) lexeme × IsWord lower lexeme
puts_name old new k text lower same none put = (name text, record { shows = ap (option_map name) put.1; names = put.0 }, (same, none))

-- ---- pieces

pub tells_blank_separator : (names : List (List ℕ)) (w : List ℕ) → Tells names names p.Separator w None
tells_blank_separator names w = record { lexeme = None; puts = refl; is_piece = λ a rest is. inl is }

pub tells_blank_comment : (names : List (List ℕ)) (w : List ℕ) → Tells names names p.Comment w None
tells_blank_comment names w = record { lexeme = None; puts = refl; is_piece = λ a rest is. inr is }

word_is : (a : Bool) (w rest : List ℕ) (lexeme : Lexeme) → IsWord (map to_ascii_lowercase w) lexeme → IsIdentifier w rest → IsLexeme a lexeme w rest
word_is a w rest (reserved x) word is = (is, word)
word_is a w rest (name text) word is = (is, word.0, word.1)
word_is a w rest (number x) word is = absurd word
word_is a w rest (character c) word is = absurd word
word_is a w rest (string content) word is = absurd word
word_is a w rest (bits content) word is = absurd word
word_is a w rest (mark x) word is = absurd word

pub tells_word : (old new : List (List ℕ)) (k : TokenKind) (w : List ℕ) → (lexeme : Lexeme) × Puts old new k lexeme × IsWord (map to_ascii_lowercase w) lexeme → Tells old new p.Identifier w (Some k)
tells_word old new k w put = record { lexeme = Some put.0; puts = put.1; is_piece = λ a rest is. word_is a w rest put.0 put.2 is }

pub tells_number : (names : List (List ℕ)) (x : Number) (k : TokenKind) (w : List ℕ) → lexeme_of names k ≡ Some (number x) → Tells names names (p.Number x) w (Some k)
tells_number names x k w shows = record { lexeme = Some (number x); puts = record { shows = shows; names = refl }; is_piece = λ a rest is. is }

pub tells_character : (names : List (List ℕ)) (c : ℕ) (w : List ℕ) → Tells names names (p.Character c) w (Some (kind.Char c))
tells_character names c w = record { lexeme = Some (character c); puts = record { shows = refl; names = refl }; is_piece = λ a rest is. is }

pub tells_mark : (names : List (List ℕ)) (x : _) (w : List ℕ) → Tells names names (p.Mark x) w (Some (kind.Mark x))
tells_mark names x w = record { lexeme = Some (mark x); puts = record { shows = refl; names = refl }; is_piece = λ a rest is. is }

-- ---- strings

before_last : (t : List ℕ) (b : ℕ) → take (length (t ++ b ∷ []) - 1) (t ++ b ∷ []) ≡ t
before_last t b = take_at t (b ∷ []) (length (t ++ b ∷ []) - 1) (let l = length-append t (b ∷ []) in omega (arith, l))

string_body : (content w rest : List ℕ) → IsString content w rest → between 1 w ≡ spelled content
string_body content w rest is = ap (between 1) is.text ∙ before_last (spelled content) 34

pub string_ascii : (a : Bool) (w rest : List ℕ) → Means a p.Text w rest → list_all is_ascii (between 1 w) ≡ true
string_ascii a w rest is = ap (list_all is_ascii) (string_body is.0 w rest is.1) ∙ ascii_spelled is.0 is.1.ascii

pub string_content : (content w rest : List ℕ) → IsString content w rest → undoubled false (between 1 w) ≡ content
string_content content w rest is = ap (undoubled false) (string_body content w rest is) ∙ undoubled-spelled content

pub tells_string : (old new : List (List ℕ)) (k : TokenKind) (w : List ℕ) → Puts old new k (string (undoubled false (between 1 w))) → Tells old new p.Text w (Some k)
tells_string old new k w put = record {
  lexeme = Some (string (undoubled false (between 1 w)));
  puts = put;
  is_piece = λ a rest is. subst (λ (c : List ℕ). IsString c w rest) (sym (string_content is.0 w rest is.1)) is.1;
}

bits_body : (content w rest : List ℕ) (is : IsBits content w rest) → between 2 w ≡ is.digits
bits_body content w rest is = ap (between 2) is.text ∙ before_last is.digits 34

pub bits_content : (content w rest : List ℕ) → IsBits content w rest → bit_text (bit_width (get_or w 0 0)) (between 2 w) ≡ content
bits_content content w rest is =
    let letter : get_or w 0 0 ≡ is.letter = ap (λ (t : List ℕ). get_or t 0 0) is.text in
    rw (letter, bits_body content w rest is) (sym is.value)

pub tells_bits : (old new : List (List ℕ)) (k : TokenKind) (w : List ℕ) → Puts old new k (bits (bit_text (bit_width (get_or w 0 0)) (between 2 w))) → Tells old new p.Bits w (Some k)
tells_bits old new k w put = record {
  lexeme = Some (bits (bit_text (bit_width (get_or w 0 0)) (between 2 w)));
  puts = put;
  is_piece = λ a rest is. subst (λ (c : List ℕ). IsBits c w rest) (sym (bits_content is.0 w rest is.1)) is.1;
}

pub long_string : (a : Bool) (w rest : List ℕ) → Means a p.Text w rest → 2 ≤ length w
long_string a w rest is = let l : length w ≡ suc (length (spelled is.0 ++ 34 ∷ [])) = ap length is.1.text in let m = length-append (spelled is.0) (34 ∷ []) in omega (arith, l, m)

pub long_bits : (a : Bool) (w rest : List ℕ) → Means a p.Bits w rest → 3 ≤ length w
long_bits a w rest is = let l : length w ≡ suc (suc (length (is.1.digits ++ 34 ∷ []))) = ap length is.1.text in let m = length-append is.1.digits (34 ∷ []) in omega (arith, l, m)

pub word_is_ascii : (a : Bool) (w rest : List ℕ) → Means a p.Identifier w rest → list_all is_ascii w ≡ true
word_is_ascii a w rest is = run_all is_ascii_alphanumeric is_ascii w word_ascii refl is.run

-- ---- the tick behind a token

some_lexeme : (l m : Lexeme) → Some l ≡ Some m → l ≡ m
some_lexeme l m h = cc

mapped : (f : List ℕ → Lexeme) (t : Bool) → ((text : List ℕ) → takes_attribute (f text) ≡ t) → (o : Option (List ℕ)) (l : Lexeme) → option_map f o ≡ Some l → t ≡ takes_attribute l
mapped f t each None l h = absurd cc
mapped f t each (Some text) l h = sym (each text) ∙ ap takes_attribute (some_lexeme (f text) l h)

pub takes_same : (names : List (List ℕ)) (k : TokenKind) (l : Lexeme) → lexeme_of names k ≡ Some l → takes_attribute_kind k ≡ takes_attribute l
takes_same names (kind.Word x) l h = ap takes_attribute (some_lexeme (reserved x) l h)
takes_same names (kind.Name k) l h = mapped name true (λ _. refl) (slice_get names k) l h
takes_same names (kind.Int x) l h = ap takes_attribute (some_lexeme (number (n.Int x)) l h)
takes_same names (kind.Real x) l h = ap takes_attribute (some_lexeme (number (n.Real x)) l h)
takes_same names (kind.Char c) l h = ap takes_attribute (some_lexeme (character c) l h)
takes_same names (kind.Str k) l h = mapped string false (λ _. refl) (slice_get names k) l h
takes_same names (kind.Bits k) l h = mapped bits false (λ _. refl) (slice_get names k) l h
takes_same names (kind.Mark x) l h = ap takes_attribute (some_lexeme (mark x) l h)
