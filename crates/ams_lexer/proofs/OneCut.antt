-- A text is cut in one way.
use Rattle.std.proofs.Common.{◌≡◌, ℕ, ◌+◌, ◌≤◌, Bool, true, false, List, [], ◌∷◌, ◌++◌, length, take, drop, get_or, map, Option, Some, None, Result, Ok, Err, refl, sym, ap, subst, ◌∙◌, arith, inl, inr}
use Rattle.std.proofs.lemmas.List.{take_at, drop_at, length-append}
use Rattle.std.specs.Char.{to_ascii_lowercase}
use Rattle.ams_token.specs.declared.word.Word.{Word}
use Rattle.ams_token.specs.Spelling.{word_text}
use Rattle.ams_lexer.specs.declared.pieces.Piece.{Piece}
use Rattle.ams_lexer.specs.declared.pieces.Piece.TheVariants as p
use Rattle.ams_lexer.specs.declared.pieces.Cause.{Cause}
use Rattle.ams_lexer.specs.declared.pieces.Cause.TheVariants as cause
use Rattle.ams_lexer.specs.Runs.{begins}
use Rattle.ams_lexer.specs.Numbers.{digit}
use Rattle.ams_lexer.specs.Strings.{between, undoubled, bit_text, bit_width}
use Rattle.ams_lexer.specs.Pieces.{Lexeme, reserved, name, number, character, string, bits, mark, Means, IsLexeme, HasFault, is_wide, found, refused}
use Rattle.std.specs.Prelude.{IfOk, IfErr, IsErrAnd}
use Rattle.ams_token.specs.declared.token.Place.{Place}
use Rattle.ams_token.specs.declared.tokens.Tokens.{Tokens}
use Rattle.ams_lexer.specs.declared.fault.LexFault.{LexFault}
use Rattle.ams_lexer.specs.declared.fault.LexFault.TheVariants as fault
use Rattle.ams_lexer.specs.Texts.{StopsAt, HasTokens, IsFaultOf, IsRefusal, fault_of, fault_place, Cut, IsPiece, attribute_after, IsCut}
use Rattle.ams_lexer.proofs.AgainLaws.{reading, again, again_fault}
use Rattle.ams_lexer.proofs.KindLaws.{string_content, bits_content}
use Rattle.ams_lexer.proofs.LineLaws.{takes_some}
use Rattle.ams_token.proofs.WordLaws.{find_word, found_text, word_found}

-- ---- what a piece and its bytes say of the token

-- the word of this text, or its name
abbrev pub word_or_name : Option Word → List ℕ → Lexeme
word_or_name (Some x) text = reserved x
word_or_name None text = name text

abbrev pub lexeme_by : Piece → List ℕ → Option Lexeme
lexeme_by p.Separator w = None
lexeme_by p.Comment w = None
lexeme_by p.Identifier w = Some (word_or_name (find_word (map to_ascii_lowercase w)) (map to_ascii_lowercase w))
lexeme_by (p.Number x) w = Some (number x)
lexeme_by (p.Character c) w = Some (character c)
lexeme_by p.Text w = Some (string (undoubled false (between 1 w)))
lexeme_by p.Bits w = Some (bits (bit_text (bit_width (get_or w 0 0)) (between 2 w)))
lexeme_by (p.Mark x) w = Some (mark x)

no_word_if : (text : List ℕ) (o : Option Word) → find_word text ≡ o → ((x : Word) → word_text x ≡ text → ⊥) → o ≡ None
no_word_if text None h none = refl
no_word_if text (Some x) h none = absurd (none x (found_text text x h))

pub record Named (a : Bool) (w rest : List ℕ) (l : Option Lexeme) : Type 0 where
  pub piece : Piece
  pub means : Means a piece w rest
  pub lexeme : lexeme_by piece w ≡ l

named_lexeme : (a : Bool) (w rest : List ℕ) (l : Lexeme) → IsLexeme a l w rest → Named a w rest (Some l)
named_lexeme a w rest (reserved x) is = record { piece = p.Identifier; means = is.0; lexeme = rw (word_found x (map to_ascii_lowercase w) is.1) refl }
named_lexeme a w rest (name text) is =
    let none : find_word text ≡ None = no_word_if text (find_word text) refl is.2 in
    let at : find_word (map to_ascii_lowercase w) ≡ None = ap find_word (sym is.1) ∙ none in
    record { piece = p.Identifier; means = is.0; lexeme = ap (λ (o : Option Word). Some (word_or_name o (map to_ascii_lowercase w))) at ∙ ap (λ (t : List ℕ). Some (name t)) (sym is.1) }
named_lexeme a w rest (number x) is = record { piece = p.Number x; means = is; lexeme = refl }
named_lexeme a w rest (character c) is = record { piece = p.Character c; means = is; lexeme = refl }
named_lexeme a w rest (string content) is = record { piece = p.Text; means = (content, is); lexeme = ap (λ (t : List ℕ). Some (string t)) (string_content content w rest is) }
named_lexeme a w rest (bits content) is = record { piece = p.Bits; means = (content, is); lexeme = ap (λ (t : List ℕ). Some (bits t)) (bits_content content w rest is) }
named_lexeme a w rest (mark x) is = record { piece = p.Mark x; means = is; lexeme = refl }

named : (a : Bool) (w rest : List ℕ) (l : Option Lexeme) → IsPiece a w rest l → Named a w rest l
named a w rest None (inl is) = record { piece = p.Separator; means = is; lexeme = refl }
named a w rest None (inr is) = record { piece = p.Comment; means = is; lexeme = refl }
named a w rest (Some l) is = named_lexeme a w rest l is

-- ---- one piece

abbrev piece_pair : Piece → ℕ → Piece × ℕ
piece_pair x m = (x, m)

found_same : (x y : Piece) (m n : ℕ) → found x m ≡ found y n → (x ≡ y) × (m ≡ n)
found_same x y m n h = let e : piece_pair x m ≡ piece_pair y n = cc in (ap (λ (q : Piece × ℕ). q.0) e, ap (λ (q : Piece × ℕ). q.1) e)

abbrev fault_pair : Cause → ℕ → Cause × ℕ
fault_pair x m = (x, m)

refused_same : (x y : Cause) (m n : ℕ) → refused x m ≡ refused y n → fault_pair x m ≡ fault_pair y n
refused_same x y m n h = cc

not_both : (x : Piece) (y : Cause) (m n : ℕ) → found x m ≡ refused y n → ⊥
not_both x y m n h = cc

record Same (w v rest more : List ℕ) (l m : Option Lexeme) : Type 0 where
  bytes : w ≡ v
  behind : rest ≡ more
  lexeme : l ≡ m

same_piece : (a : Bool) (w v rest more : List ℕ) (l m : Option Lexeme) → IsPiece a w rest l → IsPiece a v more m → w ++ rest ≡ v ++ more → Same w v rest more l m
same_piece a w v rest more l m is other e =
    let x = named a w rest l is in
    let y = named a v more m other in
    let same = found_same x.piece y.piece (length w) (length v) (sym (again a x.piece w rest x.means) ∙ ap (reading a) e ∙ again a y.piece v more y.means) in
    let bytes : w ≡ v = sym (take_at w rest (length w) refl) ∙ ap (take (length w)) e ∙ take_at v more (length w) (sym same.1) in
    record {
      bytes = bytes;
      behind = sym (drop_at w rest (length w) refl) ∙ ap (drop (length w)) e ∙ drop_at v more (length w) (sym same.1);
      lexeme = sym x.lexeme ∙ ap (λ (q : Piece). lexeme_by q w) same.0 ∙ ap (lexeme_by y.piece) bytes ∙ y.lexeme;
    }

piece_some : (a : Bool) (w rest : List ℕ) (l : Option Lexeme) → IsPiece a w rest l → 1 ≤ length w
piece_some a w rest l is = let x = named a w rest l is in takes_some a x.piece w rest x.means

piece_no_end : (a : Bool) (bs w rest : List ℕ) (l : Option Lexeme) → IsPiece a w rest l → bs ≡ w ++ rest → bs ≡ [] → ⊥
piece_no_end a bs w rest l is e none =
    let some = piece_some a w rest l is in
    let size : 0 ≡ length w + length rest = ap length (sym none ∙ e) ∙ length-append w rest in
    absurd (omega arith)

piece_no_fault : (a : Bool) (bs w rest : List ℕ) (l : Option Lexeme) (x : Cause × ℕ) → IsPiece a w rest l → bs ≡ w ++ rest → HasFault bs x.0 x.1 → ⊥
piece_no_fault a bs w rest l x is e fault =
    let y = named a w rest l is in
    not_both y.piece x.0 (length w) x.1 (sym (again a y.piece w rest y.means) ∙ ap (reading a) (sym e) ∙ again_fault a bs x.0 x.1 fault)

-- no fault stands at the end
fault_some : (bs : List ℕ) (x : Cause) (n : ℕ) → HasFault bs x n → bs ≡ [] → ⊥
fault_some bs cause.NotAscii n (inl e) none = let t : false ≡ true = ap (begins is_wide) (sym none) ∙ e.0 in cc
fault_some bs cause.NotAscii n (inr (inl e)) none = let t = sym none ∙ e.text in cc
fault_some bs cause.NotAscii n (inr (inr e)) none = let t = sym none ∙ e.text in cc
fault_some bs cause.BadLiteral n e none = elim e.0 [ inl d ↦ absurd (let t : false ≡ true = ap (begins (digit 10)) (sym none) ∙ d.digit_first in cc) | inr d ↦ absurd (let t = sym none ∙ d.text in cc) ]
fault_some bs cause.UnclosedString n (inl e) none = let t = sym none ∙ e.0.text in cc
fault_some bs cause.UnclosedString n (inr e) none = let t = sym none ∙ e.0.text in cc
fault_some bs cause.BadCharacter n e none = let t = sym none ∙ e.0.text in cc

-- ---- the whole text

abbrev record_of : List ℕ → Option Lexeme → Cut
record_of w l = record { bytes = w; lexeme = l }

cut_of : (w v : List ℕ) (l m : Option Lexeme) → w ≡ v → l ≡ m → record_of w l ≡ record_of v m
cut_of w v l m e f = cc

cut_same : (c d : Cut) → c.bytes ≡ d.bytes → c.lexeme ≡ d.lexeme → c ≡ d
cut_same c d e f = cut_of c.bytes d.bytes c.lexeme d.lexeme e f

pub record SameCut (cuts others : List Cut) (end other : Option (Cause × ℕ)) : Type 0 where
  pub pieces : cuts ≡ others
  pub ending : end ≡ other

pub one_cut : (cuts others : List Cut) (a : Bool) (bs : List ℕ) (end other : Option (Cause × ℕ)) → IsCut a bs cuts end → IsCut a bs others other → SameCut cuts others end other
one_cut [] [] a bs None None is also = record { pieces = refl; ending = refl }
one_cut [] [] a bs None (Some y) is also = absurd (fault_some bs y.0 y.1 also is)
one_cut [] [] a bs (Some x) None is also = absurd (fault_some bs x.0 x.1 is also)
one_cut [] [] a bs (Some x) (Some y) is also = record { pieces = refl; ending = ap (λ (q : Cause × ℕ). Some q) (refused_same x.0 y.0 x.1 y.1 (sym (again_fault a bs x.0 x.1 is) ∙ again_fault a bs y.0 y.1 also)) }
one_cut [] (d ∷ others) a bs None other is also = absurd (piece_no_end a bs d.bytes also.0 d.lexeme also.2 also.1 is)
one_cut [] (d ∷ others) a bs (Some x) other is also = absurd (piece_no_fault a bs d.bytes also.0 d.lexeme x also.2 also.1 is)
one_cut (c ∷ cuts) [] a bs end None is also = absurd (piece_no_end a bs c.bytes is.0 c.lexeme is.2 is.1 also)
one_cut (c ∷ cuts) [] a bs end (Some y) is also = absurd (piece_no_fault a bs c.bytes is.0 c.lexeme y is.2 is.1 also)
one_cut (c ∷ cuts) (d ∷ others) a bs end other is also =
    let same = same_piece a c.bytes d.bytes is.0 also.0 c.lexeme d.lexeme is.2 also.2 (sym is.1 ∙ also.1) in
    let rest : IsCut (attribute_after a c.lexeme) is.0 others other = subst (λ (t : List ℕ). IsCut (attribute_after a c.lexeme) t others other) (sym same.behind) (subst (λ (q : Option Lexeme). IsCut (attribute_after a q) also.0 others other) (sym same.lexeme) also.3) in
    let more = one_cut cuts others (attribute_after a c.lexeme) is.0 end other is.3 rest in
    let first : c ≡ d = cut_same c d same.bytes same.lexeme in
    record { pieces = rw (first, more.pieces) refl; ending = more.ending }

-- ---- the answer

stops_once : (text : List ℕ) (x y : Cause) (place : Place) (cuts : List Cut) (offset : ℕ) → StopsAt text y place → IsCut false text cuts (Some (fault_pair x offset)) → fault_of y place ≡ fault_of x (fault_place text cuts offset)
stops_once text x y place cuts offset stops is =
    let same = one_cut stops.cuts cuts false text (Some (fault_pair y stops.offset)) (Some (fault_pair x offset)) stops.is_cut is in
    let pair : fault_pair y stops.offset ≡ fault_pair x offset = let e = same.ending in cc in
    let at : fault_place text stops.cuts stops.offset ≡ fault_place text cuts offset = ap (λ (c : List Cut). fault_place text c stops.offset) same.pieces ∙ ap (λ (q : Cause × ℕ). fault_place text cuts q.1) pair in
    ap (λ (q : Cause × ℕ). fault_of q.0 place) pair ∙ ap (fault_of x) (stops.is_place ∙ at)

stops_no_end : (text : List ℕ) (y : Cause) (place : Place) (cuts : List Cut) → StopsAt text y place → IsCut false text cuts None → ⊥
stops_no_end text y place cuts stops is =
    let same = one_cut stops.cuts cuts false text (Some (fault_pair y stops.offset)) None stops.is_cut is in
    let e = same.ending in cc

pub accepted_only : (text : List ℕ) (result : Result Tokens LexFault) (cuts : List Cut) → IfErr result (IsFaultOf text) → IsCut false text cuts None → IfErr result (λ e. e ≡ fault.Memory)
accepted_only text (Ok t) cuts h is = tt
accepted_only text (Err (fault.BadCharacter place)) cuts h is = absurd (stops_no_end text cause.BadCharacter place cuts h is)
accepted_only text (Err (fault.BadLiteral place)) cuts h is = absurd (stops_no_end text cause.BadLiteral place cuts h is)
accepted_only text (Err (fault.UnclosedString place)) cuts h is = absurd (stops_no_end text cause.UnclosedString place cuts h is)
accepted_only text (Err (fault.NotAscii place)) cuts h is = absurd (stops_no_end text cause.NotAscii place cuts h is)
accepted_only text (Err fault.Memory) cuts h is = refl

pub refused_only : (text : List ℕ) (result : Result Tokens LexFault) (cuts : List Cut) (x : Cause) (offset : ℕ) → IfOk result (HasTokens text) → IfErr result (IsFaultOf text) → IsCut false text cuts (Some (fault_pair x offset)) → IsErrAnd result (IsRefusal x (fault_place text cuts offset))
refused_only text (Ok t) cuts x offset ok h is = absurd (let same = one_cut ok.cuts cuts false text None (Some (fault_pair x offset)) ok.is_cut is in let e = same.ending in cc)
refused_only text (Err (fault.BadCharacter place)) cuts x offset ok h is = inr (stops_once text x cause.BadCharacter place cuts offset h is)
refused_only text (Err (fault.BadLiteral place)) cuts x offset ok h is = inr (stops_once text x cause.BadLiteral place cuts offset h is)
refused_only text (Err (fault.UnclosedString place)) cuts x offset ok h is = inr (stops_once text x cause.UnclosedString place cuts offset h is)
refused_only text (Err (fault.NotAscii place)) cuts x offset ok h is = inr (stops_once text x cause.NotAscii place cuts offset h is)
refused_only text (Err fault.Memory) cuts x offset ok h is = inl refl
