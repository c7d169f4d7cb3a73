-- What stands at a place is read there.
use Rattle.std.proofs.Common.{◌≡◌, ℕ, suc, ◌+◌, ◌^◌, ◌≤◌, Bool, true, false, cond, not, ◌&&◌, ◌||◌, eqb, ltb, List, [], ◌∷◌, ◌++◌, length, Option, Some, None, refl, sym, ap, subst, ◌∙◌, arith, inl, inr, append_assoc}
use Rattle.std.proofs.lemmas.Bool.{cond_both, or_cases, and_parts, and_from, and_left, cases_Bool, eq-eqb, ne_eqb, le-leb, not-true, not_from_false, not_from_true, cases_eq, ltb-true, ltb-false}
use Rattle.std.proofs.Math.Nat.{pow-le-pow_right}
use Rattle.std.proofs.lemmas.List.{take_at, drop_at, length-append}
use Rattle.std.specs.List.{list_all}
use Rattle.std.specs.Char.{digit_value, is_ascii, is_ascii_alphabetic, is_ascii_alphanumeric}
use Rattle.ams_token.specs.declared.mark.Mark.{Mark}
use Rattle.ams_token.specs.declared.mark.Mark.TheVariants as m
use Rattle.ams_token.specs.Spelling.{mark_text}
use Rattle.ams_lexer.specs.declared.numbers.Number.{Number}
use Rattle.ams_lexer.specs.declared.pieces.Piece.{Piece}
use Rattle.ams_lexer.specs.declared.pieces.Piece.TheVariants as p
use Rattle.ams_lexer.specs.declared.pieces.Cause.{Cause}
use Rattle.ams_lexer.specs.declared.pieces.Cause.TheVariants as cause
use Rattle.ams_lexer.specs.Runs.{begins}
use Rattle.ams_lexer.specs.Numbers.{digit, IsNumber, integer, real, based, number_at}
use Rattle.ams_lexer.specs.Strings.{spelled, ends, is_in_line, is_comment_byte, front_length, is_bit_letter, bit_width, is_bit_digit}
use Rattle.ams_lexer.specs.Marks.{IsMark, mark_at}
use Rattle.ams_lexer.specs.Pieces.{Means, is_separator, opens_comment, IsComment, IsSeparator, opens_bits, IsIdentifier, IsCharacter, IsString, IsBits, IsCharacterAt, IsLineEnd, is_wide, HasWideComment, HasWideString, HasBadNumber, HasBadBits, HasOpenString, HasOpenBits, HasBadCharacter, HasFault, Reading, found, refused, bits_at, word_at, text_at, comment_at, number_or_fault, is_printable, character_at, mark_piece_at, piece_at}
use Rattle.ams_lexer.proofs.RunLaws.{run_length-append}
use Rattle.ams_lexer.proofs.NumberLaws.{finds_number, number_again}
use Rattle.ams_lexer.proofs.StringLaws.{front_length-append, front_length-all, front_length-whole, body_length-spelled}
use Rattle.ams_lexer.proofs.MarkLaws.{finds_mark, mark_again}
use Rattle.ams_lexer.proofs.PieceLaws.{letter_plain, digit_plain, digit_no_letter, bit_letter, wide_plain, begins_cons, head_of, right_character}

-- what stands at the front of bytes, if there are any
abbrev pub reading : Bool → List ℕ → Reading
reading a [] = refused cause.BadCharacter 0
reading a (b ∷ bs) = piece_at a b (b ∷ bs)

-- ---- separators and comments

again_separator : (a : Bool) (w rest : List ℕ) → IsSeparator w → reading a (w ++ rest) ≡ found p.Separator (length w)
unfolding piece_at
again_separator a w rest is =
    let b = is.byte in
    subst (λ (t : List ℕ). reading a (t ++ rest) ≡ found p.Separator (length t)) (sym is.text) (rw is.separates refl)

narrow_end : (rest : List ℕ) → IsLineEnd rest → begins is_wide rest ≡ false
narrow_end rest (inl e) = ap (begins is_wide) e
narrow_end rest (inr e) = ap (begins is_wide) (begins_cons 10 rest e)

line_stops : (rest : List ℕ) → IsLineEnd rest → begins is_comment_byte rest ≡ false
line_stops rest (inl e) = ap (begins is_comment_byte) e
line_stops rest (inr e) = ap (begins is_comment_byte) (begins_cons 10 rest e)

again_comment : (a : Bool) (w rest : List ℕ) → IsComment w rest → reading a (w ++ rest) ≡ found p.Comment (length w)
unfolding piece_at comment_at
again_comment a w rest is =
    let body = is.body in
    let n = front_length-append is_comment_byte body rest is.bytes (line_stops rest is.stops) in
    let k : length body + 2 ≡ suc (suc (length body)) = omega arith in
    subst (λ (t : List ℕ). reading a (t ++ rest) ≡ found p.Comment (length t)) (sym is.text)
    (rw (n, drop_at body rest (length body) refl, narrow_end rest is.stops, k) refl)

-- ---- words and numbers

again_identifier_from : (a : Bool) (b : ℕ) (w rest : List ℕ) → IsIdentifier (b ∷ w) rest → reading a (b ∷ (w ++ rest)) ≡ found p.Identifier (length (b ∷ w))
unfolding piece_at word_at
again_identifier_from a b w rest is =
    let plain = letter_plain b is.letter in
    let letter : is_ascii_alphabetic b ≡ true = is.letter in
    let n = run_length-append is_ascii_alphanumeric (b ∷ w) rest is.run is.stops in
    let none : opens_bits (b ∷ (w ++ rest)) ≡ false = is.no_bits in
    rw (plain, letter, none) (ap (found p.Identifier) n)

again_identifier : (a : Bool) (w rest : List ℕ) → IsIdentifier w rest → reading a (w ++ rest) ≡ found p.Identifier (length w)
again_identifier a [] rest is = absurd (let t : false ≡ true = is.letter in cc)
again_identifier a (b ∷ w) rest is = again_identifier_from a b w rest is

begins-append : (p : ℕ → Bool) (w rest : List ℕ) → begins p w ≡ true → begins p (w ++ rest) ≡ true
begins-append p [] rest h = absurd cc
begins-append p (b ∷ w) rest h = h

pub number_first : (x : Number) (w rest : List ℕ) → IsNumber x w rest → begins (digit 10) w ≡ true
number_first x w rest (integer is) = ap (begins (digit 10)) is.text ∙ begins-append (digit 10) is.whole is.exponent is.is_whole.0
number_first x w rest (real is) = ap (begins (digit 10)) is.text ∙ begins-append (digit 10) is.whole _ is.is_whole.0
number_first x w rest (based is) = ap (begins (digit 10)) is.text ∙ begins-append (digit 10) is.base _ is.is_base.0

digit_reading : (a : Bool) (bs : List ℕ) → begins (digit 10) bs ≡ true → reading a bs ≡ number_or_fault (number_at bs)
unfolding piece_at
digit_reading a [] h = absurd (let t : false ≡ true = h in cc)
digit_reading a (b ∷ bs) h =
    let first : digit 10 b ≡ true = h in
    rw (digit_plain b first, digit_no_letter b first, first) refl

again_number : (a : Bool) (x : Number) (w rest : List ℕ) → IsNumber x w rest → reading a (w ++ rest) ≡ found (p.Number x) (length w)
again_number a x w rest is =
    digit_reading a (w ++ rest) (begins-append (digit 10) w rest (number_first x w rest is)) ∙ ap number_or_fault (number_again x w rest is)

-- ---- characters

again_character : (a : Bool) (c : ℕ) (w rest : List ℕ) → IsCharacter a c w → reading a (w ++ rest) ≡ found (p.Character c) (length w)
unfolding piece_at mark_piece_at
again_character a c w rest is =
    let printable : is_printable c ≡ true = and_from _ _ (le-leb 32 c is.printable.0) (le-leb c 126 is.printable.1) in
    let at : character_at a (39 ∷ c ∷ 39 ∷ rest) ≡ Some c = rw (is.free, printable) refl in
    subst (λ (t : List ℕ). reading a (t ++ rest) ≡ found (p.Character c) (length t)) (sym is.text) (rw at refl)

-- ---- strings

text_reading : (a : Bool) (content rest : List ℕ) → list_all is_in_line content ≡ true → ends rest ≡ true
    → text_at (spelled content ++ rest) ≡ cond (begins (λ b. eqb b 34) rest) (cond (eqb (front_length is_ascii (spelled content)) (length (spelled content))) (found p.Text (length (spelled content) + 2)) (refused cause.NotAscii (front_length is_ascii (spelled content) + 1))) (refused cause.UnclosedString 0)
unfolding text_at
text_reading a content rest lines stop =
    let n = body_length-spelled content rest lines stop in
    rw (n, take_at (spelled content) rest (length (spelled content)) refl, drop_at (spelled content) rest (length (spelled content)) refl) refl

quote_reading : (a : Bool) (bs : List ℕ) → reading a (34 ∷ bs) ≡ text_at bs
unfolding piece_at
quote_reading a bs = refl

pub ascii_spelled : (c : List ℕ) → list_all is_ascii c ≡ true → list_all is_ascii (spelled c) ≡ true
ascii_spelled [] h = refl
ascii_spelled (b ∷ c) h =
    let parts = and_parts (is_ascii b) (list_all is_ascii c) h in
    elim (cases_Bool (eqb b 34)) [
      | inl t ↦ rw t (ascii_spelled c parts.1)
      | inr f ↦ rw f (and_from (is_ascii b) _ parts.0 (ascii_spelled c parts.1))
    ]

again_string : (a : Bool) (content w rest : List ℕ) → IsString content w rest → reading a (w ++ rest) ≡ found p.Text (length w)
again_string a content w rest is =
    let t = spelled content in
    let parts : w ++ rest ≡ 34 ∷ (t ++ 34 ∷ rest) = ap (λ (u : List ℕ). u ++ rest) is.text ∙ ap (λ (u : List ℕ). 34 ∷ u) (append_assoc t (34 ∷ []) rest) in
    let all : eqb (front_length is_ascii t) (length t) ≡ true = eq-eqb _ _ (front_length-whole is_ascii t (ascii_spelled content is.ascii)) in
    let long : length w ≡ length t + 2 = ap length is.text ∙ (let l = length-append t (34 ∷ []) in omega (arith, l)) in
    ap (reading a) parts ∙ quote_reading a (t ++ 34 ∷ rest) ∙ text_reading a content (34 ∷ rest) is.lines is.stops ∙ rw all (ap (found p.Text) (sym long))

-- ---- bit strings

no_digit_at : (width n : ℕ) → width ≤ 4 → eqb n 95 ≡ false → ltb (digit_value n) 36 ≡ false → is_bit_digit width n ≡ true → ⊥
no_digit_at width n small plain large h =
    let t : (eqb n 95 || ltb (digit_value n) (2 ^ width)) ≡ true = h in
    elim (or_cases (eqb n 95) (ltb (digit_value n) (2 ^ width)) t) [
      | inl e ↦ let k : true ≡ false = sym e ∙ plain in cc
      | inr e ↦
          let below = ltb-true (digit_value n) (2 ^ width) e in
          let top : 2 ^ width ≤ 2 ^ 4 = pow-le-pow_right {n = 2} (omega arith) small in
          let above = ltb-false (digit_value n) 36 large in
          absurd (omega (arith, below, top, above))
    ]

digit_in_line : (width b : ℕ) → width ≤ 4 → is_bit_digit width b ≡ true → (is_in_line b ≡ true) × (eqb b 34 ≡ false)
digit_in_line width b small h =
    elim (cases_eq b 10) [
      | inl e ↦ absurd (let t : is_bit_digit width 10 ≡ true = ap (is_bit_digit width) (sym e) ∙ h in no_digit_at width 10 small refl refl t)
      | inr line ↦
          elim (cases_eq b 34) [
            | inl e ↦ absurd (let t : is_bit_digit width 34 ≡ true = ap (is_bit_digit width) (sym e) ∙ h in no_digit_at width 34 small refl refl t)
            | inr quote ↦ (not_from_false (eqb b 10) (ne_eqb b 10 line), ne_eqb b 34 quote)
          ]
    ]

pub digits_spelled : (width : ℕ) (d : List ℕ) → width ≤ 4 → list_all (is_bit_digit width) d ≡ true → (spelled d ≡ d) × (list_all is_in_line d ≡ true)
digits_spelled width [] small h = (refl, refl)
digits_spelled width (b ∷ d) small h =
    let parts = and_parts (is_bit_digit width b) (list_all (is_bit_digit width) d) h in
    let more = digits_spelled width d small parts.1 in
    let one = digit_in_line width b small parts.0 in
    (rw one.1 (ap (λ (t : List ℕ). b ∷ t) more.0), and_from (is_in_line b) _ one.0 more.1)

bits_reading : (a : Bool) (letter : ℕ) (bs : List ℕ) → is_bit_letter letter ≡ true → reading a (letter ∷ 34 ∷ bs) ≡ bits_at letter bs
unfolding piece_at word_at
bits_reading a letter bs is =
    let alphabetic = bit_letter letter is in
    rw (letter_plain letter alphabetic, alphabetic, is) refl

bits_split : (letter : ℕ) (content rest : List ℕ) → list_all is_in_line content ≡ true → ends rest ≡ true
    → bits_at letter (spelled content ++ rest) ≡ cond (list_all (is_bit_digit (bit_width letter)) (spelled content)) (cond (begins (λ b. eqb b 34) rest) (found p.Bits (length (spelled content) + 3)) (refused cause.UnclosedString 1)) (refused cause.BadLiteral 0)
unfolding bits_at
bits_split letter content rest lines stop =
    let n = body_length-spelled content rest lines stop in
    rw (n, take_at (spelled content) rest (length (spelled content)) refl, drop_at (spelled content) rest (length (spelled content)) refl) refl

pub small_width : (letter : ℕ) → bit_width letter ≤ 4
small_width letter = cond_both (eqb letter 66 || eqb letter 98) 1 _ (λ n. n ≤ 4) (λ _. omega arith) (λ _. cond_both (eqb letter 79 || eqb letter 111) 3 4 (λ n. n ≤ 4) (λ _. omega arith) (λ _. omega arith))

digits_split : (letter : ℕ) (digits rest : List ℕ) → list_all (is_bit_digit (bit_width letter)) digits ≡ true → ends rest ≡ true
    → bits_at letter (digits ++ rest) ≡ cond (begins (λ b. eqb b 34) rest) (found p.Bits (length digits + 3)) (refused cause.UnclosedString 1)
digits_split letter digits rest all stop =
    let plain = digits_spelled (bit_width letter) digits (small_width letter) all in
    let at = bits_split letter digits rest plain.1 stop in
    let same : bits_at letter (digits ++ rest) ≡ bits_at letter (spelled digits ++ rest) = ap (λ (t : List ℕ). bits_at letter (t ++ rest)) (sym plain.0) in
    same ∙ at ∙ rw (plain.0, all) refl

again_bits : (a : Bool) (content w rest : List ℕ) → IsBits content w rest → reading a (w ++ rest) ≡ found p.Bits (length w)
again_bits a content w rest is =
    let d = is.digits in
    let letter = is.letter in
    let parts : w ++ rest ≡ letter ∷ 34 ∷ (d ++ 34 ∷ rest) = ap (λ (u : List ℕ). u ++ rest) is.text ∙ ap (λ (u : List ℕ). letter ∷ 34 ∷ u) (append_assoc d (34 ∷ []) rest) in
    let long : length w ≡ length d + 3 = ap length is.text ∙ (let l = length-append d (34 ∷ []) in omega (arith, l)) in
    ap (reading a) parts ∙ bits_reading a letter (d ++ 34 ∷ rest) is.is_letter ∙ digits_split letter d (34 ∷ rest) is.is_digits is.stops ∙ ap (found p.Bits) (sym long)

-- ---- marks

-- the tests before the marks, at the first byte of each mark
abbrev first_plain : List ℕ → Bool
first_plain [] = false
first_plain (b ∷ bs) = not (is_separator b) && (not (is_ascii_alphabetic b) && (not (digit 10 b) && (not (eqb b 34) && not (is_wide b))))

marks_plain : (x : Mark) → first_plain (mark_text x) ≡ true
marks_plain m.Ampersand = refl
marks_plain m.Tick = refl
marks_plain m.LeftParen = refl
marks_plain m.RightParen = refl
marks_plain m.Star = refl
marks_plain m.DoubleStar = refl
marks_plain m.Plus = refl
marks_plain m.Comma = refl
marks_plain m.Minus = refl
marks_plain m.Point = refl
marks_plain m.Slash = refl
marks_plain m.NotEqual = refl
marks_plain m.Colon = refl
marks_plain m.Assign = refl
marks_plain m.Semicolon = refl
marks_plain m.Less = refl
marks_plain m.LessEqual = refl
marks_plain m.Box = refl
marks_plain m.Equal = refl
marks_plain m.DoubleEqual = refl
marks_plain m.Arrow = refl
marks_plain m.Greater = refl
marks_plain m.GreaterEqual = refl
marks_plain m.Bar = refl

mark_reading : (a : Bool) (b : ℕ) (bs : List ℕ) → first_plain (b ∷ bs) ≡ true → opens_comment (b ∷ bs) ≡ false → reading a (b ∷ bs) ≡ mark_piece_at a (b ∷ bs)
unfolding piece_at
mark_reading a b bs h none =
    let one = and_parts (not (is_separator b)) _ h in
    let two = and_parts (not (is_ascii_alphabetic b)) _ one.1 in
    let three = and_parts (not (digit 10 b)) _ two.1 in
    let four = and_parts (not (eqb b 34)) _ three.1 in
    rw (not-true (is_separator b) one.0, not-true (is_ascii_alphabetic b) two.0, not-true (digit 10 b) three.0, not-true (eqb b 34) four.0, none, not-true (is_wide b) four.1) refl

character_at_is : (a : Bool) (bs : List ℕ) (c : ℕ) → character_at a bs ≡ Some c → IsCharacterAt a bs
character_at_is a bs c h =
    let s = right_character a bs c h in
    (c, s.rest, s.means.free, s.means.printable.0, s.means.printable.1, s.text ∙ ap (λ (t : List ℕ). t ++ s.rest) s.means.text)

no_character_if : (a : Bool) (bs : List ℕ) (o : Option ℕ) → character_at a bs ≡ o → (IsCharacterAt a bs → ⊥) → o ≡ None
no_character_if a bs None h not_there = refl
no_character_if a bs (Some c) h not_there = absurd (not_there (character_at_is a bs c h))

mark_piece_reading : (a : Bool) (x : Mark) (w rest : List ℕ) → IsMark x w rest → (IsCharacterAt a (w ++ rest) → ⊥) → mark_piece_at a (w ++ rest) ≡ found (p.Mark x) (length w)
unfolding mark_piece_at
mark_piece_reading a x w rest is none =
    let no_character = no_character_if a (w ++ rest) (character_at a (w ++ rest)) refl none in
    rw (no_character, mark_again x w rest is) refl

again_mark_from : (a : Bool) (x : Mark) (w rest : List ℕ) → first_plain w ≡ true → Means a (p.Mark x) w rest → reading a (w ++ rest) ≡ found (p.Mark x) (length w)
again_mark_from a x [] rest h is = absurd (let t : false ≡ true = h in cc)
again_mark_from a x (b ∷ w) rest h is = mark_reading a b (w ++ rest) h is.2 ∙ mark_piece_reading a x (b ∷ w) rest is.0 is.1

again_mark : (a : Bool) (x : Mark) (w rest : List ℕ) → Means a (p.Mark x) w rest → reading a (w ++ rest) ≡ found (p.Mark x) (length w)
again_mark a x w rest is = again_mark_from a x w rest (ap first_plain is.0.text ∙ marks_plain x) is

pub again : (a : Bool) (x : Piece) (w rest : List ℕ) → Means a x w rest → reading a (w ++ rest) ≡ found x (length w)
again a p.Separator w rest is = again_separator a w rest is
again a p.Comment w rest is = again_comment a w rest is
again a p.Identifier w rest is = again_identifier a w rest is
again a (p.Number x) w rest is = again_number a x w rest is
again a (p.Character c) w rest is = again_character a c w rest is
again a p.Text w rest is = again_string a is.0 w rest is.1
again a p.Bits w rest is = again_bits a is.0 w rest is.1
again a (p.Mark x) w rest is = again_mark a x w rest is

-- ---- faults

line_ends : (rest : List ℕ) → IsLineEnd rest → (ends rest ≡ true) × (begins (λ b. eqb b 34) rest ≡ false)
line_ends rest (inl e) = (ap ends e, ap (begins (λ b. eqb b 34)) e)
line_ends rest (inr e) = let t = begins_cons 10 rest e in (ap ends t, ap (begins (λ b. eqb b 34)) t)

again_wide : (a : Bool) (bs : List ℕ) → begins is_wide bs ≡ true → reading a bs ≡ refused cause.NotAscii 0
unfolding piece_at
again_wide a [] h = absurd (let t : false ≡ true = h in cc)
again_wide a (b ∷ bs) h =
    let plain = wide_plain b h in
    let wide : is_wide b ≡ true = h in
    let no_comment : opens_comment (b ∷ bs) ≡ false = and_left (eqb b 45) _ plain.4 in
    rw (plain.0, plain.1, plain.2, plain.3, no_comment, wide) refl

wide_stops : (rest : List ℕ) → begins is_wide rest ≡ true → begins is_comment_byte rest ≡ false
wide_stops [] h = absurd (let t : false ≡ true = h in cc)
wide_stops (b ∷ rest) h = and_left (ltb b 128) _ (not-true (ltb b 128) h)

comment_reading : (a : Bool) (bs : List ℕ) → reading a (45 ∷ 45 ∷ bs) ≡ comment_at bs
unfolding piece_at
comment_reading a bs = refl

again_wide_comment : (a : Bool) (bs : List ℕ) (offset : ℕ) → HasWideComment bs offset → reading a bs ≡ refused cause.NotAscii offset
unfolding comment_at
again_wide_comment a bs offset is =
    let n = front_length-append is_comment_byte is.body is.rest is.bytes (wide_stops is.rest is.wide) in
    let k : length is.body + 2 ≡ offset = let o = is.place in omega arith in
    let at : comment_at (is.body ++ is.rest) ≡ refused cause.NotAscii offset = rw (n, drop_at is.body is.rest (length is.body) refl, is.wide, k) refl in
    ap (reading a) is.text ∙ comment_reading a (is.body ++ is.rest) ∙ at

again_wide_string : (a : Bool) (bs : List ℕ) (offset : ℕ) → HasWideString bs offset → reading a bs ≡ refused cause.NotAscii offset
again_wide_string a bs offset is =
    let t = spelled is.content in
    let some : eqb (front_length is_ascii t) (length t) ≡ false = ne_eqb _ _ (λ e. let k : true ≡ false = sym (front_length-all is_ascii t e) ∙ is.wide in cc) in
    let k : front_length is_ascii t + 1 ≡ offset = let o = is.place in omega arith in
    ap (reading a) is.text ∙ quote_reading a (t ++ 34 ∷ is.rest) ∙ text_reading a is.content (34 ∷ is.rest) is.lines is.stops ∙ rw (some, k) refl

again_bad_number_if : (bs : List ℕ) (o : Option (Number × ℕ)) → HasBadNumber bs → number_at bs ≡ o → number_or_fault o ≡ refused cause.BadLiteral 0
again_bad_number_if bs None is h = refl
again_bad_number_if bs (Some x) is h = let f = finds_number bs x is.digit_first h in absurd (is.none x.0 f.w f.rest f.text f.number)

again_bad_number : (a : Bool) (bs : List ℕ) → HasBadNumber bs → reading a bs ≡ refused cause.BadLiteral 0
again_bad_number a bs is = digit_reading a bs is.digit_first ∙ again_bad_number_if bs (number_at bs) is refl

again_bad_bits : (a : Bool) (bs : List ℕ) → HasBadBits bs → reading a bs ≡ refused cause.BadLiteral 0
again_bad_bits a bs is =
    ap (reading a) is.text ∙ bits_reading a is.letter (spelled is.content ++ is.rest) is.is_letter ∙ bits_split is.letter is.content is.rest is.lines is.stops ∙ rw is.wrong refl

again_open_string : (a : Bool) (bs : List ℕ) → HasOpenString bs → reading a bs ≡ refused cause.UnclosedString 0
again_open_string a bs is =
    let e = line_ends is.rest is.stops in
    ap (reading a) is.text ∙ quote_reading a (spelled is.content ++ is.rest) ∙ text_reading a is.content is.rest is.lines e.0 ∙ rw e.1 refl

again_open_bits : (a : Bool) (bs : List ℕ) → HasOpenBits bs → reading a bs ≡ refused cause.UnclosedString 1
again_open_bits a bs is =
    let e = line_ends is.rest is.stops in
    ap (reading a) is.text ∙ bits_reading a is.letter (is.digits ++ is.rest) is.is_letter ∙ digits_split is.letter is.digits is.rest is.is_digits e.0 ∙ rw e.1 refl

no_mark_if : (bs : List ℕ) (o : Option (Mark × ℕ)) → mark_at bs ≡ o → ((x : Mark) (after : List ℕ) → bs ≡ mark_text x ++ after → ⊥) → o ≡ None
no_mark_if bs None h none = refl
no_mark_if bs (Some x) h none =
    let f = finds_mark bs x h in
    absurd (none x.0 f.rest (f.text ∙ ap (λ (t : List ℕ). t ++ f.rest) f.mark.text))

bad_character_reading : (a : Bool) (b : ℕ) (rest : List ℕ) → HasBadCharacter (b ∷ rest) → mark_piece_at a (b ∷ rest) ≡ refused cause.BadCharacter 0
unfolding mark_piece_at
bad_character_reading a b rest is =
    let no_character = no_character_if a (b ∷ rest) (character_at a (b ∷ rest)) refl (λ t. is.no_mark m.Tick (t.0 ∷ 39 ∷ t.1) t.5) in
    let no_mark = no_mark_if (b ∷ rest) (mark_at (b ∷ rest)) refl is.no_mark in
    rw (no_character, no_mark) refl

-- a byte that begins nothing, with the bytes after it
bad_plain : (b : ℕ) (rest : List ℕ) → HasBadCharacter (b ∷ rest) → (first_plain (b ∷ rest) ≡ true) × (opens_comment (b ∷ rest) ≡ false)
bad_plain b rest is =
    let same : is.byte ≡ b = sym (ap head_of is.text) in
    let at : (p : ℕ → Bool) (t : Bool) → p is.byte ≡ t → p b ≡ t = λ p t h. ap p (sym same) ∙ h in (
      and_from _ _ (not_from_false (is_separator b) (at is_separator false is.no_separator))
          (and_from _ _ (not_from_false (is_ascii_alphabetic b) (at is_ascii_alphabetic false is.no_letter))
          (and_from _ _ (not_from_false (digit 10 b) (at (digit 10) false is.no_digit))
          (and_from _ _ (not_from_false (eqb b 34) (at (λ c. eqb c 34) false is.no_quote))
          (not_from_false (is_wide b) (not_from_true (is_ascii b) (at is_ascii true is.ascii)))))),
      and_left (eqb b 45) _ (ne_eqb b 45 (λ e. is.no_mark m.Minus rest (ap (λ (c : ℕ). c ∷ rest) e))),
    )

again_bad_character : (a : Bool) (bs : List ℕ) → HasBadCharacter bs → reading a bs ≡ refused cause.BadCharacter 0
again_bad_character a [] is = absurd (let t : [] ≡ is.byte ∷ is.rest = is.text in cc)
again_bad_character a (b ∷ bs) is =
    let plain = bad_plain b bs is in
    mark_reading a b bs plain.0 plain.1 ∙ bad_character_reading a b bs is

pub again_fault : (a : Bool) (bs : List ℕ) (x : Cause) (offset : ℕ) → HasFault bs x offset → reading a bs ≡ refused x offset
again_fault a bs cause.NotAscii offset is =
    elim is [
      | inl e ↦ again_wide a bs e.0 ∙ ap (refused cause.NotAscii) (sym e.1)
      | inr e ↦ elim e [ inl c ↦ again_wide_comment a bs offset c | inr s ↦ again_wide_string a bs offset s ]
    ]
again_fault a bs cause.BadLiteral offset is =
    elim is.0 [
      | inl e ↦ again_bad_number a bs e ∙ ap (refused cause.BadLiteral) (sym is.1)
      | inr e ↦ again_bad_bits a bs e ∙ ap (refused cause.BadLiteral) (sym is.1)
    ]
again_fault a bs cause.UnclosedString offset is =
    elim is [
      | inl e ↦ again_open_string a bs e.0 ∙ ap (refused cause.UnclosedString) (sym e.1)
      | inr e ↦ again_open_bits a bs e.0 ∙ ap (refused cause.UnclosedString) (sym e.1)
    ]
again_fault a bs cause.BadCharacter offset is = again_bad_character a bs is.0 ∙ ap (refused cause.BadCharacter) (sym is.1)
