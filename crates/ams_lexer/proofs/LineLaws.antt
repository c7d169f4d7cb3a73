-- No token holds a line feed, and each takes at least one byte.
use Rattle.std.proofs.Common.{◌≡◌, ℕ, zero, suc, ◌+◌, ◌≤◌, ◌⊎◌, Bool, true, false, cond, ◌&&◌, eqb, ltb, List, [], ◌∷◌, ◌++◌, length, take, refl, sym, ap, subst, ◌∙◌, arith, inl, inr}
use Rattle.std.proofs.lemmas.Bool.{or_cases, and_parts, and_from, cases_Bool, eqb-true, ne_eqb, not-true, not_from_false, cases_eq, ltb-true}
use Rattle.std.proofs.lemmas.Bool.Decides.{nat_tests}
use Rattle.std.proofs.lemmas.List.{length-append, take-append-le}
use Rattle.std.specs.List.{list_all}
use Rattle.std.specs.Char.{digit_value, is_ascii, is_ascii_alphabetic, is_ascii_alphanumeric}
use Rattle.ams_token.specs.declared.mark.Mark.{Mark}
use Rattle.ams_token.specs.declared.mark.Mark.TheVariants as m
use Rattle.ams_token.specs.Spelling.{mark_text}
use Rattle.ams_lexer.specs.declared.numbers.Number.{Number}
use Rattle.ams_lexer.specs.declared.pieces.Piece.{Piece}
use Rattle.ams_lexer.specs.declared.pieces.Piece.TheVariants as p
use Rattle.ams_lexer.specs.declared.pieces.Cause.{Cause}
use Rattle.ams_lexer.specs.declared.pieces.Cause.TheVariants as cause
use Rattle.ams_lexer.specs.Runs.{begins, IsRun}
use Rattle.ams_lexer.specs.Numbers.{digit, IsNumber, integer, real, based}
use Rattle.ams_lexer.specs.Strings.{spelled, is_in_line, is_comment_byte, is_bit_letter, bit_width}
use Rattle.ams_lexer.specs.Pieces.{Means, HasFault}
use Rattle.ams_lexer.proofs.StringLaws.{takes_front}
use Rattle.ams_lexer.proofs.MarkLaws.{some_text}
use Rattle.std.proofs.lemmas.List.Folds.{list_all-append}
use Rattle.ams_token.specs.declared.token.Place.{Place}
use Rattle.ams_lexer.specs.Numbers.{IsDigits, IsExponent, is_sign, is_marker, unsigned}
use Rattle.ams_lexer.specs.Texts.{place_at, place_after}
use Rattle.ams_lexer.proofs.AgainLaws.{number_first, digits_spelled, small_width}

-- ---- places

pub place_after-append : (place : Place) (w v : List ℕ) → place_after place (w ++ v) ≡ place_after (place_after place w) v
place_after-append place [] v = refl
place_after-append place (b ∷ w) v = place_after-append (cond (eqb b 10) (place_at (place.line + 1) 1) (place_at place.line (place.column + 1))) w v

pub place_in_line : (w : List ℕ) (line column : ℕ) → list_all is_in_line w ≡ true → place_after (place_at line column) w ≡ place_at line (column + length w)
place_in_line [] line column h = let k : column ≡ column + 0 = omega arith in ap (place_at line) k
place_in_line (b ∷ w) line column h =
    let parts = and_parts (is_in_line b) (list_all is_in_line w) h in
    let plain : eqb b 10 ≡ false = not-true (eqb b 10) parts.0 in
    let k : (column + 1) + length w ≡ column + suc (length w) = omega arith in
    rw plain (place_in_line w line (column + 1) parts.1 ∙ ap (place_at line) k)

-- ---- what stands in one line

pub run_all : (p q : ℕ → Bool) (w : List ℕ) → ((b : ℕ) → p b ≡ true → q b ≡ true) → q 95 ≡ true → IsRun p w → list_all q w ≡ true
run_all p q [] each underscore run = refl
run_all p q (b ∷ w) each underscore run =
    let first : q b ≡ true = elim (or_cases (p b) (eqb b 95 && begins p w) run.0) [
      | inl e ↦ each b e
      | inr e ↦ ap q (eqb-true b 95 (and_parts (eqb b 95) (begins p w) e).0) ∙ underscore
    ] in
    and_from (q b) _ first (run_all p q w each underscore run.1)

all_take : (p : ℕ → Bool) (n : ℕ) (w : List ℕ) → list_all p w ≡ true → list_all p (take n w) ≡ true
all_take p zero w h = refl
all_take p (suc n) [] h = refl
all_take p (suc n) (b ∷ w) h = let parts = and_parts (p b) (list_all p w) h in and_from (p b) _ parts.0 (all_take p n w parts.1)

all_append : (p : ℕ → Bool) (w v : List ℕ) → list_all p w ≡ true → list_all p v ≡ true → list_all p (w ++ v) ≡ true
all_append p w v h k = list_all-append p w v ∙ and_from (list_all p w) (list_all p v) h k

pub word_ascii : (b : ℕ) → is_ascii_alphanumeric b ≡ true → is_ascii b ≡ true
word_ascii b h = grind (arith, nat_tests)

word_in_line : (b : ℕ) → is_ascii_alphanumeric b ≡ true → is_in_line b ≡ true
word_in_line b h = grind (arith, nat_tests)

marker_in_line : (b : ℕ) → is_marker b ≡ true → is_in_line b ≡ true
marker_in_line b h = grind (arith, nat_tests)

sign_in_line : (signed : Bool) (b : ℕ) → is_sign signed b ≡ true → is_in_line b ≡ true
sign_in_line signed b h =
    elim (or_cases (eqb b 43) (signed && eqb b 45) h) [
      | inl e ↦ ap is_in_line (eqb-true b 43 e)
      | inr e ↦ ap is_in_line (eqb-true b 45 (and_parts signed (eqb b 45) e).1)
    ]

bit_letter_in_line : (b : ℕ) → is_bit_letter b ≡ true → is_in_line b ≡ true
bit_letter_in_line b h = grind (arith, nat_tests)

digit_in_line : (base b : ℕ) → base ≤ 16 → digit base b ≡ true → is_in_line b ≡ true
digit_in_line base b small h =
    elim (cases_eq b 10) [
      | inl e ↦ absurd (let t : ltb (digit_value 10) base ≡ true = ap (digit base) (sym e) ∙ h in let below = ltb-true 36 base t in omega arith)
      | inr line ↦ not_from_false (eqb b 10) (ne_eqb b 10 line)
    ]

digits_in_line : (base : ℕ) (w : List ℕ) → base ≤ 16 → IsDigits base w → list_all is_in_line w ≡ true
digits_in_line base w small is = run_all (digit base) is_in_line w (λ b h. digit_in_line base b small h) refl is.1

signed_in_line : (signed : Bool) (w : List ℕ) → IsDigits 10 (unsigned signed w) → list_all is_in_line w ≡ true
signed_in_line signed [] is = refl
signed_in_line signed (b ∷ w) is =
    elim (cases_Bool (is_sign signed b)) [
      | inl t ↦ let d : IsDigits 10 w = rw t at is in and_from (is_in_line b) _ (sign_in_line signed b t) (digits_in_line 10 w (omega arith) d)
      | inr f ↦ let d : IsDigits 10 (b ∷ w) = rw f at is in digits_in_line 10 (b ∷ w) (omega arith) d
    ]

exponent_in_line : (signed : Bool) (w : List ℕ) → IsExponent signed w → list_all is_in_line w ≡ true
exponent_in_line signed [] is = refl
exponent_in_line signed (b ∷ w) is = and_from (is_in_line b) _ (marker_in_line b is.0) (signed_in_line signed w is.1)

number_in_line : (x : Number) (w rest : List ℕ) → IsNumber x w rest → list_all is_in_line w ≡ true
number_in_line x w rest (integer is) =
    ap (list_all is_in_line) is.text ∙ all_append is_in_line is.whole is.exponent (digits_in_line 10 is.whole (omega arith) is.is_whole) (exponent_in_line false is.exponent is.is_exponent)
number_in_line x w rest (real is) =
    ap (list_all is_in_line) is.text ∙ all_append is_in_line is.whole (46 ∷ (is.fraction ++ is.exponent)) (digits_in_line 10 is.whole (omega arith) is.is_whole)
    (all_append is_in_line is.fraction is.exponent (digits_in_line 10 is.fraction (omega arith) is.is_fraction) (exponent_in_line true is.exponent is.is_exponent))
number_in_line x w rest (based is) =
    ap (list_all is_in_line) is.text ∙ all_append is_in_line is.base (35 ∷ (is.digits ++ 35 ∷ is.exponent)) (digits_in_line 10 is.base (omega arith) is.is_base)
    (all_append is_in_line is.digits (35 ∷ is.exponent) (digits_in_line _ is.digits is.greatest is.is_digits) (exponent_in_line false is.exponent is.is_exponent))

spelled_in_line : (c : List ℕ) → list_all is_in_line c ≡ true → list_all is_in_line (spelled c) ≡ true
spelled_in_line [] h = refl
spelled_in_line (b ∷ c) h =
    let parts = and_parts (is_in_line b) (list_all is_in_line c) h in
    elim (cases_Bool (eqb b 34)) [
      | inl t ↦ rw t (spelled_in_line c parts.1)
      | inr f ↦ rw f (and_from (is_in_line b) _ parts.0 (spelled_in_line c parts.1))
    ]

comment_in_line : (body : List ℕ) → list_all is_comment_byte body ≡ true → list_all is_in_line body ≡ true
comment_in_line [] h = refl
comment_in_line (b ∷ body) h =
    let parts = and_parts (is_comment_byte b) (list_all is_comment_byte body) h in
    and_from (is_in_line b) _ (and_parts (ltb b 128) (is_in_line b) parts.0).1 (comment_in_line body parts.1)

printable_in_line : (c : ℕ) → 32 ≤ c → is_in_line c ≡ true
printable_in_line c h = not_from_false (eqb c 10) (ne_eqb c 10 (λ e. omega arith))

mark_in_line : (x : Mark) → list_all is_in_line (mark_text x) ≡ true
mark_in_line m.Ampersand = refl
mark_in_line m.Tick = refl
mark_in_line m.LeftParen = refl
mark_in_line m.RightParen = refl
mark_in_line m.Star = refl
mark_in_line m.DoubleStar = refl
mark_in_line m.Plus = refl
mark_in_line m.Comma = refl
mark_in_line m.Minus = refl
mark_in_line m.Point = refl
mark_in_line m.Slash = refl
mark_in_line m.NotEqual = refl
mark_in_line m.Colon = refl
mark_in_line m.Assign = refl
mark_in_line m.Semicolon = refl
mark_in_line m.Less = refl
mark_in_line m.LessEqual = refl
mark_in_line m.Box = refl
mark_in_line m.Equal = refl
mark_in_line m.DoubleEqual = refl
mark_in_line m.Arrow = refl
mark_in_line m.Greater = refl
mark_in_line m.GreaterEqual = refl
mark_in_line m.Bar = refl

-- a piece that is no separator
pub in_line : (a : Bool) (x : Piece) (w rest : List ℕ) → Means a x w rest → (x ≡ p.Separator) ⊎ (list_all is_in_line w ≡ true)
in_line a p.Separator w rest is = inl refl
in_line a p.Comment w rest is = inr (ap (list_all is_in_line) is.text ∙ comment_in_line is.body is.bytes)
in_line a p.Identifier w rest is = inr (run_all is_ascii_alphanumeric is_in_line w word_in_line refl is.run)
in_line a (p.Number x) w rest is = inr (number_in_line x w rest is)
in_line a (p.Character c) w rest is = inr (ap (list_all is_in_line) is.text ∙ and_from (is_in_line c) true (printable_in_line c is.printable.0) refl)
in_line a p.Text w rest is = inr (ap (list_all is_in_line) is.1.text ∙ all_append is_in_line (spelled is.0) (34 ∷ []) (spelled_in_line is.0 is.1.lines) refl)
in_line a p.Bits w rest is =
    let d = digits_spelled (bit_width is.1.letter) is.1.digits (small_width is.1.letter) is.1.is_digits in
    inr (ap (list_all is_in_line) is.1.text ∙ and_from (is_in_line is.1.letter) _ (bit_letter_in_line is.1.letter is.1.is_letter) (all_append is_in_line is.1.digits (34 ∷ []) d.1 refl))
in_line a (p.Mark x) w rest is = inr (ap (list_all is_in_line) is.0.text ∙ mark_in_line x)

-- the bytes before a fault's place
pub record Before (bs : List ℕ) (offset : ℕ) : Type 0 where
  pub bound : offset ≤ length bs
  pub line : list_all is_in_line (take offset bs) ≡ true

before_none : (bs : List ℕ) (offset : ℕ) → offset ≡ 0 → Before bs offset
before_none bs offset e = subst (λ (n : ℕ). Before bs n) (sym e) (record { bound = omega arith; line = refl })

before_front : (w rest bs : List ℕ) (offset : ℕ) → bs ≡ w ++ rest → offset ≤ length w → list_all is_in_line w ≡ true → Before bs offset
before_front w rest bs offset e bound line = record {
  bound = let l : length bs ≡ length w + length rest = ap length e ∙ length-append w rest in omega arith;
  line = ap (λ (t : List ℕ). list_all is_in_line (take offset t)) e ∙ ap (list_all is_in_line) (take-append-le offset w rest bound) ∙ all_take is_in_line offset w line;
}

pub before_fault : (bs : List ℕ) (x : Cause) (offset : ℕ) → HasFault bs x offset → Before bs offset
before_fault bs cause.NotAscii offset is =
    elim is [
      | inl e ↦ before_none bs offset e.1
      | inr e ↦
          elim e [
            | inl c ↦ before_front (45 ∷ 45 ∷ c.body) c.rest bs offset c.text (let o = c.place in omega arith) (comment_in_line c.body c.bytes)
            | inr s ↦
                before_front (34 ∷ spelled s.content) (34 ∷ s.rest) bs offset s.text
                (let o = s.place in let b = (takes_front is_ascii (spelled s.content)).bound in omega arith)
                (spelled_in_line s.content s.lines)
          ]
    ]
before_fault bs cause.BadLiteral offset is = before_none bs offset is.1
before_fault bs cause.UnclosedString offset is =
    elim is [
      | inl e ↦ before_none bs offset e.1
      | inr e ↦ before_front (e.0.letter ∷ []) (34 ∷ (e.0.digits ++ e.0.rest)) bs offset e.0.text (let o = e.1 in omega arith) (and_from (is_in_line e.0.letter) true (bit_letter_in_line e.0.letter e.0.is_letter) refl)
    ]
before_fault bs cause.BadCharacter offset is = before_none bs offset is.1

-- ---- each piece takes a byte

begins_some : (p : ℕ → Bool) (w : List ℕ) → begins p w ≡ true → 1 ≤ length w
begins_some p [] h = absurd (let t : false ≡ true = h in cc)
begins_some p (b ∷ w) h = omega arith

pub takes_some : (a : Bool) (x : Piece) (w rest : List ℕ) → Means a x w rest → 1 ≤ length w
takes_some a p.Separator w rest is = let l = ap length is.text in omega arith
takes_some a p.Comment w rest is = let l : length w ≡ suc (suc (length is.body)) = ap length is.text in omega arith
takes_some a p.Identifier w rest is = begins_some is_ascii_alphabetic w is.letter
takes_some a (p.Number x) w rest is = begins_some (digit 10) w (number_first x w rest is)
takes_some a (p.Character c) w rest is = let l : length w ≡ 3 = ap length is.text in omega arith
takes_some a p.Text w rest is = let l : length w ≡ suc (length (spelled is.0 ++ 34 ∷ [])) = ap length is.1.text in omega arith
takes_some a p.Bits w rest is = let l : length w ≡ suc (suc (length (is.1.digits ++ 34 ∷ []))) = ap length is.1.text in omega arith
takes_some a (p.Mark x) w rest is = let l = ap length is.0.text in let s = some_text x in omega (arith, l, s)
