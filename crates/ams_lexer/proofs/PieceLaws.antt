-- What is read at a place stands there, and what stands there is read.
use Rattle.std.proofs.Common.{◌≡◌, ℕ, suc, ◌+◌, Bool, true, false, cond, not, ◌&&◌, eqb, leb, ltb, List, [], ◌∷◌, ◌++◌, length, take, drop, Option, Some, None, refl, sym, ap, subst, ◌∙◌, arith, inl, inr, append_assoc}
use Rattle.std.proofs.lemmas.Bool.{cond_both, or_cases, or_left, and_parts, and_from, and_cases, eqb-true, eqb-false, eq-eqb, ne_eqb, leb-true, le-leb, not-true, not-false, not_from_false, cases_eq, false_from_ne_true}
use Rattle.std.proofs.lemmas.Bool.Decides.{nat_tests}
use Rattle.std.proofs.lemmas.List.{take-append-drop, length-append, length-take-le}
use Rattle.std.specs.List.{list_all}
use Rattle.std.specs.Char.{is_ascii, is_ascii_alphabetic, is_ascii_alphanumeric}
use Rattle.ams_token.specs.declared.mark.Mark.{Mark}
use Rattle.ams_token.specs.declared.mark.Mark.TheVariants as m
use Rattle.ams_token.specs.Spelling.{mark_text}
use Rattle.ams_lexer.specs.declared.numbers.Number.{Number}
use Rattle.ams_lexer.specs.declared.pieces.Piece.TheVariants as p
use Rattle.ams_lexer.specs.Runs.{begins, goes_on, run_length}
use Rattle.ams_lexer.specs.Numbers.{digit, number_at}
use Rattle.ams_lexer.specs.Strings.{spelled, ends, is_comment_byte, body_length, undoubled, front_length, is_bit_letter, bit_width, is_bit_digit, bit_text}
use Rattle.ams_lexer.specs.Marks.{single_mark, pair_mark, of_length, or_else, mark_at}
use Rattle.ams_lexer.specs.Pieces.{Stands, Right, is_separator, opens_comment, opens_bits, IsCharacterAt, IsLineEnd, is_wide, found, bits_at, word_at, text_at, comment_at, number_or_fault, mark_or_fault, is_printable, character_at, character_or, mark_piece_at, piece_at}
use Rattle.ams_lexer.proofs.RunLaws.{takes_run, run_length-bound}
use Rattle.ams_lexer.proofs.NumberLaws.{finds_number, number_again}
use Rattle.ams_lexer.proofs.StringLaws.{takes_front, front_length-all, front_length-whole, takes_body}
use Rattle.ams_lexer.proofs.MarkLaws.{some_text, finds_mark}

-- ---- classes of bytes that are apart

pub letter_plain : (b : ℕ) → is_ascii_alphabetic b ≡ true → is_separator b ≡ false
letter_plain b h = grind (arith, nat_tests)

pub digit_plain : (b : ℕ) → digit 10 b ≡ true → is_separator b ≡ false
digit_plain b h = grind (arith, nat_tests)

pub digit_no_letter : (b : ℕ) → digit 10 b ≡ true → is_ascii_alphabetic b ≡ false
digit_no_letter b h = grind (arith, nat_tests)

pub bit_letter : (b : ℕ) → is_bit_letter b ≡ true → is_ascii_alphabetic b ≡ true
bit_letter b h = grind (arith, nat_tests)

pub wide_plain : (b : ℕ) → is_wide b ≡ true → (is_separator b ≡ false) × (is_ascii_alphabetic b ≡ false) × (digit 10 b ≡ false) × (eqb b 34 ≡ false) × (eqb b 45 ≡ false)
wide_plain b h = (grind (arith, nat_tests), grind (arith, nat_tests), grind (arith, nat_tests), grind (arith, nat_tests), grind (arith, nat_tests))

-- ---- what a piece is

-- ---- strings

pub begins_cons : (n : ℕ) (bs : List ℕ) → begins (λ b. eqb b n) bs ≡ true → bs ≡ n ∷ drop 1 bs
begins_cons n [] h = absurd cc
begins_cons n (b ∷ bs) h = ap (λ (c : ℕ). c ∷ bs) (eqb-true b n h)

line_end : (rest : List ℕ) → ends rest ≡ true → begins (λ b. eqb b 34) rest ≡ false → IsLineEnd rest
line_end [] h none = inl refl
line_end (b ∷ bs) h none =
    inr (elim (or_cases (eqb b 10) (eqb b 34 && not (begins (λ c. eqb c 34) bs)) h) [
      | inl e ↦ e
      | inr e ↦ absurd (let t : true ≡ false = sym (and_parts (eqb b 34) _ e).0 ∙ none in cc)
    ])

-- the content and what follows it
abbrev content_of : List ℕ → List ℕ
content_of bs = undoubled false (take (body_length false bs) bs)

spelled_parts : (bs : List ℕ) → bs ≡ spelled (content_of bs) ++ drop (body_length false bs) bs
spelled_parts bs =
    sym (take-append-drop (body_length false bs) bs) ∙ ap (λ (t : List ℕ). t ++ drop (body_length false bs) bs) (sym (takes_body bs).content)

right_bits : (a : Bool) (letter : ℕ) (bs : List ℕ) → is_bit_letter letter ≡ true → Right a (letter ∷ 34 ∷ bs) (bits_at letter bs)
unfolding bits_at
right_bits a letter bs is_letter =
    let n = body_length false bs in
    let body = take n bs in
    let rest = drop n bs in
    let taken = takes_body bs in
    let digits : ℕ → Bool = is_bit_digit (bit_width letter) in
    cond_both (list_all digits body) _ _ (Right a (letter ∷ 34 ∷ bs))
    (λ all. cond_both (begins (λ b. eqb b 34) rest) _ _ (Right a (letter ∷ 34 ∷ bs))
    (λ closed.
    let behind : rest ≡ 34 ∷ drop 1 rest = begins_cons 34 rest closed in
    let w = letter ∷ 34 ∷ (body ++ 34 ∷ []) in
    let parts : bs ≡ (body ++ 34 ∷ []) ++ drop 1 rest = sym (take-append-drop n bs) ∙ ap (λ (t : List ℕ). body ++ t) behind ∙ sym (append_assoc body (34 ∷ []) (drop 1 rest)) in
    record {
      w = w;
      rest = drop 1 rest;
      text = ap (λ (t : List ℕ). letter ∷ 34 ∷ t) parts;
      size = let l = length-append body (34 ∷ []) in let m = length-take-le n bs taken.bound in omega (arith, l, m);
      means = (bit_text (bit_width letter) body, record { letter = letter; digits = body; is_letter = is_letter; text = refl; is_digits = all; stops = ap ends (sym behind) ∙ taken.stops; value = refl });
    })
    (λ unclosed. inr (record { letter = letter; digits = body; rest = rest; is_letter = is_letter; text = ap (λ (t : List ℕ). letter ∷ 34 ∷ t) (sym (take-append-drop n bs)); is_digits = all; stops = line_end rest taken.stops unclosed }, refl)))
    (λ wrong. (
      inr (record {
        letter = letter;
        content = content_of bs;
        rest = rest;
        is_letter = is_letter;
        text = ap (λ (t : List ℕ). letter ∷ 34 ∷ t) (spelled_parts bs);
        lines = taken.lines;
        stops = taken.stops;
        wrong = ap (list_all digits) taken.content ∙ wrong;
      }),
      refl,
    ))

pub ascii_content : (c : List ℕ) → list_all is_ascii (spelled c) ≡ true → list_all is_ascii c ≡ true
ascii_content [] h = refl
ascii_content (b ∷ c) h =
    elim (cases_eq b 34) [
      | inl e ↦
          let t = eq-eqb b 34 e in
          let k : list_all is_ascii (spelled c) ≡ true = rw t at h in
          and_from (is_ascii b) _ (ap is_ascii e) (ascii_content c k)
      | inr none ↦
          let t = ne_eqb b 34 none in
          let k : (is_ascii b && list_all is_ascii (spelled c)) ≡ true = rw t at h in
          let parts = and_parts (is_ascii b) (list_all is_ascii (spelled c)) k in
          and_from (is_ascii b) _ parts.0 (ascii_content c parts.1)
    ]

right_text : (a : Bool) (bs : List ℕ) → Right a (34 ∷ bs) (text_at bs)
unfolding text_at
right_text a bs =
    let n = body_length false bs in
    let body = take n bs in
    let rest = drop n bs in
    let taken = takes_body bs in
    let ascii = front_length is_ascii body in
    let content = content_of bs in
    let long : length body ≡ n = length-take-le n bs taken.bound in
    cond_both (begins (λ b. eqb b 34) rest) _ _ (Right a (34 ∷ bs))
    (λ closed.
    let behind : rest ≡ 34 ∷ drop 1 rest = begins_cons 34 rest closed in
    let stops : ends (34 ∷ drop 1 rest) ≡ true = ap ends (sym behind) ∙ taken.stops in
    let whole : bs ≡ spelled content ++ 34 ∷ drop 1 rest = spelled_parts bs ∙ ap (λ (t : List ℕ). spelled content ++ t) behind in
    cond_both (eqb ascii n) _ _ (Right a (34 ∷ bs))
    (λ all.
    let passes : list_all is_ascii body ≡ true = front_length-all is_ascii body (eqb-true ascii n all ∙ sym long) in
    let w = 34 ∷ (spelled content ++ 34 ∷ []) in
    record {
      w = w;
      rest = drop 1 rest;
      text = ap (λ (t : List ℕ). 34 ∷ t) (whole ∙ sym (append_assoc (spelled content) (34 ∷ []) (drop 1 rest)));
      size = let l = length-append (spelled content) (34 ∷ []) in let m : length (spelled content) ≡ n = ap length taken.content ∙ long in omega (arith, l, m);
      means = (content, record { text = refl; lines = taken.lines; ascii = ascii_content content (ap (list_all is_ascii) taken.content ∙ passes); stops = stops });
    })
    (λ some.
    let wide : list_all is_ascii body ≡ false = false_from_ne_true (list_all is_ascii body) (λ all. eqb-false ascii n some (front_length-whole is_ascii body all ∙ long)) in
    inr (inr (record {
      content = content;
      rest = drop 1 rest;
      text = ap (λ (t : List ℕ). 34 ∷ t) whole;
      lines = taken.lines;
      stops = stops;
      wide = ap (list_all is_ascii) taken.content ∙ wide;
      place = (let k : ascii + 1 ≡ suc ascii = omega arith in k) ∙ ap (λ (t : List ℕ). suc (front_length is_ascii t)) (sym taken.content);
    }))))
    (λ unclosed. inl (record { content = content; rest = rest; text = ap (λ (t : List ℕ). 34 ∷ t) (spelled_parts bs); lines = taken.lines; stops = line_end rest taken.stops unclosed }, refl))

-- ---- comments

comment_end : (rest : List ℕ) → begins is_comment_byte rest ≡ false → begins is_wide rest ≡ false → IsLineEnd rest
comment_end [] stop narrow = inl refl
comment_end (b ∷ rest) stop narrow =
    inr (elim (and_cases (ltb b 128) (not (eqb b 10)) stop) [
      | inl wide ↦ absurd (let t : true ≡ false = sym (not_from_false (ltb b 128) wide) ∙ narrow in cc)
      | inr line ↦ not-false (eqb b 10) line
    ])

right_comment : (a : Bool) (bs : List ℕ) → Right a (45 ∷ 45 ∷ bs) (comment_at bs)
unfolding comment_at
right_comment a bs =
    let n = front_length is_comment_byte bs in
    let taken = takes_front is_comment_byte bs in
    let body = take n bs in
    let rest = drop n bs in
    let long : length body ≡ n = length-take-le n bs taken.bound in
    let whole : (45 ∷ 45 ∷ bs) ≡ 45 ∷ 45 ∷ (body ++ rest) = ap (λ (t : List ℕ). 45 ∷ 45 ∷ t) (sym (take-append-drop n bs)) in
    cond_both (begins is_wide rest) _ _ (Right a (45 ∷ 45 ∷ bs))
    (λ wide. inr (inl (record { body = body; rest = rest; text = whole; bytes = taken.passes; wide = wide; place = omega (arith, long) })))
    (λ narrow. record {
      w = 45 ∷ 45 ∷ body;
      rest = rest;
      text = whole;
      size = omega (arith, long);
      means = record { body = body; text = refl; bytes = taken.passes; stops = comment_end rest taken.stops narrow };
    })

-- ---- small facts on options and lists

abbrev pub head_of : List ℕ → ℕ
head_of [] = 0
head_of (b ∷ bs) = b

heads_same : (b c : ℕ) (t u : List ℕ) → (b ∷ t) ≡ (c ∷ u) → b ≡ c
heads_same b c t u h = cc

single_known : (b n : ℕ) (x : Mark) → n ≡ b → single_mark n ≡ Some x → single_mark b ≡ None → ⊥
single_known b n x e is none = let t : None ≡ Some x = sym none ∙ ap single_mark (sym e) ∙ is in cc

of_length-none : (n : ℕ) (o : Option Mark) → of_length n o ≡ None → o ≡ None
of_length-none n None h = refl
of_length-none n (Some x) h = absurd cc

or_else-none : {A : Type 0} (x y : Option A) → or_else x y ≡ None → y ≡ None
or_else-none None y h = h
or_else-none (Some x) y h = absurd cc

pub some_if : (t : Bool) (d c : ℕ) → cond t (Some d) None ≡ Some c → (t ≡ true) × (d ≡ c)
some_if true d c h = (refl, cc)
some_if false d c h = absurd cc

-- ---- words and numbers

letter_word : (b : ℕ) → is_ascii_alphabetic b ≡ true → is_ascii_alphanumeric b ≡ true
letter_word b h = grind (arith, nat_tests)

opens_cons : (b : ℕ) (bs : List ℕ) → opens_bits (b ∷ bs) ≡ true → (is_bit_letter b ≡ true) × (bs ≡ 34 ∷ drop 1 bs)
opens_cons b bs h =
    let parts = and_parts (is_bit_letter b) (begins (λ c. eqb c 34) bs) h in
    (parts.0, begins_cons 34 bs parts.1)

right_identifier : (a : Bool) (b : ℕ) (bs : List ℕ) → is_ascii_alphabetic b ≡ true → opens_bits (b ∷ bs) ≡ false → Right a (b ∷ bs) (found p.Identifier (run_length is_ascii_alphanumeric (b ∷ bs)))
right_identifier a b bs letter none =
    let on : goes_on is_ascii_alphanumeric (b ∷ bs) ≡ true = or_left (is_ascii_alphanumeric b) _ (letter_word b letter) in
    let n = run_length is_ascii_alphanumeric (b ∷ bs) in
    let taken = takes_run is_ascii_alphanumeric (b ∷ bs) in
    let first : begins is_ascii_alphabetic (take n (b ∷ bs)) ≡ true = rw on letter in
    let whole = take-append-drop n (b ∷ bs) in
    record {
      w = take n (b ∷ bs);
      rest = drop n (b ∷ bs);
      text = sym whole;
      size = length-take-le n (b ∷ bs) (run_length-bound is_ascii_alphanumeric (b ∷ bs));
      means = record { letter = first; run = taken.run; stops = taken.stops; no_bits = ap opens_bits whole ∙ none };
    }

right_word : (a : Bool) (b : ℕ) (bs : List ℕ) → is_ascii_alphabetic b ≡ true → Right a (b ∷ bs) (word_at b (b ∷ bs))
unfolding word_at
right_word a b bs letter =
    cond_both (opens_bits (b ∷ bs)) _ _ (Right a (b ∷ bs))
    (λ opens.
    let e = opens_cons b bs opens in
    subst (λ (t : List ℕ). Right a (b ∷ t) (bits_at b (drop 1 bs))) (sym e.1) (right_bits a b (drop 1 bs) e.0))
    (λ none. right_identifier a b bs letter none)

pub none_some : {A : Type 0} (x : A) → None ≡ Some x → ⊥
none_some x h = cc

right_number_if : (a : Bool) (bs : List ℕ) (o : Option (Number × ℕ)) → begins (digit 10) bs ≡ true → number_at bs ≡ o → Right a bs (number_or_fault o)
right_number_if a bs None first h =
    (inl (record { digit_first = first; none = λ x w rest e is. none_some (x, length w) (sym h ∙ ap number_at e ∙ number_again x w rest is) }), refl)
right_number_if a bs (Some x) first h =
    let f = finds_number bs x first h in
    record { w = f.w; rest = f.rest; text = f.text; size = f.size; means = f.number }

-- ---- marks and characters

some_nat : (c d : ℕ) → Some c ≡ Some d → c ≡ d
some_nat c d h = cc

pub right_character : (a : Bool) (bs : List ℕ) (c : ℕ) → character_at a bs ≡ Some c → Stands a bs (p.Character c, 3)
right_character a [] c h = absurd (none_some c h)
right_character a (t ∷ []) c h = absurd (none_some c h)
right_character a (t ∷ d ∷ []) c h = absurd (none_some c h)
right_character a (t ∷ d ∷ u ∷ bs) c h =
    let test = not a && (eqb t 39 && (eqb u 39 && is_printable d)) in
    let is = some_if test d c h in
    let first = and_parts (not a) (eqb t 39 && (eqb u 39 && is_printable d)) is.0 in
    let second = and_parts (eqb t 39) (eqb u 39 && is_printable d) first.1 in
    let third = and_parts (eqb u 39) (is_printable d) second.1 in
    let range = and_parts (leb 32 d) (leb d 126) third.1 in
    record {
      w = 39 ∷ c ∷ 39 ∷ [];
      rest = bs;
      text = rw (eqb-true t 39 second.0, eqb-true u 39 third.0, is.1) refl;
      size = refl;
      means = record { free = not-true a first.0; printable = rw (← is.1) (leb-true 32 d range.0, leb-true d 126 range.1); text = refl };
    }

pub character_there : (a : Bool) (bs : List ℕ) → IsCharacterAt a bs → (c : ℕ) × (character_at a bs ≡ Some c)
character_there a bs is =
    let c = is.0 in
    let printable : is_printable c ≡ true = and_from _ _ (le-leb 32 c is.3) (le-leb c 126 is.4) in
    let at : character_at a (39 ∷ c ∷ 39 ∷ is.1) ≡ Some c = rw (is.2, printable) refl in
    (c, ap (character_at a) is.5 ∙ at)

first_single : (x : Mark) (b : ℕ) (t : List ℕ) → mark_text x ≡ b ∷ t → single_mark b ≡ None → ⊥
first_single m.Ampersand b t e h = single_known b 38 m.Ampersand (ap head_of e) refl h
first_single m.Tick b t e h = single_known b 39 m.Tick (ap head_of e) refl h
first_single m.LeftParen b t e h = single_known b 40 m.LeftParen (ap head_of e) refl h
first_single m.RightParen b t e h = single_known b 41 m.RightParen (ap head_of e) refl h
first_single m.Star b t e h = single_known b 42 m.Star (ap head_of e) refl h
first_single m.DoubleStar b t e h = single_known b 42 m.Star (ap head_of e) refl h
first_single m.Plus b t e h = single_known b 43 m.Plus (ap head_of e) refl h
first_single m.Comma b t e h = single_known b 44 m.Comma (ap head_of e) refl h
first_single m.Minus b t e h = single_known b 45 m.Minus (ap head_of e) refl h
first_single m.Point b t e h = single_known b 46 m.Point (ap head_of e) refl h
first_single m.Slash b t e h = single_known b 47 m.Slash (ap head_of e) refl h
first_single m.NotEqual b t e h = single_known b 47 m.Slash (ap head_of e) refl h
first_single m.Colon b t e h = single_known b 58 m.Colon (ap head_of e) refl h
first_single m.Assign b t e h = single_known b 58 m.Colon (ap head_of e) refl h
first_single m.Semicolon b t e h = single_known b 59 m.Semicolon (ap head_of e) refl h
first_single m.Less b t e h = single_known b 60 m.Less (ap head_of e) refl h
first_single m.LessEqual b t e h = single_known b 60 m.Less (ap head_of e) refl h
first_single m.Box b t e h = single_known b 60 m.Less (ap head_of e) refl h
first_single m.Equal b t e h = single_known b 61 m.Equal (ap head_of e) refl h
first_single m.DoubleEqual b t e h = single_known b 61 m.Equal (ap head_of e) refl h
first_single m.Arrow b t e h = single_known b 61 m.Equal (ap head_of e) refl h
first_single m.Greater b t e h = single_known b 62 m.Greater (ap head_of e) refl h
first_single m.GreaterEqual b t e h = single_known b 62 m.Greater (ap head_of e) refl h
first_single m.Bar b t e h = single_known b 124 m.Bar (ap head_of e) refl h

no_single : (b : ℕ) (bs : List ℕ) → mark_at (b ∷ bs) ≡ None → single_mark b ≡ None
unfolding mark_at
no_single b [] h = of_length-none 1 (single_mark b) h
no_single b (c ∷ bs) h = of_length-none 1 (single_mark b) (or_else-none (of_length 2 (pair_mark b c)) (of_length 1 (single_mark b)) h)

no_mark_front : (b : ℕ) (bs : List ℕ) (x : Mark) (t after : List ℕ) → mark_text x ≡ t → single_mark b ≡ None → (b ∷ bs) ≡ t ++ after → ⊥
no_mark_front b bs x [] after is none e = let n = some_text x in let l : length (mark_text x) ≡ 0 = ap length is in absurd (omega arith)
no_mark_front b bs x (c ∷ t) after is none e = first_single x c t is (let same : b ≡ c = heads_same b c bs (t ++ after) e in ap single_mark (sym same) ∙ none)

-- what the tests before the marks have found out
pub record Plain (b : ℕ) : Type 0 where
  pub separator : is_separator b ≡ false
  pub letter : is_ascii_alphabetic b ≡ false
  pub digits : digit 10 b ≡ false
  pub quote : eqb b 34 ≡ false
  pub wide : is_wide b ≡ false

right_mark_if : (a : Bool) (b : ℕ) (bs : List ℕ) (o : Option (Mark × ℕ)) → Plain b → opens_comment (b ∷ bs) ≡ false → character_at a (b ∷ bs) ≡ None → mark_at (b ∷ bs) ≡ o → Right a (b ∷ bs) (mark_or_fault o)
right_mark_if a b bs None plain no_comment no_character h = (
  record {
    byte = b;
    rest = bs;
    text = refl;
    ascii = not-false (is_ascii b) plain.wide;
    no_separator = plain.separator;
    no_letter = plain.letter;
    no_digit = plain.digits;
    no_quote = plain.quote;
    no_mark = λ x after e. no_mark_front b bs x (mark_text x) after refl (no_single b bs h) e;
  },
  refl,
)
right_mark_if a b bs (Some x) plain no_comment no_character h =
    let f = finds_mark (b ∷ bs) x h in
    record {
      w = f.w;
      rest = f.rest;
      text = f.text;
      size = f.size;
      means = (f.mark, (λ is. let t = character_there a (f.w ++ f.rest) is in none_some t.0 (sym no_character ∙ ap (character_at a) f.text ∙ t.1)), ap opens_comment (sym f.text) ∙ no_comment);
    }

right_mark_piece_if : (a : Bool) (b : ℕ) (bs : List ℕ) (o : Option ℕ) → Plain b → opens_comment (b ∷ bs) ≡ false → character_at a (b ∷ bs) ≡ o → Right a (b ∷ bs) (character_or o (mark_or_fault (mark_at (b ∷ bs))))
right_mark_piece_if a b bs None plain no_comment h = right_mark_if a b bs (mark_at (b ∷ bs)) plain no_comment h refl
right_mark_piece_if a b bs (Some c) plain no_comment h = right_character a (b ∷ bs) c h

right_mark_piece : (a : Bool) (b : ℕ) (bs : List ℕ) → Plain b → opens_comment (b ∷ bs) ≡ false → Right a (b ∷ bs) (mark_piece_at a (b ∷ bs))
unfolding mark_piece_at
right_mark_piece a b bs plain no_comment = right_mark_piece_if a b bs (character_at a (b ∷ bs)) plain no_comment refl

-- ---- all of them

comment_cons : (b : ℕ) (bs : List ℕ) → opens_comment (b ∷ bs) ≡ true → (b ∷ bs) ≡ 45 ∷ 45 ∷ drop 1 bs
comment_cons b bs h =
    let parts = and_parts (eqb b 45) (begins (λ c. eqb c 45) bs) h in
    rw (eqb-true b 45 parts.0) (ap (λ (t : List ℕ). 45 ∷ t) (begins_cons 45 bs parts.1))

pub right_piece : (a : Bool) (b : ℕ) (bs : List ℕ) → Right a (b ∷ bs) (piece_at a b (b ∷ bs))
unfolding piece_at
right_piece a b bs =
    cond_both (is_separator b) _ _ (Right a (b ∷ bs))
    (λ separates. record { w = b ∷ []; rest = bs; text = refl; size = refl; means = record { byte = b; text = refl; separates = separates } })
    (λ separator. cond_both (is_ascii_alphabetic b) _ _ (Right a (b ∷ bs))
    (λ letter. right_word a b bs letter)
    (λ no_letter. cond_both (digit 10 b) _ _ (Right a (b ∷ bs))
    (λ first. right_number_if a (b ∷ bs) (number_at (b ∷ bs)) first refl)
    (λ no_digit. cond_both (eqb b 34) _ _ (Right a (b ∷ bs))
    (λ quote. subst (λ (c : ℕ). Right a (c ∷ bs) (text_at bs)) (sym (eqb-true b 34 quote)) (right_text a bs))
    (λ no_quote. cond_both (opens_comment (b ∷ bs)) _ _ (Right a (b ∷ bs))
    (λ opens. subst (λ (t : List ℕ). Right a t (comment_at (drop 1 bs))) (sym (comment_cons b bs opens)) (right_comment a (drop 1 bs)))
    (λ no_comment. cond_both (is_wide b) _ _ (Right a (b ∷ bs))
    (λ wide. inl (wide, refl))
    (λ narrow. right_mark_piece a b bs (record { separator = separator; letter = no_letter; digits = no_digit; quote = no_quote; wide = narrow }) no_comment))))))
