-- One more piece of a text, and what the pieces say of its tokens.
use Rattle.std.proofs.Common.{◌≡◌, ℕ, zero, suc, ◌+◌, ◌-◌, ◌≤◌, ◌<◌, Bool, true, false, cond, eqb, List, [], ◌∷◌, ◌++◌, length, take, drop, get_or, map, fold, Option, Some, None, refl, sym, ap, subst, ◌∙◌, arith, inl, inr, append_assoc}
use Rattle.std.specs.Prelude.{slice_get}
use Rattle.std.specs.Option.{option_map}
use Rattle.std.specs.List.{list_all, list_any}
use Rattle.std.specs.Str.{bytes_eq}
use Rattle.std.proofs.lemmas.Bool.{eqb-true, cases_Bool}
use Rattle.std.proofs.lemmas.List.{take_at, drop_at, length-append, append-nil, take-append-drop, length-take-le, drop-drop, map-append, length-drop, drop_all, take_all}
use Rattle.std.proofs.lemmas.List.Concat.{flat_map-append}
use Rattle.ams_token.specs.declared.token.Place.{Place}
use Rattle.ams_token.specs.declared.token.Token.{Token}
use Rattle.ams_token.specs.declared.tokens.Tokens.{Tokens}
use Rattle.ams_token.specs.declared.token.TokenKind.{TokenKind}
use Rattle.ams_token.specs.declared.token.TokenKind.TheVariants as kind
use Rattle.ams_token.specs.NameTable.{known_names, with_name}
use Rattle.ams_lexer.specs.declared.pieces.Piece.{Piece}
use Rattle.ams_lexer.specs.declared.pieces.Piece.TheVariants as p
use Rattle.ams_lexer.specs.declared.pieces.Cause.{Cause}
use Rattle.ams_lexer.specs.Strings.{is_in_line}
use Rattle.ams_lexer.specs.Pieces.{Lexeme, reserved, name, number, character, string, bits, mark, takes_attribute, Means, HasFault, IsComment, IsLexeme, Stands}
use Rattle.ams_lexer.specs.Texts.{fault_of, HasTokens, IsBlank, StopsAt, IsFaultOf, Cut, IsPiece, attribute_after, IsCut, bytes_of, Placed, placed, tokens_after, with_text, lexeme_of, placed_of, place_at, place_after, first_place}
use Rattle.ams_lexer.specs.Progress.{IsCutTo, IsInLine, IsProgress, skipped, IsPushed}
use Rattle.ams_lexer.specs.declared.lexer.Lexer.{Lexer}
use Rattle.ams_lexer.proofs.KindLaws.{takes_same}
use Rattle.ams_lexer.proofs.LineLaws.{place_after-append, place_in_line, before_fault, in_line, takes_some}
use Rattle.ams_lexer.specs.declared.pieces.Cause.TheVariants as cause
use Rattle.ams_lexer.specs.Kinds.{Puts, PutsIfToken, Tells}

-- ---- lists

append_one : {A : Type 0} (xs : List A) (x : A) (ys : List A) → (xs ++ x ∷ []) ++ ys ≡ xs ++ x ∷ ys
append_one xs x ys = append_assoc xs (x ∷ []) ys

fold_more : {A B : Type 0} (f : B → A → B) (start : B) (xs : List A) (x : A) → fold f start (xs ++ x ∷ []) ≡ f (fold f start xs) x
fold_more f start [] x = refl
fold_more f start (y ∷ xs) x = fold_more f (f start y) xs x

-- what a front that is taken and the bytes behind it make
take_front : (text w rest : List ℕ) (at : ℕ) → at ≤ length text → drop at text ≡ w ++ rest → take (at + length w) text ≡ take at text ++ w
take_front text w rest at within e =
    let whole : text ≡ (take at text ++ w) ++ rest = sym (take-append-drop at text) ∙ ap (λ (t : List ℕ). take at text ++ t) e ∙ sym (append_assoc (take at text) w rest) in
    let long : length (take at text ++ w) ≡ at + length w = let a = length-append (take at text) w in let b = length-take-le at text within in omega (arith, a, b) in
    ap (take (at + length w)) whole ∙ take_at (take at text ++ w) rest (at + length w) long

drop_front : (text w rest : List ℕ) (at : ℕ) → drop at text ≡ w ++ rest → drop (at + length w) text ≡ rest
drop_front text w rest at e = sym (drop-drop (length w) at text) ∙ ap (drop (length w)) e ∙ drop_at w rest (length w) refl

-- ---- names that are added leave the others

get_kept : (names more : List (List ℕ)) (k : ℕ) (text : List ℕ) → slice_get names k ≡ Some text → slice_get (names ++ more) k ≡ Some text
get_kept [] more k text h = absurd cc
get_kept (x ∷ names) more zero text h = h
get_kept (x ∷ names) more (suc k) text h = get_kept names more k text h

with_name_kept : (names : List (List ℕ)) (text : List ℕ) (k : ℕ) (t : List ℕ) → slice_get names k ≡ Some t → slice_get (with_name names text) k ≡ Some t
with_name_kept names text k t h =
    elim (cases_Bool (list_any (bytes_eq text) names)) [
      | inl e ↦ rw e h
      | inr e ↦ rw e (get_kept names (text ∷ []) k t h)
    ]

with_text_kept : (names : List (List ℕ)) (l : Option Lexeme) (k : ℕ) (t : List ℕ) → slice_get names k ≡ Some t → slice_get (with_text names l) k ≡ Some t
with_text_kept names None k t h = h
with_text_kept names (Some (name text)) k t h = with_name_kept names text k t h
with_text_kept names (Some (string text)) k t h = with_name_kept names text k t h
with_text_kept names (Some (bits text)) k t h = with_name_kept names text k t h
with_text_kept names (Some (reserved x)) k t h = h
with_text_kept names (Some (number x)) k t h = h
with_text_kept names (Some (character x)) k t h = h
with_text_kept names (Some (mark x)) k t h = h

mapped_kept : (f : List ℕ → Lexeme) (before after : Option (List ℕ)) (x : Lexeme) → ((t : List ℕ) → before ≡ Some t → after ≡ Some t) → option_map f before ≡ Some x → option_map f after ≡ Some x
mapped_kept f None after x kept h = absurd cc
mapped_kept f (Some t) after x kept h = ap (option_map f) (kept t refl) ∙ h

lexeme_kept : (names : List (List ℕ)) (l : Option Lexeme) (k : TokenKind) (x : Lexeme) → lexeme_of names k ≡ Some x → lexeme_of (with_text names l) k ≡ Some x
lexeme_kept names l (kind.Word y) x h = h
lexeme_kept names l (kind.Name k) x h = mapped_kept name (slice_get names k) (slice_get (with_text names l) k) x (λ t e. with_text_kept names l k t e) h
lexeme_kept names l (kind.Int y) x h = h
lexeme_kept names l (kind.Real y) x h = h
lexeme_kept names l (kind.Char y) x h = h
lexeme_kept names l (kind.Str k) x h = mapped_kept string (slice_get names k) (slice_get (with_text names l) k) x (λ t e. with_text_kept names l k t e) h
lexeme_kept names l (kind.Bits k) x h = mapped_kept bits (slice_get names k) (slice_get (with_text names l) k) x (λ t e. with_text_kept names l k t e) h
lexeme_kept names l (kind.Mark y) x h = h

some_lexeme_if : (t : Token) (o : Option Lexeme) (q : Option Lexeme) (x : Placed) → ((l : Lexeme) → o ≡ Some l → q ≡ Some l)
    → option_map (λ lexeme. record { lexeme = lexeme; place = t.place; from = t.from; to = t.to }) o ≡ Some x → option_map (λ lexeme. record { lexeme = lexeme; place = t.place; from = t.from; to = t.to }) q ≡ Some x
some_lexeme_if t None q x kept h = absurd cc
some_lexeme_if t (Some l) q x kept h = rw (kept l refl) h

placed_kept : (names : List (List ℕ)) (l : Option Lexeme) (t : Token) (x : Placed) → placed_of names t ≡ Some x → placed_of (with_text names l) t ≡ Some x
placed_kept names l t x h = some_lexeme_if t (lexeme_of names t.kind) (lexeme_of (with_text names l) t.kind) x (λ y e. lexeme_kept names l t.kind y e) h

cons_parts : {A : Type 0} (x y : A) (xs ys : List A) → (x ∷ xs) ≡ (y ∷ ys) → (x ≡ y) × (xs ≡ ys)
cons_parts x y xs ys h = (cc, cc)

list_kept : (names : List (List ℕ)) (l : Option Lexeme) (ts : List Token) (xs : List Placed) → map (placed_of names) ts ≡ map (λ x. Some x) xs → map (placed_of (with_text names l)) ts ≡ map (λ x. Some x) xs
list_kept names l [] xs h = h
list_kept names l (t ∷ ts) [] h = absurd cc
list_kept names l (t ∷ ts) (x ∷ xs) h =
    let parts = cons_parts (placed_of names t) (Some x) (map (placed_of names) ts) (map (λ x. Some x) xs) h in
    rw (placed_kept names l t x parts.0, list_kept names l ts xs parts.1) refl

-- ---- one more piece

tokens_after-more : (cuts : List Cut) (before : List ℕ) (cut : Cut) → tokens_after before (cuts ++ cut ∷ []) ≡ tokens_after before cuts ++ placed (before ++ bytes_of cuts) cut.bytes cut.lexeme
tokens_after-more [] before cut = append-nil (placed before cut.bytes cut.lexeme) ∙ ap (λ (t : List ℕ). placed t cut.bytes cut.lexeme) (sym (append-nil before))
tokens_after-more (c ∷ cuts) before cut =
    ap (λ (t : List Placed). placed before c.bytes c.lexeme ++ t) (tokens_after-more cuts (before ++ c.bytes) cut ∙ ap (λ (t : List ℕ). tokens_after (before ++ c.bytes) cuts ++ placed t cut.bytes cut.lexeme) (append_assoc before c.bytes (bytes_of cuts)))
    ∙ sym (append_assoc (placed before c.bytes c.lexeme) (tokens_after (before ++ c.bytes) cuts) (placed (before ++ bytes_of (c ∷ cuts)) cut.bytes cut.lexeme))

bytes_of-more : (cuts : List Cut) (cut : Cut) → bytes_of (cuts ++ cut ∷ []) ≡ bytes_of cuts ++ cut.bytes
bytes_of-more cuts cut = flat_map-append (λ c. c.bytes) cuts (cut ∷ []) ∙ ap (λ (t : List ℕ). bytes_of cuts ++ t) (append-nil cut.bytes)

cut_more : (text : List ℕ) (at : ℕ) (a : Bool) (names new : List (List ℕ)) (tokens more : List Token) (w rest : List ℕ) (l : Option Lexeme) → (c : IsCutTo text at a names tokens) → at ≤ length text → drop at text ≡ w ++ rest → IsPiece a w rest l → new ≡ with_text names l
    → map (placed_of new) more ≡ map (λ x. Some x) (tokens_after [] c.cuts ++ placed (take at text) w l) → IsCutTo text (at + length w) (attribute_after a l) new more
cut_more text at a names new tokens more w rest l c within e is put list =
    let cut : Cut = record { bytes = w; lexeme = l } in
    record {
      cuts = c.cuts ++ cut ∷ [];
      reaches = λ others end h.
          subst (λ (t : List Cut). IsCut false text t end) (sym (append_one c.cuts cut others))
          (c.reaches (cut ∷ others) end (rest, e, is, subst (λ (t : List ℕ). IsCut (attribute_after a l) t others end) (drop_front text w rest at e) h));
      before = bytes_of-more c.cuts cut ∙ ap (λ (t : List ℕ). t ++ w) c.before ∙ sym (take_front text w rest at within e);
      list = list ∙ ap (map (λ x. Some x)) (sym (tokens_after-more c.cuts [] cut ∙ ap (λ (t : List ℕ). tokens_after [] c.cuts ++ placed t w l) c.before));
      is_names = put ∙ ap (λ (t : List (List ℕ)). with_text t l) c.is_names ∙ sym (fold_more (λ names cut. with_text names cut.lexeme) known_names c.cuts cut);
    }

pub cut_blank : (text : List ℕ) (at : ℕ) (a : Bool) (names : List (List ℕ)) (tokens : List Token) (w rest : List ℕ) → IsCutTo text at a names tokens → at ≤ length text → drop at text ≡ w ++ rest → IsPiece a w rest None → IsCutTo text (at + length w) a names tokens
cut_blank text at a names tokens w rest c within e is =
    cut_more text at a names names tokens tokens w rest None c within e is refl (c.list ∙ ap (map (λ x. Some x)) (sym (append-nil (tokens_after [] c.cuts))))

pub cut_token : (text : List ℕ) (at : ℕ) (a : Bool) (names new : List (List ℕ)) (tokens : List Token) (t : Token) (w rest : List ℕ) (l : Lexeme) → IsCutTo text at a names tokens → at ≤ length text → drop at text ≡ w ++ rest → IsPiece a w rest (Some l) → new ≡ with_text names (Some l)
    → lexeme_of new t.kind ≡ Some l → t.place ≡ place_after first_place (take at text) → t.from ≡ at → t.to ≡ at + length w → IsCutTo text (at + length w) (takes_attribute l) new (tokens ++ t ∷ [])
cut_token text at a names new tokens t w rest l c within e is put shows place from to =
    let long : length (take at text) ≡ at = length-take-le at text within in
    let one : Placed = record { lexeme = l; place = place_after first_place (take at text); from = length (take at text); to = length (take at text) + length w } in
    let shown : placed_of new t ≡ Some one = rw (shows, place, from, to, long) refl in
    let old : map (placed_of new) tokens ≡ map (λ x. Some x) (tokens_after [] c.cuts) = subst (λ (n : List (List ℕ)). map (placed_of n) tokens ≡ map (λ x. Some x) (tokens_after [] c.cuts)) (sym put) (list_kept names (Some l) tokens (tokens_after [] c.cuts) c.list) in
    cut_more text at a names new tokens (tokens ++ t ∷ []) w rest (Some l) c within e is put
    (map-append (placed_of new) tokens (t ∷ []) ∙ rw (old, shown) (sym (map-append (λ x. Some x) (tokens_after [] c.cuts) (one ∷ []))))

pub line_more : (text : List ℕ) (at line start : ℕ) (w rest : List ℕ) → IsInLine text at line start → at ≤ length text → drop at text ≡ w ++ rest → list_all is_in_line w ≡ true → IsInLine text (at + length w) line start
line_more text at line start w rest is within e plain =
    let s = is.start_bound in
    let b = is.line_bound in
    let k : (at + 1 - start) + length w ≡ at + length w + 1 - start = omega arith in
    record {
      place = ap (place_after first_place) (take_front text w rest at within e) ∙ place_after-append first_place (take at text) w ∙ ap (λ (q : Place). place_after q w) is.place
          ∙ place_in_line w line (at + 1 - start) plain ∙ ap (place_at line) k;
      line_bound = omega arith;
      start_bound = omega arith;
    }

pub line_next : (text : List ℕ) (at line start : ℕ) (rest : List ℕ) → IsInLine text at line start → at ≤ length text → drop at text ≡ 10 ∷ rest → IsInLine text (at + 1) (line + 1) (at + 1)
line_next text at line start rest is within e =
    let b = is.line_bound in
    let k : 1 ≡ at + 1 + 1 - (at + 1) = omega arith in
    record {
      place = ap (place_after first_place) (take_front text (10 ∷ []) rest at within e) ∙ place_after-append first_place (take at text) (10 ∷ []) ∙ ap (λ (q : Place). place_after q (10 ∷ [])) is.place ∙ ap (place_at (line + 1)) k;
      line_bound = omega arith;
      start_bound = omega arith;
    }

-- ---- a fault

pub fault_stops : (text : List ℕ) (at : ℕ) (a : Bool) (names : List (List ℕ)) (tokens : List Token) (line start : ℕ) (x : Cause) (offset : ℕ) → IsCutTo text at a names tokens → IsInLine text at line start → at ≤ length text → HasFault (drop at text) x offset
    → StopsAt text x (place_at line (at + offset + 1 - start))
fault_stops text at a names tokens line start x offset c is within h =
    let before = before_fault (drop at text) x offset h in
    let w = take offset (drop at text) in
    let long : length w ≡ offset = length-take-le offset (drop at text) before.bound in
    let e : drop at text ≡ w ++ drop offset (drop at text) = sym (take-append-drop offset (drop at text)) in
    let front : take (at + offset) text ≡ take at text ++ w = ap (λ (n : ℕ). take (at + n) text) (sym long) ∙ take_front text w (drop offset (drop at text)) at within e in
    let size : length (bytes_of c.cuts) ≡ at = ap length c.before ∙ length-take-le at text within in
    let s = is.start_bound in
    let k : (at + 1 - start) + length w ≡ at + offset + 1 - start = omega arith in
    record {
      cuts = c.cuts;
      offset = offset;
      is_cut = subst (λ (t : List Cut). IsCut false text t (Some (x, offset))) (append-nil c.cuts) (c.reaches [] (Some (x, offset)) h);
      is_place = sym (ap (λ (n : ℕ). place_after first_place (take (n + offset) text)) size ∙ ap (place_after first_place) front ∙ place_after-append first_place (take at text) w ∙ ap (λ (q : Place). place_after q w) is.place
          ∙ place_in_line w line (at + 1 - start) before.line ∙ ap (place_at line) k);
    }

pub fault_is : (text : List ℕ) (x : Cause) (place : Place) → StopsAt text x place → IsFaultOf text (fault_of x place)
fault_is text cause.BadCharacter place h = h
fault_is text cause.BadLiteral place h = h
fault_is text cause.UnclosedString place h = h
fault_is text cause.NotAscii place h = h

-- ---- a separator or a comment

comment_plain : (w rest : List ℕ) → IsComment w rest → list_all is_in_line w ≡ true
comment_plain w rest is = elim (in_line false p.Comment w rest is) [ inl e ↦ absurd cc | inr e ↦ e ]

-- how the line goes on behind these bytes
abbrev LineAfter : List ℕ → ℕ → ℕ → ℕ → ℕ → ℕ → Type 0
LineAfter text at line start first size = IsInLine text (at + size) (cond (eqb first 10) (line + 1) line) (cond (eqb first 10) (at + 1) start)

pub line_blank : (text : List ℕ) (at line start first : ℕ) (w rest : List ℕ) → IsInLine text at line start → at ≤ length text → drop at text ≡ w ++ rest → get_or (drop at text) 0 0 ≡ first → IsBlank w rest → LineAfter text at line start first (length w)
line_blank text at line start first w rest is within e begins (inl separator) =
    let b = separator.byte in
    let same : b ≡ first = sym (ap (λ (t : List ℕ). get_or t 0 0) (e ∙ ap (λ (t : List ℕ). t ++ rest) separator.text)) ∙ begins in
    let long : length w ≡ 1 = ap length separator.text in
    elim (cases_Bool (eqb first 10)) [
      | inl t ↦ rw (t, long) (line_next text at line start rest is within (e ∙ ap (λ (u : List ℕ). u ++ rest) separator.text ∙ ap (λ (n : ℕ). n ∷ rest) (same ∙ eqb-true first 10 t)))
      | inr f ↦
          let plain : list_all is_in_line w ≡ true = ap (list_all is_in_line) separator.text ∙ (let g : eqb b 10 ≡ false = ap (λ (n : ℕ). eqb n 10) same ∙ f in rw g refl) in
          rw f (line_more text at line start w rest is within e plain)
    ]
line_blank text at line start first w rest is within e begins (inr comment) =
    let same : 45 ≡ first = sym (ap (λ (t : List ℕ). get_or t 0 0) (e ∙ ap (λ (t : List ℕ). t ++ rest) comment.text)) ∙ begins in
    let f : eqb first 10 ≡ false = ap (λ (n : ℕ). eqb n 10) (sym same) in
    rw f (line_more text at line start w rest is within e (comment_plain w rest comment))

-- ---- what a kind says

blank_if : (a : Bool) (old new : List (List ℕ)) (w rest : List ℕ) (l : Option Lexeme) → PutsIfToken old new None l → IsPiece a w rest l → IsBlank w rest × (new ≡ old)
blank_if a old new w rest None puts is = (is, puts)
blank_if a old new w rest (Some l) puts is = absurd puts

token_if : (a : Bool) (old new : List (List ℕ)) (w rest : List ℕ) (k : TokenKind) (l : Option Lexeme) → PutsIfToken old new (Some k) l → IsPiece a w rest l → (l : Lexeme) × IsPiece a w rest (Some l) × Puts old new k l
token_if a old new w rest k None puts is = absurd puts
token_if a old new w rest k (Some l) puts is = (l, is, puts)

pub blank_is : (a : Bool) (old new : List (List ℕ)) (x : Piece) (w rest : List ℕ) → Means a x w rest → Tells old new x w None → IsBlank w rest × (new ≡ old)
blank_is a old new x w rest is t = blank_if a old new w rest t.lexeme t.puts (t.is_piece a rest is)

pub token_is : (a : Bool) (old new : List (List ℕ)) (x : Piece) (w rest : List ℕ) (k : TokenKind) → Means a x w rest → Tells old new x w (Some k) → (l : Lexeme) × IsPiece a w rest (Some l) × Puts old new k l
token_is a old new x w rest k is t = token_if a old new w rest k t.lexeme t.puts (t.is_piece a rest is)

plain_if : (a : Bool) (x : Piece) (w rest : List ℕ) → Means a x w rest → (x ≡ p.Separator → ⊥) → list_all is_in_line w ≡ true
plain_if a x w rest is token = elim (in_line a x w rest is) [ inl e ↦ absurd (token e) | inr e ↦ e ]

-- a token holds no line feed
pub token_plain : (a : Bool) (l : Lexeme) (w rest : List ℕ) → IsLexeme a l w rest → list_all is_in_line w ≡ true
token_plain a (reserved x) w rest is = plain_if a p.Identifier w rest is.0 (λ e. cc)
token_plain a (name text) w rest is = plain_if a p.Identifier w rest is.0 (λ e. cc)
token_plain a (number x) w rest is = plain_if a (p.Number x) w rest is (λ e. cc)
token_plain a (character c) w rest is = plain_if a (p.Character c) w rest is (λ e. cc)
token_plain a (string content) w rest is = plain_if a p.Text w rest (content, is) (λ e. cc)
token_plain a (bits content) w rest is = plain_if a p.Bits w rest (content, is) (λ e. cc)
token_plain a (mark x) w rest is = plain_if a (p.Mark x) w rest is (λ e. cc)

-- ---- progress

pub progress_fault : (text bs : List ℕ) (old : Lexer) (x : Cause) (offset : ℕ) → IsProgress text old → old.at < length text → bs ≡ drop old.at text → HasFault bs x offset → IsFaultOf text (fault_of x (place_at old.line (old.at + offset + 1 - old.line_start)))
progress_fault text bs old x offset is within e h =
    fault_is text x _ (fault_stops text old.at old.attribute old.names old.tokens.items old.line old.line_start x offset is.cut is.line (omega arith) (subst (λ (t : List ℕ). HasFault t x offset) e h))

pub fault_bound : (text bs : List ℕ) (at : ℕ) (x : Cause) (offset : ℕ) → bs ≡ drop at text → HasFault bs x offset → at < length text → at + offset ≤ length text
fault_bound text bs at x offset e h within =
    let b = (before_fault bs x offset h).bound in
    let l : length bs ≡ length text - at = ap length e ∙ length-drop at text in
    omega (arith, b, l)

piece_bound : (text w rest : List ℕ) (at : ℕ) → at < length text → drop at text ≡ w ++ rest → at + length w ≤ length text
piece_bound text w rest at within e =
    let l : length text - at ≡ length w + length rest = sym (length-drop at text) ∙ ap length e ∙ length-append w rest in
    omega (arith, l)

-- what the program knows of the piece that it goes past
pub record Passes (text : List ℕ) (old mid : Lexer) (x : Piece) (w rest : List ℕ) : Type 0 where
  pub progress : IsProgress text old
  pub within : old.at < length text
  pub front : drop old.at text ≡ w ++ rest
  pub means : Means old.attribute x w rest
  pub at : mid.at ≡ old.at
  pub attribute : mid.attribute ≡ old.attribute
  pub line : mid.line ≡ old.line
  pub line_start : mid.line_start ≡ old.line_start
  pub tokens : mid.tokens.items ≡ old.tokens.items

record SkippedFields (mid new : Lexer) (t : Bool) (size : ℕ) : Type 0 where
  at : new.at ≡ mid.at + size
  attribute : new.attribute ≡ mid.attribute
  line : new.line ≡ cond t (mid.line + 1) mid.line
  line_start : new.line_start ≡ cond t (mid.at + 1) mid.line_start
  names : new.names ≡ mid.names
  tokens : new.tokens.items ≡ mid.tokens.items

skipped_fields : (mid new : Lexer) (t : Bool) (size : ℕ) → new ≡ cond t (record mid { line = mid.line + 1; line_start = mid.at + 1; at = mid.at + size }) (record mid { at = mid.at + size }) → SkippedFields mid new t size
skipped_fields mid new true size is = record {
  at = ap (λ (l : Lexer). l.at) is;
  attribute = ap (λ (l : Lexer). l.attribute) is;
  line = ap (λ (l : Lexer). l.line) is;
  line_start = ap (λ (l : Lexer). l.line_start) is;
  names = ap (λ (l : Lexer). l.names) is;
  tokens = ap (λ (l : Lexer). l.tokens.items) is;
}
skipped_fields mid new false size is = record {
  at = ap (λ (l : Lexer). l.at) is;
  attribute = ap (λ (l : Lexer). l.attribute) is;
  line = ap (λ (l : Lexer). l.line) is;
  line_start = ap (λ (l : Lexer). l.line_start) is;
  names = ap (λ (l : Lexer). l.names) is;
  tokens = ap (λ (l : Lexer). l.tokens.items) is;
}

token_progress : (text : List ℕ) (old mid new : Lexer) (x : Piece) (w rest : List ℕ) (k : TokenKind) → Passes text old mid x w rest → Tells old.names mid.names x w (Some k) → IsPushed mid new k (length w) → IsProgress text new × (old.at < new.at) × (new.at ≤ length text)
token_progress text old mid new x w rest k passes tells pushed =
    let t = token_is old.attribute old.names mid.names x w rest k passes.means tells in
    let within : old.at ≤ length text = let h = passes.within in omega arith in
    let at : new.at ≡ old.at + length w = pushed.at ∙ ap (λ (n : ℕ). n + length w) passes.at in
    let placed : place_at mid.line (mid.at + 1 - mid.line_start) ≡ place_after first_place (take old.at text) = rw (passes.line, passes.at, passes.line_start) (sym passes.progress.line.place) in
    let token : Token = record { kind = k; place = place_at mid.line (mid.at + 1 - mid.line_start); from = mid.at; to = mid.at + length w } in
    let cut = cut_token text old.at old.attribute old.names mid.names old.tokens.items token w rest t.0 passes.progress.cut within passes.front t.1 t.2.names t.2.shows placed passes.at (ap (λ (n : ℕ). n + length w) passes.at) in
    let line = line_more text old.at old.line old.line_start w rest passes.progress.line within passes.front (token_plain old.attribute t.0 w rest t.1) in
    let tick : new.attribute ≡ takes_attribute t.0 = pushed.attribute ∙ takes_same mid.names k t.0 t.2.shows in
    let items : new.tokens.items ≡ old.tokens.items ++ token ∷ [] = pushed.tokens ∙ ap (λ (ts : List Token). ts ++ token ∷ []) passes.tokens in
    let some = takes_some old.attribute x w rest passes.means in
    let bound = piece_bound text w rest old.at passes.within passes.front in (
      record {
        cut = rw (at, tick, pushed.names, items) cut;
        line = rw (at, pushed.line, pushed.line_start, passes.line, passes.line_start) line;
      },
      omega (arith, at, some),
      omega (arith, at, bound),
    )

blank_from : (text : List ℕ) (old mid new : Lexer) (x : Piece) (w rest : List ℕ) (first : ℕ) (t : Bool) → Passes text old mid x w rest → mid.names ≡ old.names → IsBlank w rest → IsInLine text (old.at + length w) (cond t (old.line + 1) old.line) (cond t (old.at + 1) old.line_start)
    → new ≡ cond t (record mid { line = mid.line + 1; line_start = mid.at + 1; at = mid.at + length w }) (record mid { at = mid.at + length w }) → IsProgress text new × (old.at < new.at) × (new.at ≤ length text)
blank_from text old mid new x w rest first t passes names blank line is =
    let within : old.at ≤ length text = let h = passes.within in omega arith in
    let cut = cut_blank text old.at old.attribute old.names old.tokens.items w rest passes.progress.cut within passes.front blank in
    let some = takes_some old.attribute x w rest passes.means in
    let bound = piece_bound text w rest old.at passes.within passes.front in
    let fields = skipped_fields mid new t (length w) is in
    let at : new.at ≡ old.at + length w = fields.at ∙ ap (λ (n : ℕ). n + length w) passes.at in (
      record {
        cut = rw (at, fields.attribute, fields.names, fields.tokens, passes.attribute, names, passes.tokens) cut;
        line = rw (at, fields.line, fields.line_start, passes.line, passes.line_start, passes.at) line;
      },
      omega (arith, at, some),
      omega (arith, at, bound),
    )

blank_progress : (text : List ℕ) (old mid new : Lexer) (x : Piece) (w rest : List ℕ) (first : ℕ) → Passes text old mid x w rest → Tells old.names mid.names x w None → get_or (drop old.at text) 0 0 ≡ first → new ≡ skipped mid first (length w) → IsProgress text new × (old.at < new.at) × (new.at ≤ length text)
blank_progress text old mid new x w rest first passes tells begins is =
    let b = blank_is old.attribute old.names mid.names x w rest passes.means tells in
    let within : old.at ≤ length text = let h = passes.within in omega arith in
    let line = line_blank text old.at old.line old.line_start first w rest passes.progress.line within passes.front begins b.0 in
    blank_from text old mid new x w rest first (eqb first 10) passes b.1 b.0 line is

-- the program changed nothing but the names and the scratch text
pub record Unmoved (old mid : Lexer) : Type 0 where
  pub at : mid.at ≡ old.at
  pub attribute : mid.attribute ≡ old.attribute
  pub line : mid.line ≡ old.line
  pub line_start : mid.line_start ≡ old.line_start
  pub tokens : mid.tokens.items ≡ old.tokens.items

passes_piece : (text bs : List ℕ) (old mid : Lexer) (found : Piece × ℕ) → IsProgress text old → old.at < length text → bs ≡ drop old.at text → (s : Stands old.attribute bs found) → Unmoved old mid → Passes text old mid found.0 s.w s.rest
passes_piece text bs old mid found is within e s u = record {
  progress = is;
  within = within;
  front = sym e ∙ s.text;
  means = s.means;
  at = u.at;
  attribute = u.attribute;
  line = u.line;
  line_start = u.line_start;
  tokens = u.tokens;
}

taken_is : (a : Bool) (bs bytes : List ℕ) (found : Piece × ℕ) (s : Stands a bs found) → bytes ≡ take found.1 bs → bytes ≡ s.w
taken_is a bs bytes found s e = e ∙ ap (take found.1) s.text ∙ take_at s.w s.rest found.1 s.size

pub goes_past_token : (text bs bytes : List ℕ) (old mid new : Lexer) (found : Piece × ℕ) (o : Option TokenKind) (k : TokenKind) → IsProgress text old → old.at < length text → bs ≡ drop old.at text → Stands old.attribute bs found → bytes ≡ take found.1 bs → Unmoved old mid
    → Tells old.names mid.names found.0 bytes o → o ≡ Some k → IsPushed mid new k found.1 → IsProgress text new × (old.at < new.at) × (new.at ≤ length text)
goes_past_token text bs bytes old mid new found o k is within e s taken u tells some pushed =
    let passes = passes_piece text bs old mid found is within e s u in
    let same = taken_is old.attribute bs bytes found s taken in
    let told : Tells old.names mid.names found.0 s.w (Some k) = subst (λ (v : List ℕ). Tells old.names mid.names found.0 v (Some k)) same (subst (λ (q : Option TokenKind). Tells old.names mid.names found.0 bytes q) some tells) in
    token_progress text old mid new found.0 s.w s.rest k passes told (subst (λ (n : ℕ). IsPushed mid new k n) (sym s.size) pushed)

pub goes_past_blank : (text bs bytes : List ℕ) (old mid new : Lexer) (found : Piece × ℕ) (o : Option TokenKind) (first : ℕ) → IsProgress text old → old.at < length text → bs ≡ drop old.at text → Stands old.attribute bs found → bytes ≡ take found.1 bs → Unmoved old mid
    → Tells old.names mid.names found.0 bytes o → o ≡ None → get_or bs 0 0 ≡ first → new ≡ skipped mid first found.1 → IsProgress text new × (old.at < new.at) × (new.at ≤ length text)
goes_past_blank text bs bytes old mid new found o first is within e s taken u tells none begins skip =
    let passes = passes_piece text bs old mid found is within e s u in
    let same = taken_is old.attribute bs bytes found s taken in
    let told : Tells old.names mid.names found.0 s.w None = subst (λ (v : List ℕ). Tells old.names mid.names found.0 v None) same (subst (λ (q : Option TokenKind). Tells old.names mid.names found.0 bytes q) none tells) in
    blank_progress text old mid new found.0 s.w s.rest first passes told (ap (λ (t : List ℕ). get_or t 0 0) (sym e) ∙ begins) (subst (λ (n : ℕ). new ≡ skipped mid first n) (sym s.size) skip)

-- ---- the end

pub progress_ends : (text : List ℕ) (l : Lexer) (tokens : Tokens) → IsProgress text l → l.at ≤ length text → length text ≤ l.at → tokens.list.items ≡ l.tokens.items → tokens.names ≡ l.names → tokens.end ≡ place_at l.line (l.at + 0 + 1 - l.line_start) → HasTokens text tokens
progress_ends text l tokens is below above items names end =
    let c = is.cut in
    let over : drop l.at text ≡ [] = drop_all l.at text above in
    let whole : take l.at text ≡ text = take_all l.at text above in
    let k : l.at + 0 + 1 - l.line_start ≡ l.at + 1 - l.line_start = let z : l.at + 0 ≡ l.at = omega arith in ap (λ (n : ℕ). n + 1 - l.line_start) z in
    record {
      cuts = c.cuts;
      is_cut = subst (λ (t : List Cut). IsCut false text t None) (append-nil c.cuts) (c.reaches [] None over);
      list = rw (names, items) c.list;
      names = names ∙ c.is_names;
      end = end ∙ ap (place_at l.line) k ∙ sym is.line.place ∙ ap (place_after first_place) whole;
    }
