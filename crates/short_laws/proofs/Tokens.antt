-- A text has no more tokens than bytes.
use Rattle.std.proofs.Common.{◌≡◌, ◌≤◌, ◌<◌, ℕ, ◌+◌, Bool, true, false, List, [], ◌∷◌, ◌++◌, length, map, Option, Some, None, sym, ap, subst, ◌∙◌, arith, length-append}
use Rattle.std.proofs.lemmas.List.{length-map}
use Rattle.ams_token.specs.Spelling.{mark_text}
use Rattle.ams_token.specs.declared.tokens.Tokens.{Tokens}
use Rattle.ams_lexer.specs.Runs.{begins}
use Rattle.ams_lexer.specs.Pieces.{Lexeme, reserved, name, number, character, string, bits, mark, IsLexeme}
use Rattle.ams_lexer.specs.Texts.{Cut, IsPiece, attribute_after, IsCut, Placed, placed, tokens_after, placed_of, HasTokens}
use Rattle.ams_lexer.proofs.AgainLaws.{number_first}
use Rattle.ams_lexer.proofs.MarkLaws.{some_text}

some_bytes : (p : ℕ → Bool) (w : List ℕ) → begins p w ≡ true → 0 < length w
some_bytes p [] h = absurd (cc)
some_bytes p (b ∷ w) h = omega arith

longer : (w v : List ℕ) → w ≡ v → 0 < length v → 0 < length w
longer w v e h = subst (λ (l : List ℕ). 0 < length l) (sym e) h

lexeme_some : (a : Bool) (l : Lexeme) (w rest : List ℕ) → IsLexeme a l w rest → 0 < length w
lexeme_some a (reserved x) w rest h = some_bytes _ w h.0.letter
lexeme_some a (name text) w rest h = some_bytes _ w h.0.letter
lexeme_some a (number x) w rest h = some_bytes _ w (number_first x w rest h)
lexeme_some a (character c) w rest h = longer w _ h.text (omega arith)
lexeme_some a (string content) w rest h = longer w _ h.text (omega arith)
lexeme_some a (bits content) w rest h = longer w _ h.text (omega arith)
lexeme_some a (mark x) w rest h = longer w (mark_text x) h.0.text (omega (arith, some_text x))

placed_few : (a : Bool) (before w rest : List ℕ) (o : Option Lexeme) → IsPiece a w rest o → length (placed before w o) ≤ length w
placed_few a before w rest None h = omega arith
placed_few a before w rest (Some l) h = omega (arith, lexeme_some a l w rest h)

cuts_few : (a : Bool) (before bs : List ℕ) (cuts : List Cut) → IsCut a bs cuts None → length (tokens_after before cuts) ≤ length bs
cuts_few a before bs [] h = omega arith
cuts_few a before bs (cut ∷ more) h =
    let rest = cuts_few (attribute_after a cut.lexeme) (before ++ cut.bytes) h.0 more h.3 in
    let here = placed_few a before cut.bytes h.0 cut.lexeme h.2 in
    let whole : length bs ≡ length cut.bytes + length h.0 = ap length h.1 ∙ length-append cut.bytes h.0 in
    omega (arith, rest, here, whole, length-append (placed before cut.bytes cut.lexeme) (tokens_after (before ++ cut.bytes) more))

abbrev some_placed : Placed → Option Placed
some_placed x = Some x

pub few_tokens : (text : List ℕ) (found : Tokens) → HasTokens text found → length found.list.items ≤ length text
few_tokens text found h =
    let left : length (map (placed_of found.names) found.list.items) ≡ length found.list.items = length-map found.list.items (placed_of found.names) in
    let right : length (map some_placed (tokens_after [] h.cuts)) ≡ length (tokens_after [] h.cuts) = length-map (tokens_after [] h.cuts) some_placed in
    let same : length (map (placed_of found.names) found.list.items) ≡ length (map some_placed (tokens_after [] h.cuts)) = ap length h.list in
    omega (arith, left, right, same, cuts_few false [] text h.cuts h.is_cut)
