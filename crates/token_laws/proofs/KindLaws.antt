-- A token is told by its content and its place.
use Rattle.std.proofs.Common.{◌≡◌, ℕ, List, [], ◌∷◌, map, Option, Some, None, refl, sym, ap, subst, ◌∙◌}
use Rattle.std.specs.Prelude.{slice_get}
use Rattle.std.specs.Option.{option_map}
use Rattle.ams_token.specs.declared.token.Place.{Place}
use Rattle.ams_token.specs.declared.token.Token.{Token}
use Rattle.ams_token.specs.declared.token.TokenKind.{TokenKind}
use Rattle.ams_token.specs.declared.token.TokenKind.TheVariants as kind
use Rattle.ams_lexer.specs.declared.numbers.Number.TheVariants as n
use Rattle.ams_lexer.specs.Pieces.{Lexeme, reserved, name, number, character, string, bits, mark}
use Rattle.ams_lexer.specs.Texts.{Placed, lexeme_of, placed_of}
use Rattle.token_laws.proofs.NameLaws.{Different, one_place}

-- a token's content with its place
abbrev the_placed : Token → Lexeme → Placed
the_placed t l = record { lexeme = l; place = t.place; from = t.from; to = t.to }

head_same : {A : Type 0} {x y : A} {xs ys : List A} → x ∷ xs ≡ y ∷ ys → x ≡ y
head_same h = cc

rest_same : {A : Type 0} {x y : A} {xs ys : List A} → x ∷ xs ≡ y ∷ ys → xs ≡ ys
rest_same h = cc

-- what a token of this content is
abbrev Told : List (List ℕ) → Lexeme → TokenKind → Type 0
Told names (reserved w) k = k ≡ kind.Word w
Told names (name t) k = (i : ℕ) × (k ≡ kind.Name i) × (slice_get names i ≡ Some t)
Told names (number (n.Int v)) k = k ≡ kind.Int v
Told names (number (n.Real v)) k = k ≡ kind.Real v
Told names (character c) k = k ≡ kind.Char c
Told names (string t) k = (i : ℕ) × (k ≡ kind.Str i) × (slice_get names i ≡ Some t)
Told names (bits t) k = (i : ℕ) × (k ≡ kind.Bits i) × (slice_get names i ≡ Some t)
Told names (mark m) k = k ≡ kind.Mark m

pub some_same : {A : Type 0} (x y : A) → Some x ≡ Some y → x ≡ y
some_same x y h = cc

mapped_name : (names : List (List ℕ)) (i : ℕ) (x : Lexeme) (o : Option (List ℕ)) → slice_get names i ≡ o → option_map name o ≡ Some x → Told names x (kind.Name i)
mapped_name names i x None e h = cc
mapped_name names i x (Some t) e h = subst (λ y. Told names y (kind.Name i)) (some_same (name t) x h) (i, refl, e)

mapped_string : (names : List (List ℕ)) (i : ℕ) (x : Lexeme) (o : Option (List ℕ)) → slice_get names i ≡ o → option_map string o ≡ Some x → Told names x (kind.Str i)
mapped_string names i x None e h = cc
mapped_string names i x (Some t) e h = subst (λ y. Told names y (kind.Str i)) (some_same (string t) x h) (i, refl, e)

mapped_bits : (names : List (List ℕ)) (i : ℕ) (x : Lexeme) (o : Option (List ℕ)) → slice_get names i ≡ o → option_map bits o ≡ Some x → Told names x (kind.Bits i)
mapped_bits names i x None e h = cc
mapped_bits names i x (Some t) e h = subst (λ y. Told names y (kind.Bits i)) (some_same (bits t) x h) (i, refl, e)

told : (names : List (List ℕ)) (k : TokenKind) (x : Lexeme) → lexeme_of names k ≡ Some x → Told names x k
told names (kind.Word w) x h = subst (λ y. Told names y (kind.Word w)) (some_same (reserved w) x h) refl
told names (kind.Name i) x h = mapped_name names i x (slice_get names i) refl h
told names (kind.Int v) x h = subst (λ y. Told names y (kind.Int v)) (some_same (number (n.Int v)) x h) refl
told names (kind.Real v) x h = subst (λ y. Told names y (kind.Real v)) (some_same (number (n.Real v)) x h) refl
told names (kind.Char c) x h = subst (λ y. Told names y (kind.Char c)) (some_same (character c) x h) refl
told names (kind.Str i) x h = mapped_string names i x (slice_get names i) refl h
told names (kind.Bits i) x h = mapped_bits names i x (slice_get names i) refl h
told names (kind.Mark m) x h = subst (λ y. Told names y (kind.Mark m)) (some_same (mark m) x h) refl

one_kind : (names : List (List ℕ)) → Different names → (x : Lexeme) (j k : TokenKind) → Told names x j → Told names x k → j ≡ k
one_kind names d (reserved w) j k a b = a ∙ sym b
one_kind names d (name t) j k a b = a.1 ∙ ap kind.Name (one_place names a.0 b.0 t d a.2 b.2) ∙ sym b.1
one_kind names d (number (n.Int v)) j k a b = a ∙ sym b
one_kind names d (number (n.Real v)) j k a b = a ∙ sym b
one_kind names d (character c) j k a b = a ∙ sym b
one_kind names d (string t) j k a b = a.1 ∙ ap kind.Str (one_place names a.0 b.0 t d a.2 b.2) ∙ sym b.1
one_kind names d (bits t) j k a b = a.1 ∙ ap kind.Bits (one_place names a.0 b.0 t d a.2 b.2) ∙ sym b.1
one_kind names d (mark m) j k a b = a ∙ sym b

-- a token that is placed so
record IsPlaced (names : List (List ℕ)) (t : Token) (p : Placed) : Type 0 where
  shows : Told names p.lexeme t.kind
  place : t.place ≡ p.place
  from : t.from ≡ p.from
  to : t.to ≡ p.to

placed_by : (names : List (List ℕ)) (t : Token) (p : Placed) (o : Option Lexeme) → lexeme_of names t.kind ≡ o →
    option_map (λ (l : Lexeme). the_placed t l) o ≡ Some p → IsPlaced names t p
placed_by names t p None e h = cc
placed_by names t p (Some l) e h =
    let q : the_placed t l ≡ p = some_same (the_placed t l) p h in
    record {
      shows = told names t.kind p.lexeme (e ∙ ap (λ (x : Placed). Some x.lexeme) q);
      place = ap (λ (x : Placed). x.place) q;
      from = ap (λ (x : Placed). x.from) q;
      to = ap (λ (x : Placed). x.to) q;
    }

abbrev token_of : TokenKind → Place → ℕ → ℕ → Token
token_of k p f t = record { kind = k; place = p; from = f; to = t }

one_token : (names : List (List ℕ)) → Different names → (a b : Token) (p : Placed) → placed_of names a ≡ Some p → placed_of names b ≡ Some p → a ≡ b
one_token names d a b p g h =
    let x = placed_by names a p (lexeme_of names a.kind) refl g in
    let y = placed_by names b p (lexeme_of names b.kind) refl h in
    ap (λ k. token_of k a.place a.from a.to) (one_kind names d p.lexeme a.kind b.kind x.shows y.shows)
    ∙ ap (λ q. token_of b.kind q a.from a.to) (x.place ∙ sym y.place)
    ∙ ap (λ f. token_of b.kind b.place f a.to) (x.from ∙ sym y.from)
    ∙ ap (λ t. token_of b.kind b.place b.from t) (x.to ∙ sym y.to)

-- tokens that show the same
pub one_list : (names : List (List ℕ)) → Different names → (xs ys : List Token) (ps : List Placed) →
    map (placed_of names) xs ≡ map (λ p. Some p) ps → map (placed_of names) ys ≡ map (λ p. Some p) ps → xs ≡ ys
one_list names d [] [] ps g h = refl
one_list names d [] (y ∷ ys) [] g h = cc
one_list names d [] (y ∷ ys) (p ∷ ps) g h = cc
one_list names d (x ∷ xs) [] [] g h = cc
one_list names d (x ∷ xs) [] (p ∷ ps) g h = cc
one_list names d (x ∷ xs) (y ∷ ys) [] g h = cc
one_list names d (x ∷ xs) (y ∷ ys) (p ∷ ps) g h =
    let first : x ≡ y = one_token names d x y p (head_same g) (head_same h) in
    ap (λ z. z ∷ xs) first ∙ ap (λ zs. y ∷ zs) (one_list names d xs ys ps (rest_same g) (rest_same h))
