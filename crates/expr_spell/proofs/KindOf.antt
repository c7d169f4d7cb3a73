-- The number of a word, of a mark or of a known name is that of no other kind of token.
use Rattle.std.proofs.Common.{◌≡◌, ℕ, zero, suc, ◌+◌, ◌≤◌, ◌<◌, Bool, true, false, ◌&&◌, nat_eq, if◌then◌else◌, List, [], ◌∷◌, length, Some, None, refl, sym, ◌∙◌, ap, subst, inl, inr, arith, true≢false, lit<}
use Rattle.std.proofs.lemmas.Bool.{eqb-true}
use denote.Struct.Field.{Field}
use denote.Enum.Declared.{Choice, Record}
use Rattle.ams_token.specs.contracts.word.Word as word_type
use Rattle.ams_token.specs.contracts.mark.Mark as mark_type
use Rattle.ams_token.specs.declared.token.Place.{Place}
use Rattle.ams_token.specs.declared.token.Token.{Token}
use Rattle.ams_token.specs.declared.token.TokenKind.{TokenKind}
use Rattle.ams_token.specs.declared.token.TokenKind.TheVariants as kind
use Rattle.ams_token.specs.declared.word.Word.{Word}
use Rattle.ams_token.specs.declared.mark.Mark.{Mark}
use Rattle.ams_token.specs.Classes.{class, name_class, kind_class, word_class, mark_class}
use Rattle.ams_tree.specs.Terminals.{of_class, mark, word}

-- ---- the variants of an enum without fields, counted from a number on

-- whether f numbers the variants one after the other
abbrev counts : (Fss : List (List Field)) → (Choice Fss → ℕ) → ℕ → Bool
counts [] f n = true
counts ([] ∷ Fss) f n = nat_eq (f (inl tt)) n && counts Fss (λ c. f (inr c)) (suc n)
counts ((F ∷ Fs) ∷ Fss) f n = false

record Numbered (Fss : List (List Field)) (f : Choice Fss → ℕ) (n : ℕ) : Type 0 where
  low : (c : Choice Fss) → n ≤ f c
  high : (c : Choice Fss) → f c < n + length Fss
  one : (c d : Choice Fss) → f c ≡ f d → c ≡ d

both : (a b : Bool) → (a && b) ≡ true → (a ≡ true) × (b ≡ true)
both true b h = (refl, h)
both false b h = cc

-- one variant more in front
module _ (Fss : List (List Field)) (f : Choice ([] ∷ Fss) → ℕ) (n : ℕ) (first : (x : Unit {0}) → f (inl x) ≡ n) (more : Numbered Fss (λ c. f (inr c)) (suc n)) where
  low_next : (c : Choice ([] ∷ Fss)) → n ≤ f c
  low_next (inl x) = omega (arith, first x)
  low_next (inr c) = omega (arith, more.low c)

  high_next : (c : Choice ([] ∷ Fss)) → f c < n + suc (length Fss)
  high_next (inl x) = omega (arith, first x)
  high_next (inr c) = omega (arith, more.high c)

  one_next : (c d : Choice ([] ∷ Fss)) → f c ≡ f d → c ≡ d
  one_next (inl x) (inl y) e = refl
  one_next (inl x) (inr d) e = absurd (omega (arith, e, first x, more.low d))
  one_next (inr c) (inl y) e = absurd (omega (arith, e, first y, more.low c))
  one_next (inr c) (inr d) e = ap (λ c. inr c) (more.one c d e)

numbered : (Fss : List (List Field)) (f : Choice Fss → ℕ) (n : ℕ) → counts Fss f n ≡ true → Numbered Fss f n
numbered [] f n h = record { low = λ c. absurd c; high = λ c. absurd c; one = λ c d e. absurd c }
numbered ((F ∷ Fs) ∷ Fss) f n h = absurd (true≢false (sym h))
numbered ([] ∷ Fss) f n h =
    let parts = both (nat_eq (f (inl tt)) n) (counts Fss (λ c. f (inr c)) (suc n)) h in
    let first : (x : Unit {0}) → f (inl x) ≡ n = λ x. eqb-true (f (inl x)) n parts.0 in
    let more = numbered Fss (λ c. f (inr c)) (suc n) parts.1 in
    record { low = low_next Fss f n first more; high = high_next Fss f n first more; one = one_next Fss f n first more }

module _ (N : Record) (f : N.D → ℕ) (n : ℕ) (h : counts N.parts (λ c. f (N.make c)) n ≡ true) where
  at_choices : Numbered N.parts (λ c. f (N.make c)) n
  at_choices = numbered N.parts (λ c. f (N.make c)) n h

  low_of : (d : N.D) → n ≤ f d
  low_of d = subst (λ d. n ≤ f d) (N.eta d) (at_choices.low (N.as_values d))

  high_of : (d : N.D) → f d < n + length N.parts
  high_of d = subst (λ d. f d < n + length N.parts) (N.eta d) (at_choices.high (N.as_values d))

  one_of : (c d : N.D) → f c ≡ f d → c ≡ d
  one_of c d e = sym (N.eta c) ∙ (ap N.make (at_choices.one (N.as_values c) (N.as_values d) (ap f (N.eta c) ∙ (e ∙ sym (ap f (N.eta d))))) ∙ N.eta d)

-- ---- words, marks and known names

word_low : (x : Word) → 10 ≤ word_class x
word_low = low_of word_type.enum word_class 10 refl

word_high : (x : Word) → word_class x < 121
word_high = high_of word_type.enum word_class 10 refl

word_one : (x y : Word) → word_class x ≡ word_class y → x ≡ y
word_one = one_of word_type.enum word_class 10 refl

mark_low : (x : Mark) → 130 ≤ mark_class x
mark_low = low_of mark_type.enum mark_class 130 refl

mark_one : (x y : Mark) → mark_class x ≡ mark_class y → x ≡ y
mark_one = one_of mark_type.enum mark_class 130 refl

name_high : (n : ℕ) → name_class n < 5
name_high zero = lit< tt
name_high (suc zero) = lit< tt
name_high (suc (suc zero)) = lit< tt
name_high (suc (suc (suc zero))) = lit< tt
name_high (suc (suc (suc (suc n)))) = lit< tt

word_alone : (x : Word) (k : TokenKind) → kind_class k ≡ word_class x → k ≡ kind.Word x
word_alone x (kind.Name n) e = absurd (omega (arith, e, word_low x, name_high n))
word_alone x (kind.Int y) e = absurd (omega (arith, e, word_low x))
word_alone x (kind.Real y) e = absurd (omega (arith, e, word_low x))
word_alone x (kind.Char y) e = absurd (omega (arith, e, word_low x))
word_alone x (kind.Str y) e = absurd (omega (arith, e, word_low x))
word_alone x (kind.Bits y) e = absurd (omega (arith, e, word_low x))
word_alone x (kind.Word y) e = ap (λ z. kind.Word z) (word_one y x e)
word_alone x (kind.Mark y) e = absurd (omega (arith, e, word_high x, mark_low y))

mark_alone : (x : Mark) (k : TokenKind) → kind_class k ≡ mark_class x → k ≡ kind.Mark x
mark_alone x (kind.Name n) e = absurd (omega (arith, e, mark_low x, name_high n))
mark_alone x (kind.Int y) e = absurd (omega (arith, e, mark_low x))
mark_alone x (kind.Real y) e = absurd (omega (arith, e, mark_low x))
mark_alone x (kind.Char y) e = absurd (omega (arith, e, mark_low x))
mark_alone x (kind.Str y) e = absurd (omega (arith, e, mark_low x))
mark_alone x (kind.Bits y) e = absurd (omega (arith, e, mark_low x))
mark_alone x (kind.Word y) e = absurd (omega (arith, e, word_high y, mark_low x))
mark_alone x (kind.Mark y) e = ap (λ z. kind.Mark z) (mark_one y x e)

name_alone : (c : ℕ) → c < 4 → (k : TokenKind) → kind_class k ≡ c → k ≡ kind.Name c
name_alone c h (kind.Name zero) e = ap (λ n. kind.Name n) e
name_alone c h (kind.Name (suc zero)) e = ap (λ n. kind.Name n) e
name_alone c h (kind.Name (suc (suc zero))) e = ap (λ n. kind.Name n) e
name_alone c h (kind.Name (suc (suc (suc zero)))) e = ap (λ n. kind.Name n) e
name_alone c h (kind.Name (suc (suc (suc (suc n))))) e = absurd (omega (arith, e, h))
name_alone c h (kind.Int y) e = absurd (omega (arith, e, h))
name_alone c h (kind.Real y) e = absurd (omega (arith, e, h))
name_alone c h (kind.Char y) e = absurd (omega (arith, e, h))
name_alone c h (kind.Str y) e = absurd (omega (arith, e, h))
name_alone c h (kind.Bits y) e = absurd (omega (arith, e, h))
name_alone c h (kind.Word y) e = absurd (omega (arith, e, h, word_low y))
name_alone c h (kind.Mark y) e = absurd (omega (arith, e, h, mark_low y))

classed : (c : ℕ) (t : Token) (p : Place) → of_class c t ≡ Some p → class t ≡ c
unfolding of_class
classed c t p e = go (nat_eq (class t) c) refl e
  where
    go : (b : Bool) → nat_eq (class t) c ≡ b → (if b then Some t.place else None) ≡ Some p → class t ≡ c
    go true f g = eqb-true (class t) c f
    go false f g = cc

pub mark_is : (x : Mark) (t : Token) (p : Place) → mark x t ≡ Some p → t.kind ≡ kind.Mark x
mark_is x t p e = mark_alone x t.kind (classed (mark_class x) t p e)

pub word_is : (x : Word) (t : Token) (p : Place) → word x t ≡ Some p → t.kind ≡ kind.Word x
word_is x t p e = word_alone x t.kind (classed (word_class x) t p e)

pub known_is : (c : ℕ) → c < 4 → (t : Token) (p : Place) → of_class c t ≡ Some p → t.kind ≡ kind.Name c
known_is c h t p e = name_alone c h t.kind (classed c t p e)
