-- The sets of kinds of the tokens that the grammar reads by what they hold.
use Rattle.std.proofs.Common.{◌≡◌, ℕ, zero, suc, Bool, true, false, ◌||◌, nat_eq, List, [], ◌∷◌, is_some, if◌then◌else◌, Option, Some, None, refl, sym}
use Rattle.ams_token.specs.declared.token.Token.{Token}
use Rattle.ams_token.specs.declared.token.TokenKind.{TokenKind}
use Rattle.ams_token.specs.declared.token.TokenKind.TheVariants as kind
use Rattle.ams_token.specs.declared.word.Word.TheVariants as w
use Rattle.ams_token.specs.declared.mark.Mark.TheVariants as m
use Rattle.ams_token.specs.Classes.{class, kind_class, word_class, mark_class}
use Rattle.ams_tree.specs.Terminals.{of_class, name_of, name_in, number_of, number_in, literal_of, literal_in, string_of, string_in, multiplying, multiplying_in, adding, adding_in, shifting, shifting_in, relating, relating_in, sign, sign_in, prefix, prefix_in, direction_of, direction_in, mode_of, mode_in}
use Rattle.parse_steps.specs.Reading.{at}
use Rattle.parse_steps.proofs.Sets.{has, starts}
use Rattle.parse_steps.proofs.Covers.{Tells}

-- a test by a token function is a test by its set
pub test_is : {A : Type 0} (F : List ℕ) (f : Token → Option A) → Tells F f → (ts : List Token) → at f ts ≡ starts F ts
test_is F f t [] = refl
test_is F f t (x ∷ ts) = sym (t x)

-- the number of a reserved word's kind, and of a mark's
abbrev pub W : Rattle.ams_token.specs.declared.word.Word.Word → ℕ
W x = word_class x

abbrev pub M : Rattle.ams_token.specs.declared.mark.Mark.Mark → ℕ
M x = mark_class x

pub class_tells : (c : ℕ) → Tells (c ∷ []) (of_class c)
unfolding of_class
class_tells c t = go (nat_eq (class t) c)
  where
    go : (b : Bool) → (b || false) ≡ is_some (if b then Some t.place else None)
    go true = refl
    go false = refl

abbrev pub names : List ℕ
names = 0 ∷ 1 ∷ 2 ∷ 3 ∷ 4 ∷ []

pub name_of_tells : Tells names name_of
unfolding name_of
name_of_tells t = go t.kind
  where
    go : (k : TokenKind) → has names (kind_class k) ≡ is_some (name_in k t.place)
    go (kind.Name zero) = refl
    go (kind.Name (suc zero)) = refl
    go (kind.Name (suc (suc zero))) = refl
    go (kind.Name (suc (suc (suc zero)))) = refl
    go (kind.Name (suc (suc (suc (suc n))))) = refl
    go (kind.Int x) = refl
    go (kind.Real x) = refl
    go (kind.Char x) = refl
    go (kind.Str x) = refl
    go (kind.Bits x) = refl
    go (kind.Word w.Abs) = refl
    go (kind.Word _) = refl
    go (kind.Mark m.Comma) = refl
    go (kind.Mark _) = refl

abbrev pub numbers : List ℕ
numbers = 5 ∷ 6 ∷ []

pub number_of_tells : Tells numbers number_of
unfolding number_of
number_of_tells t = go t.kind
  where
    go : (k : TokenKind) → has numbers (kind_class k) ≡ is_some (number_in k t.place)
    go (kind.Name zero) = refl
    go (kind.Name (suc zero)) = refl
    go (kind.Name (suc (suc zero))) = refl
    go (kind.Name (suc (suc (suc zero)))) = refl
    go (kind.Name (suc (suc (suc (suc n))))) = refl
    go (kind.Int x) = refl
    go (kind.Real x) = refl
    go (kind.Char x) = refl
    go (kind.Str x) = refl
    go (kind.Bits x) = refl
    go (kind.Word w.Abs) = refl
    go (kind.Word _) = refl
    go (kind.Mark m.Comma) = refl
    go (kind.Mark _) = refl

abbrev pub literals : List ℕ
literals = 7 ∷ 8 ∷ 9 ∷ []

pub literal_of_tells : Tells literals literal_of
unfolding literal_of
literal_of_tells t = go t.kind
  where
    go : (k : TokenKind) → has literals (kind_class k) ≡ is_some (literal_in k t.place)
    go (kind.Name zero) = refl
    go (kind.Name (suc zero)) = refl
    go (kind.Name (suc (suc zero))) = refl
    go (kind.Name (suc (suc (suc zero)))) = refl
    go (kind.Name (suc (suc (suc (suc n))))) = refl
    go (kind.Int x) = refl
    go (kind.Real x) = refl
    go (kind.Char x) = refl
    go (kind.Str x) = refl
    go (kind.Bits x) = refl
    go (kind.Word w.Abs) = refl
    go (kind.Word _) = refl
    go (kind.Mark m.Comma) = refl
    go (kind.Mark _) = refl

abbrev pub strings : List ℕ
strings = 8 ∷ []

pub string_of_tells : Tells strings string_of
unfolding string_of
string_of_tells t = go t.kind
  where
    go : (k : TokenKind) → has strings (kind_class k) ≡ is_some (string_in k t.place)
    go (kind.Name zero) = refl
    go (kind.Name (suc zero)) = refl
    go (kind.Name (suc (suc zero))) = refl
    go (kind.Name (suc (suc (suc zero)))) = refl
    go (kind.Name (suc (suc (suc (suc n))))) = refl
    go (kind.Int x) = refl
    go (kind.Real x) = refl
    go (kind.Char x) = refl
    go (kind.Str x) = refl
    go (kind.Bits x) = refl
    go (kind.Word w.Abs) = refl
    go (kind.Word _) = refl
    go (kind.Mark m.Comma) = refl
    go (kind.Mark _) = refl

abbrev pub multipliers : List ℕ
multipliers = M m.Star ∷ M m.Slash ∷ W w.Mod ∷ W w.Rem ∷ []

pub multiplying_tells : Tells multipliers multiplying
unfolding multiplying
multiplying_tells t = go t.kind
  where
    go : (k : TokenKind) → has multipliers (kind_class k) ≡ is_some (multiplying_in k)
    go (kind.Name zero) = refl
    go (kind.Name (suc zero)) = refl
    go (kind.Name (suc (suc zero))) = refl
    go (kind.Name (suc (suc (suc zero)))) = refl
    go (kind.Name (suc (suc (suc (suc n))))) = refl
    go (kind.Int x) = refl
    go (kind.Real x) = refl
    go (kind.Char x) = refl
    go (kind.Str x) = refl
    go (kind.Bits x) = refl
    go (kind.Word w.Abs) = refl
    go (kind.Word _) = refl
    go (kind.Mark m.Comma) = refl
    go (kind.Mark _) = refl

abbrev pub adders : List ℕ
adders = M m.Plus ∷ M m.Minus ∷ M m.Ampersand ∷ []

pub adding_tells : Tells adders adding
unfolding adding
adding_tells t = go t.kind
  where
    go : (k : TokenKind) → has adders (kind_class k) ≡ is_some (adding_in k)
    go (kind.Name zero) = refl
    go (kind.Name (suc zero)) = refl
    go (kind.Name (suc (suc zero))) = refl
    go (kind.Name (suc (suc (suc zero)))) = refl
    go (kind.Name (suc (suc (suc (suc n))))) = refl
    go (kind.Int x) = refl
    go (kind.Real x) = refl
    go (kind.Char x) = refl
    go (kind.Str x) = refl
    go (kind.Bits x) = refl
    go (kind.Word w.Abs) = refl
    go (kind.Word _) = refl
    go (kind.Mark m.Comma) = refl
    go (kind.Mark _) = refl

abbrev pub shifters : List ℕ
shifters = W w.Sll ∷ W w.Srl ∷ W w.Sla ∷ W w.Sra ∷ W w.Rol ∷ W w.Ror ∷ []

pub shifting_tells : Tells shifters shifting
unfolding shifting
shifting_tells t = go t.kind
  where
    go : (k : TokenKind) → has shifters (kind_class k) ≡ is_some (shifting_in k)
    go (kind.Name zero) = refl
    go (kind.Name (suc zero)) = refl
    go (kind.Name (suc (suc zero))) = refl
    go (kind.Name (suc (suc (suc zero)))) = refl
    go (kind.Name (suc (suc (suc (suc n))))) = refl
    go (kind.Int x) = refl
    go (kind.Real x) = refl
    go (kind.Char x) = refl
    go (kind.Str x) = refl
    go (kind.Bits x) = refl
    go (kind.Word w.Abs) = refl
    go (kind.Word _) = refl
    go (kind.Mark m.Comma) = refl
    go (kind.Mark _) = refl

abbrev pub relators : List ℕ
relators = M m.Equal ∷ M m.NotEqual ∷ M m.Less ∷ M m.LessEqual ∷ M m.Greater ∷ M m.GreaterEqual ∷ []

pub relating_tells : Tells relators relating
unfolding relating
relating_tells t = go t.kind
  where
    go : (k : TokenKind) → has relators (kind_class k) ≡ is_some (relating_in k)
    go (kind.Name zero) = refl
    go (kind.Name (suc zero)) = refl
    go (kind.Name (suc (suc zero))) = refl
    go (kind.Name (suc (suc (suc zero)))) = refl
    go (kind.Name (suc (suc (suc (suc n))))) = refl
    go (kind.Int x) = refl
    go (kind.Real x) = refl
    go (kind.Char x) = refl
    go (kind.Str x) = refl
    go (kind.Bits x) = refl
    go (kind.Word w.Abs) = refl
    go (kind.Word _) = refl
    go (kind.Mark m.Comma) = refl
    go (kind.Mark _) = refl

abbrev pub signs : List ℕ
signs = M m.Plus ∷ M m.Minus ∷ []

pub sign_tells : Tells signs sign
unfolding sign
sign_tells t = go t.kind
  where
    go : (k : TokenKind) → has signs (kind_class k) ≡ is_some (sign_in k t.place)
    go (kind.Name zero) = refl
    go (kind.Name (suc zero)) = refl
    go (kind.Name (suc (suc zero))) = refl
    go (kind.Name (suc (suc (suc zero)))) = refl
    go (kind.Name (suc (suc (suc (suc n))))) = refl
    go (kind.Int x) = refl
    go (kind.Real x) = refl
    go (kind.Char x) = refl
    go (kind.Str x) = refl
    go (kind.Bits x) = refl
    go (kind.Word w.Abs) = refl
    go (kind.Word _) = refl
    go (kind.Mark m.Comma) = refl
    go (kind.Mark _) = refl

abbrev pub prefixes : List ℕ
prefixes = W w.Abs ∷ W w.Not ∷ []

pub prefix_tells : Tells prefixes prefix
unfolding prefix
prefix_tells t = go t.kind
  where
    go : (k : TokenKind) → has prefixes (kind_class k) ≡ is_some (prefix_in k t.place)
    go (kind.Name zero) = refl
    go (kind.Name (suc zero)) = refl
    go (kind.Name (suc (suc zero))) = refl
    go (kind.Name (suc (suc (suc zero)))) = refl
    go (kind.Name (suc (suc (suc (suc n))))) = refl
    go (kind.Int x) = refl
    go (kind.Real x) = refl
    go (kind.Char x) = refl
    go (kind.Str x) = refl
    go (kind.Bits x) = refl
    go (kind.Word w.Abs) = refl
    go (kind.Word _) = refl
    go (kind.Mark m.Comma) = refl
    go (kind.Mark _) = refl

abbrev pub directions : List ℕ
directions = W w.To ∷ W w.Downto ∷ []

pub direction_of_tells : Tells directions direction_of
unfolding direction_of
direction_of_tells t = go t.kind
  where
    go : (k : TokenKind) → has directions (kind_class k) ≡ is_some (direction_in k)
    go (kind.Name zero) = refl
    go (kind.Name (suc zero)) = refl
    go (kind.Name (suc (suc zero))) = refl
    go (kind.Name (suc (suc (suc zero)))) = refl
    go (kind.Name (suc (suc (suc (suc n))))) = refl
    go (kind.Int x) = refl
    go (kind.Real x) = refl
    go (kind.Char x) = refl
    go (kind.Str x) = refl
    go (kind.Bits x) = refl
    go (kind.Word w.Abs) = refl
    go (kind.Word _) = refl
    go (kind.Mark m.Comma) = refl
    go (kind.Mark _) = refl

abbrev pub modes : List ℕ
modes = W w.In ∷ W w.Out ∷ []

pub mode_of_tells : Tells modes mode_of
unfolding mode_of
mode_of_tells t = go t.kind
  where
    go : (k : TokenKind) → has modes (kind_class k) ≡ is_some (mode_in k)
    go (kind.Name zero) = refl
    go (kind.Name (suc zero)) = refl
    go (kind.Name (suc (suc zero))) = refl
    go (kind.Name (suc (suc (suc zero)))) = refl
    go (kind.Name (suc (suc (suc (suc n))))) = refl
    go (kind.Int x) = refl
    go (kind.Real x) = refl
    go (kind.Char x) = refl
    go (kind.Str x) = refl
    go (kind.Bits x) = refl
    go (kind.Word w.Abs) = refl
    go (kind.Word _) = refl
    go (kind.Mark m.Comma) = refl
    go (kind.Mark _) = refl
