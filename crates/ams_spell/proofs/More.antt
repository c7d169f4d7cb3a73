-- More of how the tokens of a rule's text make up the spelling of its tree.
use Rattle.std.proofs.Common.{◌≡◌, ℕ, Bool, List, [], ◌∷◌, ◌++◌, Some, refl, sym, ◌∙◌, ap, subst, append_assoc, append-nil}
use Rattle.ams_token.specs.declared.token.Place.{Place}
use Rattle.ams_token.specs.declared.token.Token.{Token}
use Rattle.ams_token.specs.declared.token.TokenKind.{TokenKind}
use Rattle.ams_token.specs.declared.token.TokenKind.TheVariants as kind
use Rattle.ams_tree.specs.declared.expression.Literal.{Literal}
use Rattle.ams_tree.specs.Rule.{Rule}
use Rattle.ams_tree.specs.Rule as rule
use Rattle.ams_tree.specs.Terminals.{name_of, string_in, string_of}
use Rattle.ams_tree.specs.Expressions.{last}
use Rattle.expr_spell.specs.Kinds.{kinds, name}
use Rattle.expr_spell.specs.Spelling.{literal_kind}
use Rattle.expr_spell.proofs.Writes.{Writes, ends, then_, or_, token_, fold_last, kinds-append}
use Rattle.expr_spell.proofs.Tokens.{name_is}
use Rattle.ams_spell.specs.Parts.{present}

pub from_ : {A : Type 0} {f : A → List TokenKind} {L : Rule A} {before other : List TokenKind} → before ≡ other → Writes before f L → Writes other f L
from_ {f = f} {L = L} e h = subst (λ b. Writes b f L) e h

-- the same in other words, for trees that the rule gives
pub as_ : {A : Type 0} {before : List TokenKind} {f g : A → List TokenKind} {L : Rule A} → ((a : A) (ts : List Token) (n : ℕ) → L.spells a ts n → g a ≡ f a) → Writes before f L → Writes before g L
as_ e h = record { written = λ a ts n s. e a ts n s ∙ h.written a ts n s }

pub present_ : {A : Type 0} {before : List TokenKind} {L : Rule A} (k : List TokenKind) → Writes before (λ _. before ++ k) L → Writes before (λ b. before ++ present k b) (rule.present L)
present_ k h = or_ (then_ h (λ _. ends refl)) (ends (append-nil _))

pub name_ : {before : List TokenKind} {allowed : Bool} {cost : ℕ} → Writes before (λ x. before ++ name x) (rule.terminal allowed cost name_of)
name_ = token_ (λ x. kind.Name x.number) name_is

string_is : (t : Token) (x : Literal) → string_of t ≡ Some x → literal_kind x.value ≡ t.kind
unfolding string_of
string_is t x e = go t.kind t.place e
  where
    go : (k : TokenKind) (p : Place) → string_in k p ≡ Some x → literal_kind x.value ≡ k
    go (kind.Str n) p e = cc
    go _ p e = cc

pub string_ : {before : List TokenKind} {allowed : Bool} {cost : ℕ} → Writes before (λ x. before ++ literal_kind x.value ∷ []) (rule.terminal allowed cost string_of)
string_ = token_ (λ x. literal_kind x.value) string_is

-- a list that begins with an item has one
pub not_empty : {X : Type 0} {L M : Rule X} (xs : List X) (ts : List Token) (n : ℕ) → (rule.◌>>=◌ L (λ first. rule.repeated last M (first ∷ []))).spells xs ts n → (x : X) × (ys : List X) × (xs ≡ x ∷ ys)
not_empty xs ts n s = (s.first, s.spells_back.0, s.spells_back.1 ∙ fold_last (s.first ∷ []) s.spells_back.0)

-- one part after the other, where the trees of the first have a property
pub then_where : {A B : Type 0} {before : List TokenKind} {f : A → List TokenKind} {g : B → List TokenKind} {L : Rule A} {M : A → Rule B} (P : A → Type 0)
    → ((a : A) (ts : List Token) (n : ℕ) → L.spells a ts n → P a) → Writes before f L → ((a : A) → P a → Writes (f a) g (M a)) → Writes before g (rule.◌>>=◌ L M)
then_where {before = before} P has h k = record {
  written = λ b ts n s.
      (k s.first (has s.first s.front s.front_count s.spells_front)).written b s.back s.back_count s.spells_back
      ∙ (ap (λ v. v ++ kinds s.back) (h.written s.first s.front s.front_count s.spells_front)
      ∙ (append_assoc before (kinds s.front) (kinds s.back)
      ∙ (ap (λ us. before ++ us) (sym (kinds-append s.front s.back)) ∙ ap (λ us. before ++ kinds us) (sym s.tokens))));
}
