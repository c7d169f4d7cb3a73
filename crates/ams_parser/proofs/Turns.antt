-- A rule that is read in as many turns as there are tokens, where the rule of so many turns is known.
use Rattle.std.proofs.Common.{ℕ, ◌≤◌, Bool, List, [], ◌∷◌, ◌++◌, length, arith, le_refl, length-append}
use Rattle.ams_token.specs.declared.token.Token.{Token}
use Rattle.ams_tree.specs.Rule.{Rule}
use Rattle.parse_steps.specs.Reading.{Parser}
use Rattle.parse_steps.proofs.Covers.{Covers}
use Rattle.parse_steps.proofs.Sound.{Sound, widens}

-- the rule has the texts of so many turns, and each of its texts is one, in as many turns as it has tokens
pub record InTurns {A : Type 0} (L : Rule A) (S : ℕ → Rule A) : Type 0 where
  pub into_spells : (k : ℕ) (a : A) (ts : List Token) (n : ℕ) → length ts ≤ k → L.spells a ts n → (S k).spells a ts n
  pub into_begins : (k : ℕ) (ts : List Token) (n : ℕ) → length ts ≤ k → L.begins ts n → (S k).begins ts n
  pub from_spells : (k : ℕ) (a : A) (ts : List Token) (n : ℕ) → (S k).spells a ts n → L.spells a ts n
  pub from_begins : (k : ℕ) (ts : List Token) (n : ℕ) → (S k).begins ts n → L.begins ts n

pub turns_cover : {A : Type 0} {Over : Type 0} {empty : Bool} {first next : List ℕ} {L : Rule A} {S : ℕ → Rule A} (P : ℕ → Parser A)
    → InTurns L S → ((k : ℕ) → Covers Over empty first next (S k) (P k)) → Covers Over empty first next L (λ s. P (length s.rest) s)
turns_cover P e h = record {
  spelled = λ a ts n s rest c. (h (length (ts ++ rest))).spelled a ts n (e.into_spells _ a ts n (omega (arith, length-append ts rest)) s) rest c;
  begun = λ ts n b rest c. (h (length (ts ++ rest))).begun ts n (e.into_begins _ ts n (omega (arith, length-append ts rest)) b) rest c;
  shrinks = λ s. (h (length s.rest)).shrinks s;
  first_spelled = λ a t ts n s. (h (length (t ∷ ts))).first_spelled a t ts n (e.into_spells _ a (t ∷ ts) n (le_refl _) s);
  first_begun = λ t ts n b. (h (length (t ∷ ts))).first_begun t ts n (e.into_begins _ (t ∷ ts) n (le_refl _) b);
  empty_spelled = λ a n s. (h 0).empty_spelled a n (e.into_spells 0 a [] n (le_refl 0) s);
  takes = λ t ts c f. (h (length (t ∷ ts))).takes t ts c f;
  whole = λ a ts n s. e.from_begins (length ts) ts n ((h (length ts)).whole a ts n (e.into_spells _ a ts n (le_refl _) s));
  skips = λ f s stops. (h (length s.rest)).skips f s stops;
  fronts = λ ts us n b. let f = (h (length (ts ++ us))).fronts ts us n (e.into_begins _ (ts ++ us) n (le_refl _) b) in (f.0, f.1, e.from_begins _ ts f.0 f.2);
}

pub turns_sound : {A : Type 0} {Over : Type 0} {L : Rule A} {S : ℕ → Rule A} (P : ℕ → Parser A)
    → InTurns L S → ((k : ℕ) → Sound Over (S k) (P k)) → Sound Over L (λ s. P (length s.rest) s)
turns_sound {Over = Over} {L} {S} P e h = record { verdict = λ s. widens Over (S (length s.rest)) L (e.from_spells _) (e.from_begins _) s.rest s.operators _ ((h (length s.rest)).verdict s) }
