-- What the outcome of reading says of all tokens, for any family of rules that reading covers and is sound for.
use Rattle.std.proofs.Common.{◌≡◌, ◌⊎◌, ℕ, zero, suc, ◌+◌, ◌-◌, ◌<◌, ◌≤◌, ◌≢◌, List, [], ◌∷◌, length, take, Ok, Err, refl, sym, ap, ◌∙◌, subst, inl, inr, arith}
use Rattle.ams_token.specs.declared.token.Token.{Token}
use Rattle.ams_tree.specs.Rule.{Rule}
use Rattle.ams_tree.specs.Answer.{Spells, Begins, SpellsWithin, Longest}
use Rattle.parse_steps.specs.declared.reader.Stop.{Stop}
use Rattle.parse_steps.specs.declared.reader.Stop.TheVariants.{Memory, Syntax, TooDeep}
use Rattle.parse_steps.specs.declared.fault.ParseFault.TheVariants as fault
use Rattle.parse_steps.specs.State.{State}
use Rattle.parse_steps.specs.Reading.{state, stop_left, Outcome, Parser}
use Rattle.parse_steps.specs.Reply.{fault_of}
use Rattle.parse_steps.proofs.Answering.{Answering, is_read, is_syntax, is_too_deep, reads_back, spelled_begins}
use Rattle.ams_parser.specs.Whole.{IsRefused, AnswersWhole, IsWhole}

take_all : {A : Type 0} (xs : List A) → take (length xs) xs ≡ xs
take_all [] = refl
take_all (x ∷ xs) = ap (λ ys. x ∷ ys) (take_all xs)

same_or_less : (a b : ℕ) → a ≤ b → (a ≡ b) ⊎ (a < b)
same_or_less zero zero le = inl refl
same_or_less zero (suc b) le = inr (omega arith)
same_or_less (suc a) zero le = absurd (omega (arith, le))
same_or_less (suc a) (suc b) le = go (same_or_less a b (omega (arith, le)))
  where
    go : (a ≡ b) ⊎ (a < b) → (suc a ≡ suc b) ⊎ (suc a < suc b)
    go (inl e) = inl (ap suc e)
    go (inr lt) = inr (omega (arith, lt))

not_memory : (k : ℕ) → (Syntax k ≡ Memory → ⊥) × (TooDeep k ≡ Memory → ⊥)
not_memory k = (λ e. cc, λ e. cc)

behind : (total len k : ℕ) → total ≡ len + k → total - k ≡ len
behind total len k e = omega (arith, e)

module _ {A : Type 0} {rule : ℕ → ℕ → Rule A} {read : ℕ → ℕ → Parser A} (h : Answering rule read) where
  -- the longest front is all, where a tree spells all
  all_spelled : (x : A) (ts : List Token) (len : ℕ) → Longest rule ts len → Spells rule x ts → len ≡ length ts
  all_spelled x ts len l s = go (same_or_less len (length ts) l.fits)
    where
      go : (len ≡ length ts) ⊎ (len < length ts) → len ≡ length ts
      go (inl e) = e
      go (inr lt) = absurd (l.ends (length ts) lt (omega arith) (subst (λ us. Begins rule us) (sym (take_all ts)) (spelled_begins h x ts s)))

  at_end : (ts : List Token) (len : ℕ) → len ≡ length ts → take len ts ≡ ts
  at_end ts len e = ap (λ m. take m ts) e ∙ take_all ts

  -- all tokens were taken
  pub whole_answers : (n c : ℕ) (ts : List Token) (x : A) (s : State) → read c n (state ts c) ≡ Ok (x, s) → (k : ℕ) → k ≡ length s.rest → k ≤ 0 → SpellsWithin rule n c x ts
  whole_answers n c ts x s e k is none =
      let r = is_read h n c ts x s e in
      let all : r.0 ≡ length ts = omega (arith, r.1, is, none) in
      subst (λ us. SpellsWithin rule n c x us) (at_end ts r.0 all) r.2.spells

  -- some were left
  pub left_refused : (n c : ℕ) (ts : List Token) (x : A) (s : State) → read c n (state ts c) ≡ Ok (x, s) → (k : ℕ) → k ≡ length s.rest → 0 < k → IsRefused rule n c ts (length ts - k)
  left_refused n c ts x s e k is some =
      let r = is_read h n c ts x s e in
      subst (λ m. IsRefused rule n c ts m) (sym (behind (length ts) r.0 k (omega (arith, r.1, is)))) (record {
        longest = r.2.longest;
        within = (r.2.spells.0, r.2.spells.1, (h.covers c n c n).whole x (take r.0 ts) r.2.spells.0 r.2.spells.2);
        unspelled = λ y t. omega (arith, r.1, is, some, all_spelled y ts r.0 r.2.longest t);
      })

  pub left_fits : (n c : ℕ) (ts : List Token) (x : A) (s : State) → read c n (state ts c) ≡ Ok (x, s) → (k : ℕ) → k ≡ length s.rest → k ≤ length ts
  left_fits n c ts x s e k is = let r = is_read h n c ts x s e in omega (arith, r.1, is)

  pub stop_fits : (n c : ℕ) (ts : List Token) (stop : Stop) → (stop ≢ Memory → read c n (state ts c) ≡ Err stop) → stop_left stop ≤ length ts
  stop_fits n c ts Memory e = omega arith
  stop_fits n c ts (Syntax k) e = let r = is_syntax h n c k ts (e (not_memory k).0) in omega (arith, r.1)
  stop_fits n c ts (TooDeep k) e = let r = is_too_deep h n c k ts (e (not_memory k).1) in omega (arith, r.1)

  pub stop_answers : (n c : ℕ) (ts : List Token) (stop : Stop) → (stop ≢ Memory → read c n (state ts c) ≡ Err stop) → AnswersWhole rule n c ts (Err (fault_of (length ts) stop))
  stop_answers n c ts Memory e = tt
  stop_answers n c ts (Syntax k) e =
      let r = is_syntax h n c k ts (e (not_memory k).0) in
      subst (λ m. IsRefused rule n c ts m) (sym (behind (length ts) r.0 k r.1)) (record {
        longest = r.2.longest;
        within = r.2.within;
        unspelled = λ y t. r.2.unfinished y (subst (λ us. Spells rule y us) (sym (at_end ts r.0 (all_spelled y ts r.0 r.2.longest t))) t);
      })
  stop_answers n c ts (TooDeep k) e =
      let r = is_too_deep h n c k ts (e (not_memory k).1) in
      subst (λ m. AnswersWhole rule n c ts (Err (fault.TooDeep m))) (sym (behind (length ts) r.0 k r.1)) r.2

  -- what reading gave, or else the other
  abbrev got : Outcome A → A × State → A × State
  got (Ok p) q = p
  got (Err e) q = q

  abbrev the_ok : A × State → Outcome A
  the_ok p = Ok p

  abbrev the_err : Stop → Outcome A
  the_err e = Err e

  pub tree_back : (n c : ℕ) (ts : List Token) (x : A) (s : State) → read c n (state ts c) ≡ Ok (x, s) → (y : A) → SpellsWithin rule n c y ts → (x ≡ y) × (length s.rest ≡ 0)
  tree_back n c ts x s e y w = go (reads_back h n c ts y w).0 (sym e ∙ (reads_back h n c ts y w).1)
    where
      go : (p : ℕ) → the_ok (x, s) ≡ Ok (y, state [] p) → (x ≡ y) × (length s.rest ≡ 0)
      go p f = (ap (λ o. (got o (x, s)).0) f, ap (λ o. length (got o (x, s)).1.rest) f)

  pub left_back : (n c : ℕ) (ts : List Token) (x : A) (s : State) → read c n (state ts c) ≡ Ok (x, s) → (k : ℕ) → k ≡ length s.rest → 0 < k → (y : A) → SpellsWithin rule n c y ts → ⊥
  left_back n c ts x s e k is some y w = omega (arith, (tree_back n c ts x s e y w).1, is, some)

  pub stop_back : (n c : ℕ) (ts : List Token) (stop : Stop) → (stop ≢ Memory → read c n (state ts c) ≡ Err stop) → (y : A) → SpellsWithin rule n c y ts → IsWhole y (Err (fault_of (length ts) stop))
  stop_back n c ts Memory e y w = tt
  stop_back n c ts (Syntax k) e y w = no_tree (sym (e (not_memory k).0) ∙ (reads_back h n c ts y w).1)
    where
      no_tree : {z : A × State} → the_err (Syntax k) ≡ Ok z → ⊥
      no_tree f = cc
  stop_back n c ts (TooDeep k) e y w = no_tree (sym (e (not_memory k).1) ∙ (reads_back h n c ts y w).1)
    where
      no_tree : {z : A × State} → the_err (TooDeep k) ≡ Ok z → ⊥
      no_tree f = cc

-- the code begins with all tokens
pub from_all : {A : Type 0} (P : Parser A) (c : ℕ) (ts : List Token) (s : State) (o : Outcome A) → s ≡ state ts c → P s ≡ o → P (state ts c) ≡ o
from_all P c ts s o e f = ap P (sym e) ∙ f
