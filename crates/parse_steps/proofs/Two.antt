-- A choice that wants a look at two tokens: `id "=>"` before an expression that may begin with a name.
use Rattle.std.proofs.Common.{◌≡◌, ◌⊎◌, ℕ, ◌≤◌, ◌<◌, Bool, true, false, ◌&&◌, if◌then◌else◌, List, [], ◌∷◌, ◌++◌, length, refl, sym, subst, inl, inr, arith, true≢false, le_refl}
use Rattle.ams_token.specs.declared.token.Token.{Token}
use Rattle.ams_token.specs.Classes.{class}
use Rattle.ams_tree.specs.Rule.{Rule, BeginsToken, BeginsSecond, SpellsItem, SpellsAll, BeginsAfter, BeginsNothing}
use Rattle.ams_tree.specs.Rule as rule
use Rattle.parse_steps.specs.State.{State}
use Rattle.parse_steps.specs.Reading.{state, Outcome, Parser}
use Rattle.parse_steps.specs.Reading as reading
use Rattle.parse_steps.proofs.Sets.{has, starts-left, starts-right, within, has-within}
use Rattle.parse_steps.proofs.Covers.{Covers, Fate, exactly, further, limited, Reaches, Beyond, left}

-- the first token is of one set, and the second of another
abbrev pub two : List ℕ → List ℕ → List Token → Bool
two F S [] = false
two F S (t ∷ []) = false
two F S (t ∷ u ∷ ts) = has F (class t) && has S (class u)

-- the kinds that stand second in a text of the rule
pub record Seconds {A : Type 0} (S : List ℕ) (L : Rule A) : Type 0 where
  pub second : (t u : Token) (ts : List Token) (n : ℕ) → L.begins (t ∷ u ∷ ts) n → has S (class u) ≡ true

module _ {A : Type 0} (Over : Type 0) (F S first1 next1 first2 next2 : List ℕ) (L M : Rule A) (test : List Token → Bool) (P Q : Parser A)
    (tests : (ts : List Token) → test ts ≡ two F S ts) (h : Covers Over false first1 next1 L P) (k : Covers Over false first2 next2 M Q)
    -- each longer text of the first begins with the two, and none of the second does
    (both : (t u : Token) (ts : List Token) (n : ℕ) → L.begins (t ∷ u ∷ ts) n → two F S (t ∷ u ∷ ts) ≡ true)
    (never : (t u : Token) (ts : List Token) (n : ℕ) → M.begins (t ∷ u ∷ ts) n → two F S (t ∷ u ∷ ts) ≡ false)
    -- no text of the first is one token, and what begins it alone begins the second alone
    (longer : (a : A) (t : Token) (n : ℕ) → L.spells a (t ∷ []) n → ⊥)
    (shared : (t : Token) (n : ℕ) → L.begins (t ∷ []) n → M.begins (t ∷ []) n)
    -- reading the first takes the two, and the second of them may follow the second rule
    (takes : (t u : Token) (ts : List Token) (c : ℕ) → two F S (t ∷ u ∷ ts) ≡ true → Beyond (P (state (t ∷ u ∷ ts) c)) (u ∷ ts))
    (follows : (t u : Token) (ts : List Token) → two F S (t ∷ u ∷ ts) ≡ true → has (next1 ++ next2) (class u) ≡ true) where
  picks : (s : State) → two F S s.rest ≡ true → P s ≡ reading.choose test P Q s
  picks s e = rw (tests s.rest, e)

  passes : (s : State) → two F S s.rest ≡ false → Q s ≡ reading.choose test P Q s
  passes s e = rw (tests s.rest, e)

  next_first : (a : A) (rest : List Token) (c n : ℕ) (o : Outcome A) → Fate Over next1 a rest c n o → Fate Over (next1 ++ next2) a rest c n o
  next_first a rest c n o (exactly spare e eq) = exactly spare e eq
  next_first a rest c n o (further st by) = further (starts-left next1 next2 rest st) by
  next_first a rest c n o (limited d x) = limited d x

  next_second : (a : A) (rest : List Token) (c n : ℕ) (o : Outcome A) → Fate Over next2 a rest c n o → Fate Over (next1 ++ next2) a rest c n o
  next_second a rest c n o (exactly spare e eq) = exactly spare e eq
  next_second a rest c n o (further st by) = further (starts-right next1 next2 rest st) by
  next_second a rest c n o (limited d x) = limited d x

  shrinks : (s : State) → left (reading.choose test P Q s) ≤ length s.rest
  shrinks s = go (test s.rest)
    where
      go : (b : Bool) → left (if b then P s else Q s) ≤ length s.rest
      go true = h.shrinks s
      go false = k.shrinks s

  two_spelled : (a : A) (ts : List Token) (n : ℕ) → L.spells a ts n ⊎ M.spells a ts n → (rest : List Token) (c : ℕ) → Fate Over (next1 ++ next2) a rest c n (reading.choose test P Q (state (ts ++ rest) c))
  two_spelled a [] n (inl x) rest c = absurd (true≢false (sym (h.empty_spelled a n x)))
  two_spelled a [] n (inr x) rest c = absurd (true≢false (sym (k.empty_spelled a n x)))
  two_spelled a (t ∷ []) n (inl x) rest c = absurd (longer a t n x)
  two_spelled a (t ∷ u ∷ ts) n (inl x) rest c =
      subst (Fate Over (next1 ++ next2) a rest c n) (picks (state (t ∷ u ∷ (ts ++ rest)) c) (both t u ts n (h.whole a (t ∷ u ∷ ts) n x)))
      (next_first a rest c n _ (h.spelled a (t ∷ u ∷ ts) n x rest c))
  two_spelled a (t ∷ u ∷ ts) n (inr x) rest c =
      subst (Fate Over (next1 ++ next2) a rest c n) (passes (state (t ∷ u ∷ (ts ++ rest)) c) (never t u ts n (k.whole a (t ∷ u ∷ ts) n x)))
      (next_second a rest c n _ (k.spelled a (t ∷ u ∷ ts) n x rest c))
  two_spelled a (t ∷ []) n (inr x) [] c =
      subst (Fate Over (next1 ++ next2) a [] c n) (passes (state (t ∷ []) c) refl) (next_second a [] c n _ (k.spelled a (t ∷ []) n x [] c))
  two_spelled a (t ∷ []) n (inr x) (u ∷ rest) c = go (two F S (t ∷ u ∷ rest)) refl
    where
      go : (b : Bool) → two F S (t ∷ u ∷ rest) ≡ b → Fate Over (next1 ++ next2) a (u ∷ rest) c n (reading.choose test P Q (state (t ∷ u ∷ rest) c))
      go true e = subst (Fate Over (next1 ++ next2) a (u ∷ rest) c n) (picks (state (t ∷ u ∷ rest) c) e) (further (follows t u rest e) (takes t u rest c e))
      go false e = subst (Fate Over (next1 ++ next2) a (u ∷ rest) c n) (passes (state (t ∷ u ∷ rest) c) e) (next_second a (u ∷ rest) c n _ (k.spelled a (t ∷ []) n x (u ∷ rest) c))

  beyond_reach : (o : Outcome A) (rest : List Token) → Beyond o rest → left o ≤ length rest
  beyond_reach o rest (inl l) = omega (arith, l)
  beyond_reach o rest (inr e) = subst (λ x. left x ≤ length rest) (sym e) (le_refl (length rest))

  one_begun : (t : Token) (n : ℕ) → M.begins (t ∷ []) n → (rest : List Token) (c : ℕ) → Reaches Over rest c n (reading.choose test P Q (state (t ∷ rest) c))
  one_begun t n x [] c = subst (Reaches Over [] c n) (passes (state (t ∷ []) c) refl) (k.begun (t ∷ []) n x [] c)
  one_begun t n x (u ∷ rest) c = go (two F S (t ∷ u ∷ rest)) refl
    where
      go : (b : Bool) → two F S (t ∷ u ∷ rest) ≡ b → Reaches Over (u ∷ rest) c n (reading.choose test P Q (state (t ∷ u ∷ rest) c))
      go true e = subst (Reaches Over (u ∷ rest) c n) (picks (state (t ∷ u ∷ rest) c) e) (inl (beyond_reach _ (u ∷ rest) (takes t u rest c e)))
      go false e = subst (Reaches Over (u ∷ rest) c n) (passes (state (t ∷ u ∷ rest) c) e) (k.begun (t ∷ []) n x (u ∷ rest) c)

  two_begun : (ts : List Token) (n : ℕ) → L.begins ts n ⊎ M.begins ts n → (rest : List Token) (c : ℕ) → Reaches Over rest c n (reading.choose test P Q (state (ts ++ rest) c))
  two_begun [] n x rest c = inl (shrinks (state rest c))
  two_begun (t ∷ []) n (inl x) rest c = one_begun t n (shared t n x) rest c
  two_begun (t ∷ []) n (inr x) rest c = one_begun t n x rest c
  two_begun (t ∷ u ∷ ts) n (inl x) rest c =
      subst (Reaches Over rest c n) (picks (state (t ∷ u ∷ (ts ++ rest)) c) (both t u ts n x)) (h.begun (t ∷ u ∷ ts) n x rest c)
  two_begun (t ∷ u ∷ ts) n (inr x) rest c =
      subst (Reaches Over rest c n) (passes (state (t ∷ u ∷ (ts ++ rest)) c) (never t u ts n x)) (k.begun (t ∷ u ∷ ts) n x rest c)

  module _ (same : within first1 first2 ≡ true) where
    first_spelled : (a : A) (t : Token) (ts : List Token) (n : ℕ) → L.spells a (t ∷ ts) n ⊎ M.spells a (t ∷ ts) n → has first2 (class t) ≡ true
    first_spelled a t ts n (inl x) = has-within first1 first2 (class t) same (h.first_spelled a t ts n x)
    first_spelled a t ts n (inr x) = k.first_spelled a t ts n x

    first_begun : (t : Token) (ts : List Token) (n : ℕ) → L.begins (t ∷ ts) n ⊎ M.begins (t ∷ ts) n → has first2 (class t) ≡ true
    first_begun t ts n (inl x) = has-within first1 first2 (class t) same (h.first_begun t ts n x)
    first_begun t ts n (inr x) = k.first_begun t ts n x

    two_empty : (a : A) (n : ℕ) → L.spells a [] n ⊎ M.spells a [] n → false ≡ true
    two_empty a n (inl x) = h.empty_spelled a n x
    two_empty a n (inr x) = k.empty_spelled a n x

    beyond_more : (o : Outcome A) (t u : Token) (ts : List Token) → Beyond o (u ∷ ts) → Beyond o (t ∷ u ∷ ts)
    beyond_more o t u ts (inl l) = inl (omega (arith, l))
    beyond_more o t u ts (inr e) = inl (subst (λ x. left x < length (t ∷ u ∷ ts)) (sym e) (omega arith))

    two_takes : (t : Token) (ts : List Token) (c : ℕ) → has first2 (class t) ≡ true → Beyond (reading.choose test P Q (state (t ∷ ts) c)) (t ∷ ts)
    two_takes t [] c e = subst (λ o. Beyond o (t ∷ [])) (passes (state (t ∷ []) c) refl) (k.takes t [] c e)
    two_takes t (u ∷ ts) c e = go (two F S (t ∷ u ∷ ts)) refl
      where
        go : (b : Bool) → two F S (t ∷ u ∷ ts) ≡ b → Beyond (reading.choose test P Q (state (t ∷ u ∷ ts) c)) (t ∷ u ∷ ts)
        go true f = subst (λ o. Beyond o (t ∷ u ∷ ts)) (picks (state (t ∷ u ∷ ts) c) f) (beyond_more _ t u ts (takes t u ts c f))
        go false f = subst (λ o. Beyond o (t ∷ u ∷ ts)) (passes (state (t ∷ u ∷ ts) c) f) (k.takes t (u ∷ ts) c e)

    two_whole : (a : A) (ts : List Token) (n : ℕ) → L.spells a ts n ⊎ M.spells a ts n → L.begins ts n ⊎ M.begins ts n
    two_whole a ts n (inl x) = inl (h.whole a ts n x)
    two_whole a ts n (inr x) = inr (k.whole a ts n x)

    two_fronts : (ts us : List Token) (n : ℕ) → L.begins (ts ++ us) n ⊎ M.begins (ts ++ us) n → (m : ℕ) × (m ≤ n) × (L.begins ts m ⊎ M.begins ts m)
    two_fronts ts us n (inl x) = let f = h.fronts ts us n x in (f.0, f.1, inl f.2)
    two_fronts ts us n (inr x) = let f = k.fronts ts us n x in (f.0, f.1, inr f.2)

    pub choose_two_covers : Covers Over false first2 (next1 ++ next2) (rule.◌<|>◌ L M) (reading.choose test P Q)
    choose_two_covers = record {
      spelled = two_spelled;
      begun = two_begun;
      shrinks = shrinks;
      first_spelled = first_spelled;
      first_begun = first_begun;
      empty_spelled = two_empty;
      takes = two_takes;
      whole = two_whole;
      skips = λ e s stops. absurd (true≢false (sym e));
      fronts = two_fronts;
    }
