-- What reading takes is a text of its rule, and where it stops the tokens so far begin one.
use Rattle.std.proofs.Common.{◌≡◌, ◌⊎◌, ℕ, zero, suc, ◌+◌, ◌-◌, ◌≤◌, Bool, true, false, ◌&&◌, IsTrue, nat_le, if◌then◌else◌, List, [], ◌∷◌, ◌++◌, length, Option, Some, None, Ok, Err, refl, sym, ◌∙◌, ap, subst, inl, inr, arith, append_assoc, rules}
use Rattle.ams_token.specs.declared.token.Token.{Token}
use Rattle.ams_tree.specs.Rule.{Rule, SpellsNothing, BeginsNothing, SpellsToken, BeginsToken, SpellsBoth, BeginsSecond, SpellsItem, SpellsAll, BeginsAfter}
use Rattle.ams_tree.specs.Rule as rule
use Rattle.parse_steps.specs.declared.reader.Stop.TheVariants.{Memory, Syntax, TooDeep}
use Rattle.parse_steps.specs.State.{State}
use Rattle.parse_steps.specs.Reading.{state, Outcome, Parser, and_then, taken, turns}
use Rattle.parse_steps.specs.Reading as reading

pub record Found {A : Type 0} (L : Rule A) (ts : List Token) (c : ℕ) (a : A) (s : State) : Type 0 where
  pub front : List Token
  pub count : ℕ
  pub tokens : ts ≡ front ++ s.rest
  pub spends : c ≡ count + s.operators
  pub spells : L.spells a front count

pub record Stopped {A : Type 0} (L : Rule A) (ts : List Token) (c k : ℕ) : Type 0 where
  pub front : List Token
  pub back : List Token
  pub count : ℕ
  pub tokens : ts ≡ front ++ back
  pub behind : length back ≡ k
  pub within : count ≤ c
  pub begins : L.begins front count

-- the token at which reading stopped goes on, where more levels are allowed
pub record Limited {A : Type 0} (Over : Type 0) (L : Rule A) (ts : List Token) (c k : ℕ) : Type 0 where
  pub front : List Token
  pub token : Token
  pub back : List Token
  pub count : ℕ
  pub tokens : ts ≡ front ++ token ∷ back
  pub behind : length (token ∷ back) ≡ k
  pub within : count ≤ c
  pub begins : L.begins front count
  pub goes_on : Over → (n : ℕ) × (n ≤ suc c) × L.begins (front ++ token ∷ []) n

abbrev pub Verdict : {A : Type 0} → Type 0 → Rule A → List Token → ℕ → Outcome A → Type 0
Verdict Over L ts c (Ok p) = Found L ts c p.0 p.1
Verdict Over L ts c (Err Memory) = ⊥
Verdict Over L ts c (Err (Syntax k)) = Stopped L ts c k
Verdict Over L ts c (Err (TooDeep k)) = Limited Over L ts c k

pub record Sound {A : Type 0} (Over : Type 0) (L : Rule A) (P : Parser A) : Type 0 where
  pub verdict : (s : State) → Verdict Over L s.rest s.operators (P s)

-- ---- the same of a larger rule
module _ {A : Type 0} (Over : Type 0) (L M : Rule A) (spells : (a : A) (ts : List Token) (n : ℕ) → L.spells a ts n → M.spells a ts n) (begins : (ts : List Token) (n : ℕ) → L.begins ts n → M.begins ts n) where
  pub widens : (ts : List Token) (c : ℕ) (o : Outcome A) → Verdict Over L ts c o → Verdict Over M ts c o
  widens ts c (Ok p) v = record { front = v.front; count = v.count; tokens = v.tokens; spends = v.spends; spells = spells p.0 v.front v.count v.spells }
  widens ts c (Err Memory) v = v
  widens ts c (Err (Syntax k)) v = record { front = v.front; back = v.back; count = v.count; tokens = v.tokens; behind = v.behind; within = v.within; begins = begins v.front v.count v.begins }
  widens ts c (Err (TooDeep k)) v = record {
    front = v.front;
    token = v.token;
    back = v.back;
    count = v.count;
    tokens = v.tokens;
    behind = v.behind;
    within = v.within;
    begins = begins v.front v.count v.begins;
    goes_on = λ o. let g = v.goes_on o in (g.0, g.1, begins _ g.0 g.2);
  }

-- ---- no token

pub pure_sound : {A : Type 0} (Over : Type 0) (x : A) → Sound Over (rule.pure x) (reading.pure x)
pure_sound Over x = record { verdict = λ s. record { front = []; count = 0; tokens = refl; spends = omega arith; spells = record { tree = refl; tokens = refl; count = refl } } }

-- ---- one token

module _ {A : Type 0} (Over : Type 0) (allowed_rule allowed : Bool) (cost : ℕ) (f : Token → Option A) (may : allowed ≡ true → IsTrue allowed_rule) (over : Over → IsTrue allowed_rule) (small : cost ≤ 1) where
  taken_verdict : (t : Token) (ts : List Token) (c : ℕ) (o : Option A) → f t ≡ o → Verdict Over (rule.terminal allowed_rule cost f) (t ∷ ts) c (taken allowed cost o ts c)
  taken_verdict t ts c None e =
      record { front = []; back = t ∷ ts; count = 0; tokens = refl; behind = omega arith; within = omega arith; begins = inl (record { tokens = refl; count = refl }) }
  taken_verdict t ts c (Some a) e = go allowed (nat_le cost c) refl refl
    where
      token : IsTrue allowed_rule → SpellsToken allowed_rule cost f a (t ∷ []) cost
      token ok = record { token = t; tokens = refl; tree = e; count = refl; allows = ok }

      stop : (Over → IsTrue allowed_rule) → Limited Over (rule.terminal allowed_rule cost f) (t ∷ ts) c (suc (length ts))
      stop ok = record {
        front = [];
        token = t;
        back = ts;
        count = 0;
        tokens = refl;
        behind = omega arith;
        within = omega arith;
        begins = inl (record { tokens = refl; count = refl });
        goes_on = λ o. (cost, omega (arith, small), inr (a, token (ok o)));
      }

      go : (p q : Bool) → allowed ≡ p → nat_le cost c ≡ q → Verdict Over (rule.terminal allowed_rule cost f) (t ∷ ts) c (if p && q then Ok (a, state ts (c - cost)) else Err (TooDeep (suc (length ts))))
      go true true g h = let le : cost ≤ c = search rules in record { front = t ∷ []; count = cost; tokens = refl; spends = omega (arith, le); spells = token (may g) }
      go true false g h = stop over
      go false q g h = stop over

  pub token_sound : Sound Over (rule.terminal allowed_rule cost f) (reading.terminal allowed cost f)
  token_sound = record { verdict = λ s. go s.rest s.operators }
    where
      go : (ts : List Token) (c : ℕ) → Verdict Over (rule.terminal allowed_rule cost f) ts c (reading.terminal_at allowed cost f ts c)
      go [] c = record { front = []; back = []; count = 0; tokens = refl; behind = refl; within = omega arith; begins = inl (record { tokens = refl; count = refl }) }
      go (t ∷ ts) c = taken_verdict t ts c (f t) refl

-- ---- one part or the other

module _ {A : Type 0} (Over : Type 0) (L M : Rule A) (test : List Token → Bool) (P Q : Parser A) (h : Sound Over L P) (k : Sound Over M Q) where
  pub choose_sound : Sound Over (rule.◌<|>◌ L M) (reading.choose test P Q)
  choose_sound = record { verdict = λ s. go s (test s.rest) }
    where
      go : (s : State) (b : Bool) → Verdict Over (rule.◌<|>◌ L M) s.rest s.operators (if b then P s else Q s)
      go s true = widens Over L (rule.◌<|>◌ L M) (λ a ts n x. inl x) (λ ts n x. inl x) s.rest s.operators (P s) (h.verdict s)
      go s false = widens Over M (rule.◌<|>◌ L M) (λ a ts n x. inr x) (λ ts n x. inr x) s.rest s.operators (Q s) (k.verdict s)

-- ---- one part after the other

at_front : (ts front more back rest : List Token) → ts ≡ front ++ more → more ≡ back ++ rest → ts ≡ (front ++ back) ++ rest
at_front ts front more back rest e f = e ∙ ap (λ x. front ++ x) f ∙ sym (append_assoc front back rest)

-- an outcome behind a front, by what the front makes of a text and of a beginning
module _ {A B : Type 0} (Over : Type 0) (M : Rule B) (N : Rule A) (f : B → A) (front : List Token) (count : ℕ)
    (spells : (b : B) (ts : List Token) (n : ℕ) → M.spells b ts n → N.spells (f b) (front ++ ts) (count + n))
    (begins : (ts : List Token) (n : ℕ) → M.begins ts n → N.begins (front ++ ts) (count + n)) where
  pub behind_found : (ts : List Token) (c : ℕ) (s t : State) (b : B) → ts ≡ front ++ s.rest → c ≡ count + s.operators → Found M s.rest s.operators b t → Found N ts c (f b) t
  behind_found ts c s t b e g v = record {
    front = front ++ v.front;
    count = count + v.count;
    tokens = at_front ts front s.rest v.front t.rest e v.tokens;
    spends = omega (arith, g, v.spends);
    spells = spells b v.front v.count v.spells;
  }

  pub behind_stopped : (ts : List Token) (c k : ℕ) (s : State) → ts ≡ front ++ s.rest → c ≡ count + s.operators → Stopped M s.rest s.operators k → Stopped N ts c k
  behind_stopped ts c k s e g v = record {
    front = front ++ v.front;
    back = v.back;
    count = count + v.count;
    tokens = at_front ts front s.rest v.front v.back e v.tokens;
    behind = v.behind;
    within = omega (arith, g, v.within);
    begins = begins v.front v.count v.begins;
  }

  pub behind_limited : (ts : List Token) (c k : ℕ) (s : State) → ts ≡ front ++ s.rest → c ≡ count + s.operators → Limited Over M s.rest s.operators k → Limited Over N ts c k
  behind_limited ts c k s e g v = record {
    front = front ++ v.front;
    token = v.token;
    back = v.back;
    count = count + v.count;
    tokens = at_front ts front s.rest v.front (v.token ∷ v.back) e v.tokens;
    behind = v.behind;
    within = omega (arith, g, v.within);
    begins = begins v.front v.count v.begins;
    goes_on = λ o. let m = v.goes_on o in (count + m.0, omega (arith, g, m.1), subst (λ us. N.begins us (count + m.0)) (sym (append_assoc front v.front (v.token ∷ []))) (begins _ m.0 m.2));
  }

module _ {A B : Type 0} (Over : Type 0) (L : Rule A) (M : A → Rule B) (P : Parser A) (Q : A → Parser B) (h : Sound Over L P) where
  second : (ts : List Token) (c : ℕ) (a : A) (s : State) → Found L ts c a s → (o : Outcome B) → Verdict Over (M a) s.rest s.operators o → Verdict Over (rule.◌>>=◌ L M) ts c o
  second ts c a s v o w = go o w
    where
      spell : (b : B) (us : List Token) (n : ℕ) → (M a).spells b us n → SpellsBoth L M b (v.front ++ us) (v.count + n)
      spell b us n x = record { first = a; front = v.front; back = us; front_count = v.count; back_count = n; tokens = refl; count = refl; spells_front = v.spells; spells_back = x }

      begin : (us : List Token) (n : ℕ) → (M a).begins us n → L.begins (v.front ++ us) (v.count + n) ⊎ BeginsSecond L M (v.front ++ us) (v.count + n)
      begin us n x = inr (record { first = a; front = v.front; back = us; front_count = v.count; back_count = n; tokens = refl; count = refl; spells_front = v.spells; begins_back = x })

      go : (o : Outcome B) → Verdict Over (M a) s.rest s.operators o → Verdict Over (rule.◌>>=◌ L M) ts c o
      go (Ok p) w = behind_found Over (M a) (rule.◌>>=◌ L M) (λ b. b) v.front v.count spell begin ts c s p.1 p.0 v.tokens v.spends w
      go (Err Memory) w = w
      go (Err (Syntax j)) w = behind_stopped Over (M a) (rule.◌>>=◌ L M) (λ b. b) v.front v.count spell begin ts c j s v.tokens v.spends w
      go (Err (TooDeep j)) w = behind_limited Over (M a) (rule.◌>>=◌ L M) (λ b. b) v.front v.count spell begin ts c j s v.tokens v.spends w

  first : (ts : List Token) (c : ℕ) (o : Outcome A) → ((p : A × State) → o ≡ Ok p → Sound Over (M p.0) (Q p.0)) → Verdict Over L ts c o → Verdict Over (rule.◌>>=◌ L M) ts c (and_then o Q)
  first ts c (Ok p) k v = second ts c p.0 p.1 v (Q p.0 p.1) ((k p refl).verdict p.1)
  first ts c (Err Memory) k v = v
  first ts c (Err (Syntax j)) k v = record { front = v.front; back = v.back; count = v.count; tokens = v.tokens; behind = v.behind; within = v.within; begins = inl v.begins }
  first ts c (Err (TooDeep j)) k v = record {
    front = v.front;
    token = v.token;
    back = v.back;
    count = v.count;
    tokens = v.tokens;
    behind = v.behind;
    within = v.within;
    begins = inl v.begins;
    goes_on = λ o. let g = v.goes_on o in (g.0, g.1, inl g.2);
  }

  pub both_sound : ((a : A) → Sound Over (M a) (Q a)) → Sound Over (rule.◌>>=◌ L M) (reading.◌>>=◌ P Q)
  both_sound k = record { verdict = λ s. first s.rest s.operators (P s) (λ p e. k p.0) (h.verdict s) }

  -- where the first part never comes to an end
  pub blocked_sound : ((s : State) (p : A × State) → P s ≡ Ok p → ⊥) → Sound Over (rule.◌>>=◌ L M) (reading.◌>>=◌ P Q)
  blocked_sound never = record { verdict = λ s. first s.rest s.operators (P s) (λ p e. absurd (never s p e)) (h.verdict s) }

never_taken : {A : Type 0} (cost : ℕ) (f : Token → Option A) (ts : List Token) (c : ℕ) (p : A × State) → reading.terminal_at false cost f ts c ≡ Ok p → ⊥
never_taken cost f [] c p e = cc
never_taken cost f (t ∷ ts) c p e = go (f t) e
  where
    go : (o : Option _) → taken false cost o ts c ≡ Ok p → ⊥
    go None e = cc
    go (Some a) e = cc

-- a token that opens a level, where there may be one
pub opened_sound : {A B : Type 0} (Over : Type 0) (allowed_rule allowed : Bool) (cost : ℕ) (f : Token → Option A) (may : allowed ≡ true → IsTrue allowed_rule) (over : Over → IsTrue allowed_rule) (small : cost ≤ 1) (M : A → Rule B) (Q : A → Parser B)
    → (allowed ≡ true → (a : A) → Sound Over (M a) (Q a)) → Sound Over (rule.◌>>=◌ (rule.terminal allowed_rule cost f) M) (reading.◌>>=◌ (reading.terminal allowed cost f) Q)
opened_sound Over allowed_rule true cost f may over small M Q k =
    both_sound Over (rule.terminal allowed_rule cost f) M (reading.terminal true cost f) Q (token_sound Over allowed_rule true cost f may over small) (k refl)
opened_sound Over allowed_rule false cost f may over small M Q k =
    blocked_sound Over (rule.terminal allowed_rule cost f) M (reading.terminal false cost f) Q (token_sound Over allowed_rule false cost f may over small) (λ s p e. never_taken cost f s.rest s.operators p e)

-- ---- as often as there are items

module _ {A X : Type 0} (Over : Type 0) (L : Rule X) (test : List Token → Bool) (P : Parser X) (f : A → X → A) (h : Sound Over L P) where
  -- with no beginning but that of an item
  strict : A → Rule A
  strict a = record { spells = (rule.repeated f L a).spells; begins = λ ts n. (xs : List X) × BeginsAfter L xs ts n }

  strict_sound : (k : ℕ) (a : A) (s : State) → Verdict Over (strict a) s.rest s.operators (turns test f P k a s)
  unfolding strict
  strict_sound zero a s = record { front = []; count = 0; tokens = refl; spends = omega arith; spells = ([], refl, record { tokens = refl; count = refl }) }
  strict_sound (suc k) a s = go (test s.rest) (λ x t. strict_sound k (f a x) t)
    where
      second : (x : X) (t : State) → Found L s.rest s.operators x t → (o : Outcome A) → Verdict Over (strict (f a x)) t.rest t.operators o → Verdict Over (strict a) s.rest s.operators o
      second x t v o w = go' o w
        where
          spell : (b : A) (us : List Token) (n : ℕ) → (rule.repeated f L (f a x)).spells b us n → (rule.repeated f L a).spells b (v.front ++ us) (v.count + n)
          spell b us n y = (x ∷ y.0, y.1, record { front = v.front; back = us; front_count = v.count; back_count = n; tokens = refl; count = refl; spells_front = v.spells; spells_back = y.2 })

          begin : (us : List Token) (n : ℕ) → ((xs : List X) × BeginsAfter L xs us n) → (xs : List X) × BeginsAfter L xs (v.front ++ us) (v.count + n)
          begin us n y = (x ∷ y.0, record { front = v.front; back = us; front_count = v.count; back_count = n; tokens = refl; count = refl; spells_front = v.spells; spells_back = y.1 })

          go' : (o : Outcome A) → Verdict Over (strict (f a x)) t.rest t.operators o → Verdict Over (strict a) s.rest s.operators o
          go' (Ok p) w = behind_found Over (strict (f a x)) (strict a) (λ b. b) v.front v.count spell begin s.rest s.operators t p.1 p.0 v.tokens v.spends w
          go' (Err Memory) w = w
          go' (Err (Syntax j)) w = behind_stopped Over (strict (f a x)) (strict a) (λ b. b) v.front v.count spell begin s.rest s.operators j t v.tokens v.spends w
          go' (Err (TooDeep j)) w = behind_limited Over (strict (f a x)) (strict a) (λ b. b) v.front v.count spell begin s.rest s.operators j t v.tokens v.spends w

      item : (o : Outcome X) → Verdict Over L s.rest s.operators o → ((x : X) (t : State) → Verdict Over (strict (f a x)) t.rest t.operators (turns test f P k (f a x) t)) → Verdict Over (strict a) s.rest s.operators (and_then o (λ x. turns test f P k (f a x)))
      item (Ok p) v ih = second p.0 p.1 v _ (ih p.0 p.1)
      item (Err Memory) v ih = v
      item (Err (Syntax j)) v ih = record { front = v.front; back = v.back; count = v.count; tokens = v.tokens; behind = v.behind; within = v.within; begins = ([], v.begins) }
      item (Err (TooDeep j)) v ih = record {
        front = v.front;
        token = v.token;
        back = v.back;
        count = v.count;
        tokens = v.tokens;
        behind = v.behind;
        within = v.within;
        begins = ([], v.begins);
        goes_on = λ o. let g = v.goes_on o in (g.0, g.1, ([], g.2));
      }

      go : (b : Bool) → ((x : X) (t : State) → Verdict Over (strict (f a x)) t.rest t.operators (turns test f P k (f a x) t)) → Verdict Over (strict a) s.rest s.operators (if b then and_then (P s) (λ x. turns test f P k (f a x)) else Ok (a, s))
      go true ih = item (P s) (h.verdict s) ih
      go false ih = record { front = []; count = 0; tokens = refl; spends = omega arith; spells = ([], refl, record { tokens = refl; count = refl }) }

  pub repeat_sound : (a : A) → Sound Over (rule.repeated f L a) (reading.repeated test f P a)
  unfolding strict
  repeat_sound a = record { verdict = λ s. widens Over (strict a) (rule.repeated f L a) (λ b ts n x. x) (λ ts n x. inr x) s.rest s.operators _ (strict_sound (length s.rest) a s) }

-- ---- the same where the rule allows more levels more seldom

verdict_over : {A : Type 0} {Over : Type 0} (Over2 : Type 0) (L : Rule A) (ts : List Token) (c : ℕ) → (Over2 → Over) → (o : Outcome A) → Verdict Over L ts c o → Verdict Over2 L ts c o
verdict_over Over2 L ts c f (Ok p) v = v
verdict_over Over2 L ts c f (Err Memory) v = v
verdict_over Over2 L ts c f (Err (Syntax k)) v = v
verdict_over Over2 L ts c f (Err (TooDeep k)) v = record {
  front = v.front;
  token = v.token;
  back = v.back;
  count = v.count;
  tokens = v.tokens;
  behind = v.behind;
  within = v.within;
  begins = v.begins;
  goes_on = λ o. v.goes_on (f o);
}

pub sound_over : {A : Type 0} {Over : Type 0} (Over2 : Type 0) {L : Rule A} {P : Parser A} → (Over2 → Over) → Sound Over L P → Sound Over2 L P
sound_over Over2 {L = L} f h = record { verdict = λ s. verdict_over Over2 L _ _ f _ (h.verdict s) }

-- ---- a text whose operators count for it alone

module _ {A : Type 0} {Over : Type 0} (Over2 : Type 0) (limit_rule limit : ℕ) {L : Rule A} {P : Parser A} (over : Over2 → Over) (fits : limit ≤ limit_rule) (past : Over2 → suc limit ≤ limit_rule) (h : Sound Over L P) where
  outer_verdict : (ts : List Token) (c : ℕ) (o : Outcome A) → Verdict Over L ts limit o → Verdict Over2 (rule.outermost L limit_rule) ts c (and_then o (λ a t. Ok (a, state t.rest c)))
  outer_verdict ts c (Ok p) v = record {
    front = v.front;
    count = 0;
    tokens = v.tokens;
    spends = omega arith;
    spells = record { inside = v.count; within = omega (arith, v.spends, fits); spells = v.spells; count = refl };
  }
  outer_verdict ts c (Err Memory) v = v
  outer_verdict ts c (Err (Syntax k)) v = record {
    front = v.front;
    back = v.back;
    count = 0;
    tokens = v.tokens;
    behind = v.behind;
    within = omega arith;
    begins = record { inside = v.count; within = omega (arith, v.within, fits); begins = v.begins; count = refl };
  }
  outer_verdict ts c (Err (TooDeep k)) v = record {
    front = v.front;
    token = v.token;
    back = v.back;
    count = 0;
    tokens = v.tokens;
    behind = v.behind;
    within = omega arith;
    begins = record { inside = v.count; within = omega (arith, v.within, fits); begins = v.begins; count = refl };
    goes_on = λ o. let g = v.goes_on (over o) in (0, omega arith, record { inside = g.0; within = omega (arith, g.1, past o); begins = g.2; count = refl });
  }

  pub fresh_sound : Sound Over2 (rule.outermost L limit_rule) (reading.fresh limit P)
  fresh_sound = record { verdict = λ s. outer_verdict s.rest s.operators _ (h.verdict (state s.rest limit)) }
