-- What the outcome of reading says of the grammar, for any family of rules that reading covers and is sound for.
use Rattle.std.proofs.Common.{◌≡◌, ◌⊎◌, ℕ, suc, ◌+◌, ◌-◌, ◌<◌, ◌≤◌, ◌≢◌, Bool, List, [], ◌∷◌, ◌++◌, length, take, drop, Ok, Err, refl, sym, ap, ◌∙◌, subst, inl, inr, arith, true≢false, length-append, append-nil, append_assoc, take-append-drop, length-drop}
use Rattle.std.proofs.Math.Seq.{take-append_seam}
use Rattle.std.proofs.lemmas.Grind.{common_steps}
use Rattle.ams_token.specs.declared.token.Token.{Token}
use Rattle.ams_tree.specs.Rule.{Rule}
use Rattle.ams_tree.specs.Answer.{Spells, Begins, SpellsWithin, BeginsWithin, Longest, IsRead, IsSyntax, IsTooDeep}
use Rattle.parse_steps.specs.declared.reader.Stop.{Stop}
use Rattle.parse_steps.specs.declared.reader.Stop.TheVariants.{Memory, Syntax, TooDeep}
use Rattle.parse_steps.specs.State.{State}
use Rattle.parse_steps.specs.Reading.{state, stop_left, Outcome, Parser}
use Rattle.parse_steps.specs.Reply.{Answers, IsTree, most_operators, fault_of}
use Rattle.parse_steps.proofs.Covers.{Covers, Fate, exactly, further, limited, Reaches, Beyond, left}
use Rattle.parse_steps.proofs.Covers as covers
use Rattle.parse_steps.proofs.Sound.{Sound, Verdict, Found, Stopped, Limited}

-- reading with so many operators in an expression, and levels, against the rule with others
pub record Answering {A : Type 0} (rule : ℕ → ℕ → Rule A) (read : ℕ → ℕ → Parser A) : Type 0 where
  pub empty : Bool
  pub first : List ℕ
  pub next : List ℕ
  pub covers : (c n l d : ℕ) → Covers ((n < d) ⊎ (c < l)) empty first next (rule l d) (read c n)
  pub sound : (c n l d : ℕ) → c ≤ l → n ≤ d → Sound ((n < d) × (c < l)) (rule l d) (read c n)

front_is : (ts front back : List Token) → ts ≡ front ++ back → take (length front) ts ≡ front
front_is ts front back e = ap (take (length front)) e ∙ take-append_seam front back

front_length : (ts front back : List Token) → ts ≡ front ++ back → length ts ≡ length front + length back
front_length ts front back e = ap length e ∙ length-append front back

at_place : (at total len k : ℕ) (ts : List Token) → length ts ≡ total → at ≤ total → length (drop at ts) ≡ len + k → (k ≤ total) × (total - k ≡ at + len)
at_place at total len k ts e le f = (omega (arith, length-drop at ts, e, le, f), omega (arith, length-drop at ts, e, le, f))

not_memory : (k : ℕ) → (Syntax k ≡ Memory → ⊥) × (TooDeep k ≡ Memory → ⊥)
not_memory k = (λ e. cc, λ e. cc)

never : (n c : ℕ) → (n < n) ⊎ (c < c) → ⊥
never n c (inl o) = omega (arith, o)
never n c (inr o) = omega (arith, o)

module _ {A : Type 0} {rule : ℕ → ℕ → Rule A} {read : ℕ → ℕ → Parser A} (h : Answering rule read) where
  -- what a front of the tokens that begins a text makes of the outcome
  reaches : (n d l c w m : ℕ) (ts : List Token) → (rule l d).begins (take m ts) w → Reaches ((n < d) ⊎ (c < l)) (drop m ts) c w (read c n (state ts c))
  reaches n d l c w m ts b = subst (λ us. Reaches ((n < d) ⊎ (c < l)) (drop m ts) c w (read c n (state us c))) (take-append-drop m ts) ((h.covers c n l d).begun (take m ts) w b (drop m ts) c)

  -- reading goes as far as a front that begins a text, unless a limit stops it
  goes_as_far : (n c : ℕ) (ts : List Token) (o : Outcome A) → read c n (state ts c) ≡ o → (covers.IsTooDeep o → ⊥) → (m : ℕ) → m ≤ length ts → Begins rule (take m ts) → m + left o ≤ length ts
  goes_as_far n c ts o e not_deep m le b = go (subst (Reaches ((n < b.1) ⊎ (c < b.0)) (drop m ts) c b.2) e (reaches n b.1 b.0 c b.2 m ts b.3))
    where
      go : Reaches ((n < b.1) ⊎ (c < b.0)) (drop m ts) c b.2 o → m + left o ≤ length ts
      go (inl l) = omega (arith, l, le, length-drop m ts)
      go (inr (d, x)) = absurd (not_deep d)

  longest : (n c w : ℕ) (ts front back : List Token) (o : Outcome A) → read c n (state ts c) ≡ o → (covers.IsTooDeep o → ⊥) → ts ≡ front ++ back → left o ≡ length back → (rule c n).begins front w → Longest rule ts (length front)
  longest n c w ts front back o e not_deep split l b = record {
    fits = omega (arith, front_length ts front back split);
    begins = (c, n, w, subst (λ us. (rule c n).begins us w) (sym (front_is ts front back split)) b);
    ends = λ more lt le x. absurd (omega (arith, goes_as_far n c ts o e not_deep more le x, lt, l, front_length ts front back split));
  }

  -- a tree that the whole front spells decides the outcome
  fate : (n d l c w : ℕ) (x : A) (front back : List Token) → (rule l d).spells x front w → Fate ((n < d) ⊎ (c < l)) h.next x back c w (read c n (state (front ++ back) c))
  fate n d l c w x front back s = (h.covers c n l d).spelled x front w s back c

  verdict : (n d l c : ℕ) → c ≤ l → n ≤ d → (ts : List Token) (o : Outcome A) → read c n (state ts c) ≡ o → Verdict ((n < d) × (c < l)) (rule l d) ts c o
  verdict n d l c le1 le2 ts o e = subst (Verdict ((n < d) × (c < l)) (rule l d) ts c) e ((h.sound c n l d le1 le2).verdict (state ts c))

  pub is_read : (n c : ℕ) (ts : List Token) (x : A) (s : State) → read c n (state ts c) ≡ Ok (x, s) → (len : ℕ) × (length ts ≡ len + length s.rest) × IsRead rule n c ts x len
  is_read n c ts x s e = go (verdict n n c c (omega arith) (omega arith) ts (Ok (x, s)) e)
    where
      not_deep : covers.IsTooDeep {A = A} (Ok (x, s)) → ⊥
      not_deep d = let f = d.1 in cc

      go : Found (rule c n) ts c x s → (len : ℕ) × (length ts ≡ len + length s.rest) × IsRead rule n c ts x len
      go v = (
        length v.front,
        front_length ts v.front s.rest v.tokens,
        record {
          longest = longest n c v.count ts v.front s.rest (Ok (x, s)) e not_deep v.tokens refl ((h.covers c n c n).whole x v.front v.count v.spells);
          spells = (v.count, omega (arith, v.spends), subst (λ us. (rule c n).spells x us v.count) (sym (front_is ts v.front s.rest v.tokens)) v.spells);
        },
      )

  pub is_syntax : (n c k : ℕ) (ts : List Token) → read c n (state ts c) ≡ Err (Syntax k) → (len : ℕ) × (length ts ≡ len + k) × IsSyntax rule n c ts len
  is_syntax n c k ts e = go (verdict n n c c (omega arith) (omega arith) ts (Err (Syntax k)) e)
    where
      not_deep : covers.IsTooDeep {A = A} (Err (Syntax k)) → ⊥
      not_deep d = let f = d.1 in cc

      unfinished : (x : A) (front back : List Token) (d l w : ℕ) → length back ≡ k → Fate ((n < d) ⊎ (c < l)) h.next x back c w (Err (Syntax k)) → ⊥
      unfinished x front back d l w is (exactly spare f g) = cc
      unfinished x front back d l w is (further st (inl lt)) = omega (arith, is, lt)
      unfinished x front back d l w is (further st (inr g)) = cc
      unfinished x front back d l w is (limited t y) = not_deep t

      go : Stopped (rule c n) ts c k → (len : ℕ) × (length ts ≡ len + k) × IsSyntax rule n c ts len
      go v = (
        length v.front,
        omega (arith, front_length ts v.front v.back v.tokens, v.behind),
        record {
          longest = longest n c v.count ts v.front v.back (Err (Syntax k)) e not_deep v.tokens (sym v.behind) v.begins;
          within = (v.count, v.within, subst (λ us. (rule c n).begins us v.count) (sym (front_is ts v.front v.back v.tokens)) v.begins);
          unfinished = λ x s. unfinished x v.front v.back s.1 s.0 s.2 v.behind
              (subst (Fate ((n < s.1) ⊎ (c < s.0)) h.next x v.back c s.2) (ap (λ us. read c n (state us c)) (sym v.tokens) ∙ e)
              (fate n s.1 s.0 c s.2 x v.front v.back (subst (λ us. (rule s.0 s.1).spells x us s.2) (front_is ts v.front v.back v.tokens) s.3)));
        },
      )

  pub is_too_deep : (n c k : ℕ) (ts : List Token) → read c n (state ts c) ≡ Err (TooDeep k) → (len : ℕ) × (length ts ≡ len + k) × IsTooDeep rule n c ts len
  is_too_deep n c k ts e =
      go (verdict n n c c (omega arith) (omega arith) ts (Err (TooDeep k)) e) (verdict n (suc n) (suc c) c (omega arith) (omega arith) ts (Err (TooDeep k)) e)
    where
      past : (v : Limited ((n < n) × (c < c)) (rule c n) ts c k) (b : BeginsWithin rule n c (take (suc (length v.front)) ts)) → Reaches {A = A} ((n < n) ⊎ (c < c)) (drop (suc (length v.front)) ts) c b.0 (Err (TooDeep k)) → ⊥
      past v b (inl l) = omega (arith, l, length-drop (suc (length v.front)) ts, front_length ts v.front (v.token ∷ v.back) v.tokens, v.behind)
      past v b (inr (d, inl o)) = never n c o
      past v b (inr (d, inr o)) = omega (arith, o, b.1)

      go : Limited ((n < n) × (c < c)) (rule c n) ts c k → Limited ((n < suc n) × (c < suc c)) (rule (suc c) (suc n)) ts c k → (len : ℕ) × (length ts ≡ len + k) × IsTooDeep rule n c ts len
      go v u =
          let len_v = front_length ts v.front (v.token ∷ v.back) v.tokens in
          let len_u = front_length ts u.front (u.token ∷ u.back) u.tokens in
          let split : ts ≡ (u.front ++ u.token ∷ []) ++ u.back = u.tokens ∙ sym (append_assoc u.front (u.token ∷ []) u.back) in
          let one_longer : length (u.front ++ u.token ∷ []) ≡ suc (length v.front) = omega (arith, len_v, len_u, v.behind, u.behind, length-append u.front (u.token ∷ [])) in
          let next = u.goes_on (omega arith, omega arith) in (
            length v.front,
            omega (arith, len_v, v.behind),
            record {
              fits = omega (arith, len_v);
              within = (v.count, v.within, subst (λ us. (rule c n).begins us v.count) (sym (front_is ts v.front (v.token ∷ v.back) v.tokens)) v.begins);
              begins = (suc c, suc n, next.0, subst (λ us. (rule (suc c) (suc n)).begins us next.0) (sym (ap (λ m. take m ts) (sym one_longer) ∙ front_is ts (u.front ++ u.token ∷ []) u.back split)) next.2);
              beyond = λ b. past v b (subst (Reaches ((n < n) ⊎ (c < c)) (drop (suc (length v.front)) ts) c b.0) e (reaches n n c c b.0 (suc (length v.front)) ts b.2));
            },
          )

  -- a tree within the limits is read from what it spells
  pub reads_back : (n c : ℕ) (ts : List Token) (x : A) → SpellsWithin rule n c x ts → (spare : ℕ) × (read c n (state ts c) ≡ Ok (x, state [] spare))
  reads_back n c ts x s = go (subst (λ us. Fate ((n < n) ⊎ (c < c)) h.next x [] c s.0 (read c n (state us c))) (append-nil ts) (fate n n c c s.0 x ts [] s.2))
    where
      go : Fate ((n < n) ⊎ (c < c)) h.next x [] c s.0 (read c n (state ts c)) → (spare : ℕ) × (read c n (state ts c) ≡ Ok (x, state [] spare))
      go (exactly spare f g) = (spare, g)
      go (further st by) = absurd (true≢false (sym st))
      go (limited t (inl o)) = absurd (never n c o)
      go (limited t (inr o)) = absurd (omega (arith, o, s.1))

  -- what reading gave, or else the other
  abbrev got : Outcome A → A × State → A × State
  got (Ok p) q = p
  got (Err e) q = q

  abbrev the_err : Stop → Outcome A
  the_err e = Err e

  abbrev the_ok : A × State → Outcome A
  the_ok p = Ok p

  pub one_tree : (x y : A) (ts : List Token) → Spells rule x ts → Spells rule y ts → x ≡ y
  one_tree x y ts s t =
      let a = one x s (omega arith) (omega arith) (omega arith) in
      let b = one y t (omega arith) (omega arith) (omega arith) in
      same a.0 b.0 (sym a.1 ∙ b.1)
    where
      one : (z : A) (s' : Spells rule z ts) → s'.0 ≤ (s.0 + t.0) + (s.2 + t.2) → s'.1 ≤ s.1 + t.1 → s'.2 ≤ (s.0 + t.0) + (s.2 + t.2) → (spare : ℕ) × (read ((s.0 + t.0) + (s.2 + t.2)) (s.1 + t.1) (state ts ((s.0 + t.0) + (s.2 + t.2))) ≡ Ok (z, state [] spare))
      one z s' l d w = go (subst (λ us. Fate ((s.1 + t.1 < s'.1) ⊎ ((s.0 + t.0) + (s.2 + t.2) < s'.0)) h.next z [] ((s.0 + t.0) + (s.2 + t.2)) s'.2 (read ((s.0 + t.0) + (s.2 + t.2)) (s.1 + t.1) (state us ((s.0 + t.0) + (s.2 + t.2))))) (append-nil ts) (fate (s.1 + t.1) s'.1 s'.0 ((s.0 + t.0) + (s.2 + t.2)) s'.2 z ts [] s'.3))
        where
          go : Fate ((s.1 + t.1 < s'.1) ⊎ ((s.0 + t.0) + (s.2 + t.2) < s'.0)) h.next z [] ((s.0 + t.0) + (s.2 + t.2)) s'.2 (read ((s.0 + t.0) + (s.2 + t.2)) (s.1 + t.1) (state ts ((s.0 + t.0) + (s.2 + t.2)))) → (spare : ℕ) × (read ((s.0 + t.0) + (s.2 + t.2)) (s.1 + t.1) (state ts ((s.0 + t.0) + (s.2 + t.2))) ≡ Ok (z, state [] spare))
          go (exactly spare f g) = (spare, g)
          go (further st by) = absurd (true≢false (sym st))
          go (limited q (inl (inl o))) = absurd (omega (arith, o, d))
          go (limited q (inl (inr o))) = absurd (omega (arith, o, l))
          go (limited q (inr o)) = absurd (omega (arith, o, w))

      same : (p q : ℕ) → the_ok (x, state [] p) ≡ Ok (y, state [] q) → x ≡ y
      same p q e = ap (λ o. (got o (x, state [] p)).0) e

  -- each front of what begins a text begins one, within the same limits
  pub front_begins : (ts us : List Token) → Begins rule (ts ++ us) → Begins rule ts
  front_begins ts us b = let f = (h.covers 0 0 b.0 b.1).fronts ts us b.2 b.3 in (b.0, b.1, f.0, f.2)

  pub front_begins_within : (n c : ℕ) (ts us : List Token) → BeginsWithin rule n c (ts ++ us) → BeginsWithin rule n c ts
  front_begins_within n c ts us b = let f = (h.covers 0 0 c n).fronts ts us b.0 b.2 in (f.0, omega (arith, f.1, b.1), f.2)

  -- what spells a tree begins a text
  pub spelled_begins : (x : A) (ts : List Token) → Spells rule x ts → Begins rule ts
  spelled_begins x ts s = (s.0, s.1, s.2, (h.covers 0 0 s.0 s.1).whole x ts s.2 s.3)

  -- ---- with places among all tokens

  pub tree_fits : (n at : ℕ) (ts : List Token) (x : A) (s : State) → at ≤ length ts → read most_operators n (state (drop at ts) most_operators) ≡ Ok (x, s) → length s.rest ≤ length ts
  tree_fits n at ts x s le e = let r = is_read n most_operators (drop at ts) x s e in (at_place at (length ts) r.0 (length s.rest) ts refl le r.1).0

  pub tree_answers : (n at : ℕ) (ts : List Token) (x : A) (s : State) → at ≤ length ts → read most_operators n (state (drop at ts) most_operators) ≡ Ok (x, s) → Answers rule n ts at (Ok (x, length ts - length s.rest))
  tree_answers n at ts x s le e = let r = is_read n most_operators (drop at ts) x s e in (r.0, (at_place at (length ts) r.0 (length s.rest) ts refl le r.1).1, r.2)

  pub tree_back : (n at : ℕ) (ts : List Token) (x : A) (s : State) → read most_operators n (state (drop at ts) most_operators) ≡ Ok (x, s) → (y : A) → SpellsWithin rule n most_operators y (drop at ts) → (x ≡ y) × (length ts - length s.rest ≡ length ts)
  tree_back n at ts x s e y w = go (reads_back n most_operators (drop at ts) y w).0 (sym e ∙ (reads_back n most_operators (drop at ts) y w).1)
    where
      none : (p : ℕ) → the_ok (x, s) ≡ Ok (y, state [] p) → length s.rest ≡ 0
      none p f = ap (λ o. length (got o (x, s)).1.rest) f

      go : (p : ℕ) → the_ok (x, s) ≡ Ok (y, state [] p) → (x ≡ y) × (length ts - length s.rest ≡ length ts)
      go p f = (ap (λ o. (got o (x, s)).0) f, omega (arith, none p f))

  pub stop_fits : (n at : ℕ) (ts : List Token) (stop : Stop) → (stop ≢ Memory → read most_operators n (state (drop at ts) most_operators) ≡ Err stop) → stop_left stop ≤ length ts
  stop_fits n at ts Memory e = omega arith
  stop_fits n at ts (Syntax k) e =
      let r = is_syntax n most_operators k (drop at ts) (e (not_memory k).0) in omega (arith, r.1, length-drop at ts)
  stop_fits n at ts (TooDeep k) e =
      let r = is_too_deep n most_operators k (drop at ts) (e (not_memory k).1) in omega (arith, r.1, length-drop at ts)

  pub stop_answers : (n at : ℕ) (ts : List Token) (stop : Stop) → at ≤ length ts → (stop ≢ Memory → read most_operators n (state (drop at ts) most_operators) ≡ Err stop) → Answers rule n ts at (Err (fault_of (length ts) stop))
  stop_answers n at ts Memory le e = tt
  stop_answers n at ts (Syntax k) le e =
      let r = is_syntax n most_operators k (drop at ts) (e (not_memory k).0) in (r.0, (at_place at (length ts) r.0 k ts refl le r.1).1, r.2)
  stop_answers n at ts (TooDeep k) le e =
      let r = is_too_deep n most_operators k (drop at ts) (e (not_memory k).1) in (r.0, (at_place at (length ts) r.0 k ts refl le r.1).1, r.2)

  pub stop_back : (n at : ℕ) (ts : List Token) (stop : Stop) → (stop ≢ Memory → read most_operators n (state (drop at ts) most_operators) ≡ Err stop) → (y : A) → SpellsWithin rule n most_operators y (drop at ts) → IsTree y (length ts) (Err (fault_of (length ts) stop))
  stop_back n at ts Memory e y w = tt
  stop_back n at ts (Syntax k) e y w = no_tree (sym (e (not_memory k).0) ∙ (reads_back n most_operators (drop at ts) y w).1)
    where
      no_tree : {z : A × State} → the_err (Syntax k) ≡ Ok z → ⊥
      no_tree f = cc
  stop_back n at ts (TooDeep k) e y w = no_tree (sym (e (not_memory k).1) ∙ (reads_back n most_operators (drop at ts) y w).1)
    where
      no_tree : {z : A × State} → the_err (TooDeep k) ≡ Ok z → ⊥
      no_tree f = cc

-- the code lends the tokens from the place on as a range
pub from_range : {A : Type 0} (P : Parser A) (at : ℕ) (ts : List Token) (s : State) (o : Outcome A) → s ≡ state (take (length ts - at) (drop at ts)) most_operators → P s ≡ o → P (state (drop at ts) most_operators) ≡ o
from_range P at ts s o e f =
    let all : take (length ts - at) (drop at ts) ≡ drop at ts = grind (arith, common_steps) in
    ap (λ us. P (state us most_operators)) (sym all) ∙ ap P (sym e) ∙ f
