-- The choice between a text that begins with an identifier and a mark, and one that may begin with an identifier.
use Rattle.std.proofs.Common.{◌≡◌, ℕ, suc, Bool, true, false, ◌&&◌, List, [], ◌∷◌, ◌++◌, Option, Some, None, is_some, Ok, refl, sym, ap, ◌∙◌, subst, inl, inr, arith, true≢false, append-nil}
use Rattle.ams_token.specs.declared.token.Token.{Token}
use Rattle.ams_token.specs.declared.mark.Mark.{Mark}
use Rattle.ams_token.specs.Classes.{class}
use Rattle.ams_tree.specs.declared.expression.Name.{Name}
use Rattle.ams_tree.specs.Terminals.{mark, name_of}
use Rattle.ams_tree.specs.Rule.{Rule, SpellsToken, SpellsBoth, BeginsSecond}
use Rattle.ams_tree.specs.Rule as rule
use Rattle.parse_steps.specs.Reading.{state, Outcome, Parser, and_then}
use Rattle.parse_steps.specs.Reading as reading
use Rattle.parse_steps.proofs.Sets.{has, starts, within, has-within, and_both, and_parts}
use Rattle.parse_steps.proofs.Covers.{Covers, Fate, exactly, further, limited, Reaches, Beyond, left, both_covers}
use Rattle.parse_steps.proofs.Covering.{reads, takes_}
use Rattle.parse_steps.proofs.KindSets.{M, names, name_of_tells, class_tells}
use Rattle.parse_steps.proofs.Two.{two, choose_two_covers}
use Rattle.parse_conc.specs.Parsing.{name_then}

name_then_is : (x : Mark) (ts : List Token) → name_then x ts ≡ two names (M x ∷ []) ts
unfolding name_then
name_then_is x [] = refl
name_then_is x (t ∷ []) = go (reading.at name_of (t ∷ []))
  where
    go : (b : Bool) → (b && false) ≡ false
    go true = refl
    go false = refl
name_then_is x (t ∷ u ∷ ts) = ap (λ b. b && is_some (mark x u)) (sym (name_of_tells t)) ∙ ap (λ b. has names (class t) && b) (sym (class_tells (M x) u))

-- the name that an identifier is read as
pub name_seen : (t : Token) → has names (class t) ≡ true → (x : Name) × (name_of t ≡ Some x)
name_seen t e = seen (name_of t) refl (sym (name_of_tells t) ∙ e)
  where
    seen : (o : Option Name) → name_of t ≡ o → is_some o ≡ true → (x : Name) × (name_of t ≡ Some x)
    seen None f g = absurd (true≢false (sym g))
    seen (Some x) f g = (x, f)

-- a text that reading takes, whatever the limits, where what follows cannot go on with it
pub exactly_read : {A : Type 0} {Over : Type 0} {next : List ℕ} (never : Over → ⊥) (a : A) (us : List Token) (c : ℕ) (o : Outcome A) → starts next us ≡ false → Fate Over next a us c 0 o → o ≡ Ok (a, state us c)
exactly_read never a us c o stops (exactly spare f eq) = let same : spare ≡ c = omega (arith, f) in eq ∙ ap (λ n. Ok (a, state us n)) same
exactly_read never a us c o stops (further st by) = absurd (true≢false (sym st ∙ stops))
exactly_read never a us c o stops (limited d (inl x)) = absurd (never x)
exactly_read never a us c o stops (limited d (inr l)) = absurd (omega (arith, l))

-- an identifier is read
name_read : (t : Token) (us : List Token) (c : ℕ) → has names (class t) ≡ true → (x : Name) × (reading.one name_of (state (t ∷ us) c) ≡ Ok (x, state us c))
name_read t us c e =
    let x = name_seen t e in
    let token : (rule.one name_of).spells x.0 (t ∷ []) 0 = record { token = t; tokens = refl; tree = x.1; count = refl; allows = refl } in
    (x.0, exactly_read (λ o. o) x.0 us c _ (nothing us) ((reads ⊥ 0 names name_of name_of_tells).spelled x.0 (t ∷ []) 0 token us c))
  where
    nothing : (vs : List Token) → starts [] vs ≡ false
    nothing [] = refl
    nothing (v ∷ vs) = refl

-- the first of two parts is one token
one_first : (t : Token) (ts front back : List Token) (u : Token) → t ∷ ts ≡ front ++ back → front ≡ u ∷ [] → (t ≡ u) × (ts ≡ back)
one_first t ts front back u e f =
    let whole : t ∷ ts ≡ u ∷ back = e ∙ ap (λ us. us ++ back) f in
    let head : t ≡ u = cc in
    let rest : ts ≡ back = cc in
    (head, rest)

module _ {A : Type 0} (Over : Type 0) (x : Mark) {first1 next1 first2 next2 : List ℕ} {R : Name → Rule A} {PR : Name → Parser A} {N : Rule A} {Q : Parser A}
    (h : (name : Name) → Covers Over false first1 next1 (R name) (PR name)) (k : Covers Over false first2 next2 N Q)
    -- the other rule has texts that begin with an identifier, but none goes on with the mark
    (alone : (t : Token) → has names (class t) ≡ true → N.begins (t ∷ []) 0)
    (never : (t u : Token) (ts : List Token) (n : ℕ) → has names (class t) ≡ true → has (M x ∷ []) (class u) ≡ true → N.begins (t ∷ u ∷ ts) n → ⊥) where
  -- the mark, and what follows it
  Marked : Name → Rule A
  Marked name = rule.◌>>◌ (rule.one (mark x)) (R name)

  marked : Name → Parser A
  marked name = reading.◌>>◌ (reading.one (mark x)) (PR name)

  Named : Rule A
  Named = rule.◌>>=◌ (rule.one name_of) Marked

  named : Parser A
  named = reading.◌>>=◌ (reading.one name_of) marked

  marked_covers : (name : Name) → Covers Over false (M x ∷ []) (next1 ++ []) (Marked name) (marked name)
  unfolding Marked marked
  marked_covers name = both_covers Over false false (M x ∷ []) [] first1 next1 _ _ _ _ (takes_ Over 0 (M x)) (λ _. h name) refl

  named_covers : Covers Over false names ((next1 ++ []) ++ []) Named named
  unfolding Named named
  named_covers = both_covers Over false false names [] (M x ∷ []) (next1 ++ []) _ _ _ _ (reads Over 0 names name_of name_of_tells) marked_covers refl

  is_name : (name : Name) (t : Token) (s : Token) → t ≡ s → name_of s ≡ Some name → has names (class t) ≡ true
  is_name name t s e f = name_of_tells t ∙ ap (λ u. is_some (name_of u)) e ∙ ap is_some f

  both : (t u : Token) (ts : List Token) (n : ℕ) → Named.begins (t ∷ u ∷ ts) n → two names (M x ∷ []) (t ∷ u ∷ ts) ≡ true
  unfolding Named
  both t u ts n (inl (inl b)) = let e = b.tokens in cc
  both t u ts n (inl (inr (a, s))) = let e = s.tokens in cc
  both t u ts n (inr y) =
      let p = one_first t (u ∷ ts) y.front y.back y.spells_front.token y.tokens y.spells_front.tokens in
      and_both (has names (class t)) (has (M x ∷ []) (class u)) (is_name y.first t y.spells_front.token p.0 y.spells_front.tree)
      ((marked_covers y.first).first_begun u ts y.back_count (subst (λ us. (Marked y.first).begins us y.back_count) (sym p.1) y.begins_back))

  never_both : (t u : Token) (ts : List Token) (n : ℕ) → N.begins (t ∷ u ∷ ts) n → two names (M x ∷ []) (t ∷ u ∷ ts) ≡ false
  never_both t u ts n b = go (two names (M x ∷ []) (t ∷ u ∷ ts)) refl
    where
      go : (q : Bool) → two names (M x ∷ []) (t ∷ u ∷ ts) ≡ q → q ≡ false
      go true e = let p = and_parts (has names (class t)) (has (M x ∷ []) (class u)) e in absurd (never t u ts n p.0 p.1 b)
      go false e = refl

  longer : (a : A) (t : Token) (n : ℕ) → Named.spells a (t ∷ []) n → ⊥
  unfolding Named
  longer a t n y =
      let p = one_first t [] y.front y.back y.spells_front.token y.tokens y.spells_front.tokens in
      true≢false (sym ((marked_covers y.first).empty_spelled a y.back_count (subst (λ us. (Marked y.first).spells a us y.back_count) (sym p.1) y.spells_back)))

  -- what begins with nothing has no operators
  none_counted : (name : Name) (n : ℕ) → (Marked name).begins [] n → n ≡ 0
  unfolding Marked
  none_counted name n (inl (inl b)) = b.count
  none_counted name n (inl (inr (a, s))) = let e = s.tokens in cc
  none_counted name n (inr y) = let e : [] ≡ y.spells_front.token ∷ y.back = y.tokens ∙ ap (λ us. us ++ y.back) y.spells_front.tokens in cc

  shared : (t : Token) (n : ℕ) → Named.begins (t ∷ []) n → N.begins (t ∷ []) n
  unfolding Named
  shared t n (inl (inl b)) = let e = b.tokens in cc
  shared t n (inl (inr (a, s))) =
      let p = one_first t [] (t ∷ []) [] s.token refl s.tokens in
      subst (λ j. N.begins (t ∷ []) j) (sym s.count) (alone t (is_name a t s.token p.0 s.tree))
  shared t n (inr y) =
      let p = one_first t [] y.front y.back y.spells_front.token y.tokens y.spells_front.tokens in
      let none = none_counted y.first y.back_count (subst (λ us. (Marked y.first).begins us y.back_count) (sym p.1) y.begins_back) in
      let zero : n ≡ 0 = omega (arith, y.count, y.spells_front.count, none) in
      subst (λ j. N.begins (t ∷ []) j) (sym zero) (alone t (is_name y.first t y.spells_front.token p.0 y.spells_front.tree))

  takes : (t u : Token) (ts : List Token) (c : ℕ) → two names (M x ∷ []) (t ∷ u ∷ ts) ≡ true → Beyond (named (state (t ∷ u ∷ ts) c)) (u ∷ ts)
  unfolding named
  takes t u ts c e =
      let p = and_parts (has names (class t)) (has (M x ∷ []) (class u)) e in
      let r = name_read t (u ∷ ts) c p.0 in
      subst (λ o. Beyond (and_then o marked) (u ∷ ts)) (sym r.1) ((marked_covers r.0).takes u ts c p.1)

  module _ (starts_so : within names first2 ≡ true) (follows_so : within (M x ∷ []) (((next1 ++ []) ++ []) ++ next2) ≡ true) where
    follows : (t u : Token) (ts : List Token) → two names (M x ∷ []) (t ∷ u ∷ ts) ≡ true → has (((next1 ++ []) ++ []) ++ next2) (class u) ≡ true
    follows t u ts e = has-within (M x ∷ []) _ (class u) follows_so (and_parts (has names (class t)) (has (M x ∷ []) (class u)) e).1

    pub named_or : Covers Over false first2 (((next1 ++ []) ++ []) ++ next2) (rule.◌<|>◌ (rule.◌>>=◌ (rule.one name_of) (λ name. rule.◌>>◌ (rule.one (mark x)) (R name))) N)
        (reading.choose (name_then x) (reading.◌>>=◌ (reading.one name_of) (λ name. reading.◌>>◌ (reading.one (mark x)) (PR name))) Q)
    unfolding Named named Marked marked
    named_or = choose_two_covers Over names (M x ∷ []) names ((next1 ++ []) ++ []) first2 next2 Named N (name_then x) named Q (name_then_is x) named_covers k both never_both longer shared takes follows starts_so

-- ---- what reading the first tokens says of a rule

module _ {A : Type 0} {Over : Type 0} {empty : Bool} {first next : List ℕ} {N : Rule A} {Q : Parser A} (no : Over → ⊥) (h : Covers Over empty first next N Q) where
  -- no text of the rule begins with tokens that reading doesn't take
  pub never_goes_on : (us : List Token) (k n : ℕ) → ((c : ℕ) → left (Q (state us c)) ≡ suc k) → N.begins us n → ⊥
  never_goes_on us k n stays b = go (subst (λ vs. Reaches Over [] n n (Q (state vs n))) (append-nil us) (h.begun us n b [] n))
    where
      go : Reaches Over [] n n (Q (state us n)) → ⊥
      go (inl l) = omega (arith, l, stays n)
      go (inr (d, inl o)) = no o
      go (inr (d, inr l)) = omega (arith, l)
