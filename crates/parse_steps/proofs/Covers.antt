-- Reading takes each text that its rule has, and goes as far as a text of the rule goes.
use Rattle.std.proofs.Common.{◌≡◌, ◌⊎◌, ℕ, zero, suc, ◌+◌, ◌-◌, ◌≤◌, ◌<◌, Bool, true, false, ◌&&◌, ◌||◌, IsTrue, nat_le, if◌then◌else◌, List, [], ◌∷◌, ◌++◌, length, fold, Option, Some, None, is_some, Result, Ok, Err, refl, sym, ◌∙◌, ap, subst, inl, inr, arith, append_assoc, true≢false, le_trans, le_refl, length-append, append-nil}
use Rattle.ams_token.specs.declared.token.Token.{Token}
use Rattle.ams_token.specs.Classes.{class}
use Rattle.ams_tree.specs.Rule.{Rule, SpellsNothing, BeginsNothing, SpellsToken, BeginsToken, SpellsBoth, BeginsSecond, SpellsItem, SpellsAll, BeginsAfter}
use Rattle.ams_tree.specs.Rule as rule
use Rattle.parse_steps.specs.declared.reader.Stop.TheVariants.{TooDeep}
use Rattle.parse_steps.specs.State.{State}
use Rattle.parse_steps.specs.Reading.{state, stop_left, Outcome, Parser, and_then, taken, turns}
use Rattle.parse_steps.specs.Reading as reading
use Rattle.parse_steps.proofs.Sets.{has, starts, apart, when, has-left, has-right, has_either, has_when, has-when, apart_no, starts-left, starts-right, starts-when, starts_neither, within, has-within, starts-within, starts-without}

abbrev pub left : {A : Type 0} → Outcome A → ℕ
left (Ok p) = length p.1.rest
left (Err e) = stop_left e

abbrev pub IsTooDeep : {A : Type 0} → Outcome A → Type 0
IsTooDeep o = (k : ℕ) × (o ≡ Err (TooDeep k))

-- the text needs more levels or operators than there are
abbrev pub Exceeds : Type 0 → ℕ → ℕ → Type 0
Exceeds Over limit count = Over ⊎ (limit < count)

-- reading takes a token of the rest, or would but for a limit
abbrev pub Beyond : {A : Type 0} → Outcome A → List Token → Type 0
Beyond o rest = (left o < length rest) ⊎ (o ≡ Err (TooDeep (length rest)))

-- what comes of a whole text that has a rest behind it
pub data Fate {A : Type 0} (Over : Type 0) (next : List ℕ) (a : A) (rest : List Token) (limit count : ℕ) (o : Outcome A) : Type 0 where
  exactly : (spare : ℕ) → limit ≡ count + spare → o ≡ Ok (a, state rest spare) → Fate Over next a rest limit count o
  further : starts next rest ≡ true → Beyond o rest → Fate Over next a rest limit count o
  limited : IsTooDeep o → Exceeds Over limit count → Fate Over next a rest limit count o

abbrev pub Reaches : {A : Type 0} → Type 0 → List Token → ℕ → ℕ → Outcome A → Type 0
Reaches Over rest limit count o = (left o ≤ length rest) ⊎ (IsTooDeep o × Exceeds Over limit count)

-- `empty`: whether the rule has the empty text. `first`: the kinds with which a text begins. `next`: kinds with which a
-- whole text may go on. `Over`: the rule allows more levels than reading does.
pub record Covers {A : Type 0} (Over : Type 0) (empty : Bool) (first next : List ℕ) (L : Rule A) (P : Parser A) : Type 0 where
  pub spelled : (a : A) (ts : List Token) (n : ℕ) → L.spells a ts n → (rest : List Token) (c : ℕ) → Fate Over next a rest c n (P (state (ts ++ rest) c))
  pub begun : (ts : List Token) (n : ℕ) → L.begins ts n → (rest : List Token) (c : ℕ) → Reaches Over rest c n (P (state (ts ++ rest) c))
  pub shrinks : (s : State) → left (P s) ≤ length s.rest
  pub first_spelled : (a : A) (t : Token) (ts : List Token) (n : ℕ) → L.spells a (t ∷ ts) n → has first (class t) ≡ true
  pub first_begun : (t : Token) (ts : List Token) (n : ℕ) → L.begins (t ∷ ts) n → has first (class t) ≡ true
  pub empty_spelled : (a : A) (n : ℕ) → L.spells a [] n → empty ≡ true
  pub takes : (t : Token) (ts : List Token) (c : ℕ) → has first (class t) ≡ true → Beyond (P (state (t ∷ ts) c)) (t ∷ ts)
  pub whole : (a : A) (ts : List Token) (n : ℕ) → L.spells a ts n → L.begins ts n
  pub skips : empty ≡ true → (s : State) → starts first s.rest ≡ false → (a : A) × (P s ≡ Ok (a, s))
  -- each front of a beginning is one, with no larger count
  pub fronts : (ts us : List Token) (n : ℕ) → L.begins (ts ++ us) n → (m : ℕ) × (m ≤ n) × L.begins ts m

-- where a front of two parts ends: in the first, or in the second
split : (ts us front back : List Token) → ts ++ us ≡ front ++ back → ((more : List Token) × (front ≡ ts ++ more)) ⊎ ((more : List Token) × (ts ≡ front ++ more) × (back ≡ more ++ us))
split [] us front back e = inl (front, refl)
split (t ∷ ts) us [] back e = inr (t ∷ ts, refl, sym e)
split (t ∷ ts) us (u ∷ front) back e =
    let same : t ≡ u = cc in
    let rest : ts ++ us ≡ front ++ back = cc in
    longer (split ts us front back rest) same
  where
    longer : ((more : List Token) × (front ≡ ts ++ more)) ⊎ ((more : List Token) × (ts ≡ front ++ more) × (back ≡ more ++ us)) → t ≡ u
        → ((more : List Token) × (u ∷ front ≡ t ∷ ts ++ more)) ⊎ ((more : List Token) × (t ∷ ts ≡ u ∷ front ++ more) × (back ≡ more ++ us))
    longer (inl (more, f)) g = inl (more, cc)
    longer (inr (more, f, h)) g = inr (more, cc, h)

pub no_tokens : (ts us : List Token) → ts ++ us ≡ [] → ts ≡ []
no_tokens [] us e = refl
no_tokens (t ∷ ts) us e = cc

-- ---- a first part, and a second that goes on from its outcome

then_left : {A B : Type 0} (Q : A → Parser B) → ((a : A) (s : State) → left (Q a s) ≤ length s.rest) → (o : Outcome A) → left (and_then o Q) ≤ left o
then_left Q h (Ok p) = h p.0 p.1
then_left Q h (Err e) = le_refl (stop_left e)

then_deep : {A B : Type 0} (Q : A → Parser B) (o : Outcome A) → IsTooDeep o → IsTooDeep (and_then o Q)
then_deep Q o d = (d.0, ap (λ x. and_then x Q) d.1)

then_beyond : {A B : Type 0} (Q : A → Parser B) → ((a : A) (s : State) → left (Q a s) ≤ length s.rest) → (o : Outcome A) (rest : List Token) → Beyond o rest → Beyond (and_then o Q) rest
then_beyond Q h o rest (inl l) = inl (omega (arith, then_left Q h o, l))
then_beyond Q h o rest (inr e) = inr (ap (λ x. and_then x Q) e)

exceeds_more : (Over : Type 0) (c m n : ℕ) → m ≤ n → Exceeds Over c m → Exceeds Over c n
exceeds_more Over c m n le (inl o) = inl o
exceeds_more Over c m n le (inr l) = inr (omega (arith, l, le))

-- with what the front has used
exceeds_back : (Over : Type 0) (c m n k spare : ℕ) → c ≡ m + spare → k ≡ m + n → Exceeds Over spare n → Exceeds Over c k
exceeds_back Over c m n k spare e f (inl o) = inl o
exceeds_back Over c m n k spare e f (inr l) = inr (omega (arith, e, f, l))

module _ {A B : Type 0} (Over : Type 0) (empty1 empty2 : Bool) (first1 next1 first2 next2 : List ℕ) (L : Rule A) (M : A → Rule B) (P : Parser A) (Q : A → Parser B)
    (h : Covers Over empty1 first1 next1 L P) (k : (a : A) → Covers Over empty2 first2 next2 (M a) (Q a)) (sep : apart next1 first2 ≡ true) where
  next_both : List ℕ
  next_both = next2 ++ when empty2 next1

  shrinks_back : (a : A) (s : State) → left (Q a s) ≤ length s.rest
  shrinks_back a s = (k a).shrinks s

  fate_back : (a : A) (b : B) (rest : List Token) (c m n j spare : ℕ) → c ≡ m + spare → j ≡ m + n → (o : Outcome B) → Fate Over next2 b rest spare n o → Fate Over (next2 ++ when empty2 next1) b rest c j o
  fate_back a b rest c m n j spare e f o (exactly more g eq) = exactly more (omega (arith, e, f, g)) eq
  fate_back a b rest c m n j spare e f o (further st by) = further (starts-left next2 _ rest st) by
  fate_back a b rest c m n j spare e f o (limited d x) = limited d (exceeds_back Over c m n j spare e f x)

  -- the first part went on into the rest, which only an empty second part allows
  fate_on : (a : A) (b : B) (back rest : List Token) (c n j : ℕ) (o : Outcome A) → (M a).spells b back n → starts next1 (back ++ rest) ≡ true → Beyond o (back ++ rest) → Fate Over (next2 ++ when empty2 next1) b rest c j (and_then o Q)
  fate_on a b [] rest c n j o sp st by =
      further (starts-right next2 _ rest (starts-when empty2 next1 rest ((k a).empty_spelled b n sp) st)) (then_beyond Q shrinks_back o rest by)
  fate_on a b (t ∷ back) rest c n j o sp st by =
      absurd (apart_no next1 first2 (class t) sep st ((k a).first_spelled b t back n sp))

  fate_both : (a : A) (b : B) (back rest : List Token) (c m n j : ℕ) (o : Outcome A) → j ≡ m + n → (M a).spells b back n → Fate Over next1 a (back ++ rest) c m o → Fate Over (next2 ++ when empty2 next1) b rest c j (and_then o Q)
  fate_both a b back rest c m n j o f sp (exactly spare e eq) =
      subst (λ x. Fate Over (next2 ++ when empty2 next1) b rest c j (and_then x Q)) (sym eq)
      (fate_back a b rest c m n j spare e f (Q a (state (back ++ rest) spare)) ((k a).spelled b back n sp rest spare))
  fate_both a b back rest c m n j o f sp (further st by) = fate_on a b back rest c n j o sp st by
  fate_both a b back rest c m n j o f sp (limited d x) = limited (then_deep Q o d) (exceeds_more Over c m j (omega (arith, f)) x)

  reach_front : (rest : List Token) (c n : ℕ) (o : Outcome A) → Reaches Over rest c n o → Reaches Over rest c n (and_then o Q)
  reach_front rest c n o (inl l) = inl (omega (arith, then_left Q shrinks_back o, l))
  reach_front rest c n o (inr (d, x)) = inr (then_deep Q o d, x)

  reach_back : (c m n j spare : ℕ) (rest : List Token) (o : Outcome B) → c ≡ m + spare → j ≡ m + n → Reaches Over rest spare n o → Reaches Over rest c j o
  reach_back c m n j spare rest o e f (inl l) = inl l
  reach_back c m n j spare rest o e f (inr (d, x)) = inr (d, exceeds_back Over c m n j spare e f x)

  beyond_reach : (o : Outcome A) (rest : List Token) → Beyond o rest → left (and_then o Q) ≤ length rest
  beyond_reach o rest (inl l) = omega (arith, then_left Q shrinks_back o, l)
  beyond_reach o rest (inr e) = subst (λ x. left (and_then x Q) ≤ length rest) (sym e) (le_refl (length rest))

  reach_on : (a : A) (back rest : List Token) (c n j : ℕ) (o : Outcome A) → (M a).begins back n → starts next1 (back ++ rest) ≡ true → Beyond o (back ++ rest) → Reaches Over rest c j (and_then o Q)
  reach_on a [] rest c n j o bg st by = inl (beyond_reach o rest by)
  reach_on a (t ∷ back) rest c n j o bg st by = absurd (apart_no next1 first2 (class t) sep st ((k a).first_begun t back n bg))

  reach_both : (a : A) (back rest : List Token) (c m n j : ℕ) (o : Outcome A) → j ≡ m + n → (M a).begins back n → Fate Over next1 a (back ++ rest) c m o → Reaches Over rest c j (and_then o Q)
  reach_both a back rest c m n j o f bg (exactly spare e eq) =
      subst (λ x. Reaches Over rest c j (and_then x Q)) (sym eq)
      (reach_back c m n j spare rest (Q a (state (back ++ rest) spare)) e f ((k a).begun back n bg rest spare))
  reach_both a back rest c m n j o f bg (further st by) = reach_on a back rest c n j o bg st by
  reach_both a back rest c m n j o f bg (limited d x) = inr (then_deep Q o d, exceeds_more Over c m j (omega (arith, f)) x)

  at_back : (ts front back rest : List Token) → ts ≡ front ++ back → ts ++ rest ≡ front ++ (back ++ rest)
  at_back ts front back rest e = ap (λ x. x ++ rest) e ∙ append_assoc front back rest

  both_spelled : (b : B) (ts : List Token) (n : ℕ) → SpellsBoth L M b ts n → (rest : List Token) (c : ℕ) → Fate Over (next2 ++ when empty2 next1) b rest c n (and_then (P (state (ts ++ rest) c)) Q)
  both_spelled b ts n x rest c =
      subst (λ us. Fate Over (next2 ++ when empty2 next1) b rest c n (and_then (P (state us c)) Q)) (sym (at_back ts x.front x.back rest x.tokens))
      (fate_both x.first b x.back rest c x.front_count x.back_count n _ x.count x.spells_back (h.spelled x.first x.front x.front_count x.spells_front (x.back ++ rest) c))

  both_begun : (ts : List Token) (n : ℕ) → L.begins ts n ⊎ BeginsSecond L M ts n → (rest : List Token) (c : ℕ) → Reaches Over rest c n (and_then (P (state (ts ++ rest) c)) Q)
  both_begun ts n (inl b) rest c = reach_front rest c n _ (h.begun ts n b rest c)
  both_begun ts n (inr x) rest c =
      subst (λ us. Reaches Over rest c n (and_then (P (state us c)) Q)) (sym (at_back ts x.front x.back rest x.tokens))
      (reach_both x.first x.back rest c x.front_count x.back_count n _ x.count x.begins_back (h.spelled x.first x.front x.front_count x.spells_front (x.back ++ rest) c))

  -- the first token of two parts
  first_both : (t : Token) (ts front back : List Token) (Front Back : Type 0) → t ∷ ts ≡ front ++ back → ((us : List Token) → front ≡ t ∷ us → has first1 (class t) ≡ true) → (front ≡ [] → empty1 ≡ true) → ((us : List Token) → back ≡ t ∷ us → has first2 (class t) ≡ true) → has (first1 ++ when empty1 first2) (class t) ≡ true
  first_both t ts [] back Front Back e f z g = has-right first1 _ (class t) (has-when empty1 first2 (class t) (z refl) (g ts (sym e)))
  first_both t ts (u ∷ front) back Front Back e f z g =
      let same : t ≡ u = cc in has-left first1 _ (class t) (f front (ap (λ x. x ∷ front) (sym same)))

  both_first_spelled : (b : B) (t : Token) (ts : List Token) (n : ℕ) → SpellsBoth L M b (t ∷ ts) n → has (first1 ++ when empty1 first2) (class t) ≡ true
  both_first_spelled b t ts n x =
      first_both t ts x.front x.back ⊥ ⊥ x.tokens
      (λ us e. h.first_spelled x.first t us x.front_count (subst (λ v. L.spells x.first v x.front_count) e x.spells_front))
      (λ e. h.empty_spelled x.first x.front_count (subst (λ v. L.spells x.first v x.front_count) e x.spells_front))
      (λ us e. (k x.first).first_spelled b t us x.back_count (subst (λ v. (M x.first).spells b v x.back_count) e x.spells_back))

  both_first_begun : (t : Token) (ts : List Token) (n : ℕ) → L.begins (t ∷ ts) n ⊎ BeginsSecond L M (t ∷ ts) n → has (first1 ++ when empty1 first2) (class t) ≡ true
  both_first_begun t ts n (inl b) = has-left first1 _ (class t) (h.first_begun t ts n b)
  both_first_begun t ts n (inr x) =
      first_both t ts x.front x.back ⊥ ⊥ x.tokens
      (λ us e. h.first_spelled x.first t us x.front_count (subst (λ v. L.spells x.first v x.front_count) e x.spells_front))
      (λ e. h.empty_spelled x.first x.front_count (subst (λ v. L.spells x.first v x.front_count) e x.spells_front))
      (λ us e. (k x.first).first_begun t us x.back_count (subst (λ v. (M x.first).begins v x.back_count) e x.begins_back))

  both_empty : (b : B) (n : ℕ) → SpellsBoth L M b [] n → (empty1 && empty2) ≡ true
  both_empty b n x = go x.front x.back x.tokens x.spells_front x.spells_back
    where
      both_true : (p q : Bool) → p ≡ true → q ≡ true → (p && q) ≡ true
      both_true true q e f = f
      both_true false q e f = cc

      go : (front back : List Token) → [] ≡ front ++ back → L.spells x.first front x.front_count → (M x.first).spells b back x.back_count → (empty1 && empty2) ≡ true
      go [] [] e p q = both_true empty1 empty2 (h.empty_spelled x.first _ p) ((k x.first).empty_spelled b _ q)
      go [] (t ∷ back) e p q = cc
      go (t ∷ front) back e p q = cc

  both_takes : (t : Token) (ts : List Token) (c : ℕ) → has (first1 ++ when empty1 first2) (class t) ≡ true → Beyond (and_then (P (state (t ∷ ts) c)) Q) (t ∷ ts)
  both_takes t ts c e = go (has_either first1 (when empty1 first2) (class t) e)
    where
      go : (has first1 (class t) ≡ true) ⊎ ((has first1 (class t) ≡ false) × (has (when empty1 first2) (class t) ≡ true)) → Beyond (and_then (P (state (t ∷ ts) c)) Q) (t ∷ ts)
      go (inl f) = then_beyond Q shrinks_back _ (t ∷ ts) (h.takes t ts c f)
      go (inr (none, f)) =
          let w = has_when empty1 first2 (class t) f in
          let s = h.skips w.0 (state (t ∷ ts) c) none in
          subst (λ x. Beyond (and_then x Q) (t ∷ ts)) (sym s.1) ((k s.0).takes t ts c w.1)

  both_skips : (empty1 && empty2) ≡ true → (s : State) → starts (first1 ++ when empty1 first2) s.rest ≡ false → (b : B) × (and_then (P s) Q ≡ Ok (b, s))
  both_skips e s stops =
      let w = parts empty1 empty2 e in
      let apart_both = starts_neither first1 (when empty1 first2) s.rest stops in
      let one = h.skips w.0 s apart_both.0 in
      let none : starts first2 s.rest ≡ false = subst (λ z. starts (when z first2) s.rest ≡ false) w.0 apart_both.1 in
      let two = (k one.0).skips w.1 s none in
      (two.0, ap (λ x. and_then x Q) one.1 ∙ two.1)
    where
      parts : (p q : Bool) → (p && q) ≡ true → (p ≡ true) × (q ≡ true)
      parts true q e = (refl, e)
      parts false q e = cc

  both_fronts : (ts us : List Token) (n : ℕ) → L.begins (ts ++ us) n ⊎ BeginsSecond L M (ts ++ us) n → (m : ℕ) × (m ≤ n) × (L.begins ts m ⊎ BeginsSecond L M ts m)
  both_fronts ts us n (inl b) = let f = h.fronts ts us n b in (f.0, f.1, inl f.2)
  both_fronts ts us n (inr x) = go (split ts us x.front x.back x.tokens)
    where
      go : ((more : List Token) × (x.front ≡ ts ++ more)) ⊎ ((more : List Token) × (ts ≡ x.front ++ more) × (x.back ≡ more ++ us)) → (m : ℕ) × (m ≤ n) × (L.begins ts m ⊎ BeginsSecond L M ts m)
      go (inl (more, e)) =
          let f = h.fronts ts more x.front_count (subst (λ vs. L.begins vs x.front_count) e (h.whole x.first x.front x.front_count x.spells_front)) in
          (f.0, omega (arith, f.1, x.count), inl f.2)
      go (inr (more, e, g)) =
          let f = (k x.first).fronts more us x.back_count (subst (λ vs. (M x.first).begins vs x.back_count) g x.begins_back) in
          (x.front_count + f.0, omega (arith, f.1, x.count), inr (record { first = x.first; front = x.front; back = more; front_count = x.front_count; back_count = f.0; tokens = e; count = refl; spells_front = x.spells_front; begins_back = f.2 }))

  pub both_covers : Covers Over (empty1 && empty2) (first1 ++ when empty1 first2) (next2 ++ when empty2 next1) (rule.◌>>=◌ L M) (reading.◌>>=◌ P Q)
  both_covers = record {
    spelled = both_spelled;
    begun = both_begun;
    shrinks = λ s. le_trans (then_left Q shrinks_back (P s)) (h.shrinks s);
    first_spelled = both_first_spelled;
    first_begun = both_first_begun;
    empty_spelled = both_empty;
    takes = both_takes;
    whole = λ b ts n x. inr (record { first = x.first; front = x.front; back = x.back; front_count = x.front_count; back_count = x.back_count; tokens = x.tokens; count = x.count; spells_front = x.spells_front; begins_back = (k x.first).whole b x.back x.back_count x.spells_back });
    skips = both_skips;
    fronts = both_fronts;
  }

-- ---- no token

module _ {A : Type 0} (Over : Type 0) (x : A) where
  pure_spelled : (a : A) (ts : List Token) (n : ℕ) → SpellsNothing x a ts n → (rest : List Token) (c : ℕ) → Fate Over [] a rest c n (Ok (x, state (ts ++ rest) c))
  pure_spelled a ts n s rest c =
      exactly c (omega (arith, s.count)) (ap (λ us. Ok (x, state (us ++ rest) c)) s.tokens ∙ ap (λ y. Ok (y, state rest c)) (sym s.tree))

  pure_begun : (ts : List Token) (n : ℕ) → BeginsNothing ts n → (rest : List Token) (c : ℕ) → length (ts ++ rest) ≤ length rest
  pure_begun ts n b rest c = subst (λ us. length (us ++ rest) ≤ length rest) (sym b.tokens) (le_refl (length rest))

  pub pure_covers : Covers Over true [] [] (rule.pure x) (reading.pure x)
  pure_covers = record {
    spelled = pure_spelled;
    begun = λ ts n b rest c. inl (pure_begun ts n b rest c);
    shrinks = λ s. le_refl (length s.rest);
    first_spelled = λ a t ts n s. absurd (cons_nil t ts s.tokens);
    first_begun = λ t ts n b. absurd (cons_nil t ts b.tokens);
    empty_spelled = λ a n s. refl;
    takes = λ t ts c e. absurd (true≢false (sym e));
    whole = λ a ts n s. record { tokens = s.tokens; count = s.count };
    skips = λ e s stops. (x, refl);
    fronts = λ ts us n b. (n, le_refl n, record { tokens = no_tokens ts us b.tokens; count = b.count });
  }
    where
      cons_nil : (t : Token) (ts : List Token) → t ∷ ts ≡ [] → ⊥
      cons_nil t ts e = cc

-- ---- one token

-- what a token is read as decides whether its kind is in the set
abbrev pub Tells : {A : Type 0} → List ℕ → (Token → Option A) → Type 0
Tells F f = (t : Token) → has F (class t) ≡ is_some (f t)

module _ {A : Type 0} (Over : Type 0) (allowed_rule allowed : Bool) (cost : ℕ) (F : List ℕ) (f : Token → Option A) (tells : Tells F f) (over : IsTrue allowed_rule → allowed ≡ false → Over) where
  -- what reading gives at a token that f reads
  take_fate : (a : A) (rest : List Token) (c : ℕ) (o : Option A) → o ≡ Some a → IsTrue allowed_rule → Fate Over [] a rest c cost (taken allowed cost o rest c)
  take_fate a rest c o e ok = subst (λ x. Fate Over [] a rest c cost (taken allowed cost x rest c)) (sym e) (go allowed (nat_le cost c) refl refl)
    where
      go : (p q : Bool) → allowed ≡ p → nat_le cost c ≡ q → Fate Over [] a rest c cost (if p && q then Ok (a, state rest (c - cost)) else Err (TooDeep (suc (length rest))))
      go true true e f = let le : cost ≤ c = search Rattle.std.proofs.Common.rules in exactly (c - cost) (omega (arith, le)) refl
      go true false e f = let lt : c < cost = search (Rattle.std.proofs.Common.rules, arith) in limited (suc (length rest), refl) (inr lt)
      go false q e f = limited (suc (length rest), refl) (inl (over ok e))

  token_spelled : (a : A) (ts : List Token) (n : ℕ) → SpellsToken allowed_rule cost f a ts n → (rest : List Token) (c : ℕ) → Fate Over [] a rest c n (reading.terminal allowed cost f (state (ts ++ rest) c))
  token_spelled a ts n s rest c =
      subst (λ us. Fate Over [] a rest c n (reading.terminal allowed cost f (state (us ++ rest) c))) (sym s.tokens)
      (subst (λ m. Fate Over [] a rest c m (taken allowed cost (f s.token) rest c)) (sym s.count)
      (take_fate a rest c (f s.token) s.tree s.allows))

  token_shrinks : (ts : List Token) (c : ℕ) → left (reading.terminal allowed cost f (state ts c)) ≤ length ts
  token_shrinks [] c = le_refl 0
  token_shrinks (t ∷ ts) c = go (f t)
    where
      fits : (a : A) (p : Bool) → left (if p then Ok (a, state ts (c - cost)) else Err (TooDeep (suc (length ts)))) ≤ suc (length ts)
      fits a true = omega arith
      fits a false = omega arith

      go : (o : Option A) → left (taken allowed cost o ts c) ≤ suc (length ts)
      go None = omega arith
      go (Some a) = fits a (allowed && nat_le cost c)

  fate_reach : (a : A) (rest : List Token) (c n : ℕ) (o : Outcome A) → Fate Over [] a rest c n o → Reaches Over rest c n o
  fate_reach a rest c n o (exactly spare e eq) = inl (subst (λ x. left x ≤ length rest) (sym eq) (le_refl (length rest)))
  fate_reach a rest c n o (further st (inl l)) = inl (omega (arith, l))
  fate_reach a rest c n o (further st (inr e)) = inl (subst (λ x. left x ≤ length rest) (sym e) (le_refl (length rest)))
  fate_reach a rest c n o (limited d x) = inr (d, x)

  token_begun : (ts : List Token) (n : ℕ) → BeginsToken allowed_rule cost f ts n → (rest : List Token) (c : ℕ) → Reaches Over rest c n (reading.terminal allowed cost f (state (ts ++ rest) c))
  token_begun ts n (inl b) rest c =
      inl (subst (λ us. left (reading.terminal allowed cost f (state (us ++ rest) c)) ≤ length rest) (sym b.tokens) (token_shrinks rest c))
  token_begun ts n (inr (a, s)) rest c = fate_reach a rest c n _ (token_spelled a ts n s rest c)

  token_first : (a : A) (t : Token) (ts : List Token) (n : ℕ) → SpellsToken allowed_rule cost f a (t ∷ ts) n → has F (class t) ≡ true
  token_first a t ts n s = let same : t ≡ s.token = cc in tells t ∙ ap (λ u. is_some (f u)) same ∙ ap is_some s.tree

  token_first_begun : (t : Token) (ts : List Token) (n : ℕ) → BeginsToken allowed_rule cost f (t ∷ ts) n → has F (class t) ≡ true
  token_first_begun t ts n (inl b) = cc
  token_first_begun t ts n (inr (a, s)) = token_first a t ts n s

  token_takes : (t : Token) (ts : List Token) (c : ℕ) → has F (class t) ≡ true → Beyond (reading.terminal allowed cost f (state (t ∷ ts) c)) (t ∷ ts)
  token_takes t ts c e = go (f t) (sym (tells t) ∙ e)
    where
      fits : (a : A) (p : Bool) → Beyond {A = A} (if p then Ok (a, state ts (c - cost)) else Err (TooDeep (suc (length ts)))) (t ∷ ts)
      fits a true = inl (omega arith)
      fits a false = inr refl

      go : (o : Option A) → is_some o ≡ true → Beyond (taken allowed cost o ts c) (t ∷ ts)
      go None e = absurd (true≢false (sym e))
      go (Some a) e = fits a (allowed && nat_le cost c)

  token_fronts : (ts us : List Token) (n : ℕ) → BeginsToken allowed_rule cost f (ts ++ us) n → (m : ℕ) × (m ≤ n) × BeginsToken allowed_rule cost f ts m
  token_fronts ts us n (inl b) = (n, le_refl n, inl (record { tokens = no_tokens ts us b.tokens; count = b.count }))
  token_fronts [] us n (inr (a, s)) = (0, omega arith, inl (record { tokens = refl; count = refl }))
  token_fronts (t ∷ ts) us n (inr (a, s)) =
      let rest : ts ++ us ≡ [] = let e = s.tokens in cc in
      let none = no_tokens ts us rest in
      let head : t ≡ s.token = let e = s.tokens in cc in
      (n, le_refl n, inr (a, record { token = s.token; tokens = cc; tree = s.tree; count = s.count; allows = s.allows }))

  pub token_covers : Covers Over false F [] (rule.terminal allowed_rule cost f) (reading.terminal allowed cost f)
  token_covers = record {
    spelled = token_spelled;
    begun = token_begun;
    shrinks = λ s. token_shrinks s.rest s.operators;
    first_spelled = token_first;
    first_begun = token_first_begun;
    empty_spelled = λ a n s. absurd (cons_nil s.token s.tokens);
    takes = token_takes;
    whole = λ a ts n s. inr (a, s);
    skips = λ e s stops. absurd (true≢false (sym e));
    fronts = token_fronts;
  }
    where
      cons_nil : (t : Token) → [] ≡ t ∷ [] → ⊥
      cons_nil t e = cc

-- ---- one part or the other, by a test on the next token

module _ {A : Type 0} (Over : Type 0) (empty2 : Bool) (first1 next1 first2 next2 : List ℕ) (L M : Rule A) (test : List Token → Bool) (P Q : Parser A)
    (tests : (ts : List Token) → test ts ≡ starts first1 ts) (h : Covers Over false first1 next1 L P) (k : Covers Over empty2 first2 next2 M Q) (sep : apart first1 first2 ≡ true) where
  picks : (s : State) → starts first1 s.rest ≡ true → P s ≡ reading.choose test P Q s
  picks s e = rw (tests s.rest, e)

  passes : (s : State) → starts first1 s.rest ≡ false → Q s ≡ reading.choose test P Q s
  passes s e = rw (tests s.rest, e)

  next_first : (a : A) (rest : List Token) (c n : ℕ) (o : Outcome A) → Fate Over next1 a rest c n o → Fate Over ((next1 ++ next2) ++ when empty2 first1) a rest c n o
  next_first a rest c n o (exactly spare e eq) = exactly spare e eq
  next_first a rest c n o (further st by) = further (starts-left (next1 ++ next2) _ rest (starts-left next1 next2 rest st)) by
  next_first a rest c n o (limited d x) = limited d x

  next_second : (a : A) (rest : List Token) (c n : ℕ) (o : Outcome A) → Fate Over next2 a rest c n o → Fate Over ((next1 ++ next2) ++ when empty2 first1) a rest c n o
  next_second a rest c n o (exactly spare e eq) = exactly spare e eq
  next_second a rest c n o (further st by) = further (starts-left (next1 ++ next2) _ rest (starts-right next1 next2 rest st)) by
  next_second a rest c n o (limited d x) = limited d x

  not_first : (t : Token) → has first2 (class t) ≡ true → has first1 (class t) ≡ false
  not_first t e = go (has first1 (class t)) refl
    where
      go : (b : Bool) → has first1 (class t) ≡ b → b ≡ false
      go true f = absurd (apart_no first1 first2 (class t) sep f e)
      go false f = refl

  choose_spelled : (a : A) (ts : List Token) (n : ℕ) → L.spells a ts n ⊎ M.spells a ts n → (rest : List Token) (c : ℕ) → Fate Over ((next1 ++ next2) ++ when empty2 first1) a rest c n (reading.choose test P Q (state (ts ++ rest) c))
  choose_spelled a [] n (inl x) rest c = absurd (true≢false (sym (h.empty_spelled a n x)))
  choose_spelled a (t ∷ ts) n (inl x) rest c =
      subst (Fate Over ((next1 ++ next2) ++ when empty2 first1) a rest c n) (picks (state (t ∷ (ts ++ rest)) c) (h.first_spelled a t ts n x))
      (next_first a rest c n _ (h.spelled a (t ∷ ts) n x rest c))
  choose_spelled a (t ∷ ts) n (inr x) rest c =
      subst (Fate Over ((next1 ++ next2) ++ when empty2 first1) a rest c n) (passes (state (t ∷ (ts ++ rest)) c) (not_first t (k.first_spelled a t ts n x)))
      (next_second a rest c n _ (k.spelled a (t ∷ ts) n x rest c))
  choose_spelled a [] n (inr x) rest c = go rest (starts first1 rest) refl
    where
      go : (us : List Token) (b : Bool) → starts first1 us ≡ b → Fate Over ((next1 ++ next2) ++ when empty2 first1) a us c n (reading.choose test P Q (state us c))
      go us false e = subst (Fate Over ((next1 ++ next2) ++ when empty2 first1) a us c n) (passes (state us c) e) (next_second a us c n _ (k.spelled a [] n x us c))
      go [] true e = absurd (true≢false (sym e))
      go (t ∷ us) true e =
          further (starts-right (next1 ++ next2) _ (t ∷ us) (starts-when empty2 first1 (t ∷ us) (k.empty_spelled a n x) e))
          (subst (λ o. Beyond o (t ∷ us)) (picks (state (t ∷ us) c) e) (h.takes t us c e))

  choose_shrinks : (s : State) → left (reading.choose test P Q s) ≤ length s.rest
  choose_shrinks s = go (test s.rest)
    where
      go : (b : Bool) → left (if b then P s else Q s) ≤ length s.rest
      go true = h.shrinks s
      go false = k.shrinks s

  choose_begun : (ts : List Token) (n : ℕ) → L.begins ts n ⊎ M.begins ts n → (rest : List Token) (c : ℕ) → Reaches Over rest c n (reading.choose test P Q (state (ts ++ rest) c))
  choose_begun [] n x rest c = inl (choose_shrinks (state rest c))
  choose_begun (t ∷ ts) n (inl x) rest c =
      subst (Reaches Over rest c n) (picks (state (t ∷ (ts ++ rest)) c) (h.first_begun t ts n x)) (h.begun (t ∷ ts) n x rest c)
  choose_begun (t ∷ ts) n (inr x) rest c =
      subst (Reaches Over rest c n) (passes (state (t ∷ (ts ++ rest)) c) (not_first t (k.first_begun t ts n x))) (k.begun (t ∷ ts) n x rest c)

  choose_first_spelled : (a : A) (t : Token) (ts : List Token) (n : ℕ) → L.spells a (t ∷ ts) n ⊎ M.spells a (t ∷ ts) n → has (first1 ++ first2) (class t) ≡ true
  choose_first_spelled a t ts n (inl x) = has-left first1 first2 (class t) (h.first_spelled a t ts n x)
  choose_first_spelled a t ts n (inr x) = has-right first1 first2 (class t) (k.first_spelled a t ts n x)

  choose_first_begun : (t : Token) (ts : List Token) (n : ℕ) → L.begins (t ∷ ts) n ⊎ M.begins (t ∷ ts) n → has (first1 ++ first2) (class t) ≡ true
  choose_first_begun t ts n (inl x) = has-left first1 first2 (class t) (h.first_begun t ts n x)
  choose_first_begun t ts n (inr x) = has-right first1 first2 (class t) (k.first_begun t ts n x)

  choose_empty : (a : A) (n : ℕ) → L.spells a [] n ⊎ M.spells a [] n → empty2 ≡ true
  choose_empty a n (inl x) = absurd (true≢false (sym (h.empty_spelled a n x)))
  choose_empty a n (inr x) = k.empty_spelled a n x

  choose_takes : (t : Token) (ts : List Token) (c : ℕ) → has (first1 ++ first2) (class t) ≡ true → Beyond (reading.choose test P Q (state (t ∷ ts) c)) (t ∷ ts)
  choose_takes t ts c e = go (has_either first1 first2 (class t) e)
    where
      go : (has first1 (class t) ≡ true) ⊎ ((has first1 (class t) ≡ false) × (has first2 (class t) ≡ true)) → Beyond (reading.choose test P Q (state (t ∷ ts) c)) (t ∷ ts)
      go (inl f) = subst (λ o. Beyond o (t ∷ ts)) (picks (state (t ∷ ts) c) f) (h.takes t ts c f)
      go (inr (none, f)) = subst (λ o. Beyond o (t ∷ ts)) (passes (state (t ∷ ts) c) none) (k.takes t ts c f)

  choose_skips : empty2 ≡ true → (s : State) → starts (first1 ++ first2) s.rest ≡ false → (a : A) × (reading.choose test P Q s ≡ Ok (a, s))
  choose_skips e s stops =
      let w = starts_neither first1 first2 s.rest stops in
      let two = k.skips e s w.1 in
      (two.0, sym (passes s w.0) ∙ two.1)

  choose_whole : (a : A) (ts : List Token) (n : ℕ) → L.spells a ts n ⊎ M.spells a ts n → L.begins ts n ⊎ M.begins ts n
  choose_whole a ts n (inl x) = inl (h.whole a ts n x)
  choose_whole a ts n (inr x) = inr (k.whole a ts n x)

  choose_fronts : (ts us : List Token) (n : ℕ) → L.begins (ts ++ us) n ⊎ M.begins (ts ++ us) n → (m : ℕ) × (m ≤ n) × (L.begins ts m ⊎ M.begins ts m)
  choose_fronts ts us n (inl x) = let f = h.fronts ts us n x in (f.0, f.1, inl f.2)
  choose_fronts ts us n (inr x) = let f = k.fronts ts us n x in (f.0, f.1, inr f.2)

  pub choose_covers : Covers Over empty2 (first1 ++ first2) ((next1 ++ next2) ++ when empty2 first1) (rule.◌<|>◌ L M) (reading.choose test P Q)
  choose_covers = record {
    spelled = choose_spelled;
    begun = choose_begun;
    shrinks = choose_shrinks;
    first_spelled = choose_first_spelled;
    first_begun = choose_first_begun;
    empty_spelled = choose_empty;
    takes = choose_takes;
    whole = choose_whole;
    skips = choose_skips;
    fronts = choose_fronts;
  }

-- ---- as often as there are items

module _ {A X : Type 0} (Over : Type 0) (first1 next1 : List ℕ) (L : Rule X) (test : List Token → Bool) (P : Parser X) (f : A → X → A)
    (tests : (ts : List Token) → test ts ≡ starts first1 ts) (h : Covers Over false first1 next1 L P) (sep : apart next1 first1 ≡ true) where
  goes : (k : ℕ) (a : A) (s : State) → starts first1 s.rest ≡ true → turns test f P (suc k) a s ≡ and_then (P s) (λ x. turns test f P k (f a x))
  goes k a s e = rw (tests s.rest, e)

  stops : (k : ℕ) (a : A) (s : State) → starts first1 s.rest ≡ false → turns test f P k a s ≡ Ok (a, s)
  stops zero a s e = refl
  stops (suc k) a s e = rw (tests s.rest, e)

  turn_shrinks : (k : ℕ) (a : A) (s : State) (b : Bool) → ((x : X) (t : State) → left (turns test f P k (f a x) t) ≤ length t.rest) → left (if b then and_then (P s) (λ x. turns test f P k (f a x)) else Ok (a, s)) ≤ length s.rest
  turn_shrinks k a s true more = le_trans (then_left _ more (P s)) (h.shrinks s)
  turn_shrinks k a s false more = le_refl (length s.rest)

  turns_shrink : (k : ℕ) (a : A) (s : State) → left (turns test f P k a s) ≤ length s.rest
  turns_shrink zero a s = le_refl (length s.rest)
  turns_shrink (suc k) a s = turn_shrinks k a s (test s.rest) (λ x t. turns_shrink k (f a x) t)

  -- an item has a token
  item_first : (x : X) (front rest : List Token) (n : ℕ) → L.spells x front n → (starts first1 (front ++ rest) ≡ true) × (0 < length front)
  item_first x [] rest n s = absurd (true≢false (sym (h.empty_spelled x n s)))
  item_first x (t ∷ front) rest n s = (h.first_spelled x t front n s, omega arith)

  first_of_all : (xs : List X) (t : Token) (ts : List Token) (n : ℕ) → SpellsAll L xs (t ∷ ts) n → has first1 (class t) ≡ true
  first_of_all [] t ts n s = cc
  first_of_all (x ∷ xs) t ts n s = go s.front s.tokens s.spells_front
    where
      go : (front : List Token) → t ∷ ts ≡ front ++ s.back → L.spells x front s.front_count → has first1 (class t) ≡ true
      go [] e p = absurd (true≢false (sym (h.empty_spelled x _ p)))
      go (u ∷ front) e p = let same : u ≡ t = cc in subst (λ v. has first1 (class v) ≡ true) same (h.first_spelled x u front _ p)

  first_after : (xs : List X) (t : Token) (ts : List Token) (n : ℕ) → BeginsAfter L xs (t ∷ ts) n → has first1 (class t) ≡ true
  first_after [] t ts n s = h.first_begun t ts n s
  first_after (x ∷ xs) t ts n s = go s.front s.tokens s.spells_front
    where
      go : (front : List Token) → t ∷ ts ≡ front ++ s.back → L.spells x front s.front_count → has first1 (class t) ≡ true
      go [] e p = absurd (true≢false (sym (h.empty_spelled x _ p)))
      go (u ∷ front) e p = let same : u ≡ t = cc in subst (λ v. has first1 (class v) ≡ true) same (h.first_spelled x u front _ p)

  more_fate : (a : A) (rest : List Token) (c m n j spare : ℕ) → c ≡ m + spare → j ≡ m + n → (o : Outcome A) → Fate Over (first1 ++ next1) a rest spare n o → Fate Over (first1 ++ next1) a rest c j o
  more_fate a rest c m n j spare e g o (exactly s d eq) = exactly s (omega (arith, e, g, d)) eq
  more_fate a rest c m n j spare e g o (further st by) = further st by
  more_fate a rest c m n j spare e g o (limited d x) = limited d (exceeds_back Over c m n j spare e g x)

  more_reach : (rest : List Token) (c m n j spare : ℕ) → c ≡ m + spare → j ≡ m + n → (o : Outcome A) → Reaches Over rest spare n o → Reaches Over rest c j o
  more_reach rest c m n j spare e g o (inl l) = inl l
  more_reach rest c m n j spare e g o (inr (d, x)) = inr (d, exceeds_back Over c m n j spare e g x)

  front_length : (front back rest : List Token) → length (front ++ (back ++ rest)) ≡ length front + length (back ++ rest)
  front_length front back rest = length-append front (back ++ rest)

  regroup : (ts front back rest : List Token) → ts ≡ front ++ back → ts ++ rest ≡ front ++ (back ++ rest)
  regroup ts front back rest e = ap (λ x. x ++ rest) e ∙ append_assoc front back rest

  -- no item more
  end_fate : (a : A) (rest : List Token) (c k : ℕ) → length rest ≤ k → Fate Over (first1 ++ next1) a rest c 0 (turns test f P k a (state rest c))
  end_fate a [] c k le = subst (Fate Over (first1 ++ next1) a [] c 0) (sym (stops k a (state [] c) refl)) (exactly c (omega arith) refl)
  end_fate a (t ∷ us) c zero le = absurd (omega (arith, le))
  end_fate a (t ∷ us) c (suc k) le = go (has first1 (class t)) refl
    where
      go : (b : Bool) → has first1 (class t) ≡ b → Fate Over (first1 ++ next1) a (t ∷ us) c 0 (turns test f P (suc k) a (state (t ∷ us) c))
      go false e = subst (Fate Over (first1 ++ next1) a (t ∷ us) c 0) (sym (stops (suc k) a (state (t ∷ us) c) e)) (exactly c (omega arith) refl)
      go true e =
          subst (Fate Over (first1 ++ next1) a (t ∷ us) c 0) (sym (goes k a (state (t ∷ us) c) e))
          (further (has-left first1 next1 (class t) e) (then_beyond _ (λ x s. turns_shrink k (f a x) s) _ (t ∷ us) (h.takes t us c e)))

  turns_spelled : (xs : List X) (a : A) (ts : List Token) (n : ℕ) → SpellsAll L xs ts n → (rest : List Token) (c k : ℕ) → length (ts ++ rest) ≤ k → Fate Over (first1 ++ next1) (fold f a xs) rest c n (turns test f P k a (state (ts ++ rest) c))
  turns_spelled [] a ts n s rest c k le =
      subst (λ us. Fate Over (first1 ++ next1) a rest c n (turns test f P k a (state (us ++ rest) c))) (sym s.tokens)
      (subst (λ m. Fate Over (first1 ++ next1) a rest c m (turns test f P k a (state rest c))) (sym s.count)
      (end_fate a rest c k (subst (λ us. length (us ++ rest) ≤ k) s.tokens le)))
  turns_spelled (x ∷ xs) a ts n s rest c zero le =
      let front = item_first x s.front (s.back ++ rest) _ s.spells_front in
      let same = ap length (regroup ts s.front s.back rest s.tokens) ∙ front_length s.front s.back rest in
      absurd (omega (arith, front.1, same, le))
  turns_spelled (x ∷ xs) a ts n s rest c (suc k) le =
      let front = item_first x s.front (s.back ++ rest) _ s.spells_front in
      let same = ap length (regroup ts s.front s.back rest s.tokens) ∙ front_length s.front s.back rest in
      let fits : length (s.back ++ rest) ≤ k = omega (arith, front.1, same, le) in
      subst (λ us. Fate Over (first1 ++ next1) (fold f (f a x) xs) rest c n (turns test f P (suc k) a (state us c))) (sym (regroup ts s.front s.back rest s.tokens))
      (subst (Fate Over (first1 ++ next1) (fold f (f a x) xs) rest c n) (sym (goes k a (state (s.front ++ (s.back ++ rest)) c) front.0))
      (go s.back s.spells_back _ (h.spelled x s.front s.front_count s.spells_front (s.back ++ rest) c)
      (λ spare. turns_spelled xs (f a x) s.back s.back_count s.spells_back rest spare k fits)))
    where
      on : (back : List Token) (o : Outcome X) → SpellsAll L xs back s.back_count → starts next1 (back ++ rest) ≡ true → Beyond o (back ++ rest) → Fate Over (first1 ++ next1) (fold f (f a x) xs) rest c n (and_then o (λ y. turns test f P k (f a y)))
      on [] o p st by = further (starts-right first1 next1 rest st) (then_beyond _ (λ y t. turns_shrink k (f a y) t) o rest by)
      on (t ∷ back) o p st by = absurd (apart_no next1 first1 (class t) sep st (first_of_all xs t back _ p))

      go : (back : List Token) → SpellsAll L xs back s.back_count → (o : Outcome X) → Fate Over next1 x (back ++ rest) c s.front_count o
          → ((spare : ℕ) → Fate Over (first1 ++ next1) (fold f (f a x) xs) rest spare s.back_count (turns test f P k (f a x) (state (back ++ rest) spare)))
          → Fate Over (first1 ++ next1) (fold f (f a x) xs) rest c n (and_then o (λ y. turns test f P k (f a y)))
      go back p o (exactly spare e eq) ih =
          subst (λ z. Fate Over (first1 ++ next1) (fold f (f a x) xs) rest c n (and_then z (λ y. turns test f P k (f a y)))) (sym eq)
          (more_fate _ rest c s.front_count s.back_count n spare e s.count _ (ih spare))
      go back p o (further st by) ih = on back o p st by
      go back p o (limited d y) ih = limited (then_deep _ o d) (exceeds_more Over c s.front_count n (omega (arith, s.count)) y)

  turns_begun : (xs : List X) (a : A) (ts : List Token) (n : ℕ) → BeginsAfter L xs ts n → (rest : List Token) (c k : ℕ) → length (ts ++ rest) ≤ k → Reaches Over rest c n (turns test f P k a (state (ts ++ rest) c))
  turns_begun [] a [] n s rest c k le = inl (turns_shrink k a (state rest c))
  turns_begun [] a (t ∷ ts) n s rest c zero le = absurd (omega (arith, le))
  turns_begun [] a (t ∷ ts) n s rest c (suc k) le =
      subst (Reaches Over rest c n) (sym (goes k a (state (t ∷ (ts ++ rest)) c) (h.first_begun t ts n s)))
      (go _ (h.begun (t ∷ ts) n s rest c))
    where
      go : (o : Outcome X) → Reaches Over rest c n o → Reaches Over rest c n (and_then o (λ y. turns test f P k (f a y)))
      go o (inl l) = inl (omega (arith, then_left (λ y. turns test f P k (f a y)) (λ y t. turns_shrink k (f a y) t) o, l))
      go o (inr (d, x)) = inr (then_deep _ o d, x)
  turns_begun (x ∷ xs) a ts n s rest c zero le =
      let front = item_first x s.front (s.back ++ rest) _ s.spells_front in
      let same = ap length (regroup ts s.front s.back rest s.tokens) ∙ front_length s.front s.back rest in
      absurd (omega (arith, front.1, same, le))
  turns_begun (x ∷ xs) a ts n s rest c (suc k) le =
      let front = item_first x s.front (s.back ++ rest) _ s.spells_front in
      let same = ap length (regroup ts s.front s.back rest s.tokens) ∙ front_length s.front s.back rest in
      let fits : length (s.back ++ rest) ≤ k = omega (arith, front.1, same, le) in
      subst (λ us. Reaches Over rest c n (turns test f P (suc k) a (state us c))) (sym (regroup ts s.front s.back rest s.tokens))
      (subst (Reaches Over rest c n) (sym (goes k a (state (s.front ++ (s.back ++ rest)) c) front.0))
      (go s.back s.spells_back _ (h.spelled x s.front s.front_count s.spells_front (s.back ++ rest) c)
      (λ spare. turns_begun xs (f a x) s.back s.back_count s.spells_back rest spare k fits)))
    where
      reach : (o : Outcome X) (us : List Token) → Beyond o us → left (and_then o (λ y. turns test f P k (f a y))) ≤ length us
      reach o us (inl l) = omega (arith, then_left (λ y. turns test f P k (f a y)) (λ y t. turns_shrink k (f a y) t) o, l)
      reach o us (inr e) = subst (λ z. left (and_then z (λ y. turns test f P k (f a y))) ≤ length us) (sym e) (le_refl (length us))

      on : (back : List Token) (o : Outcome X) → BeginsAfter L xs back s.back_count → starts next1 (back ++ rest) ≡ true → Beyond o (back ++ rest) → Reaches Over rest c n (and_then o (λ y. turns test f P k (f a y)))
      on [] o p st by = inl (reach o rest by)
      on (t ∷ back) o p st by = absurd (apart_no next1 first1 (class t) sep st (first_after xs t back _ p))

      go : (back : List Token) → BeginsAfter L xs back s.back_count → (o : Outcome X) → Fate Over next1 x (back ++ rest) c s.front_count o
          → ((spare : ℕ) → Reaches Over rest spare s.back_count (turns test f P k (f a x) (state (back ++ rest) spare)))
          → Reaches Over rest c n (and_then o (λ y. turns test f P k (f a y)))
      go back p o (exactly spare e eq) ih =
          subst (λ z. Reaches Over rest c n (and_then z (λ y. turns test f P k (f a y)))) (sym eq)
          (more_reach rest c s.front_count s.back_count n spare e s.count _ (ih spare))
      go back p o (further st by) ih = on back o p st by
      go back p o (limited d y) ih = inr (then_deep _ o d, exceeds_more Over c s.front_count n (omega (arith, s.count)) y)

  repeat_begun : (a : A) (ts : List Token) (n : ℕ) → BeginsNothing ts n ⊎ ((xs : List X) × BeginsAfter L xs ts n) → (rest : List Token) (c : ℕ) → Reaches Over rest c n (reading.repeated test f P a (state (ts ++ rest) c))
  repeat_begun a ts n (inl b) rest c =
      inl (subst (λ us. left (turns test f P (length (us ++ rest)) a (state (us ++ rest) c)) ≤ length rest) (sym b.tokens) (turns_shrink (length rest) a (state rest c)))
  repeat_begun a ts n (inr (xs, b)) rest c = turns_begun xs a ts n b rest c (length (ts ++ rest)) (le_refl _)

  repeat_first : (t : Token) (ts : List Token) (n : ℕ) → BeginsNothing (t ∷ ts) n ⊎ ((xs : List X) × BeginsAfter L xs (t ∷ ts) n) → has first1 (class t) ≡ true
  repeat_first t ts n (inl b) = let e = b.tokens in cc
  repeat_first t ts n (inr (xs, b)) = first_after xs t ts n b

  item_whole : (x : X) (xs : List X) (ts : List Token) (n : ℕ) → SpellsItem L x (SpellsAll L xs) ts n → (ys : List X) × BeginsAfter L ys ts n
  item_whole x [] ts n s =
      let tokens : ts ≡ s.front = s.tokens ∙ ap (λ us. s.front ++ us) s.spells_back.tokens ∙ append-nil s.front in
      let count : n ≡ s.front_count = omega (arith, s.count, s.spells_back.count) in
      ([], subst (λ us. L.begins us n) (sym tokens) (subst (λ m. L.begins s.front m) (sym count) (h.whole x s.front s.front_count s.spells_front)))
  item_whole x (y ∷ xs) ts n s =
      let rest = item_whole y xs s.back s.back_count s.spells_back in
      (x ∷ rest.0, record { front = s.front; back = s.back; front_count = s.front_count; back_count = s.back_count; tokens = s.tokens; count = s.count; spells_front = s.spells_front; spells_back = rest.1 })

  all_whole : (xs : List X) (ts : List Token) (n : ℕ) → SpellsAll L xs ts n → BeginsNothing ts n ⊎ ((ys : List X) × BeginsAfter L ys ts n)
  all_whole [] ts n s = inl s
  all_whole (x ∷ xs) ts n s = inr (item_whole x xs ts n s)

  after_fronts : (xs : List X) (ts us : List Token) (n : ℕ) → BeginsAfter L xs (ts ++ us) n → (m : ℕ) × (m ≤ n) × ((ys : List X) × BeginsAfter L ys ts m)
  after_fronts [] ts us n b = let f = h.fronts ts us n b in (f.0, f.1, ([], f.2))
  after_fronts (x ∷ xs) ts us n s = go (split ts us s.front s.back s.tokens) (λ more g. after_fronts xs more us s.back_count (subst (λ vs. BeginsAfter L xs vs s.back_count) g s.spells_back))
    where
      go : ((more : List Token) × (s.front ≡ ts ++ more)) ⊎ ((more : List Token) × (ts ≡ s.front ++ more) × (s.back ≡ more ++ us))
          → ((more : List Token) → s.back ≡ more ++ us → (m : ℕ) × (m ≤ s.back_count) × ((ys : List X) × BeginsAfter L ys more m)) → (m : ℕ) × (m ≤ n) × ((ys : List X) × BeginsAfter L ys ts m)
      go (inl (more, e)) ih =
          let f = h.fronts ts more s.front_count (subst (λ vs. L.begins vs s.front_count) e (h.whole x s.front s.front_count s.spells_front)) in
          (f.0, omega (arith, f.1, s.count), ([], f.2))
      go (inr (more, e, g)) ih =
          let f = ih more g in
          (s.front_count + f.0, omega (arith, f.1, s.count), (x ∷ f.2.0, record { front = s.front; back = more; front_count = s.front_count; back_count = f.0; tokens = e; count = refl; spells_front = s.spells_front; spells_back = f.2.1 }))

  repeat_fronts : (ts us : List Token) (n : ℕ) → BeginsNothing (ts ++ us) n ⊎ ((xs : List X) × BeginsAfter L xs (ts ++ us) n) → (m : ℕ) × (m ≤ n) × (BeginsNothing ts m ⊎ ((xs : List X) × BeginsAfter L xs ts m))
  repeat_fronts ts us n (inl b) = (n, le_refl n, inl (record { tokens = no_tokens ts us b.tokens; count = b.count }))
  repeat_fronts ts us n (inr (xs, b)) = let f = after_fronts xs ts us n b in (f.0, f.1, inr f.2)

  pub repeat_covers : (a : A) → Covers Over true first1 (first1 ++ next1) (rule.repeated f L a) (reading.repeated test f P a)
  repeat_covers a = record {
    spelled = λ b ts n s rest c. subst (λ y. Fate Over (first1 ++ next1) y rest c n (reading.repeated test f P a (state (ts ++ rest) c))) (sym s.1) (turns_spelled s.0 a ts n s.2 rest c (length (ts ++ rest)) (le_refl _));
    begun = repeat_begun a;
    shrinks = λ s. turns_shrink (length s.rest) a s;
    first_spelled = λ b t ts n s. first_of_all s.0 t ts n s.2;
    first_begun = repeat_first;
    empty_spelled = λ b n s. refl;
    takes = λ t ts c e. subst (λ o. Beyond o (t ∷ ts)) (sym (goes (length ts) a (state (t ∷ ts) c) e)) (then_beyond _ (λ y s. turns_shrink (length ts) (f a y) s) _ (t ∷ ts) (h.takes t ts c e));
    whole = λ b ts n s. all_whole s.0 ts n s.2;
    skips = λ e s none. (a, stops (length s.rest) a s none);
    fronts = repeat_fronts;
  }

-- ---- the same with other sets, and with more that a rule may exceed

module _ {A : Type 0} {Over Over2 : Type 0} {empty : Bool} {first next : List ℕ} {L : Rule A} {P : Parser A} (more : Over → Over2) (first2 next2 : List ℕ) (h : Covers Over empty first next L P)
    (w1 : within first first2 ≡ true) (w2 : within first2 first ≡ true) (w3 : within next next2 ≡ true) where
  exceeds_over : (c n : ℕ) → Exceeds Over c n → Exceeds Over2 c n
  exceeds_over c n (inl o) = inl (more o)
  exceeds_over c n (inr l) = inr l

  fate_over : (a : A) (rest : List Token) (c n : ℕ) (o : Outcome A) → Fate Over next a rest c n o → Fate Over2 next2 a rest c n o
  fate_over a rest c n o (exactly spare e eq) = exactly spare e eq
  fate_over a rest c n o (further st by) = further (starts-within next next2 rest w3 st) by
  fate_over a rest c n o (limited d x) = limited d (exceeds_over c n x)

  reach_over : (rest : List Token) (c n : ℕ) (o : Outcome A) → Reaches Over rest c n o → Reaches Over2 rest c n o
  reach_over rest c n o (inl l) = inl l
  reach_over rest c n o (inr (d, x)) = inr (d, exceeds_over c n x)

  pub resized : Covers Over2 empty first2 next2 L P
  resized = record {
    spelled = λ a ts n s rest c. fate_over a rest c n _ (h.spelled a ts n s rest c);
    begun = λ ts n b rest c. reach_over rest c n _ (h.begun ts n b rest c);
    shrinks = h.shrinks;
    first_spelled = λ a t ts n s. has-within first first2 (class t) w1 (h.first_spelled a t ts n s);
    first_begun = λ t ts n b. has-within first first2 (class t) w1 (h.first_begun t ts n b);
    empty_spelled = h.empty_spelled;
    takes = λ t ts c e. h.takes t ts c (has-within first2 first (class t) w2 e);
    whole = h.whole;
    skips = λ e s stops. h.skips e s (starts-without first first2 s.rest w1 stops);
    fronts = h.fronts;
  }

-- a rule with no text, before the same reading
pub nothing_covers : {A : Type 0} {Over Over2 : Type 0} {empty : Bool} {first next : List ℕ} {L M : Rule A} {P : Parser A} → Covers Over2 empty first next L P
    → ((a : A) (ts : List Token) (n : ℕ) → M.spells a ts n → ⊥) → ((ts : List Token) (n : ℕ) → M.begins ts n → ts ≡ []) → Covers Over empty first next M P
nothing_covers {A} {Over} {Over2} {empty} {first} {next} {L} {M} {P} h none begins = record {
  spelled = λ a ts n s rest c. absurd (none a ts n s);
  begun = λ ts n b rest c. inl (subst (λ us. left (P (state (us ++ rest) c)) ≤ length rest) (sym (begins ts n b)) (h.shrinks (state rest c)));
  first_spelled = λ a t ts n s. absurd (none a _ n s);
  first_begun = λ t ts n b. absurd (cons_nil t ts (begins _ n b));
  empty_spelled = λ a n s. absurd (none a _ n s);
  shrinks = h.shrinks;
  takes = h.takes;
  whole = λ a ts n s. absurd (none a ts n s);
  skips = h.skips;
  fronts = λ ts us n b. (n, le_refl n, subst (λ vs. M.begins vs n) (begins _ n b ∙ sym (no_tokens ts us (begins _ n b))) b);
}
  where
    cons_nil : (t : Token) (ts : List Token) → t ∷ ts ≡ [] → ⊥
    cons_nil t ts e = cc

-- reading that no level is left for
module _ {A : Type 0} (Over : Type 0) (first next : List ℕ) (L : Rule A) (over : (a : A) (ts : List Token) (n : ℕ) → L.spells a ts n → Over)
    (first_spelled : (a : A) (t : Token) (ts : List Token) (n : ℕ) → L.spells a (t ∷ ts) n → has first (class t) ≡ true) (first_begun : (t : Token) (ts : List Token) (n : ℕ) → L.begins (t ∷ ts) n → has first (class t) ≡ true)
    (begins : (t : Token) (ts : List Token) (n : ℕ) → L.begins (t ∷ ts) n → Over) (nonempty : (a : A) (n : ℕ) → L.spells a [] n → ⊥) (whole : (a : A) (ts : List Token) (n : ℕ) → L.spells a ts n → L.begins ts n)
    (fronts : (ts us : List Token) (n : ℕ) → L.begins (ts ++ us) n → (m : ℕ) × (m ≤ n) × L.begins ts m) where
  deep_begun : (ts : List Token) (n : ℕ) → L.begins ts n → (rest : List Token) (c : ℕ) → Reaches {A = A} Over rest c n (Err (TooDeep (length (ts ++ rest))))
  deep_begun [] n b rest c = inl (le_refl (length rest))
  deep_begun (t ∷ ts) n b rest c = inr ((length (t ∷ (ts ++ rest)), refl), inl (begins t ts n b))

  pub deep_covers : Covers Over false first next L (λ s. Err (TooDeep (length s.rest)))
  deep_covers = record {
    spelled = λ a ts n s rest c. limited (length (ts ++ rest), refl) (inl (over a ts n s));
    begun = deep_begun;
    shrinks = λ s. le_refl (length s.rest);
    first_spelled = first_spelled;
    first_begun = first_begun;
    empty_spelled = λ a n s. absurd (nonempty a n s);
    takes = λ t ts c e. inr refl;
    whole = whole;
    skips = λ e s stops. absurd (true≢false (sym e));
    fronts = fronts;
  }

-- ---- a text whose operators count for it alone

module _ {A : Type 0} {Over : Type 0} (Over2 : Type 0) (limit_rule limit : ℕ) {empty : Bool} {first next : List ℕ} {L : Rule A} {P : Parser A} (over : Over → Over2) (past : limit < limit_rule → Over2) (h : Covers Over empty first next L P) where
  outer_exceeds : (n inside c : ℕ) → inside ≤ limit_rule → Exceeds Over limit inside → Exceeds Over2 c n
  outer_exceeds n inside c le (inl o) = inl (over o)
  outer_exceeds n inside c le (inr l) = inl (past (omega (arith, le, l)))

  outer_fate : (a : A) (rest : List Token) (c n inside : ℕ) (o : Outcome A) → n ≡ 0 → inside ≤ limit_rule → Fate Over next a rest limit inside o → Fate Over2 next a rest c n (and_then o (λ b t. Ok (b, state t.rest c)))
  outer_fate a rest c n inside o z le (exactly spare e eq) = exactly c (omega (arith, z)) (ap (λ x. and_then x (λ b t. Ok (b, state t.rest c))) eq)
  outer_fate a rest c n inside o z le (further st by) = further st (then_beyond (λ b t. Ok (b, state t.rest c)) (λ b t. le_refl (length t.rest)) o rest by)
  outer_fate a rest c n inside o z le (limited d x) = limited (then_deep _ o d) (outer_exceeds n inside c le x)

  outer_reach : (rest : List Token) (c n inside : ℕ) (o : Outcome A) → inside ≤ limit_rule → Reaches Over rest limit inside o → Reaches Over2 rest c n (and_then o (λ b t. Ok (b, state t.rest c)))
  outer_reach rest c n inside o le (inl l) = inl (omega (arith, l, then_left {A = A} (λ b t. Ok (b, state t.rest c)) (λ b t. le_refl (length t.rest)) o))
  outer_reach rest c n inside o le (inr (d, x)) = inr (then_deep _ o d, outer_exceeds n inside c le x)

  pub fresh_covers : Covers Over2 empty first next (rule.outermost L limit_rule) (reading.fresh limit P)
  fresh_covers = record {
    spelled = λ a ts n s rest c. outer_fate a rest c n s.inside _ s.count s.within (h.spelled a ts s.inside s.spells rest limit);
    begun = λ ts n b rest c. outer_reach rest c n b.inside _ b.within (h.begun ts b.inside b.begins rest limit);
    shrinks = λ s. le_trans (then_left (λ b t. Ok (b, state t.rest s.operators)) (λ b t. le_refl (length t.rest)) (P (state s.rest limit))) (h.shrinks (state s.rest limit));
    first_spelled = λ a t ts n s. h.first_spelled a t ts s.inside s.spells;
    first_begun = λ t ts n b. h.first_begun t ts b.inside b.begins;
    empty_spelled = λ a n s. h.empty_spelled a s.inside s.spells;
    takes = λ t ts c e. then_beyond (λ b t. Ok (b, state t.rest c)) (λ b t. le_refl (length t.rest)) _ (t ∷ ts) (h.takes t ts limit e);
    whole = λ a ts n s. record { inside = s.inside; within = s.within; begins = h.whole a ts s.inside s.spells; count = s.count };
    skips = λ e s stops. let x = h.skips e (state s.rest limit) stops in (x.0, ap (λ o. and_then o (λ b t. Ok (b, state t.rest s.operators))) x.1);
    fronts = λ ts us n b. let f = h.fronts ts us b.inside b.begins in (n, le_refl n, record { inside = f.0; within = le_trans f.1 b.within; begins = f.2; count = b.count });
  }
