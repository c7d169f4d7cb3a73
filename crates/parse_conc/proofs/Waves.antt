-- A repetition whose items begin as what may follow it does: { head tail } [ head ]. Reading takes a head, and then sees
-- whether the tail of an item follows.
use Rattle.std.proofs.Common.{◌≡◌, ◌⊎◌, ℕ, zero, suc, ◌+◌, ◌≤◌, ◌<◌, true, List, [], ◌∷◌, ◌++◌, length, fold, Option, Some, None, refl, sym, ap, ◌∙◌, subst, inl, inr, arith, append_assoc, append-nil, length-append, le_refl}
use Rattle.ams_token.specs.declared.token.Token.{Token}
use Rattle.ams_tree.specs.Rule.{Rule, pure, optional, repeated, SpellsNothing, BeginsNothing, SpellsBoth, BeginsSecond, SpellsAll, BeginsAfter, ◌>>=◌, ◌<|>◌}
use Rattle.parse_steps.specs.Reading.{Parser, state}
use Rattle.parse_steps.proofs.Covers.{Covers, Fate, Reaches, left}
use Rattle.parse_steps.proofs.Sound.{Sound, widens}

-- a head, and then a tail
pub record Parts {C V : Type 0} (H : Rule C) (T : Rule V) (x : C × V) (ts : List Token) (n : ℕ) : Type 0 where
  pub head : C
  pub tail : V
  pub tree : x ≡ (head, tail)
  pub front : List Token
  pub back : List Token
  pub front_count : ℕ
  pub back_count : ℕ
  pub tokens : ts ≡ front ++ back
  pub count : n ≡ front_count + back_count
  pub spells_head : H.spells head front front_count
  pub spells_tail : T.spells tail back back_count

-- a rule whose texts are a head and a tail, neither of them empty
pub record IsItem {C V : Type 0} (H : Rule C) (T : Rule V) (I : Rule (C × V)) : Type 0 where
  pub parts : (x : C × V) (ts : List Token) (n : ℕ) → I.spells x ts n → Parts H T x ts n
  pub whole : (x : C × V) (ts : List Token) (n : ℕ) → Parts H T x ts n → I.spells x ts n
  pub begun : (ts : List Token) (n : ℕ) → I.begins ts n → H.begins ts n ⊎ BeginsSecond H (λ _. T) ts n
  pub begins : (ts : List Token) (n : ℕ) → H.begins ts n ⊎ BeginsSecond H (λ _. T) ts n → I.begins ts n
  pub long_head : (x : C) (ts : List Token) (n : ℕ) → H.spells x ts n → 0 < length ts
  pub long_tail : (x : V) (ts : List Token) (n : ℕ) → T.spells x ts n → 0 < length ts

-- ---- lists

pub no_front : (ts front back : List Token) → ts ≡ front ++ back → front ≡ [] → ts ≡ back
no_front ts front back e f = e ∙ ap (λ us. us ++ back) f

pub no_back : (ts front back : List Token) → ts ≡ front ++ back → back ≡ [] → ts ≡ front
no_back ts front back e f = e ∙ ap (λ us. front ++ us) f ∙ append-nil front

-- an item's head and tail, and what follows it
pub behind_item : (ts item head tail end : List Token) → ts ≡ item ++ end → item ≡ head ++ tail → ts ≡ head ++ (tail ++ end)
behind_item ts item head tail end e f = e ∙ ap (λ us. us ++ end) f ∙ append_assoc head tail end

-- the same the other way
pub before_end : (ts head more tail end : List Token) → ts ≡ head ++ more → more ≡ tail ++ end → ts ≡ (head ++ tail) ++ end
before_end ts head more tail end e f = e ∙ ap (λ us. head ++ us) f ∙ sym (append_assoc head tail end)

-- what follows an item is shorter by two tokens
two_fewer : (ts head tail end : List Token) → ts ≡ head ++ (tail ++ end) → 0 < length head → 0 < length tail → suc (suc (length end)) ≤ length ts
two_fewer ts head tail end e some more = omega (arith, ap length e, length-append head (tail ++ end), length-append tail end, some, more)

module _ {S B C V : Type 0} (H : Rule C) (T : Rule V) (I : Rule (C × V)) (f : S → C × V → S) (fin : S → Option C → B) (is : IsItem H T I) where
  -- what may follow the items
  abbrev End : S → Rule B
  End s = optional H >>= (λ x. pure (fin s x))

  -- the rule of the grammar
  abbrev pub Looped : S → Rule B
  Looped a = repeated f I a >>= End

  -- one turn
  abbrev pub Turn : (S → Rule B) → S → Rule B
  Turn R a = (H >>= (λ x. (T >>= (λ y. R (f a (x, y)))) <|> pure (fin a (Some x)))) <|> pure (fin a None)

  -- so many turns at most
  abbrev pub Turns : ℕ → S → Rule B
  Turns zero a = pure (fin a None)
  Turns (suc k) a = Turn (Turns k) a

  -- ---- a text of the grammar's rule is one of a turn

  turn_spelled : (R : S → Rule B) (a : S) (b : B) (ts : List Token) (n : ℕ)
      → ((p : C × V) (us : List Token) (m : ℕ) → suc (suc (length us)) ≤ length ts → (Looped (f a p)).spells b us m → (R (f a p)).spells b us m)
      → (Looped a).spells b ts n → (Turn R a).spells b ts n
  turn_spelled R a b ts n on x = go x.spells_front.0 x.spells_front.1 x.spells_front.2
    where
      ends : x.first ≡ a → ts ≡ x.back → n ≡ x.back_count → (y : SpellsBoth (optional H) (λ o. pure (fin x.first o)) b x.back x.back_count)
          → SpellsBoth H (λ c. pure (Some c)) y.first y.front y.front_count ⊎ SpellsNothing None y.first y.front y.front_count → (Turn R a).spells b ts n
      ends e g m y (inl z) = inl (record {
        first = z.first;
        front = z.front;
        back = [];
        front_count = z.front_count;
        back_count = 0;
        tokens = g ∙ no_back x.back y.front y.back y.tokens y.spells_back.tokens ∙ no_back y.front z.front z.back z.tokens z.spells_back.tokens ∙ sym (append-nil z.front);
        count = omega (arith, m, y.count, y.spells_back.count, z.count, z.spells_back.count);
        spells_front = z.spells_front;
        spells_back = inr (record { tree = y.spells_back.tree ∙ ap (λ s. fin s y.first) e ∙ ap (fin a) z.spells_back.tree; tokens = refl; count = refl });
      })
      ends e g m y (inr z) = inr (record {
        tree = y.spells_back.tree ∙ ap (λ s. fin s y.first) e ∙ ap (fin a) z.tree;
        tokens = g ∙ no_back x.back y.front y.back y.tokens y.spells_back.tokens ∙ z.tokens;
        count = omega (arith, m, y.count, y.spells_back.count, z.count);
      })

      go : (xs : List (C × V)) → x.first ≡ fold f a xs → SpellsAll I xs x.front x.front_count → (Turn R a).spells b ts n
      go [] e s = ends e (no_front ts x.front x.back x.tokens s.tokens) (omega (arith, x.count, s.count)) x.spells_back x.spells_back.spells_front
      go (p ∷ xs) e s =
          let i = is.parts p s.front s.front_count s.spells_front in
          let whole : ts ≡ s.front ++ (s.back ++ x.back) = behind_item ts x.front s.front s.back x.back x.tokens s.tokens in
          let apart : ts ≡ i.front ++ (i.back ++ (s.back ++ x.back)) = behind_item ts s.front i.front i.back (s.back ++ x.back) whole i.tokens in
          let shorter = two_fewer ts i.front i.back (s.back ++ x.back) apart (is.long_head i.head i.front i.front_count i.spells_head) (is.long_tail i.tail i.back i.back_count i.spells_tail) in
          let more : (Looped (f a p)).spells b (s.back ++ x.back) (s.back_count + x.back_count) =
          record { first = x.first; front = s.back; back = x.back; front_count = s.back_count; back_count = x.back_count; tokens = refl; count = refl; spells_front = (xs, e, s.spells_back); spells_back = x.spells_back } in
          inl (record {
            first = i.head;
            front = i.front;
            back = i.back ++ (s.back ++ x.back);
            front_count = i.front_count;
            back_count = i.back_count + (s.back_count + x.back_count);
            tokens = apart;
            count = omega (arith, x.count, s.count, i.count);
            spells_front = i.spells_head;
            spells_back = inl (record {
              first = i.tail;
              front = i.back;
              back = s.back ++ x.back;
              front_count = i.back_count;
              back_count = s.back_count + x.back_count;
              tokens = refl;
              count = refl;
              spells_front = i.spells_tail;
              spells_back = subst (λ q. (R (f a q)).spells b (s.back ++ x.back) (s.back_count + x.back_count)) i.tree (on p (s.back ++ x.back) (s.back_count + x.back_count) shorter more);
            });
          })

  -- ---- and a beginning of it one of a turn

  -- with no item before it
  end_begun : (R : S → Rule B) (a s : S) (us : List Token) (m : ℕ) → (End s).begins us m → (Turn R a).begins us m
  end_begun R a s us m (inl (inl (inl h))) = inl (inl h)
  end_begun R a s us m (inl (inl (inr y))) = inl (inr (record {
    first = y.first;
    front = y.front;
    back = y.back;
    front_count = y.front_count;
    back_count = y.back_count;
    tokens = y.tokens;
    count = y.count;
    spells_front = y.spells_front;
    begins_back = inr y.begins_back;
  }))
  end_begun R a s us m (inl (inr z)) = inr z
  end_begun R a s us m (inr y) = go y.spells_front
    where
      go : SpellsBoth H (λ c. pure (Some c)) y.first y.front y.front_count ⊎ SpellsNothing None y.first y.front y.front_count → (Turn R a).begins us m
      go (inl z) = inl (inr (record {
        first = z.first;
        front = z.front;
        back = [];
        front_count = z.front_count;
        back_count = 0;
        tokens = no_back us y.front y.back y.tokens y.begins_back.tokens ∙ no_back y.front z.front z.back z.tokens z.spells_back.tokens ∙ sym (append-nil z.front);
        count = omega (arith, y.count, y.begins_back.count, z.count, z.spells_back.count);
        spells_front = z.spells_front;
        begins_back = inr (record { tokens = refl; count = refl });
      }))
      go (inr z) = inr (record { tokens = no_back us y.front y.back y.tokens y.begins_back.tokens ∙ z.tokens; count = omega (arith, y.count, y.begins_back.count, z.count) })

  turn_begun : (R : S → Rule B) (a : S) (ts : List Token) (n : ℕ)
      → ((p : C × V) (us : List Token) (m : ℕ) → suc (suc (length us)) ≤ length ts → (Looped (f a p)).begins us m → (R (f a p)).begins us m)
      → (Looped a).begins ts n → (Turn R a).begins ts n
  turn_begun R a ts n on = go
    where
      -- behind an item
      item : (p : C × V) (front back : List Token) (front_count back_count : ℕ) → I.spells p front front_count → ts ≡ front ++ back → n ≡ front_count + back_count → (Looped (f a p)).begins back back_count → (Turn R a).begins ts n
      item p front back front_count back_count s e g b =
          let i = is.parts p front front_count s in
          let apart : ts ≡ i.front ++ (i.back ++ back) = behind_item ts front i.front i.back back e i.tokens in
          let shorter = two_fewer ts i.front i.back back apart (is.long_head i.head i.front i.front_count i.spells_head) (is.long_tail i.tail i.back i.back_count i.spells_tail) in
          inl (inr (record {
            first = i.head;
            front = i.front;
            back = i.back ++ back;
            front_count = i.front_count;
            back_count = i.back_count + back_count;
            tokens = apart;
            count = omega (arith, g, i.count);
            spells_front = i.spells_head;
            begins_back = inl (inr (record {
              first = i.tail;
              front = i.back;
              back = back;
              front_count = i.back_count;
              back_count = back_count;
              tokens = refl;
              count = refl;
              spells_front = i.spells_tail;
              begins_back = subst (λ q. (R (f a q)).begins back back_count) i.tree (on p back back_count shorter b);
            }));
          }))

      part : H.begins ts n ⊎ BeginsSecond H (λ _. T) ts n → (Turn R a).begins ts n
      part (inl h) = inl (inl h)
      part (inr y) = inl (inr (record {
        first = y.first;
        front = y.front;
        back = y.back;
        front_count = y.front_count;
        back_count = y.back_count;
        tokens = y.tokens;
        count = y.count;
        spells_front = y.spells_front;
        begins_back = inl (inl y.begins_back);
      }))

      after : (xs : List (C × V)) → BeginsAfter I xs ts n → (Turn R a).begins ts n
      after [] z = part (is.begun ts n z)
      after (p ∷ xs) s = item p s.front s.back s.front_count s.back_count s.spells_front s.tokens s.count (inl (inr (xs, s.spells_back)))

      second : (x : BeginsSecond (repeated f I a) End ts n) (xs : List (C × V)) → x.first ≡ fold f a xs → SpellsAll I xs x.front x.front_count → (Turn R a).begins ts n
      second x [] e s =
          let same : ts ≡ x.back = no_front ts x.front x.back x.tokens s.tokens in
          let count : n ≡ x.back_count = omega (arith, x.count, s.count) in
          subst (λ us. (Turn R a).begins us n) (sym same) (subst (λ m. (Turn R a).begins x.back m) (sym count) (end_begun R a x.first x.back x.back_count x.begins_back))
      second x (p ∷ xs) e s =
          item p s.front (s.back ++ x.back) s.front_count (s.back_count + x.back_count) s.spells_front (behind_item ts x.front s.front s.back x.back x.tokens s.tokens) (omega (arith, x.count, s.count))
          (inr (record { first = x.first; front = s.back; back = x.back; front_count = s.back_count; back_count = x.back_count; tokens = refl; count = refl; spells_front = (xs, e, s.spells_back); begins_back = x.begins_back }))

      go : (Looped a).begins ts n → (Turn R a).begins ts n
      go (inl (inl z)) = inr z
      go (inl (inr (xs, z))) = after xs z
      go (inr x) = second x x.spells_front.0 x.spells_front.1 x.spells_front.2

  -- ---- the other way

  -- no item
  no_item : (a : S) → (repeated f I a).spells a [] 0
  no_item a = ([], refl, record { tokens = refl; count = refl })

  -- an item by its head and tail
  an_item : (x : C) (y : V) (front back : List Token) (front_count back_count : ℕ) → H.spells x front front_count → T.spells y back back_count → I.spells (x, y) (front ++ back) (front_count + back_count)
  an_item x y front back front_count back_count s t =
      is.whole (x, y) (front ++ back) (front_count + back_count) (record { head = x; tail = y; tree = refl; front = front; back = back; front_count = front_count; back_count = back_count; tokens = refl; count = refl; spells_head = s; spells_tail = t })

  done_spelled : (a : S) (b : B) (ts : List Token) (n : ℕ) (o : Option C) → b ≡ fin a o → (optional H).spells o ts n → (Looped a).spells b ts n
  done_spelled a b ts n o e s = record {
    first = a;
    front = [];
    back = ts;
    front_count = 0;
    back_count = n;
    tokens = refl;
    count = omega arith;
    spells_front = no_item a;
    spells_back = record {
      first = o;
      front = ts;
      back = [];
      front_count = n;
      back_count = 0;
      tokens = sym (append-nil ts);
      count = omega arith;
      spells_front = s;
      spells_back = record { tree = e; tokens = refl; count = refl };
    };
  }

  turned_spelled : (R : S → Rule B) (a : S) (b : B) (ts : List Token) (n : ℕ)
      → ((p : C × V) (us : List Token) (m : ℕ) → (R (f a p)).spells b us m → (Looped (f a p)).spells b us m) → (Turn R a).spells b ts n → (Looped a).spells b ts n
  turned_spelled R a b ts n on (inr y) = done_spelled a b ts n None y.tree (inr (record { tree = refl; tokens = y.tokens; count = y.count }))
  turned_spelled R a b ts n on (inl x) = go x.spells_back
    where
      go : SpellsBoth T (λ y. R (f a (x.first, y))) b x.back x.back_count ⊎ SpellsNothing (fin a (Some x.first)) b x.back x.back_count → (Looped a).spells b ts n
      go (inl y) =
          let r = on (x.first, y.first) y.back y.back_count y.spells_back in
          record {
            first = r.first;
            front = (x.front ++ y.front) ++ r.front;
            back = r.back;
            front_count = (x.front_count + y.front_count) + r.front_count;
            back_count = r.back_count;
            tokens = before_end ts (x.front ++ y.front) y.back r.front r.back (before_end ts x.front x.back y.front y.back x.tokens y.tokens) r.tokens;
            count = omega (arith, x.count, y.count, r.count);
            spells_front = (
              (x.first, y.first) ∷ r.spells_front.0,
              r.spells_front.1,
              record {
                front = x.front ++ y.front;
                back = r.front;
                front_count = x.front_count + y.front_count;
                back_count = r.front_count;
                tokens = refl;
                count = refl;
                spells_front = an_item x.first y.first x.front y.front x.front_count y.front_count x.spells_front y.spells_front;
                spells_back = r.spells_front.2;
              },
            );
            spells_back = r.spells_back;
          }
      go (inr y) = done_spelled a b ts n (Some x.first) y.tree
          (inl (record { first = x.first; front = x.front; back = x.back; front_count = x.front_count; back_count = x.back_count; tokens = x.tokens; count = x.count; spells_front = x.spells_front; spells_back = record { tree = refl; tokens = y.tokens; count = y.count } }))

  -- the beginning of what may follow no item
  done_begun : (a : S) (ts : List Token) (n : ℕ) → (optional H).begins ts n → (Looped a).begins ts n
  done_begun a ts n b = inr (record { first = a; front = []; back = ts; front_count = 0; back_count = n; tokens = refl; count = omega arith; spells_front = no_item a; begins_back = inl b })

  turned_begun : (R : S → Rule B) (a : S) (ts : List Token) (n : ℕ)
      → ((p : C × V) (us : List Token) (m : ℕ) → (R (f a p)).begins us m → (Looped (f a p)).begins us m) → (Turn R a).begins ts n → (Looped a).begins ts n
  turned_begun R a ts n on (inr y) = inl (inl y)
  turned_begun R a ts n on (inl (inl h)) = inl (inr ([], is.begins ts n (inl h)))
  turned_begun R a ts n on (inl (inr x)) = go x.begins_back
    where
      behind : (y : BeginsSecond T (λ y. R (f a (x.first, y))) x.back x.back_count) → (Looped (f a (x.first, y.first))).begins y.back y.back_count → (Looped a).begins ts n
      behind y (inl (inl z)) = inr (record {
        first = f a (x.first, y.first);
        front = x.front ++ y.front;
        back = y.back;
        front_count = x.front_count + y.front_count;
        back_count = y.back_count;
        tokens = before_end ts x.front x.back y.front y.back x.tokens y.tokens;
        count = omega (arith, x.count, y.count);
        spells_front = (
          (x.first, y.first) ∷ [],
          refl,
          record {
            front = x.front ++ y.front;
            back = [];
            front_count = x.front_count + y.front_count;
            back_count = 0;
            tokens = sym (append-nil (x.front ++ y.front));
            count = omega arith;
            spells_front = an_item x.first y.first x.front y.front x.front_count y.front_count x.spells_front y.spells_front;
            spells_back = record { tokens = refl; count = refl };
          },
        );
        begins_back = inl (inr z);
      })
      behind y (inl (inr (xs, z))) = inl (inr (
        (x.first, y.first) ∷ xs,
        record {
          front = x.front ++ y.front;
          back = y.back;
          front_count = x.front_count + y.front_count;
          back_count = y.back_count;
          tokens = before_end ts x.front x.back y.front y.back x.tokens y.tokens;
          count = omega (arith, x.count, y.count);
          spells_front = an_item x.first y.first x.front y.front x.front_count y.front_count x.spells_front y.spells_front;
          spells_back = z;
        },
      ))
      behind y (inr r) = inr (record {
        first = r.first;
        front = (x.front ++ y.front) ++ r.front;
        back = r.back;
        front_count = (x.front_count + y.front_count) + r.front_count;
        back_count = r.back_count;
        tokens = before_end ts (x.front ++ y.front) y.back r.front r.back (before_end ts x.front x.back y.front y.back x.tokens y.tokens) r.tokens;
        count = omega (arith, x.count, y.count, r.count);
        spells_front = (
          (x.first, y.first) ∷ r.spells_front.0,
          r.spells_front.1,
          record {
            front = x.front ++ y.front;
            back = r.front;
            front_count = x.front_count + y.front_count;
            back_count = r.front_count;
            tokens = refl;
            count = refl;
            spells_front = an_item x.first y.first x.front y.front x.front_count y.front_count x.spells_front y.spells_front;
            spells_back = r.spells_front.2;
          },
        );
        begins_back = r.begins_back;
      })

      go : (T.begins x.back x.back_count ⊎ BeginsSecond T (λ y. R (f a (x.first, y))) x.back x.back_count) ⊎ BeginsNothing x.back x.back_count → (Looped a).begins ts n
      go (inl (inl t)) = inl (inr (
        [],
        is.begins ts n (inr (record { first = x.first; front = x.front; back = x.back; front_count = x.front_count; back_count = x.back_count; tokens = x.tokens; count = x.count; spells_front = x.spells_front; begins_back = t })),
      ))
      go (inl (inr y)) = behind y (on (x.first, y.first) y.back y.back_count y.begins_back)
      go (inr y) = done_begun a ts n (inl (inr (record { first = x.first; front = x.front; back = x.back; front_count = x.front_count; back_count = x.back_count; tokens = x.tokens; count = x.count; spells_front = x.spells_front; begins_back = y })))

  -- ---- with as many turns as there are tokens

  turns_spelled : (k : ℕ) (a : S) (b : B) (ts : List Token) (n : ℕ) → length ts ≤ suc k → (Looped a).spells b ts n → (Turns (suc k) a).spells b ts n
  turns_spelled zero a b ts n le x = turn_spelled (Turns zero) a b ts n (λ p us m two y. absurd (omega (arith, le, two))) x
  turns_spelled (suc k) a b ts n le x = turn_spelled (Turns (suc k)) a b ts n (λ p us m two y. turns_spelled k (f a p) b us m (omega (arith, le, two)) y) x

  turns_begun : (k : ℕ) (a : S) (ts : List Token) (n : ℕ) → length ts ≤ suc k → (Looped a).begins ts n → (Turns (suc k) a).begins ts n
  turns_begun zero a ts n le x = turn_begun (Turns zero) a ts n (λ p us m two y. absurd (omega (arith, le, two))) x
  turns_begun (suc k) a ts n le x = turn_begun (Turns (suc k)) a ts n (λ p us m two y. turns_begun k (f a p) us m (omega (arith, le, two)) y) x

  loops_spelled : (k : ℕ) (a : S) (b : B) (ts : List Token) (n : ℕ) → (Turns k a).spells b ts n → (Looped a).spells b ts n
  loops_spelled zero a b ts n y = done_spelled a b ts n None y.tree (inr (record { tree = refl; tokens = y.tokens; count = y.count }))
  loops_spelled (suc k) a b ts n y = turned_spelled (Turns k) a b ts n (λ p us m. loops_spelled k (f a p) b us m) y

  loops_begun : (k : ℕ) (a : S) (ts : List Token) (n : ℕ) → (Turns k a).begins ts n → (Looped a).begins ts n
  loops_begun zero a ts n y = inl (inl y)
  loops_begun (suc k) a ts n y = turned_begun (Turns k) a ts n (λ p us m. loops_begun k (f a p) us m) y

  -- ---- what reads so many turns reads the grammar's rule

  module _ (Over : Type 0) (first next : List ℕ) (Read : ℕ → S → Parser B) (h : (k : ℕ) (a : S) → Covers Over true first next (Turns (suc k) a) (Read (suc k) a)) (none : (a : S) (c : ℕ) → Read 0 a (state [] c) ≡ Read 1 a (state [] c)) where
    fuel : (a : S) (ts : List Token) (c : ℕ) → (k : ℕ) × (length ts ≤ suc k) × (Read (length ts) a (state ts c) ≡ Read (suc k) a (state ts c))
    fuel a [] c = (0, omega arith, none a c)
    fuel a (t ∷ ts) c = (length ts, le_refl (length (t ∷ ts)), refl)

    shorter : (ts us : List Token) (k : ℕ) → length (ts ++ us) ≤ suc k → length ts ≤ suc k
    shorter ts us k le = omega (arith, le, length-append ts us)

    pub loop_covers : (a : S) → Covers Over true first next (Looped a) (λ s. Read (length s.rest) a s)
    loop_covers a = record {
      spelled = λ b ts n x rest c. let m = fuel a (ts ++ rest) c in
          subst (Fate Over next b rest c n) (sym m.2) ((h m.0 a).spelled b ts n (turns_spelled m.0 a b ts n (shorter ts rest m.0 m.1) x) rest c);
      begun = λ ts n x rest c. let m = fuel a (ts ++ rest) c in
          subst (Reaches Over rest c n) (sym m.2) ((h m.0 a).begun ts n (turns_begun m.0 a ts n (shorter ts rest m.0 m.1) x) rest c);
      shrinks = λ s. let m = fuel a s.rest s.operators in subst (λ o. left o ≤ length s.rest) (sym m.2) ((h m.0 a).shrinks s);
      first_spelled = λ b t ts n x. (h (length ts) a).first_spelled b t ts n (turns_spelled (length ts) a b (t ∷ ts) n (le_refl (length (t ∷ ts))) x);
      first_begun = λ t ts n x. (h (length ts) a).first_begun t ts n (turns_begun (length ts) a (t ∷ ts) n (le_refl (length (t ∷ ts))) x);
      empty_spelled = λ b n x. refl;
      takes = λ t ts c e. (h (length ts) a).takes t ts c e;
      whole = λ b ts n x. loops_begun (suc (length ts)) a ts n ((h (length ts) a).whole b ts n (turns_spelled (length ts) a b ts n (omega arith) x));
      skips = λ e s stops. let m = fuel a s.rest s.operators in let r = (h m.0 a).skips e s stops in (r.0, m.2 ∙ r.1);
      fronts = λ ts us n x. let k = length (ts ++ us) in let r = (h k a).fronts ts us n (turns_begun k a (ts ++ us) n (omega arith) x) in (r.0, r.1, loops_begun (suc k) a ts r.0 r.2);
    }

  module _ (Over : Type 0) (Read : ℕ → S → Parser B) (h : (k : ℕ) (a : S) → Sound Over (Turns k a) (Read k a)) where
    pub loop_sound : (a : S) → Sound Over (Looped a) (λ s. Read (length s.rest) a s)
    loop_sound a = record { verdict = λ s. widens Over (Turns (length s.rest) a) (Looped a) (loops_spelled (length s.rest) a) (loops_begun (length s.rest) a) s.rest s.operators _ ((h (length s.rest) a).verdict s) }

-- ---- items of four parts: "when" expr "else" wave

module _ {A C D V : Type 0} (W : Rule A) (E : Rule C) (L : Rule D) (U : Rule V) (whole_last : (x : V) (ts : List Token) (n : ℕ) → U.spells x ts n → U.begins ts n)
    (long_first : (x : A) (ts : List Token) (n : ℕ) → W.spells x ts n → 0 < length ts) (long_third : (x : D) (ts : List Token) (n : ℕ) → L.spells x ts n → 0 < length ts) where
  abbrev Item : Rule (C × V)
  Item = W >>= (λ _. E >>= (λ x. L >>= (λ _. U >>= (λ y. pure (x, y)))))

  abbrev Head : Rule C
  Head = W >>= (λ _. E)

  abbrev Tail : Rule V
  Tail = L >>= (λ _. U)

  item_parts : (x : C × V) (ts : List Token) (n : ℕ) → Item.spells x ts n → Parts Head Tail x ts n
  item_parts x ts n s =
      let e = s.spells_back in
      let l = e.spells_back in
      let u = l.spells_back in
      record {
        head = e.first;
        tail = u.first;
        tree = u.spells_back.tree;
        front = s.front ++ e.front;
        back = l.front ++ u.front;
        front_count = s.front_count + e.front_count;
        back_count = l.front_count + u.front_count;
        tokens = before_end ts s.front s.back e.front e.back s.tokens e.tokens
            ∙ ap (λ us. (s.front ++ e.front) ++ us) (l.tokens ∙ ap (λ us. l.front ++ us) (no_back l.back u.front u.back u.tokens u.spells_back.tokens));
        count = omega (arith, s.count, e.count, l.count, u.count, u.spells_back.count);
        spells_head = record { first = s.first; front = s.front; back = e.front; front_count = s.front_count; back_count = e.front_count; tokens = refl; count = refl; spells_front = s.spells_front; spells_back = e.spells_front };
        spells_tail = record { first = l.first; front = l.front; back = u.front; front_count = l.front_count; back_count = u.front_count; tokens = refl; count = refl; spells_front = l.spells_front; spells_back = u.spells_front };
      }

  item_whole : (x : C × V) (ts : List Token) (n : ℕ) → Parts Head Tail x ts n → Item.spells x ts n
  item_whole x ts n p =
      let a = p.spells_head in
      let b = p.spells_tail in
      record {
        first = a.first;
        front = a.front;
        back = a.back ++ p.back;
        front_count = a.front_count;
        back_count = a.back_count + p.back_count;
        tokens = behind_item ts p.front a.front a.back p.back p.tokens a.tokens;
        count = omega (arith, p.count, a.count);
        spells_front = a.spells_front;
        spells_back = record {
          first = p.head;
          front = a.back;
          back = p.back;
          front_count = a.back_count;
          back_count = p.back_count;
          tokens = refl;
          count = refl;
          spells_front = a.spells_back;
          spells_back = record {
            first = b.first;
            front = b.front;
            back = b.back;
            front_count = b.front_count;
            back_count = b.back_count;
            tokens = b.tokens;
            count = b.count;
            spells_front = b.spells_front;
            spells_back = record { first = p.tail; front = b.back; back = []; front_count = b.back_count; back_count = 0; tokens = sym (append-nil b.back); count = omega arith; spells_front = b.spells_back; spells_back = record { tree = p.tree; tokens = refl; count = refl } };
          };
        };
      }

  item_begun : (ts : List Token) (n : ℕ) → Item.begins ts n → Head.begins ts n ⊎ BeginsSecond Head (λ _. Tail) ts n
  item_begun ts n (inl w) = inl (inl w)
  item_begun ts n (inr y) = second y.begins_back
    where
      last : (x : C) (us : List Token) (m : ℕ) → U.begins us m ⊎ BeginsSecond {B = C × V} U (λ v. pure (x, v)) us m → U.begins us m
      last x us m (inl v) = v
      last x us m (inr v) =
          let same : us ≡ v.front = no_back us v.front v.back v.tokens v.begins_back.tokens in
          let count : m ≡ v.front_count = omega (arith, v.count, v.begins_back.count) in
          subst (λ vs. U.begins vs m) (sym same) (subst (λ k. U.begins v.front k) (sym count) (whole_last v.first v.front v.front_count v.spells_front))

      third : (x : C) (us : List Token) (m : ℕ) → L.begins us m ⊎ BeginsSecond {B = C × V} L (λ _. U >>= (λ v. pure (x, v))) us m → Tail.begins us m
      third x us m (inl g) = inl g
      third x us m (inr g) = inr (record {
        first = g.first;
        front = g.front;
        back = g.back;
        front_count = g.front_count;
        back_count = g.back_count;
        tokens = g.tokens;
        count = g.count;
        spells_front = g.spells_front;
        begins_back = last x g.back g.back_count g.begins_back;
      })

      second : E.begins y.back y.back_count ⊎ BeginsSecond {B = C × V} E (λ x. L >>= (λ _. U >>= (λ v. pure (x, v)))) y.back y.back_count → Head.begins ts n ⊎ BeginsSecond Head (λ _. Tail) ts n
      second (inl e) = inl (inr (record { first = y.first; front = y.front; back = y.back; front_count = y.front_count; back_count = y.back_count; tokens = y.tokens; count = y.count; spells_front = y.spells_front; begins_back = e }))
      second (inr e) = inr (record {
        first = e.first;
        front = y.front ++ e.front;
        back = e.back;
        front_count = y.front_count + e.front_count;
        back_count = e.back_count;
        tokens = before_end ts y.front y.back e.front e.back y.tokens e.tokens;
        count = omega (arith, y.count, e.count);
        spells_front = record { first = y.first; front = y.front; back = e.front; front_count = y.front_count; back_count = e.front_count; tokens = refl; count = refl; spells_front = y.spells_front; spells_back = e.spells_front };
        begins_back = third e.first e.back e.back_count e.begins_back;
      })

  item_begins : (ts : List Token) (n : ℕ) → Head.begins ts n ⊎ BeginsSecond Head (λ _. Tail) ts n → Item.begins ts n
  item_begins ts n (inl (inl w)) = inl w
  item_begins ts n (inl (inr y)) = inr (record { first = y.first; front = y.front; back = y.back; front_count = y.front_count; back_count = y.back_count; tokens = y.tokens; count = y.count; spells_front = y.spells_front; begins_back = inl y.begins_back })
  item_begins ts n (inr y) =
      let a = y.spells_front in
      inr (record {
        first = a.first;
        front = a.front;
        back = a.back ++ y.back;
        front_count = a.front_count;
        back_count = a.back_count + y.back_count;
        tokens = behind_item ts y.front a.front a.back y.back y.tokens a.tokens;
        count = omega (arith, y.count, a.count);
        spells_front = a.spells_front;
        begins_back = inr (record {
          first = y.first;
          front = a.back;
          back = y.back;
          front_count = a.back_count;
          back_count = y.back_count;
          tokens = refl;
          count = refl;
          spells_front = a.spells_back;
          begins_back = third y.begins_back;
        });
      })
    where
      third : L.begins y.back y.back_count ⊎ BeginsSecond L (λ _. U) y.back y.back_count → L.begins y.back y.back_count ⊎ BeginsSecond {B = C × V} L (λ _. U >>= (λ v. pure (y.first, v))) y.back y.back_count
      third (inl g) = inl g
      third (inr g) = inr (record { first = g.first; front = g.front; back = g.back; front_count = g.front_count; back_count = g.back_count; tokens = g.tokens; count = g.count; spells_front = g.spells_front; begins_back = inl g.begins_back })

  pub item_is : IsItem Head Tail Item
  item_is = record {
    parts = item_parts;
    whole = item_whole;
    begun = item_begun;
    begins = item_begins;
    long_head = λ x ts n s. omega (arith, ap length s.tokens, length-append s.front s.back, long_first s.first s.front s.front_count s.spells_front);
    long_tail = λ x ts n s. omega (arith, ap length s.tokens, length-append s.front s.back, long_third s.first s.front s.front_count s.spells_front);
  }
