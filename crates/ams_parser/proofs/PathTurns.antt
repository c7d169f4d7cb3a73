-- A selected name by turns: a name, and where a point stands behind it the next turn.
use Rattle.std.proofs.Common.{◌≡◌, ◌⊎◌, ℕ, zero, suc, ◌+◌, ◌≤◌, true, false, List, [], ◌∷◌, ◌++◌, length, fold, Some, refl, sym, ap, ◌∙◌, subst, inl, inr, arith, append_assoc, append-nil}
use Rattle.ams_token.specs.declared.token.Place.{Place}
use Rattle.ams_token.specs.declared.token.Token.{Token}
use Rattle.ams_token.specs.declared.word.Word.TheVariants as w
use Rattle.ams_token.specs.declared.mark.Mark.TheVariants as m
use Rattle.ams_tree.specs.declared.expression.Name.{Name}
use Rattle.ams_tree.specs.declared.design.Path.{Path}
use Rattle.ams_tree.specs.Terminals.{mark, word, name_of}
use Rattle.ams_tree.specs.Rule.{Rule, SpellsToken, SpellsNothing, SpellsBoth, SpellsAll, BeginsNothing, BeginsSecond, BeginsAfter, pure, one, ◌>>=◌, ◌>>◌, ◌<|>◌, repeated}
use Rattle.ams_tree.specs.Expressions.{last}
use Rattle.ams_parser.proofs.Turns.{InTurns}

abbrev pub last_name : List Name → Name → Path
last_name front name = record { names = last front name; all = false }

abbrev pub all_names : List Name → Rule Path
all_names front = one (word w.All) >> pure (record { names = front; all = true })

-- id "."
abbrev pub item : Rule Name
item = one name_of >>= (λ name. one (mark m.Point) >> pure name)

-- id | "all"
abbrev pub ends : List Name → Rule Path
ends front = (one name_of >>= (λ name. pure (last_name front name))) <|> all_names front

-- { id "." } ( id | "all" )
abbrev pub unbounded : List Name → Rule Path
unbounded front = repeated last item front >>= ends

-- the same in so many turns
abbrev pub steps : ℕ → List Name → Rule Path
steps zero front = ends front
steps (suc k) front = (one name_of >>= (λ name. (one (mark m.Point) >> steps k (last front name)) <|> pure (last_name front name))) <|> all_names front

moved : {A : Type 0} (L : Rule A) (x : A) {ts us : List Token} {n k : ℕ} → ts ≡ us → n ≡ k → L.spells x us k → L.spells x ts n
moved L x {us = us} {n} e f s = subst (λ v. L.spells x v n) (sym e) (subst (λ i. L.spells x us i) (sym f) s)

begun : {A : Type 0} (L : Rule A) {ts us : List Token} {n k : ℕ} → ts ≡ us → n ≡ k → L.begins us k → L.begins ts n
begun L {us = us} {n} e f b = subst (λ v. L.begins v n) (sym e) (subst (λ i. L.begins us i) (sym f) b)

-- ---- an item is a name and a point

record Item (name : Name) (ts : List Token) (n : ℕ) : Type 0 where
  named : Token
  point : Token
  place : Place
  tokens : ts ≡ named ∷ point ∷ []
  count : n ≡ 0
  tree : name_of named ≡ Some name
  other : mark m.Point point ≡ Some place

two_tokens : (ts f b qf qb : List Token) (t p : Token) → ts ≡ f ++ b → f ≡ t ∷ [] → b ≡ qf ++ qb → qf ≡ p ∷ [] → qb ≡ [] → ts ≡ t ∷ p ∷ []
two_tokens ts f b qf qb t p e e1 e2 e3 e4 = e ∙ ap (λ x. x ++ b) e1 ∙ ap (λ x. t ∷ x) (e2 ∙ ap (λ x. x ++ qb) e3 ∙ ap (λ x. p ∷ x) e4)

item_is : (name : Name) (ts : List Token) (n : ℕ) → item.spells name ts n → Item name ts n
item_is name ts n s =
    let a = s.spells_front in
    let q = s.spells_back in
    let p = q.spells_front in
    let e = q.spells_back in
    record {
      named = a.token;
      point = p.token;
      place = q.first;
      tokens = two_tokens ts s.front s.back q.front q.back a.token p.token s.tokens a.tokens q.tokens p.tokens e.tokens;
      count = omega (arith, s.count, a.count, q.count, p.count, e.count);
      tree = a.tree ∙ ap Some (sym e.tree);
      other = p.tree;
    }

name_token : (t : Token) (x : Name) → name_of t ≡ Some x → SpellsToken true 0 name_of x (t ∷ []) 0
name_token t x e = record { token = t; tokens = refl; tree = e; count = refl; allows = refl }

point_token : (t : Token) (x : Place) → mark m.Point t ≡ Some x → SpellsToken true 0 (mark m.Point) x (t ∷ []) 0
point_token t x e = record { token = t; tokens = refl; tree = e; count = refl; allows = refl }

-- the tokens of an item, and what stands behind them
split_item : (ts us vs front back : List Token) (t p : Token) → ts ≡ us ++ vs → us ≡ front ++ back → front ≡ t ∷ p ∷ [] → ts ≡ t ∷ p ∷ (back ++ vs)
split_item ts us vs front back t p e f g = e ∙ ap (λ x. x ++ vs) (f ∙ ap (λ x. x ++ back) g)

longer : (k : ℕ) (ts us : List Token) (t p : Token) → ts ≡ t ∷ p ∷ us → length ts ≤ suc k → length us ≤ k
longer k ts us t p e le = let same : length ts ≡ suc (suc (length us)) = ap length e in omega (arith, same, le)

no_room : (ts us : List Token) (t : Token) → ts ≡ t ∷ us → length ts ≤ 0 → ⊥
no_room ts us t e le = let same : length ts ≡ suc (length us) = ap length e in omega (arith, same, le)

-- ---- from the rule to its turns

item_spells : (k : ℕ) (front : List Name) (x : Name) (t p : Token) (at : Place) → name_of t ≡ Some x → mark m.Point p ≡ Some at → (z : Path) (us : List Token) (n : ℕ)
    → (steps k (last front x)).spells z us n → (steps (suc k) front).spells z (t ∷ p ∷ us) n
item_spells k front x t p at e f z us n s = inl (record {
  first = x;
  front = t ∷ [];
  back = p ∷ us;
  front_count = 0;
  back_count = n;
  tokens = refl;
  count = omega arith;
  spells_front = name_token t x e;
  spells_back = inl (record { first = at; front = p ∷ []; back = us; front_count = 0; back_count = n; tokens = refl; count = omega arith; spells_front = point_token p at f; spells_back = s });
})

end_spells : (k : ℕ) (front : List Name) (z : Path) (us : List Token) (n : ℕ) → (ends front).spells z us n → (steps k front).spells z us n
end_spells zero front z us n s = s
end_spells (suc k) front z us n (inl s) = inl (record {
  first = s.first;
  front = s.front;
  back = s.back;
  front_count = s.front_count;
  back_count = s.back_count;
  tokens = s.tokens;
  count = s.count;
  spells_front = s.spells_front;
  spells_back = inr s.spells_back;
})
end_spells (suc k) front z us n (inr s) = inr s

all_spells : (k : ℕ) (xs : List Name) (front : List Name) (z : Path) (ts us vs : List Token) (n a b : ℕ) → ts ≡ us ++ vs → n ≡ a + b → length ts ≤ k
    → SpellsAll item xs us a → (ends (fold last front xs)).spells z vs b → (steps k front).spells z ts n
all_spells k [] front z ts us vs n a b e f le s t =
    moved (steps k front) z (e ∙ ap (λ x. x ++ vs) s.tokens) (omega (arith, f, s.count)) (end_spells k front z vs b t)
all_spells zero (x ∷ xs) front z ts us vs n a b e f le s t =
    let i = item_is x s.front s.front_count s.spells_front in absurd (no_room ts _ i.named (split_item ts us vs s.front s.back i.named i.point e s.tokens i.tokens) le)
all_spells (suc k) (x ∷ xs) front z ts us vs n a b e f le s t =
    let i = item_is x s.front s.front_count s.spells_front in
    let tokens = split_item ts us vs s.front s.back i.named i.point e s.tokens i.tokens in
    moved (steps (suc k) front) z tokens (omega (arith, f, s.count, i.count)) (item_spells k front x i.named i.point i.place i.tree i.other z (s.back ++ vs) (s.back_count + b)
    (all_spells k xs (last front x) z (s.back ++ vs) s.back vs (s.back_count + b) s.back_count b refl refl (longer k ts _ i.named i.point tokens le) s.spells_back t))

into_spells : (front : List Name) (k : ℕ) (z : Path) (ts : List Token) (n : ℕ) → length ts ≤ k → (unbounded front).spells z ts n → (steps k front).spells z ts n
into_spells front k z ts n le s =
    all_spells k s.spells_front.0 front z ts s.front s.back n s.front_count s.back_count s.tokens s.count le s.spells_front.2
    (subst (λ u. (ends u).spells z s.back s.back_count) s.spells_front.1 s.spells_back)

item_begins : (k : ℕ) (front : List Name) (x : Name) (t p : Token) (at : Place) → name_of t ≡ Some x → mark m.Point p ≡ Some at → (us : List Token) (n : ℕ)
    → (steps k (last front x)).begins us n → (steps (suc k) front).begins (t ∷ p ∷ us) n
item_begins k front x t p at e f us n s = inl (inr (record {
  first = x;
  front = t ∷ [];
  back = p ∷ us;
  front_count = 0;
  back_count = n;
  tokens = refl;
  count = omega arith;
  spells_front = name_token t x e;
  begins_back = inl (inr (record { first = at; front = p ∷ []; back = us; front_count = 0; back_count = n; tokens = refl; count = omega arith; spells_front = point_token p at f; begins_back = s }));
}))

end_begins : (k : ℕ) (front : List Name) (us : List Token) (n : ℕ) → (ends front).begins us n → (steps k front).begins us n
end_begins zero front us n b = b
end_begins (suc k) front us n (inl (inl b)) = inl (inl b)
end_begins (suc k) front us n (inl (inr s)) = inl (inr (record {
  first = s.first;
  front = s.front;
  back = s.back;
  front_count = s.front_count;
  back_count = s.back_count;
  tokens = s.tokens;
  count = s.count;
  spells_front = s.spells_front;
  begins_back = inr s.begins_back;
}))
end_begins (suc k) front us n (inr b) = inr b

nothing_begins : (k : ℕ) (front : List Name) (us : List Token) (n : ℕ) → BeginsNothing us n → (steps k front).begins us n
nothing_begins k front us n b = end_begins k front us n (inl (inl (inl b)))

point_begins : (x : Name) (us : List Token) (n : ℕ) → (one (mark m.Point) >> pure x).begins us n → (one (mark m.Point)).begins us n
point_begins x us n (inl b) = b
point_begins x us n (inr q) =
    begun (one (mark m.Point)) (q.tokens ∙ ap (λ u. q.front ++ u) q.begins_back.tokens ∙ append-nil q.front) (omega (arith, q.count, q.begins_back.count)) (inr (q.first, q.spells_front))

one_begins : (k : ℕ) (front : List Name) (us : List Token) (n : ℕ) → length us ≤ k → item.begins us n → (steps k front).begins us n
one_begins zero front us n le (inl b) = inl (inl b)
one_begins zero front us n le (inr s) = absurd (no_room us s.back s.spells_front.token (s.tokens ∙ ap (λ u. u ++ s.back) s.spells_front.tokens) le)
one_begins (suc k) front us n le (inl b) = inl (inl b)
one_begins (suc k) front us n le (inr s) = inl (inr (record {
  first = s.first;
  front = s.front;
  back = s.back;
  front_count = s.front_count;
  back_count = s.back_count;
  tokens = s.tokens;
  count = s.count;
  spells_front = s.spells_front;
  begins_back = inl (inl (point_begins s.first s.back s.back_count s.begins_back));
}))

after_begins : (k : ℕ) (xs : List Name) (front : List Name) (us : List Token) (n : ℕ) → length us ≤ k → BeginsAfter item xs us n → (steps k front).begins us n
after_begins k [] front us n le b = one_begins k front us n le b
after_begins zero (x ∷ xs) front us n le s =
    let i = item_is x s.front s.front_count s.spells_front in absurd (no_room us _ i.named (s.tokens ∙ ap (λ u. u ++ s.back) i.tokens) le)
after_begins (suc k) (x ∷ xs) front us n le s =
    let i = item_is x s.front s.front_count s.spells_front in
    let tokens : us ≡ i.named ∷ i.point ∷ s.back = s.tokens ∙ ap (λ u. u ++ s.back) i.tokens in
    begun (steps (suc k) front) tokens (omega (arith, s.count, i.count)) (item_begins k front x i.named i.point i.place i.tree i.other s.back s.back_count
    (after_begins k xs (last front x) s.back s.back_count (longer k us s.back i.named i.point tokens le) s.spells_back))

all_begins : (k : ℕ) (xs : List Name) (front : List Name) (ts us vs : List Token) (n a b : ℕ) → ts ≡ us ++ vs → n ≡ a + b → length ts ≤ k
    → SpellsAll item xs us a → (ends (fold last front xs)).begins vs b → (steps k front).begins ts n
all_begins k [] front ts us vs n a b e f le s t =
    begun (steps k front) (e ∙ ap (λ x. x ++ vs) s.tokens) (omega (arith, f, s.count)) (end_begins k front vs b t)
all_begins zero (x ∷ xs) front ts us vs n a b e f le s t =
    let i = item_is x s.front s.front_count s.spells_front in absurd (no_room ts _ i.named (split_item ts us vs s.front s.back i.named i.point e s.tokens i.tokens) le)
all_begins (suc k) (x ∷ xs) front ts us vs n a b e f le s t =
    let i = item_is x s.front s.front_count s.spells_front in
    let tokens = split_item ts us vs s.front s.back i.named i.point e s.tokens i.tokens in
    begun (steps (suc k) front) tokens (omega (arith, f, s.count, i.count)) (item_begins k front x i.named i.point i.place i.tree i.other (s.back ++ vs) (s.back_count + b)
    (all_begins k xs (last front x) (s.back ++ vs) s.back vs (s.back_count + b) s.back_count b refl refl (longer k ts _ i.named i.point tokens le) s.spells_back t))

into_begins : (front : List Name) (k : ℕ) (ts : List Token) (n : ℕ) → length ts ≤ k → (unbounded front).begins ts n → (steps k front).begins ts n
into_begins front k ts n le (inl (inl b)) = nothing_begins k front ts n b
into_begins front k ts n le (inl (inr (xs, b))) = after_begins k xs front ts n le b
into_begins front k ts n le (inr s) =
    all_begins k s.spells_front.0 front ts s.front s.back n s.front_count s.back_count s.tokens s.count le s.spells_front.2
    (subst (λ u. (ends u).begins s.back s.back_count) s.spells_front.1 s.begins_back)

-- ---- from the turns to the rule

only_end : (front : List Name) (z : Path) (ts : List Token) (n : ℕ) → (ends front).spells z ts n → (unbounded front).spells z ts n
only_end front z ts n s = record {
  first = front;
  front = [];
  back = ts;
  front_count = 0;
  back_count = n;
  tokens = refl;
  count = omega arith;
  spells_front = ([], refl, record { tokens = refl; count = refl });
  spells_back = s;
}

only_begin : (front : List Name) (ts : List Token) (n : ℕ) → (ends front).begins ts n → (unbounded front).begins ts n
only_begin front ts n b = inr (record {
  first = front;
  front = [];
  back = ts;
  front_count = 0;
  back_count = n;
  tokens = refl;
  count = omega arith;
  spells_front = ([], refl, record { tokens = refl; count = refl });
  begins_back = b;
})

-- an item before the rest
before_spells : (front : List Name) (x : Name) (z : Path) (us vs : List Token) (a b : ℕ) → item.spells x us a → (unbounded (last front x)).spells z vs b → (unbounded front).spells z (us ++ vs) (a + b)
before_spells front x z us vs a b i r = record {
  first = r.first;
  front = us ++ r.front;
  back = r.back;
  front_count = a + r.front_count;
  back_count = r.back_count;
  tokens = ap (λ v. us ++ v) r.tokens ∙ sym (append_assoc us r.front r.back);
  count = omega (arith, r.count);
  spells_front = (x ∷ r.spells_front.0, r.spells_front.1, record { front = us; back = r.front; front_count = a; back_count = r.front_count; tokens = refl; count = refl; spells_front = i; spells_back = r.spells_front.2 });
  spells_back = r.spells_back;
}

before_begins : (front : List Name) (x : Name) (us vs : List Token) (a b : ℕ) → item.spells x us a → (unbounded (last front x)).begins vs b → (unbounded front).begins (us ++ vs) (a + b)
before_begins front x us vs a b i (inl (inl r)) =
    inl (inr (x ∷ [], record { front = us; back = vs; front_count = a; back_count = b; tokens = refl; count = refl; spells_front = i; spells_back = inl (inl r) }))
before_begins front x us vs a b i (inl (inr (xs, r))) =
    inl (inr (x ∷ xs, record { front = us; back = vs; front_count = a; back_count = b; tokens = refl; count = refl; spells_front = i; spells_back = r }))
before_begins front x us vs a b i (inr r) = inr (record {
  first = r.first;
  front = us ++ r.front;
  back = r.back;
  front_count = a + r.front_count;
  back_count = r.back_count;
  tokens = ap (λ v. us ++ v) r.tokens ∙ sym (append_assoc us r.front r.back);
  count = omega (arith, r.count);
  spells_front = (x ∷ r.spells_front.0, r.spells_front.1, record { front = us; back = r.front; front_count = a; back_count = r.front_count; tokens = refl; count = refl; spells_front = i; spells_back = r.spells_front.2 });
  begins_back = r.begins_back;
})

make_item : (x : Name) (at : Place) (us vs : List Token) (a b : ℕ) → (one name_of).spells x us a → (one (mark m.Point)).spells at vs b → item.spells x (us ++ (vs ++ [])) (a + (b + 0))
make_item x at us vs a b s t = record {
  first = x;
  front = us;
  back = vs ++ [];
  front_count = a;
  back_count = b + 0;
  tokens = refl;
  count = refl;
  spells_front = s;
  spells_back = record { first = at; front = vs; back = []; front_count = b; back_count = 0; tokens = refl; count = refl; spells_front = t; spells_back = record { tree = refl; tokens = refl; count = refl } };
}

joined : (ts us back vs ws : List Token) → ts ≡ us ++ back → back ≡ vs ++ ws → ts ≡ (us ++ (vs ++ [])) ++ ws
joined ts us back vs ws e f = e ∙ ap (λ v. us ++ v) (f ∙ ap (λ v. v ++ ws) (sym (append-nil vs))) ∙ sym (append_assoc us (vs ++ []) ws)

from_spells : (front : List Name) (k : ℕ) (z : Path) (ts : List Token) (n : ℕ) → (steps k front).spells z ts n → (unbounded front).spells z ts n
from_spells front zero z ts n s = only_end front z ts n s
from_spells front (suc k) z ts n (inr s) = only_end front z ts n (inr s)
from_spells front (suc k) z ts n (inl s) = go s.spells_back (λ us b. from_spells (last front s.first) k z us b)
  where
    go : SpellsBoth (one (mark m.Point)) (λ _. steps k (last front s.first)) z s.back s.back_count ⊎ SpellsNothing (last_name front s.first) z s.back s.back_count
        → ((us : List Token) (b : ℕ) → (steps k (last front s.first)).spells z us b → (unbounded (last front s.first)).spells z us b) → (unbounded front).spells z ts n
    go (inl q) ih =
        moved (unbounded front) z (joined ts s.front s.back q.front q.back s.tokens q.tokens) (omega (arith, s.count, q.count))
        (before_spells front s.first z _ q.back _ q.back_count (make_item s.first q.first s.front q.front s.front_count q.front_count s.spells_front q.spells_front) (ih q.back q.back_count q.spells_back))
    go (inr e) ih =
        only_end front z ts n (inl (record { first = s.first; front = s.front; back = s.back; front_count = s.front_count; back_count = s.back_count; tokens = s.tokens; count = s.count; spells_front = s.spells_front; spells_back = e }))

from_begins : (front : List Name) (k : ℕ) (ts : List Token) (n : ℕ) → (steps k front).begins ts n → (unbounded front).begins ts n
from_begins front zero ts n b = only_begin front ts n b
from_begins front (suc k) ts n (inr b) = only_begin front ts n (inr b)
from_begins front (suc k) ts n (inl (inl b)) = only_begin front ts n (inl (inl b))
from_begins front (suc k) ts n (inl (inr s)) = go s.begins_back (λ us b. from_begins (last front s.first) k us b)
  where
    alone : (one (mark m.Point) >> pure s.first).begins s.back s.back_count → (unbounded front).begins ts n
    alone b = inl (inr ([], inr (record { first = s.first; front = s.front; back = s.back; front_count = s.front_count; back_count = s.back_count; tokens = s.tokens; count = s.count; spells_front = s.spells_front; begins_back = b })))

    go : ((one (mark m.Point)).begins s.back s.back_count ⊎ BeginsSecond (one (mark m.Point)) (λ _. steps k (last front s.first)) s.back s.back_count) ⊎ BeginsNothing s.back s.back_count
        → ((us : List Token) (b : ℕ) → (steps k (last front s.first)).begins us b → (unbounded (last front s.first)).begins us b) → (unbounded front).begins ts n
    go (inl (inl b)) ih = alone (inl b)
    go (inl (inr q)) ih =
        begun (unbounded front) (joined ts s.front s.back q.front q.back s.tokens q.tokens) (omega (arith, s.count, q.count))
        (before_begins front s.first _ q.back _ q.back_count (make_item s.first q.first s.front q.front s.front_count q.front_count s.spells_front q.spells_front) (ih q.back q.back_count q.begins_back))
    go (inr e) ih = alone (inl (inl e))

pub in_turns : (front : List Name) → InTurns (unbounded front) (λ k. steps k front)
in_turns front = record { into_spells = into_spells front; into_begins = into_begins front; from_spells = from_spells front; from_begins = from_begins front }
