-- Rules whose texts have a token, and lists of them.
use Rattle.std.proofs.Common.{◌≡◌, ◌≤◌, ◌<◌, ℕ, ◌+◌, Bool, List, [], ◌∷◌, ◌++◌, length, fold, Option, sym, ap, subst, ◌∙◌, arith, length-append}
use Rattle.std.specs.List.{All}
use Rattle.std.proofs.lemmas.List.Elements.{All-push}
use Rattle.ams_token.specs.declared.token.Token.{Token}
use Rattle.ams_tree.specs.Rule.{Rule, SpellsToken, SpellsAll, repeated}
use Rattle.ams_tree.specs.Expressions.{last}
use Rattle.short_laws.specs.Short.{most_tokens}

-- ---- texts with a token

abbrev pub Takes : (A : Type 0) → Rule A → Type 0
Takes A L = (a : A) (ts : List Token) (n : ℕ) → L.spells a ts n → 0 < length ts

pub one_token : (A : Type 0) (allowed : Bool) (cost : ℕ) (f : Token → Option A) (a : A) (ts : List Token) (n : ℕ) → SpellsToken allowed cost f a ts n → 0 < length ts
one_token A allowed cost f a ts n r = subst (λ (l : List Token). 0 < length l) (sym r.tokens) (omega arith)

parts_long : (ts front back : List Token) → ts ≡ front ++ back → length ts ≡ length front + length back
parts_long ts front back e = ap length e ∙ length-append front back

pub front_takes : (ts front back : List Token) → ts ≡ front ++ back → 0 < length front → 0 < length ts
front_takes ts front back e h = omega (arith, parts_long ts front back e, h)

pub back_takes : (ts front back : List Token) → ts ≡ front ++ back → 0 < length back → 0 < length ts
back_takes ts front back e h = omega (arith, parts_long ts front back e, h)

-- ---- texts of at most so many tokens

pub front_within : (ts front back : List Token) → ts ≡ front ++ back → length ts ≤ most_tokens → length front ≤ most_tokens
front_within ts front back e h = omega (arith, parts_long ts front back e, h)

pub back_within : (ts front back : List Token) → ts ≡ front ++ back → length ts ≤ most_tokens → length back ≤ most_tokens
back_within ts front back e h = omega (arith, parts_long ts front back e, h)

-- a first item, and others behind it
pub others_within : (ts front back inner rest : List Token) (k : ℕ) → ts ≡ front ++ back → back ≡ inner ++ rest → 0 < length front → k ≤ 1 + length inner → length ts ≤ most_tokens → k ≤ most_tokens
others_within ts front back inner rest k e f some few le = omega (arith, parts_long ts front back e, parts_long back inner rest f, some, few, le)

pub first_within : (ts front back : List Token) (k : ℕ) → ts ≡ front ++ back → 0 < length front → k ≤ 1 + length back → length ts ≤ most_tokens → k ≤ most_tokens
first_within ts front back k e some few le = omega (arith, parts_long ts front back e, some, few, le)

abbrev pub Makes : (A : Type 0) → (A → Type 0) → Rule A → Type 0
Makes A P L = (a : A) (ts : List Token) (n : ℕ) → length ts ≤ most_tokens → L.spells a ts n → P a

items_long : (X : Type 0) (xs start : List X) → length (fold (λ (all : List X) (x : X). all ++ x ∷ []) start xs) ≡ length start + length xs
items_long X [] start = omega arith
items_long X (x ∷ more) start = omega (arith, items_long X more (start ++ x ∷ []), length-append start (x ∷ []))

items_few : (X : Type 0) (L : Rule X) → Takes X L → (xs : List X) (ts : List Token) (n : ℕ) → SpellsAll L xs ts n → length xs ≤ length ts
items_few X L h [] ts n r = omega arith
items_few X L h (x ∷ more) ts n r =
    let rest = items_few X L h more r.back r.back_count r.spells_back in
    omega (arith, rest, h x r.front r.front_count r.spells_front, parts_long ts r.front r.back r.tokens)

-- a list has no more members behind the first ones than tokens
pub repeated_few : (X : Type 0) (L : Rule X) (start : List X) → Takes X L → (a : List X) (ts : List Token) (n : ℕ) → (repeated last L start).spells a ts n → length a ≤ length start + length ts
repeated_few X L start h a ts n r = omega (arith, ap length r.1, items_long X r.0 start, items_few X L h r.0 ts n r.2)

items_each : (X : Type 0) (P : X → Type 0) (L : Rule X) → Makes X P L
    → (xs start : List X) (ts : List Token) (n : ℕ) → length ts ≤ most_tokens → SpellsAll L xs ts n → All P start → All P (fold (λ (all : List X) (x : X). all ++ x ∷ []) start xs)
items_each X P L h [] start ts n le r k = k
items_each X P L h (x ∷ more) start ts n le r k =
    items_each X P L h more (start ++ x ∷ []) r.back r.back_count (back_within ts r.front r.back r.tokens le) r.spells_back
    (All-push P start x k (h x r.front r.front_count (front_within ts r.front r.back r.tokens le) r.spells_front))

pub repeated_each : (X : Type 0) (P : X → Type 0) (L : Rule X) (start : List X) → Makes X P L → All P start → Makes (List X) (All P) (repeated last L start)
repeated_each X P L start h k a ts n le r = subst (All P) (sym r.1) (items_each X P L h r.0 start ts n le r.2 k)
