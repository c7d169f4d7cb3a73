-- Lists that rules of a grammar spell.
use Rattle.std.proofs.Common.{◌≡◌, ℕ, ◌<◌, Bool, true, false, List, [], ◌∷◌, ◌++◌, length, map, fold, refl, sym, subst, arith}
use Rattle.std.specs.Prelude.{◌&&◌}
use Rattle.std.specs.List.{All}
use Rattle.std.proofs.lemmas.Bool.Decides.{nat_tests}
use Rattle.std.proofs.lemmas.Grind.{common_steps}
use Rattle.std.proofs.lemmas.List.Elements.{All-push, All-head, All-tail}
use Rattle.ams_token.specs.declared.token.Token.{Token}
use Rattle.ams_tree.specs.Rule.{Rule, SpellsAll, repeated}
use Rattle.ams_tree.specs.Expressions.{last}
use Rattle.written_laws.specs.Written.{has_some, all_true}

-- what is spelled is so
abbrev pub Makes : (A : Type 0) → (A → Type 0) → Rule A → Type 0
Makes A P L = (a : A) (ts : List Token) (n : ℕ) → L.spells a ts n → P a

-- ---- items, one after the other

pub items_each : (X : Type 0) (P : X → Type 0) (L : Rule X) → Makes X P L
    → (xs start : List X) (ts : List Token) (n : ℕ) → SpellsAll L xs ts n → All P start → All P (fold (λ (all : List X) (x : X). all ++ x ∷ []) start xs)
items_each X P L h [] start ts n r k = k
items_each X P L h (x ∷ more) start ts n r k =
    items_each X P L h more (start ++ x ∷ []) r.back r.back_count r.spells_back (All-push P start x k (h x r.front r.front_count r.spells_front))

pub items_some : (X : Type 0) (xs start : List X) → 0 < length start → 0 < length (fold (λ (all : List X) (x : X). all ++ x ∷ []) start xs)
items_some X [] start h = h
items_some X (x ∷ more) start h = items_some X more (start ++ x ∷ []) (grind (arith, common_steps))

pub repeated_each : (X : Type 0) (P : X → Type 0) (L : Rule X) (start : List X) → Makes X P L → All P start → Makes (List X) (All P) (repeated last L start)
repeated_each X P L start h k a ts n r = subst (All P) (sym r.1) (items_each X P L h r.0 start ts n r.2 k)

pub repeated_some : (X : Type 0) (L : Rule X) (start : List X) → 0 < length start → Makes (List X) (λ (a : List X). 0 < length a) (repeated last L start)
repeated_some X L start h a ts n r = subst (λ (a : List X). 0 < length a) (sym r.1) (items_some X r.0 start h)

-- ---- tests

pub and_true : (a b : Bool) → a ≡ true → b ≡ true → (a && b) ≡ true
and_true true b h g = g
and_true false b h g = absurd (cc)

pub some_true : (A : Type 0) (all : List A) → 0 < length all → has_some all ≡ true
some_true A all h = grind (arith, nat_tests)

pub all_are_true : (X : Type 0) (p : X → Bool) (xs : List X) → All (λ (x : X). p x ≡ true) xs → all_true (map p xs) ≡ true
all_are_true X p [] h = refl
all_are_true X p (x ∷ more) h =
    and_true (p x) (all_true (map p more)) (All-head (λ (y : X). p y ≡ true) x more h) (all_are_true X p more (All-tail (λ (y : X). p y ≡ true) x more h))

pub map_some : (X Y : Type 0) (f : X → Y) (xs : List X) → 0 < length xs → 0 < length (map f xs)
map_some X Y f [] h = h
map_some X Y f (x ∷ more) h = omega arith
