-- What a rule of a grammar says: which tokens spell which tree, and which tokens begin a text of the rule.
use Rattle.std.specs.Prelude.{◌≡◌, ◌⊎◌, ℕ, ◌+◌, ◌≤◌, Bool, true, false, IsTrue, List, [], ◌∷◌, ◌++◌, Option, Some, None, fold}
use Rattle.ams_token.specs.declared.token.Token.{Token}

-- A rule that gives trees of type A. The number counts the operators, calls and attributes among the tokens.
pub record Rule (A : Type 0) : Type 1 where
  pub spells : A → List Token → ℕ → Type 0
  pub begins : List Token → ℕ → Type 0

-- ---- nothing

pub record SpellsNothing {A : Type 0} (x a : A) (ts : List Token) (n : ℕ) : Type 0 where
  pub tree : a ≡ x
  pub tokens : ts ≡ []
  pub count : n ≡ 0

pub record BeginsNothing (ts : List Token) (n : ℕ) : Type 0 where
  pub tokens : ts ≡ []
  pub count : n ≡ 0

-- no token, and this tree
abbrev pub pure : {A : Type 0} → A → Rule A
pure x = record { spells = SpellsNothing x; begins = BeginsNothing }

-- ---- one token

pub record SpellsToken {A : Type 0} (allowed : Bool) (cost : ℕ) (f : Token → Option A) (a : A) (ts : List Token) (n : ℕ) : Type 0 where
  pub token : Token
  pub tokens : ts ≡ token ∷ []
  pub tree : f token ≡ Some a
  pub count : n ≡ cost
  pub allows : IsTrue allowed

-- nothing, or that token
abbrev pub BeginsToken : {A : Type 0} → Bool → ℕ → (Token → Option A) → List Token → ℕ → Type 0
BeginsToken {A} allowed cost f ts n = BeginsNothing ts n ⊎ ((a : A) × SpellsToken allowed cost f a ts n)

-- a token from which f reads a part of the tree, where it may stand
abbrev pub terminal : {A : Type 0} → Bool → ℕ → (Token → Option A) → Rule A
terminal allowed cost f = record { spells = SpellsToken allowed cost f; begins = BeginsToken allowed cost f }

abbrev pub one : {A : Type 0} → (Token → Option A) → Rule A
one = terminal true 0

-- a token that counts as an operator
abbrev pub counted : {A : Type 0} → (Token → Option A) → Rule A
counted = terminal true 1

-- ---- one part after the other

pub record SpellsBoth {A B : Type 0} (L : Rule A) (M : A → Rule B) (b : B) (ts : List Token) (n : ℕ) : Type 0 where
  pub first : A
  pub front : List Token
  pub back : List Token
  pub front_count : ℕ
  pub back_count : ℕ
  pub tokens : ts ≡ front ++ back
  pub count : n ≡ front_count + back_count
  pub spells_front : L.spells first front front_count
  pub spells_back : (M first).spells b back back_count

-- a whole spelling of the first part, and then a beginning of the second
pub record BeginsSecond {A B : Type 0} (L : Rule A) (M : A → Rule B) (ts : List Token) (n : ℕ) : Type 0 where
  pub first : A
  pub front : List Token
  pub back : List Token
  pub front_count : ℕ
  pub back_count : ℕ
  pub tokens : ts ≡ front ++ back
  pub count : n ≡ front_count + back_count
  pub spells_front : L.spells first front front_count
  pub begins_back : (M first).begins back back_count

infixl 10 ◌>>=◌
abbrev pub ◌>>=◌ : {A B : Type 0} → Rule A → (A → Rule B) → Rule B
L >>= M = record { spells = SpellsBoth L M; begins = λ ts n. L.begins ts n ⊎ BeginsSecond L M ts n }

infixl 10 ◌>>◌
abbrev pub ◌>>◌ : {A B : Type 0} → Rule A → Rule B → Rule B
L >> M = L >>= (λ _. M)

-- ---- one part or the other

infixl 9 ◌<|>◌
abbrev pub ◌<|>◌ : {A : Type 0} → Rule A → Rule A → Rule A
L <|> M = record { spells = λ a ts n. L.spells a ts n ⊎ M.spells a ts n; begins = λ ts n. L.begins ts n ⊎ M.begins ts n }

-- ---- as often as one likes

-- an item, and then the rest
pub record SpellsItem {X : Type 0} (L : Rule X) (x : X) (Rest : List Token → ℕ → Type 0) (ts : List Token) (n : ℕ) : Type 0 where
  pub front : List Token
  pub back : List Token
  pub front_count : ℕ
  pub back_count : ℕ
  pub tokens : ts ≡ front ++ back
  pub count : n ≡ front_count + back_count
  pub spells_front : L.spells x front front_count
  pub spells_back : Rest back back_count

-- these items, one after the other
abbrev pub SpellsAll : {X : Type 0} → Rule X → List X → List Token → ℕ → Type 0
SpellsAll L [] ts n = BeginsNothing ts n
SpellsAll L (x ∷ xs) ts n = SpellsItem L x (SpellsAll L xs) ts n

-- whole items, and then a beginning of one
abbrev pub BeginsAfter : {X : Type 0} → Rule X → List X → List Token → ℕ → Type 0
BeginsAfter L [] ts n = L.begins ts n
BeginsAfter L (x ∷ xs) ts n = SpellsItem L x (BeginsAfter L xs) ts n

-- as many items as there are, each of which makes a new tree of the tree so far
abbrev pub repeated : {A X : Type 0} → (A → X → A) → Rule X → A → Rule A
repeated f L start = record {
  spells = λ a ts n. (xs : List _) × (a ≡ fold f start xs) × SpellsAll L xs ts n;
  begins = λ ts n. BeginsNothing ts n ⊎ ((xs : List _) × BeginsAfter L xs ts n);
}

-- ---- a text whose operators count for it alone, with so many of them at most

pub record SpellsOuter {A : Type 0} (L : Rule A) (limit : ℕ) (a : A) (ts : List Token) (n : ℕ) : Type 0 where
  pub inside : ℕ
  pub within : inside ≤ limit
  pub spells : L.spells a ts inside
  pub count : n ≡ 0

pub record BeginsOuter {A : Type 0} (L : Rule A) (limit : ℕ) (ts : List Token) (n : ℕ) : Type 0 where
  pub inside : ℕ
  pub within : inside ≤ limit
  pub begins : L.begins ts inside
  pub count : n ≡ 0

abbrev pub outermost : {A : Type 0} → Rule A → ℕ → Rule A
outermost L limit = record { spells = SpellsOuter L limit; begins = BeginsOuter L limit }

-- ---- what may be left out

abbrev pub optional : {A : Type 0} → Rule A → Rule (Option A)
optional L = (L >>= (λ x. pure (Some x))) <|> pure None

abbrev pub present : {A : Type 0} → Rule A → Rule Bool
present L = (L >> pure true) <|> pure false
