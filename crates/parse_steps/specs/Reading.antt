-- Reading as a function on lists of tokens, by the parts that the grammar is made of.
use Rattle.std.specs.Prelude.{◌≡◌, ◌≢◌, ℕ, zero, suc, ◌-◌, Bool, true, false, ◌&&◌, if◌then◌else◌, nat_le, List, [], ◌∷◌, length, Option, Some, None, is_some, Result, Ok, Err}
use Rattle.ams_token.specs.declared.token.Token.{Token}
use Rattle.parse_steps.specs.declared.reader.Stop.{Stop}
use Rattle.parse_steps.specs.declared.reader.Stop.TheVariants.{Memory, Syntax, TooDeep}
use Rattle.parse_steps.specs.State.{State}

abbrev pub state : List Token → ℕ → State
state ts n = record { rest = ts; operators = n }

-- how many tokens are left where reading stops
abbrev pub stop_left : Stop → ℕ
stop_left Memory = 0
stop_left (Syntax k) = k
stop_left (TooDeep k) = k

abbrev pub Outcome : Type 0 → Type 0
Outcome A = Result (A × State) Stop

abbrev pub Parser : Type 0 → Type 0
Parser A = State → Outcome A

abbrev pub and_then : {A B : Type 0} → Outcome A → (A → Parser B) → Outcome B
and_then (Ok p) f = f p.0 p.1
and_then (Err e) f = Err e

infixl 10 ◌>>=◌
abbrev pub ◌>>=◌ : {A B : Type 0} → Parser A → (A → Parser B) → Parser B
p >>= f = λ s. and_then (p s) f

infixl 10 ◌>>◌
abbrev pub ◌>>◌ : {A B : Type 0} → Parser A → Parser B → Parser B
p >> q = p >>= (λ _. q)

abbrev pub pure : {A : Type 0} → A → Parser A
pure a = λ s. Ok (a, s)

-- ---- the next token

abbrev pub peek : List Token → Option Token
peek [] = None
peek (t ∷ ts) = Some t

abbrev pub tail : List Token → List Token
tail [] = []
tail (t ∷ ts) = ts

abbrev pub advance : State → State
advance s = record s { rest = tail s.rest }

-- takes the next token, unless a limit refuses it
abbrev pub take : Bool → ℕ → Parser (Unit {0})
take allowed cost = λ s.
    if allowed && nat_le cost s.operators then Ok (tt, state (tail s.rest) (s.operators - cost)) else Err (TooDeep (length s.rest))

-- what a next token, where there is one, is read as
abbrev pub from_next : {A : Type 0} → (Token → Option A) → Option Token → Option A
from_next f None = None
from_next f (Some t) = f t

abbrev pub seen : {A : Type 0} → (Token → Option A) → List Token → Option A
seen f ts = from_next f (peek ts)

abbrev pub at : {A : Type 0} → (Token → Option A) → List Token → Bool
at f ts = is_some (seen f ts)

abbrev pub taken : {A : Type 0} → Bool → ℕ → Option A → List Token → ℕ → Outcome A
taken allowed cost None ts n = Err (Syntax (suc (length ts)))
taken allowed cost (Some a) ts n =
    if allowed && nat_le cost n then Ok (a, state ts (n - cost)) else Err (TooDeep (suc (length ts)))

abbrev pub terminal_at : {A : Type 0} → Bool → ℕ → (Token → Option A) → List Token → ℕ → Outcome A
terminal_at allowed cost f [] n = Err (Syntax 0)
terminal_at allowed cost f (t ∷ ts) n = taken allowed cost (f t) ts n

abbrev pub terminal : {A : Type 0} → Bool → ℕ → (Token → Option A) → Parser A
terminal allowed cost f = λ s. terminal_at allowed cost f s.rest s.operators

abbrev pub one : {A : Type 0} → (Token → Option A) → Parser A
one = terminal true 0

abbrev pub counted : {A : Type 0} → (Token → Option A) → Parser A
counted = terminal true 1

-- ---- choices, by a test on the next token

abbrev pub choose : {A : Type 0} → (List Token → Bool) → Parser A → Parser A → Parser A
choose test p q = λ s. if test s.rest then p s else q s

-- ---- what may be left out

abbrev pub optional : {A : Type 0} → (List Token → Bool) → Parser A → Parser (Option A)
optional test p = choose test (p >>= (λ x. pure (Some x))) (pure None)

abbrev pub present : {A : Type 0} → (List Token → Bool) → Parser A → Parser Bool
present test p = choose test (p >> pure true) (pure false)

-- ---- repetitions. The number bounds the turns, and each turn takes a token.

abbrev pub turns : {A X : Type 0} → (List Token → Bool) → (A → X → A) → Parser X → ℕ → A → Parser A
turns test f p zero a = pure a
turns test f p (suc k) a = choose test (p >>= (λ x. turns test f p k (f a x))) (pure a)

abbrev pub repeated : {A X : Type 0} → (List Token → Bool) → (A → X → A) → Parser X → A → Parser A
repeated test f p a = λ s. turns test f p (length s.rest) a s

-- ---- a text whose operators count for it alone

abbrev pub fresh : {A : Type 0} → ℕ → Parser A → Parser A
fresh limit p = λ s. and_then (p (state s.rest limit)) (λ a t. Ok (a, state t.rest s.operators))

-- ---- what stands one level lower, where there may be one

abbrev pub lower : {A : Type 0} → (ℕ → Parser A) → ℕ → Parser A
lower f zero = λ s. Err (TooDeep (length s.rest))
lower f (suc n) = f n

-- ---- what a function that reads ensures: the outcome of its rule, unless memory ran out

abbrev pub Reads : {A : Type 0} → Outcome A → Result A Stop → State → Type 0
Reads outcome (Ok a) new = outcome ≡ Ok (a, new)
Reads outcome (Err e) new = e ≢ Memory → outcome ≡ Err e
