-- What a function of the code cites beside the contracts of the reader.
use Rattle.std.proofs.Common.{◌≡◌, ℕ, suc, ◌+◌, ◌-◌, ◌<◌, ◌≤◌, Bool, true, false, ◌&&◌, nat_le, if◌then◌else◌, length, Ok, Err, List, [], ◌∷◌, Option, Some, refl, ap, ◌∙◌, arith}
use Rattle.ams_token.specs.declared.token.Token.{Token}
use Rattle.parse_steps.specs.declared.reader.Stop.TheVariants.{TooDeep}
use Rattle.parse_steps.specs.State.{State}
use Rattle.parse_steps.specs.Reading.{peek, state, from_next, and_then, pure, taken, take, terminal, terminal_at, at}

seen_list : {A : Type 0} (allowed : Bool) (cost : ℕ) (f : Token → Option A) (a : A) (ts : List Token) (n : ℕ) → from_next f (peek ts) ≡ Some a → terminal_at allowed cost f ts n ≡ and_then (take allowed cost (state ts n)) (λ _. pure a)
seen_list allowed cost f a [] n e = cc
seen_list allowed cost f a (t ∷ ts) n e = ap (λ o. taken allowed cost o ts n) e ∙ go (allowed && nat_le cost n)
  where
    go : (p : Bool) → (if p then Ok (a, state ts (n - cost)) else Err (TooDeep (suc (length ts)))) ≡ and_then {A = Unit {0}} (if p then Ok (tt, state ts (n - cost)) else Err (TooDeep (suc (length ts)))) (λ _. pure a)
    go true = refl
    go false = refl

-- a token that was looked at is then taken
pub terminal_seen : {A : Type 0} (allowed : Bool) (cost : ℕ) (f : Token → Option A) (a : A) (s : State) → from_next f (peek s.rest) ≡ Some a → terminal allowed cost f s ≡ and_then (take allowed cost s) (λ _. pure a)
terminal_seen allowed cost f a s e = seen_list allowed cost f a s.rest s.operators e

-- a recursion on a count of turns, beside a loop that counts up
pub one_more : {X : Type 0} {x : X} (f : ℕ → X) (n at : ℕ) → at < n → x ≡ f (n - at) → x ≡ f (suc (n - (at + 1)))
one_more f n at below e = let turn : n - at ≡ suc (n - (at + 1)) = omega arith in e ∙ ap f turn

pub no_more : {X : Type 0} {x : X} (f : ℕ → X) (n at : ℕ) → n ≤ at → x ≡ f (n - at) → x ≡ f 0
no_more f n at done e = let none : n - at ≡ 0 = omega arith in e ∙ ap f none

-- a recursion on how deep the code may go
pub deeper : {X : Type 0} (f : ℕ → X) (n : ℕ) → 0 < n → f n ≡ f (suc (n - 1))
deeper f n some = let e : n ≡ suc (n - 1) = omega arith in ap f e
