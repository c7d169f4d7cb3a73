-- Calls that may fail, one after the other.
use Rattle.std.specs.Prelude.{List, [], ◌∷◌, ◌++◌, Result, Ok, Err}

-- what follows where there was an answer; the first fault is the fault of the whole
abbrev pub and_then : {A B E : Type 0} → (A → Result B E) → Result A E → Result B E
and_then f (Ok a) = f a
and_then f (Err e) = Err e

-- the same, for a chain of calls
infixl 10 ◌>>=◌
abbrev pub ◌>>=◌ : {A B E : Type 0} → Result A E → (A → Result B E) → Result B E
m >>= f = and_then f m

-- a pass over a list, in which any element may fail: all answers in order, or the first fault
unfoldable pub each : {A B E : Type 0} → (A → Result B E) → List A → Result (List B) E
each f [] = Ok []
each f (a ∷ more) = and_then (λ b. and_then (λ bs. Ok (b ∷ bs)) (each f more)) (f a)

-- what is done, and what the rest gives
abbrev pub joined : {A E : Type 0} → List A → Result (List A) E → Result (List A) E
joined done rest = and_then (λ more. Ok (done ++ more)) rest

-- what a call that writes has answered: what is written, where it gives no fault
abbrev pub answer : {A E : Type 0} → Result (Unit {0}) E → A → Result A E
answer (Ok u) a = Ok a
answer (Err e) a = Err e
