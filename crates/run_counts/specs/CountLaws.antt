-- Counting events in parts.
use Rattle.std.proofs.Common.{◌≡◌, ℕ, ◌+◌, ◌≤◌, List, [], ◌∷◌, ◌++◌, length, ap, ◌∙◌, arith}
use Rattle.step_data.specs.declared.event.Event.{Event}
use Rattle.step_data.specs.declared.event.Event.TheVariants as event
use Rattle.run_counts.specs.declared.counts.EventCounts.{EventCounts}
use Rattle.run_counts.specs.Counts.{points_at, signals_at, crossings_at, among, gained, total, CountsJoin}

pub among_append : (counts : Event → ℕ) (a b : List Event) → among counts (a ++ b) ≡ among counts a + among counts b
among_append counts [] b = omega arith
among_append counts (e ∷ a) b = let rest = among_append counts a b in omega (arith, rest)

-- counts by their numbers
abbrev numbers : ℕ → ℕ → ℕ → EventCounts
numbers p s x = record { points = p; signals = s; crossings = x }

pub counts_are : (p p' s s' x x' : ℕ) → p ≡ p' → s ≡ s' → x ≡ x' → numbers p s x ≡ numbers p' s' x'
counts_are p p' s s' x x' e f g = ap (λ n. numbers n s x) e ∙ ap (λ n. numbers p' n x) f ∙ ap (numbers p' s') g

pub counts_join : CountsJoin
counts_join c a b =
    counts_are _ _ _ _ _ _ (let h = among_append points_at a b in omega (arith, h)) (let h = among_append signals_at a b in omega (arith, h)) (let h = among_append crossings_at a b in omega (arith, h))

-- an event counts at most once
one_at_most : (e : Event) → points_at e + signals_at e + crossings_at e ≤ 1
one_at_most (event.Solved t n x) = omega arith
one_at_most (event.Cross t n k on) = omega arith
one_at_most (event.Signal t n i v) = omega arith
one_at_most (event.Domain t n) = omega arith
one_at_most (event.Broke t n elements) = omega arith
one_at_most (event.Report t n severity text) = omega arith
one_at_most (event.Branch t n k b) = omega arith

pub among_few : (es : List Event) → among points_at es + among signals_at es + among crossings_at es ≤ length es
among_few [] = omega arith
among_few (e ∷ es) = let one = one_at_most e in let rest = among_few es in omega (arith, one, rest)

pub total_few : (c : EventCounts) (es : List Event) → total (gained c es) ≤ total c + length es
total_few c es = let h = among_few es in omega (arith, h)
