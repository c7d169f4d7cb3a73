-- The stream of attempts: a longer one goes on from a shorter one.
use Rattle.std.specs.Prelude.{◌≡◌, ℕ, zero, suc, List, [], ◌∷◌, ◌++◌, refl}
use Rattle.std.proofs.Common.{ap}
use Rattle.step_data.specs.declared.tip.Tip.{Tip}
use Rattle.step_data.specs.declared.tip.Attempt.{Attempt}
use Rattle.step_data.specs.declared.outcome.Kind.{Kind}
use Rattle.step_data.specs.declared.outcome.Kind.TheVariants.{Accepted, Rejected, Failed}
use Rattle.step_data.specs.Steps.{stream, unless_failed, next}

-- the second list goes on from the first
abbrev pub Extends : List Attempt → List Attempt → Type 0
Extends shorter longer = (more : List Attempt) × (shorter ++ more ≡ longer)

unless_failed-extends : (kind : Kind) (shorter longer : List Attempt) → Extends shorter longer → Extends (unless_failed kind shorter) (unless_failed kind longer)
unless_failed-extends Accepted shorter longer h = h
unless_failed-extends Rejected shorter longer h = h
unless_failed-extends Failed shorter longer h = ([], refl)

cons-extends : (a : Attempt) (shorter longer : List Attempt) → Extends shorter longer → Extends (a ∷ shorter) (a ∷ longer)
cons-extends a shorter longer (more, e) = (more, ap (λ rest. a ∷ rest) e)

-- the first n attempts begin the first n + 1
pub stream_extends : (attempt : Tip → Attempt) (tip : Tip) (n : ℕ) → Extends (stream attempt tip n) (stream attempt tip (suc n))
stream_extends attempt tip zero = (stream attempt tip (suc zero), refl)
stream_extends attempt tip (suc n) =
    let a = attempt tip in
    cons-extends a (unless_failed a.kind (stream attempt (next tip a) n)) (unless_failed a.kind (stream attempt (next tip a) (suc n)))
    (unless_failed-extends a.kind (stream attempt (next tip a) n) (stream attempt (next tip a) (suc n)) (stream_extends attempt (next tip a) n))
