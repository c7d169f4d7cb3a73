-- Steps of the analogue side: the tip behind an attempt, and the attempts one after another.
use Rattle.std.specs.Prelude.{Bool, true, false, ℕ, zero, suc, ◌+◌, List, [], ◌∷◌, pos, replicate}
use Rattle.step_data.specs.declared.tip.Tip.{Tip}
use Rattle.step_data.specs.declared.tip.Attempt.{Attempt}
use Rattle.step_data.specs.declared.outcome.Cause.{Cause}
use Rattle.step_data.specs.declared.outcome.Kind.{Kind}
use Rattle.step_data.specs.declared.outcome.Kind.TheVariants.{Accepted, Rejected, Failed}

abbrev pub no_cause : Cause
no_cause = record { code = 0; column = 0 }

abbrev pub blank_tip : ℕ → Tip
blank_tip n = record { t = 0; x = replicate n (pos 0); h = 1; fresh = true }

abbrev pub blank_attempt : ℕ → Attempt
blank_attempt n = record { end = 0; kind = Accepted; x = replicate n (pos 0); next_h = 1; cause = no_cause }

abbrev pub is_accepted : Kind → Bool
is_accepted Accepted = true
is_accepted Rejected = false
is_accepted Failed = false

abbrev pub is_failed : Kind → Bool
is_failed Accepted = false
is_failed Rejected = false
is_failed Failed = true

-- where the attempt from a tip ends
abbrev pub end_of : Tip → ℕ
end_of tip = tip.t + tip.h

-- the tip behind an attempt, by its kind
abbrev pub next_by : Kind → Tip → Attempt → Tip
next_by Accepted tip a = record { t = a.end; x = a.x; h = a.next_h; fresh = false }
next_by Rejected tip a = record tip { h = a.next_h }
next_by Failed tip a = tip

abbrev pub next : Tip → Attempt → Tip
next tip a = next_by a.kind tip a

-- nothing comes after a failed attempt
abbrev pub unless_failed : Kind → List Attempt → List Attempt
unless_failed Accepted later = later
unless_failed Rejected later = later
unless_failed Failed later = []

-- the first n attempts from a tip, each from the tip behind the one before
abbrev pub stream : (Tip → Attempt) → Tip → ℕ → List Attempt
stream attempt tip zero = []
stream attempt tip (suc n) =
    attempt tip ∷ unless_failed (attempt tip).kind (stream attempt (next tip (attempt tip)) n)
