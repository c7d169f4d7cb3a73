-- Where a rule has more levels or operators than reading, inside one more level too.
use Rattle.std.proofs.Common.{◌≡◌, ◌⊎◌, ℕ, zero, suc, ◌<◌, ◌≤◌, true, sym, inl, inr, arith, true≢false}
use Rattle.ams_tree.specs.Expressions.{allows, below}
use Rattle.parse_expr.proofs.RulesSound.{More}

-- the rule has more levels or operators than reading
abbrev pub Exceeded : ℕ → ℕ → ℕ → ℕ → Type 0
Exceeded c n l d = (n < d) ⊎ (c < l)

below_less : (n d : ℕ) → below n < below d → n < d
below_less zero zero lt = absurd (omega (arith, lt))
below_less zero (suc d) lt = omega arith
below_less (suc n) zero lt = absurd (omega (arith, lt))
below_less (suc n) (suc d) lt = omega (arith, lt)

pub from_below : (c n l d : ℕ) → Exceeded c (below n) l (below d) → Exceeded c n l d
from_below c n l d (inl o) = inl (below_less n d o)
from_below c n l d (inr o) = inr o

pub to_below : (c n l d : ℕ) → allows n ≡ true → More c n l d → More c (below n) l (below d)
to_below c zero l d e o = absurd (true≢false (sym e))
to_below c (suc n) l zero e o = let lt : suc n < 0 = o.0 in absurd (omega (arith, lt))
to_below c (suc n) l (suc d) e o = let lt : suc n < suc d = o.0 in (omega (arith, lt), o.1)

pub below_le : (n d : ℕ) → n ≤ d → below n ≤ below d
below_le zero d le = omega arith
below_le (suc n) zero le = absurd (omega (arith, le))
below_le (suc n) (suc d) le = omega (arith, le)
