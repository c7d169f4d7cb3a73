-- Rounding to the nearest whole number, halves away from zero.
use Rattle.std.specs.Prelude.{◌≡◌, ℕ, suc, ◌+◌, ◌*◌, ◌/◌, ◌<◌, ◌≤◌, Bool, true, false, ℤ, pos, negsuc, ◌-ℤ◌, ◌*ℤ◌, neg_ℤ, unsigned_abs}

-- the whole number nearest to m / d, the upper one where m / d lies half way
unfoldable pub nearest : ℕ → ℕ → ℕ
nearest m d = (2 * m + d) / (2 * d)

-- a magnitude with its sign
abbrev pub signed : Bool → ℕ → ℤ
signed false n = pos n
signed true n = neg_ℤ (pos n)

-- exactly one of the two is negative
abbrev pub signs_differ : ℤ → ℤ → Bool
signs_differ (pos a) (pos b) = false
signs_differ (pos a) (negsuc b) = true
signs_differ (negsuc a) (pos b) = true
signs_differ (negsuc a) (negsuc b) = false

-- the whole number nearest to n / d, the one farther from 0 where n / d lies half way
unfoldable pub rnd : ℤ → ℤ → ℤ
rnd (pos n) (pos d) = pos (nearest n d)
rnd (pos n) (negsuc d) = neg_ℤ (pos (nearest n (suc d)))
rnd (negsuc n) (pos d) = neg_ℤ (pos (nearest (suc n) d))
rnd (negsuc n) (negsuc d) = pos (nearest (suc n) (suc d))

-- q is nearest to n / d: it is at most half a unit away, and where it is half a unit away it is no nearer to 0 than n / d
pub record IsNearest (n d q : ℤ) : Type 0 where
  pub near : 2 * unsigned_abs (n -ℤ q *ℤ d) ≤ unsigned_abs d
  pub away : 2 * unsigned_abs (n -ℤ q *ℤ d) ≡ unsigned_abs d → unsigned_abs n ≤ unsigned_abs (q *ℤ d)

-- `rnd` rounds to the nearest
abbrev pub RoundsToNearest : Type 0
RoundsToNearest = (n d : ℤ) → 0 < unsigned_abs d → IsNearest n d (rnd n d)

-- no other number is nearest
abbrev pub NearestIsUnique : Type 0
NearestIsUnique = (n d q : ℤ) → 0 < unsigned_abs d → IsNearest n d q → q ≡ rnd n d
