-- The bounds are near exactly where no probe is left.
use Rattle.std.proofs.Common.{◌≡◌, ℕ, Bool, true, false, cond, Some, None, refl}
use Rattle.lockstep_model.specs.Crossing.{Bounds, is_near, middle}
use Rattle.above_events.specs.Locating.{middle_of}

none-near : (b : Bool) (m : ℕ) → cond b None (Some m) ≡ None → true ≡ b
none-near true m e = refl
none-near false m e = cc

some-far : (b : Bool) (m n : ℕ) → cond b None (Some m) ≡ Some n → false ≡ b
some-far true m n e = cc
some-far false m n e = refl

pub none_is_near : (xres : ℕ) (b : Bounds) → middle_of xres b ≡ None → true ≡ is_near xres b
none_is_near xres b e = none-near (is_near xres b) (middle b) e

pub some_is_far : (xres : ℕ) (b : Bounds) (n : ℕ) → middle_of xres b ≡ Some n → false ≡ is_near xres b
some_is_far xres b n e = some-far (is_near xres b) (middle b) n e

some-middle : (b : Bool) (m n : ℕ) → cond b None (Some m) ≡ Some n → n ≡ m
some-middle true m n e = cc
some-middle false m n e = cc

pub some_is_middle : (xres : ℕ) (b : Bounds) (n : ℕ) → middle_of xres b ≡ Some n → n ≡ middle b
some_is_middle xres b n e = some-middle (is_near xres b) (middle b) n e
