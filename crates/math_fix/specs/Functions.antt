-- The mathematical functions, step by step over whole numbers of units. These steps are the definition.
use Rattle.std.specs.Prelude.{◌≡◌, ℕ, zero, suc, ◌+◌, ◌-◌, ◌*◌, ◌≤◌, ℤ, pos, negsuc, ◌+ℤ◌, ◌-ℤ◌, ◌*ℤ◌, neg_ℤ, int_lt, nat_le, if◌then◌else◌, List, [], ◌∷◌, ◌++◌, Result, Ok, Err}
use Rattle.std.specs.Int.{int_div_euclid, int_rem_euclid}
use Rattle.fix_core.specs.Units.{units_per_one}
use Rattle.fix_core.specs.declared.NumFault.{NumFault}
use Rattle.fix_core.specs.declared.NumFault.TheVariants.{Overflow, Domain}
use Rattle.fix_core.specs.Rounding.{rnd}
use Rattle.fix_core.specs.Passes.{and_then}
use Rattle.fix_core.specs.Fixed.{one, product_of}

-- ---- series

-- the sum of some numbers
unfoldable pub total : List ℤ → ℤ
total [] = pos 0
total (term ∷ more) = term +ℤ total more

-- the first n terms of a series, from term 0 on
unfoldable pub first_terms : (ℕ → ℤ) → ℕ → List ℤ
first_terms term zero = []
first_terms term (suc n) = first_terms term n ++ term n ∷ []

-- their sum
unfoldable pub series : (ℕ → ℤ) → ℕ → ℤ
series term n = total (first_terms term n)

-- ---- exp

-- f ^ k / k!, for a fraction f, each from the one before and rounded
unfoldable pub exp_term : ℤ → ℕ → ℤ
exp_term f zero = one
exp_term f (suc k) = rnd (exp_term f k *ℤ f) (pos (suc k * units_per_one))

-- n times multiplied by a factor, rounded each time
unfoldable pub multiplied_by : ℕ → ℤ → ℤ → Result ℤ NumFault
multiplied_by zero factor s = Ok s
multiplied_by (suc n) factor s = and_then (multiplied_by n factor) (product_of s factor)

-- s times the n-th power of e
abbrev pub times_power_of_e : ℤ → ℤ → Result ℤ NumFault
times_power_of_e (pos n) s = multiplied_by n (pos 2718281828459) s
times_power_of_e (negsuc n) s = multiplied_by (suc n) (pos 367879441171) s

-- a number is n + f, with n whole and f from 0 up to below 1: the sum of 17 terms for f, times the n-th power of e. Above 30 it is too large, and below -40 it is 0
unfoldable pub exp_of : ℤ → Result ℤ NumFault
exp_of x =
    let n : ℤ = int_div_euclid x one in
    let f : ℤ = int_rem_euclid x one in
    if int_lt (pos 30) n then Err Overflow else
    if int_lt n (negsuc 39) then Ok (pos 0) else
    times_power_of_e n (series (exp_term f) 17)

-- ---- sin and cos

-- what is left of x beside the nearest multiple of 2 pi
unfoldable pub angle_of : ℤ → ℤ
angle_of x = x -ℤ (rnd x (pos 6283185307180) *ℤ pos 6283185307180)

-- the next term from the one before, over the product of the next two whole numbers
abbrev pub next_term : ℤ → ℕ → ℤ → ℤ
next_term r product t = neg_ℤ (rnd (rnd (t *ℤ r) one *ℤ r) (pos (product * units_per_one)))

unfoldable pub sin_term : ℤ → ℕ → ℤ
sin_term r zero = r
sin_term r (suc k) = next_term r (2 * suc k * (2 * suc k + 1)) (sin_term r k)

unfoldable pub cos_term : ℤ → ℕ → ℤ
cos_term r zero = one
cos_term r (suc k) = next_term r ((2 * suc k - 1) * (2 * suc k)) (cos_term r k)

unfoldable pub sin_of : ℤ → ℤ
sin_of x = series (sin_term (angle_of x)) 13

unfoldable pub cos_of : ℤ → ℤ
cos_of x = series (cos_term (angle_of x)) 13

-- ---- sqrt

-- r is the greatest number whose square is at most n
pub record IsRoot (n r : ℕ) : Type 0 where
  pub square : r * r ≤ n
  pub greatest : (s : ℕ) → s * s ≤ n → s ≤ r

-- the greatest number whose square is at most n, from that for n - 1
unfoldable pub root : ℕ → ℕ
root zero = 0
root (suc n) = if nat_le ((root n + 1) * (root n + 1)) (suc n) then root n + 1 else root n

unfoldable pub sqrt_of : ℤ → Result ℤ NumFault
sqrt_of (pos n) = Ok (pos (root (n * units_per_one)))
sqrt_of (negsuc n) = Err Domain

-- `root` is the greatest such number, and the only one that is
pub record RootIsGreatest : Type 0 where
  pub greatest : (n : ℕ) → IsRoot n (root n)
  pub unique : (n r : ℕ) → IsRoot n r → r ≡ root n
