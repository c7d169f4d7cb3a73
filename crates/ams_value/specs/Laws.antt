-- Laws of values, which proofs of this crate and of others cite.
use Rattle.std.proofs.Common.{◌≡◌, ℕ, Bool, true, false, ◌==◌, ◌&&◌, List, refl, ap, arith}
use Rattle.std.specs.Ordering.{int_eq}
use Rattle.std.specs.Bool.{Decides}
use Rattle.std.proofs.lemmas.Bool.Decides.{Decides-eqb, Decides-int_eq, Decides-and, Decides-like}
use Rattle.ams_value.specs.declared.val.Val.{Val}
use Rattle.ams_value.specs.declared.val.Val.TheVariants as val
use Rattle.ams_value.specs.Types.{IsValue, is_in_range}
use Rattle.ams_value.specs.Values.{same_truth, equals}

-- ---- ranges

pub value_of_in_range : (literals : List ℕ) (v : Val) → is_in_range literals v ≡ true → IsValue v
value_of_in_range literals (val.Bool b) e = tt
value_of_in_range literals (val.Bit b) e = tt
value_of_in_range literals (val.Int i) e = grind arith
value_of_in_range literals (val.Real r) e = grind arith
value_of_in_range literals (val.Time t) e = grind arith
value_of_in_range literals (val.Enum number position) e = tt
value_of_in_range literals (val.Bits length content) e = grind arith

-- ---- equal values

pub truths_decide : (a b : Bool) → Decides (same_truth a b) (a ≡ b)
truths_decide true true = (λ e. refl, λ e. refl)
truths_decide true false = (λ e. cc, λ e. cc)
truths_decide false true = (λ e. cc, λ e. cc)
truths_decide false false = (λ e. refl, λ e. refl)

pub values_decide : (a b : Val) → Decides (equals a b) (a ≡ b)
unfolding equals
values_decide (val.Bool a) (val.Bool b) =
    Decides-like (same_truth a b) (λ e. ap val.Bool e) (λ e. cc) (truths_decide a b)
values_decide (val.Bit a) (val.Bit b) =
    Decides-like (same_truth a b) (λ e. ap val.Bit e) (λ e. cc) (truths_decide a b)
values_decide (val.Int a) (val.Int b) =
    Decides-like (int_eq a b) (λ e. ap val.Int e) (λ e. cc) (Decides-int_eq a b)
values_decide (val.Real a) (val.Real b) =
    Decides-like (int_eq a b) (λ e. ap val.Real e) (λ e. cc) (Decides-int_eq a b)
values_decide (val.Time a) (val.Time b) =
    Decides-like (int_eq a b) (λ e. ap val.Time e) (λ e. cc) (Decides-int_eq a b)
values_decide (val.Enum a i) (val.Enum b j) =
    Decides-like (a == b && i == j) (λ e. cc) (λ e. (cc, cc))
    (Decides-and (a == b) (i == j) (Decides-eqb a b) (Decides-eqb i j))
values_decide (val.Bits m a) (val.Bits n b) =
    Decides-like (m == n && a == b) (λ e. cc) (λ e. (cc, cc))
    (Decides-and (m == n) (a == b) (Decides-eqb m n) (Decides-eqb a b))
values_decide _ _ = (λ e. cc, λ e. cc)

-- a value equals itself
pub equals_itself : (a : Val) → equals a a ≡ true
equals_itself a = (values_decide a a).1 refl

pub ruleset values = (value_of_in_range, values_decide)
