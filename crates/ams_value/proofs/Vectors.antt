-- Bits of vectors.
use Rattle.std.proofs.Common.{◌≡◌, ℕ, zero, suc, ◌+◌, ◌-◌, ◌*◌, ◌/◌, ◌%◌, ◌^◌, ◌<◌, ◌≤◌, ℤ, pos, negsuc, ◌<ℤ◌, ◌≤ℤ◌, true, false, Ok, inl, inr, rules, refl, sym, ap, ◌∙◌, arith}
use Rattle.std.proofs.lemmas.Nat.{and_le_l, or_lt, xor_lt, one_shl, mod_below, div_below, mul-le, pow-add}
use Rattle.std.proofs.lemmas.Bool.{cases_eq, cases_lt}
use Rattle.std.proofs.lemmas.Int.{ints}
use Rattle.std.proofs.Math.Nat.{pow-le-pow_right, div-eq_of_lt, mod-eq_of_lt, div-le_self}
use Rattle.std.specs.Prelude.{min, unsigned_abs, bit_and, bit_or, bit_xor, IsSome}
use Rattle.ams_value.specs.declared.value_type.ValueType.TheVariants.{BitVector}
use Rattle.ams_value.specs.declared.op.BinaryOperator.{BinaryOperator}
use Rattle.ams_value.specs.declared.op.BinaryOperator.TheVariants.{Sll, Srl, Sla, Sra, Rol, Ror}
use Rattle.ams_value.specs.declared.val.Val.{Val}
use Rattle.ams_value.specs.declared.val.Val.TheVariants.{Bit, Bits, Int}
use Rattle.ams_value.specs.Types.{Fit, logical_type, concat_type, IsValue, type_of}
use Rattle.ams_value.specs.Values.{all_ones, left_shifted, right_shifted, last_filled, first_filled, rotated, shifted, opposite, shift_of, width_of, content_of}

pub grow : (i j : ℕ) → i ≤ j → 2 ^ i ≤ 2 ^ j
grow i j h = let two : 0 < 2 = omega arith in pow-le-pow_right two h

pub power_pos : (n : ℕ) → 0 < 2 ^ n
power_pos n = let least : 2 ^ 0 ≤ 2 ^ n = grow 0 n (omega arith) in omega arith

-- a one at a place below 64
pub one_at : (n : ℕ) → n < 64 → 1 * 2 ^ n % 18446744073709551616 ≡ 2 ^ n
one_at n h = one_shl n 64 h

pub ruleset ones = (one_at, power_pos)

pub ruleset ranges = (one_at)

pub and_below : (n a b : ℕ) → a < 2 ^ n → bit_and a b ≤ all_ones n
unfolding all_ones
and_below n a b h = let le : bit_and a b ≤ a = and_le_l a b in omega arith

pub or_below : (n a b : ℕ) → a < 2 ^ n → b < 2 ^ n → bit_or a b ≤ all_ones n
unfolding all_ones
or_below n a b h g = let lt : bit_or a b < 2 ^ n = or_lt n a b h g in omega arith

pub xor_below : (n a b : ℕ) → a < 2 ^ n → b < 2 ^ n → bit_xor a b ≤ all_ones n
unfolding all_ones
xor_below n a b h g = let lt : bit_xor a b < 2 ^ n = xor_lt n a b h g in omega arith

pub ruleset logical = (and_below, or_below, xor_below)

-- vectors that a logical operator takes have one length
pub one_length : (m n : ℕ) → IsSome (logical_type (BitVector m) (BitVector n)) → m ≡ n
one_length m n h = grind arith

pub ruleset lengths = (one_length)

-- ---- shifts

-- the two parts of n places
pub parts_of : (n k : ℕ) → k ≤ n → 2 ^ (n - k) * 2 ^ k ≡ 2 ^ n
parts_of n k h = let e : n - k + k ≡ n = omega arith in sym (pow-add 2 (n - k) k) ∙ ap (λ x. 2 ^ x) e

pub left_room : (n k a : ℕ) → k ≤ n → a % 2 ^ (n - k) * 2 ^ k + 2 ^ k ≤ 2 ^ n
left_room n k a h =
    let whole : 2 ^ (n - k) * 2 ^ k ≡ 2 ^ n = parts_of n k h in
    let lt : a % 2 ^ (n - k) < 2 ^ (n - k) = mod_below a (2 ^ (n - k)) (power_pos (n - k)) in
    let le : (a % 2 ^ (n - k) + 1) * 2 ^ k ≤ 2 ^ (n - k) * 2 ^ k = mul-le (a % 2 ^ (n - k) + 1) (2 ^ k) (2 ^ (n - k)) (2 ^ k) (omega arith) (omega arith) in
    omega arith

pub left_past : (n k a : ℕ) → n ≤ k → left_shifted n k a ≡ 0
left_past n k a h =
    let e : n - k ≡ 0 = omega arith in
    let one : 2 ^ (n - k) ≡ 1 = rw e refl in
    let none : a % 2 ^ (n - k) ≡ 0 = rw one (omega arith) in
    rw none (omega arith)

pub left_fits : (n k a : ℕ) → n ≤ 64 → k < n → a % 2 ^ (n - k) * 2 ^ k % 18446744073709551616 ≡ left_shifted n k a
left_fits n k a small h =
    let room : a % 2 ^ (n - k) * 2 ^ k + 2 ^ k ≤ 2 ^ n = left_room n k a (omega arith) in
    let most : 2 ^ n ≤ 2 ^ 64 = grow n 64 small in
    let some : 0 < 2 ^ k = power_pos k in
    mod-eq_of_lt (omega arith)

pub right_past : (k a : ℕ) → a < 18446744073709551616 → 64 ≤ k → right_shifted k a ≡ 0
right_past k a h far = let g : 2 ^ 64 ≤ 2 ^ k = grow 64 k far in div-eq_of_lt (omega arith)

pub last_none : (n k a : ℕ) → a % 2 ≡ 0 → last_filled n k a ≡ 0
last_none n k a e = rw e refl

pub last_some : (n k a : ℕ) → 0 < a % 2 → last_filled n k a ≡ 2 ^ min k n - 1
last_some n k a h = grind arith

pub last_whole : (n k a : ℕ) → 0 < a % 2 → n ≤ k → all_ones n ≡ last_filled n k a
unfolding all_ones
last_whole n k a h le = let m : min k n ≡ n = omega arith in rw (last_some n k a h, m) refl

pub last_part : (n k a : ℕ) → 0 < a % 2 → k < n → all_ones k ≡ last_filled n k a
unfolding all_ones
last_part n k a h lt = let m : min k n ≡ k = omega arith in rw (last_some n k a h, m) refl

pub first_some : (n k a : ℕ) → 0 < a / 2 ^ (n - 1) → first_filled n k a ≡ 2 ^ n - 2 ^ (n - k)
first_some n k a h = grind arith

pub first_none : (n k a : ℕ) → right_shifted (n - 1) a ≡ 0 → first_filled n k a ≡ 0
first_none n k a e = rw e refl

pub first_whole : (n k a : ℕ) → 0 < right_shifted (n - 1) a → n ≤ k → all_ones n ≡ first_filled n k a
unfolding all_ones
first_whole n k a h le = let e : n - k ≡ 0 = omega arith in rw (first_some n k a h, e) refl

pub first_part : (n k a : ℕ) → 0 < right_shifted (n - 1) a → k < n → all_ones n - all_ones (n - k) ≡ first_filled n k a
unfolding all_ones
first_part n k a h lt =
    let some : 0 < 2 ^ (n - k) = power_pos (n - k) in
    let more : 2 ^ (n - k) ≤ 2 ^ n = grow (n - k) n (omega arith) in
    rw (first_some n k a h) (omega arith)

pub ones-le : (i j : ℕ) → i ≤ j → all_ones i ≤ all_ones j
unfolding all_ones
ones-le i j h = let more : 2 ^ i ≤ 2 ^ j = grow i j h in omega arith

-- the two parts of a rotation don't meet
pub rotated-lt : (n k a : ℕ) → k ≤ n → a < 2 ^ n → rotated n k a < 2 ^ n
rotated-lt n k a h lt =
    let room : a % 2 ^ (n - k) * 2 ^ k + 2 ^ k ≤ 2 ^ n = left_room n k a h in
    let whole : 2 ^ (n - k) * 2 ^ k ≡ 2 ^ n = parts_of n k h in
    let turned : 2 ^ k * 2 ^ (n - k) ≡ 2 ^ n = omega (arith, whole) in
    let front : a / 2 ^ (n - k) < 2 ^ k = div_below a (2 ^ (n - k)) (2 ^ k) (power_pos (n - k)) (rw turned lt) in
    omega arith

pub rotated_fits : (n k a : ℕ) → n ≤ 64 → k ≤ n → a < 2 ^ n → left_shifted n k a + right_shifted (n - k) a < 18446744073709551616
rotated_fits n k a small h lt =
    let below : rotated n k a < 2 ^ n = rotated-lt n k a h lt in
    let most : 2 ^ n ≤ 2 ^ 64 = grow n 64 small in
    omega arith

pub ruleset parts = (one_at, power_pos, left_fits, left_past, right_past, last_none, last_whole, last_part, first_none, first_whole, first_part, ones-le, rotated_fits)

-- ---- the kinds of shift

none_of : (j k : ℕ) → 0 % 2 ^ j * 2 ^ k ≡ 0
none_of j k = let e : 0 % 2 ^ j ≡ 0 = omega arith in rw e (omega arith)

rotated_none : (n k : ℕ) → rotated n k 0 ≡ 0
rotated_none n k = let e = none_of (n - k) k in omega arith

empty : (op : BinaryOperator) (k : ℕ) → shifted op 0 k 0 ≡ 0
empty Sll k = none_of (0 - k) k
empty Srl k = omega arith
empty Sla k = omega (arith, none_of (0 - k) k)
empty Sra k = omega arith
empty Rol k = rotated_none 0 (k % 0)
empty Ror k = rotated_none 0 (0 - k % 0)
empty _ k = refl

pub shifted_empty : (op : BinaryOperator) (k a : ℕ) → a < 2 ^ 0 → shifted op 0 k a ≡ 0
shifted_empty op k zero h = empty op k
shifted_empty op k (suc a) h = absurd (omega arith)

pub left-lt : (n k a : ℕ) → left_shifted n k a < 2 ^ n
left-lt n k a =
    let some : 0 < 2 ^ n = power_pos n in
    let places : 0 < 2 ^ k = power_pos k in
    elim (cases_lt n k) [
      | inl past ↦ rw (left_past n k a (omega arith)) some
      | inr le ↦ let room : a % 2 ^ (n - k) * 2 ^ k + 2 ^ k ≤ 2 ^ n = left_room n k a le in omega arith
    ]

pub right-lt : (n k a : ℕ) → a < 2 ^ n → right_shifted k a < 2 ^ n
right-lt n k a h = omega (arith, div-le_self a (2 ^ k))

pub sla-lt : (n k a : ℕ) → left_shifted n k a + last_filled n k a < 2 ^ n
sla-lt n k a =
    let some : 0 < 2 ^ n = power_pos n in
    let places : 0 < 2 ^ k = power_pos k in
    elim (cases_eq (a % 2) 0) [
      | inl even ↦ rw (last_none n k a even) (omega (arith, left-lt n k a))
      | inr odd ↦ rw (last_some n k a (omega arith)) (elim (cases_lt n k) [
        | inl past ↦ let m : min k n ≡ n = omega arith in rw (left_past n k a (omega arith), m) (omega arith)
        | inr le ↦
            let m : min k n ≡ k = omega arith in
            let room : a % 2 ^ (n - k) * 2 ^ k + 2 ^ k ≤ 2 ^ n = left_room n k a le in
            rw m (omega arith)
      ])
    ]

right_room : (n k a : ℕ) → k ≤ n → a < 2 ^ n → right_shifted k a < 2 ^ (n - k)
right_room n k a h lt =
    let whole : 2 ^ (n - k) * 2 ^ k ≡ 2 ^ n = parts_of n k h in
    div_below a (2 ^ k) (2 ^ (n - k)) (power_pos k) (rw whole lt)

pub sra-lt : (n k a : ℕ) → a < 2 ^ n → right_shifted k a + first_filled n k a < 2 ^ n
sra-lt n k a h =
    let some : 0 < 2 ^ n = power_pos n in
    elim (cases_eq (a / 2 ^ (n - 1)) 0) [
      | inl none ↦ rw (first_none n k a none) (omega (arith, right-lt n k a h))
      | inr first ↦ rw (first_some n k a (omega arith)) (elim (cases_lt n k) [
        | inl past ↦
            let more : 2 ^ n ≤ 2 ^ k = grow n k (omega arith) in
            let e : n - k ≡ 0 = omega arith in
            let none : a / 2 ^ k ≡ 0 = div-eq_of_lt (omega arith) in
            rw (none, e) (omega arith)
        | inr le ↦
            let room : right_shifted k a < 2 ^ (n - k) = right_room n k a le h in
            let less : 2 ^ (n - k) ≤ 2 ^ n = grow (n - k) n (omega arith) in
            omega arith
      ])
    ]

some_shifted-lt : (op : BinaryOperator) (n k a : ℕ) → 0 < n → a < 2 ^ n → shifted op n k a < 2 ^ n
some_shifted-lt Sll n k a some h = left-lt n k a
some_shifted-lt Srl n k a some h = right-lt n k a h
some_shifted-lt Sla n k a some h = sla-lt n k a
some_shifted-lt Sra n k a some h = sra-lt n k a h
some_shifted-lt Rol n k a some h = rotated-lt n (k % n) a (omega (arith, mod_below k n some)) h
some_shifted-lt Ror n k a some h = rotated-lt n (n - k % n) a (omega arith) h
some_shifted-lt _ n k a some h = power_pos n

pub shifted-lt : (op : BinaryOperator) (n k a : ℕ) → a < 2 ^ n → shifted op n k a < 2 ^ n
shifted-lt op n k a h =
    elim (cases_eq n 0) [
      | inl none ↦ let e : shifted op 0 k a ≡ 0 = shifted_empty op k a (rw none at h) in rw (none, e) (omega arith)
      | inr some ↦ some_shifted-lt op n k a (omega arith) h
    ]

fits_64 : (n x : ℕ) → n ≤ 64 → x < 2 ^ n → x < 18446744073709551616
fits_64 n x h lt = let most : 2 ^ n ≤ 2 ^ 64 = grow n 64 h in omega arith

pub sla_fits : (n k a : ℕ) → n ≤ 64 → left_shifted n k a + last_filled n k a < 18446744073709551616
sla_fits n k a h = fits_64 n (left_shifted n k a + last_filled n k a) h (sla-lt n k a)

pub sra_fits : (n k a : ℕ) → n ≤ 64 → a < 2 ^ n → right_shifted k a + first_filled n k a < 18446744073709551616
sra_fits n k a h lt = fits_64 n (right_shifted k a + first_filled n k a) h (sra-lt n k a lt)

pub ruleset shifts = (shifted_empty, sla_fits, sra_fits, mod_below)

-- the way of a shift by the sign of its places
pub shift_right_way : (op : BinaryOperator) (n a : ℕ) (k : ℤ) → pos 0 ≤ℤ k → shift_of op (Bits n a) (Int k) ≡ Ok (Bits n (shifted op n (unsigned_abs k) a))
unfolding shift_of
shift_right_way op n a (pos k) h = refl
shift_right_way op n a (negsuc k) h = absurd (omega (arith, ints))

pub shift_other_way : (op : BinaryOperator) (n a : ℕ) (k : ℤ) → k <ℤ pos 0 → shift_of op (Bits n a) (Int k) ≡ Ok (Bits n (shifted (opposite op) n (unsigned_abs k) a))
unfolding shift_of
shift_other_way op n a (pos k) h = absurd (omega (arith, ints))
shift_other_way op n a (negsuc k) h = refl

pub ruleset ways = (shift_right_way, shift_other_way)

-- ---- concatenation

pub content-lt : (a : Val) → IsValue a → content_of a < 2 ^ width_of a
content-lt (Bit true) v = omega arith
content-lt (Bit false) v = omega arith
content-lt (Bits n a) v = v.1
content-lt _ v = omega arith

widths : (a b : Val) → IsSome (concat_type (type_of a) (type_of b)) → width_of a + width_of b ≤ 64
widths (Bit a) (Bit b) k = omega arith
widths (Bit a) (Bits n b) k = grind arith
widths (Bits m a) (Bit b) k = grind arith
widths (Bits m a) (Bits n b) k = grind arith
widths _ _ k = absurd (search rules)

pub widths-le : (a b : Val) → Fit concat_type a b → width_of a + width_of b ≤ 64
widths-le a b f = widths a b f.known

pub moved_room : (m n a b : ℕ) → a < 2 ^ m → b < 2 ^ n → a * 2 ^ n + b < 2 ^ (m + n)
moved_room m n a b ha hb =
    let le : (a + 1) * 2 ^ n ≤ 2 ^ m * 2 ^ n = mul-le (a + 1) (2 ^ n) (2 ^ m) (2 ^ n) (omega arith) (omega arith) in
    let whole : 2 ^ (m + n) ≡ 2 ^ m * 2 ^ n = pow-add 2 m n in
    omega arith

pub moved_fits : (m n a b : ℕ) → m + n ≤ 64 → a < 2 ^ m → b < 2 ^ n → a * 2 ^ n + b < 18446744073709551616
moved_fits m n a b h ha hb = fits_64 (m + n) (a * 2 ^ n + b) h (moved_room m n a b ha hb)

pub moved_whole : (m n a : ℕ) → m + n ≤ 64 → a < 2 ^ m → a * 2 ^ n % 18446744073709551616 ≡ a * 2 ^ n
moved_whole m n a h lt =
    let some : 0 < 2 ^ n = power_pos n in
    mod-eq_of_lt (omega (arith, moved_fits m n a 0 h lt some))

pub moved_none : (m n a : ℕ) → m + n ≤ 64 → n ≡ 64 → a < 2 ^ m → a ≡ 0
moved_none m n a h e lt = let none : m ≡ 0 = omega arith in let less : a < 2 ^ 0 = rw none at lt in omega arith

pub ruleset concats = (content-lt, widths-le, moved_fits, moved_whole, moved_none)

pub inverse_fits : (n a : ℕ) → a < 2 ^ n → a ≤ all_ones n
unfolding all_ones
inverse_fits n a h = omega arith

pub ruleset inverses = (inverse_fits)
