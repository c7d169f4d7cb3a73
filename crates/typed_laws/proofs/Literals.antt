-- Literals lie in the ranges of their types.
use Rattle.std.proofs.Common.{◌≡◌, ◌≤◌, ◌<◌, ◌+◌, ◌*◌, ◌^◌, ℕ, suc, ℤ, pos, negsuc, ◌+ℤ◌, Bool, true, false, if◌then◌else◌, List, [], ◌∷◌, length, Option, Some, None, IfSome, Result, Ok, Err, IfOk, IsTrue, arith, refl, ap, ◌∙◌, subst}
use Rattle.std.specs.Prelude.{unsigned_abs, nat_eq, nat_lt, nat_le, ◌&&◌}
use Rattle.std.specs.List.{fold}
use Rattle.std.proofs.lemmas.Bool.Decides.{nat_tests}
use Rattle.std.proofs.Math.Nat.{pow-succ'}
use Rattle.fix_core.specs.declared.NumFault.{NumFault}
use Rattle.fix_core.specs.Rounding.{nearest}
use Rattle.fix_core.specs.Fixed.{IsInRange, scaled_of, decimal_of}
use Rattle.ams_token.specs.declared.token.Integer.{Integer}
use Rattle.ams_token.specs.declared.token.Decimal.{Decimal}
use Rattle.ams_tree.specs.declared.expression.NumberValue.{NumberValue}
use Rattle.ams_tree.specs.declared.expression.NumberValue.TheVariants as written
use Rattle.ams_tree.specs.declared.expression.LiteralValue.{LiteralValue}
use Rattle.ams_tree.specs.declared.expression.LiteralValue.TheVariants as content
use Rattle.ams_value.specs.declared.val.Val.{Val}
use Rattle.ams_value.specs.declared.val.Val.TheVariants as val
use Rattle.ams_value.specs.Types.{is_in_range}
use Rattle.elab_meaning.specs.declared.typed.Scale.{Scale}
use Rattle.elab_meaning.specs.Notes.{text_of}
use Rattle.elab_meaning.specs.Literals.{integer_value, integer_literal, rounded, real_literal, number_literal, truncated, ticks_at, time_literal, char_literal, with_element, bits_literal, vector_literal, content_literal}
use Rattle.value_types.proofs.Functions.{ranged_in}

pub at_least : (m n : ℕ) → m ≤ n → nat_le m n ≡ true
at_least m n h = grind (arith, nat_tests)

pub is_below : (m n : ℕ) → m < n → nat_lt m n ≡ true
is_below m n h = grind (arith, nat_tests)

at_most : (m n : ℕ) → nat_le m n ≡ true → m ≤ n
at_most m n h = grind (arith, nat_tests)

-- ---- contents of vectors

twice : (i : ℕ) → 2 ^ (i + 1) ≡ 2 * 2 ^ i
twice i = ap (λ k. 2 ^ k) more ∙ pow-succ' 2 i
  where
    more : i + 1 ≡ suc i
    more = omega arith

even_bound : (i a : ℕ) → a < 2 ^ i → 2 * a < 2 ^ (i + 1)
even_bound i a h =
    let e : 2 ^ (i + 1) ≡ 2 * 2 ^ i = twice i in
    omega arith

odd_bound : (i a : ℕ) → a < 2 ^ i → 2 * a + 1 < 2 ^ (i + 1)
odd_bound i a h =
    let e : 2 ^ (i + 1) ≡ 2 * 2 ^ i = twice i in
    omega arith

one_bound : (i a : ℕ) (zero one : Bool) → a < 2 ^ i → IfSome (if zero then Some (2 * a) else (if one then Some (2 * a + 1) else None)) (λ (b : ℕ). b < 2 ^ (i + 1))
one_bound i a true one h = even_bound i a h
one_bound i a false true h = odd_bound i a h
one_bound i a false false h = tt

element_bound : (i c : ℕ) (o : Option ℕ) → IfSome o (λ (a : ℕ). a < 2 ^ i) → IfSome (with_element o c) (λ (a : ℕ). a < 2 ^ (i + 1))
element_bound i c (Some a) h = one_bound i a (nat_eq c 48) (nat_eq c 49) h
element_bound i c None h = tt

content_bound : (text : List ℕ) (o : Option ℕ) (i j : ℕ) → j ≡ i + length text → IfSome o (λ (a : ℕ). a < 2 ^ i) → IfSome (fold with_element o text) (λ (a : ℕ). a < 2 ^ j)
content_bound [] o i j e h =
    let same : i ≡ j = omega arith in
    subst (λ (k : ℕ). IfSome o (λ (a : ℕ). a < 2 ^ k)) same h
content_bound (c ∷ more) o i j e h = content_bound more (with_element o c) (i + 1) j (omega arith) (element_bound i c o h)

-- ---- the values

scaled_in : (m : ℕ) (z : ℤ) → IfOk (scaled_of m z) IsInRange
unfolding scaled_of
scaled_in m (pos k) = ranged_in (pos (m * 10 ^ k))
scaled_in m (negsuc k) = ranged_in (pos (nearest m (10 ^ suc k)))

module _ (sizes : List ℕ) where
  abbrev pub InRange : Val → Type 0
  InRange v = IsTrue (is_in_range sizes v)

  up_to : (limit m : ℕ) (v : Val) → (nat_le m limit ≡ true → InRange v) → IfSome (if nat_le m limit then Some v else None) InRange
  up_to limit m v h = go (nat_le m limit) h
    where
      go : (b : Bool) → (b ≡ true → InRange v) → IfSome (if b then Some v else None) InRange
      go true h = h refl
      go false h = tt

  where_true : (b : Bool) (o : Option Val) → IfSome o InRange → IfSome (if b then o else None) InRange
  where_true true o h = h
  where_true false o h = tt

  integer_in : (x : Integer) → IfSome (integer_literal x) InRange
  integer_in x = up_to 2147483647 (integer_value x) (val.Int (pos (integer_value x))) (λ h. h)

  rounded_in : (r : Result ℤ NumFault) → IfOk r IsInRange → IfSome (rounded r) InRange
  rounded_in (Ok z) h = at_least (unsigned_abs z) 1000000000000000000000000 h
  rounded_in (Err f) h = tt

  real_in : (x : Decimal) → IfSome (real_literal x) InRange
  real_in x = where_true (nat_lt x.digits (10 ^ 32)) (rounded (decimal_of x.digits x.power)) (rounded_in (decimal_of x.digits x.power) (scaled_in x.digits (x.power +ℤ pos 12)))

  pub number_in : (x : NumberValue) → IfSome (number_literal x) InRange
  number_in (written.Int x) = integer_in x
  number_in (written.Real x) = real_in x

  ticks_in : (m : ℕ) (p : ℤ) → IfSome (ticks_at m p) InRange
  ticks_in m p = up_to 1000000000000000000 (truncated m p) (val.Time (pos (truncated m p))) (λ h. h)

  pub time_in : (x : NumberValue) (s : Scale) → IfSome (time_literal x s) InRange
  time_in (written.Int x) s = where_true (nat_le (integer_value x) 2147483647) (ticks_at (integer_value x * s.factor) s.power) (ticks_in (integer_value x * s.factor) s.power)
  time_in (written.Real x) s = where_true (nat_lt x.digits (10 ^ 32)) (ticks_at (x.digits * s.factor) (x.power +ℤ s.power)) (ticks_in (x.digits * s.factor) (x.power +ℤ s.power))

  char_in : (c : ℕ) → IfSome (char_literal c) InRange
  char_in c = go (nat_lt c 48) (nat_lt c 50)
    where
      go : (low high : Bool) → IfSome (if low then None else (if high then Some (val.Bit (nat_lt 48 c)) else None)) InRange
      go true high = tt
      go false true = refl
      go false false = tt

  both : (a b : Bool) → a ≡ true → b ≡ true → (a && b) ≡ true
  both true b h k = k
  both false b h k = absurd (cc)

  bits_in : (n : ℕ) (o : Option ℕ) → nat_le n 64 ≡ true → IfSome o (λ (a : ℕ). a < 2 ^ n) → IfSome (bits_literal n o) InRange
  bits_in n (Some a) h k = both (nat_le n 64) (nat_lt a (2 ^ n)) h (is_below a (2 ^ n) k)
  bits_in n None h k = tt

  vector_in : (text : List ℕ) → IfSome (vector_literal text) InRange
  vector_in text = go (nat_le (length text) 64) refl
    where
      go : (b : Bool) → nat_le (length text) 64 ≡ b → IfSome (if b then bits_literal (length text) (fold with_element (Some 0) text) else None) InRange
      go true h = bits_in (length text) (fold with_element (Some 0) text) h (content_bound text (Some 0) 0 (length text) (omega arith) (omega arith))
      go false h = tt

  pub content_in : (texts : List (List ℕ)) (x : LiteralValue) → IfSome (content_literal texts x) InRange
  content_in texts (content.Char c) = char_in c
  content_in texts (content.Str x) = vector_in (text_of texts x)
  content_in texts (content.Bits x) = vector_in (text_of texts x)
