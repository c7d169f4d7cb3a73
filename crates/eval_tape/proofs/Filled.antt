-- A pass keeps what stands before the place that it writes.
use Rattle.std.proofs.Common.{◌≡◌, ◌<◌, ◌≤◌, ◌+◌, ◌-◌, ◌≢◌, ℕ, ℤ, pos, Bool, true, false, List, length, get_or, set, Result, Ok, Err, inl, inr, refl, sym, ◌∙◌, ap, subst, arith}
use Rattle.std.specs.Prelude.{nat_lt, if◌then◌else◌}
use Rattle.std.proofs.lemmas.Bool.Decides.{nat_tests}
use Rattle.std.proofs.lemmas.Bool.{cases_lt}
use Rattle.std.proofs.lemmas.List.{get_or-set_same, get_or-set_other}
use borrow.Author.Count.{below_more}
use Rattle.flat_expr.specs.declared.expr.Unknown.{Unknown}
use Rattle.ams_value.specs.declared.val.Val.TheVariants as val
use Rattle.design_meaning.specs.Readings.{Readings}
use Rattle.design_meaning.specs.Value.{power_slope}
use Rattle.tape_code.specs.declared.instruction.Instruction.{Instruction}
use Rattle.tape_code.specs.declared.instruction.Instruction.TheVariants as i
use Rattle.tape_code.specs.Steps.{earlier, number_step, slope_step, function_number, operator_number, operator_slope, function_slope, HasNumbers, HasSlopes}

earlier_by : (numbers : List ℤ) (i k skipped : ℕ) (v : ℤ) (t : Bool) → k ≤ i → nat_lt skipped k ≡ t
    → (if t then get_or (set numbers i v) (k - 1 - skipped) (pos 0) else pos 0) ≡ (if t then get_or numbers (k - 1 - skipped) (pos 0) else pos 0)
earlier_by numbers i k skipped v true h is =
    let within : skipped < k = grind (arith, nat_tests) in
    get_or-set_other numbers i (k - 1 - skipped) v (pos 0) (λ e. omega (arith, e))
earlier_by numbers i k skipped v false h is = refl

earlier_kept : (numbers : List ℤ) (i k skipped : ℕ) (v : ℤ) → k ≤ i → earlier (set numbers i v) k skipped ≡ earlier numbers k skipped
earlier_kept numbers i k skipped v h = earlier_by numbers i k skipped v (nat_lt skipped k) h refl

number_kept : (r : Readings) (x : Instruction) (numbers : List ℤ) (i k : ℕ) (v : ℤ) → k ≤ i → number_step r x (set numbers i v) k ≡ number_step r x numbers k
number_kept r (i.Function f) numbers j k v h = ap (function_number f) (earlier_kept numbers j k 0 v h)
number_kept r (i.Operator o right) numbers j k v h = rw (earlier_kept numbers j k right v h, earlier_kept numbers j k 0 v h) refl
number_kept r (i.Power n) numbers j k v h = rw (earlier_kept numbers j k 0 v h) refl
number_kept r (i.Literal x) numbers j k v h = refl
number_kept r (i.Signal s) numbers j k v h = refl
number_kept r (i.Unknown u) numbers j k v h = refl
number_kept r i.Now numbers j k v h = refl
number_kept r i.Other numbers j k v h = refl

slope_kept : (u : Unknown) (x : Instruction) (numbers slopes : List ℤ) (i k : ℕ) (v : ℤ) → k ≤ i → slope_step u x numbers (set slopes i v) k ≡ slope_step u x numbers slopes k
slope_kept u (i.Function f) numbers slopes j k v h = ap (function_slope f (get_or numbers k (pos 0)) (earlier numbers k 0)) (earlier_kept slopes j k 0 v h)
slope_kept u (i.Operator o right) numbers slopes j k v h =
    ap (λ (d : ℤ). operator_slope o (get_or numbers k (pos 0)) (earlier numbers k right) d (earlier numbers k 0) (earlier (set slopes j v) k 0)) (earlier_kept slopes j k right v h)
    ∙ ap (λ (e : ℤ). operator_slope o (get_or numbers k (pos 0)) (earlier numbers k right) (earlier slopes k right) (earlier numbers k 0) e) (earlier_kept slopes j k 0 v h)
slope_kept u (i.Power n) numbers slopes j k v h = ap (λ (d : ℤ). power_slope (Ok (earlier numbers k 0)) (Ok d) (val.Int (pos n))) (earlier_kept slopes j k 0 v h)
slope_kept u (i.Literal x) numbers slopes j k v h = refl
slope_kept u (i.Signal s) numbers slopes j k v h = refl
slope_kept u (i.Unknown w) numbers slopes j k v h = refl
slope_kept u i.Now numbers slopes j k v h = refl
slope_kept u i.Other numbers slopes j k v h = refl

-- the number of one more instruction is written
pub numbers_more : (r : Readings) (code : List Instruction) (numbers : List ℤ) (at : ℕ) (v : ℤ) → at < length numbers → HasNumbers r code at numbers
    → number_step r (get_or code at i.Other) numbers at ≡ Ok v → HasNumbers r code (at + 1) (set numbers at v)
numbers_more r code numbers at v within has step =
    below_more (λ k. number_step r (get_or code k i.Other) (set numbers at v) k ≡ Ok (get_or (set numbers at v) k (pos 0))) at
    (λ k h. number_kept r (get_or code k i.Other) numbers at k v (omega (arith, h)) ∙ has k h ∙ ap Ok (sym (get_or-set_other numbers at k v (pos 0) (λ e. omega (arith, e, h)))))
    (number_kept r (get_or code at i.Other) numbers at at v (omega arith) ∙ step ∙ ap Ok (sym (get_or-set_same numbers at v (pos 0) within)))

pub slopes_more : (u : Unknown) (code : List Instruction) (numbers slopes : List ℤ) (at : ℕ) (v : ℤ) → at < length slopes → HasSlopes u code numbers at slopes
    → slope_step u (get_or code at i.Other) numbers slopes at ≡ Ok v → HasSlopes u code numbers (at + 1) (set slopes at v)
slopes_more u code numbers slopes at v within has step =
    below_more (λ k. slope_step u (get_or code k i.Other) numbers (set slopes at v) k ≡ Ok (get_or (set slopes at v) k (pos 0))) at
    (λ k h. slope_kept u (get_or code k i.Other) numbers slopes at k v (omega (arith, h)) ∙ has k h ∙ ap Ok (sym (get_or-set_other slopes at k v (pos 0) (λ e. omega (arith, e, h)))))
    (slope_kept u (get_or code at i.Other) numbers slopes at at v (omega arith) ∙ step ∙ ap Ok (sym (get_or-set_same slopes at v (pos 0) within)))

-- nothing is written yet
pub numbers_none : (r : Readings) (code : List Instruction) (numbers : List ℤ) → HasNumbers r code 0 numbers
numbers_none r code numbers k h = absurd (omega (arith, h))

pub slopes_none : (u : Unknown) (code : List Instruction) (numbers slopes : List ℤ) → HasSlopes u code numbers 0 slopes
slopes_none u code numbers slopes k h = absurd (omega (arith, h))
