-- The values of short tapes.
use Rattle.std.proofs.Common.{◌≡◌, ◌<◌, ◌-◌, ℕ, zero, suc, ℤ, pos, false, List, [], ◌∷◌, length, get_or, Ok, refl, ap, ◌∙◌, arith}
use Rattle.std.specs.Prelude.{nat_lt}
use Rattle.std.proofs.lemmas.Bool.Decides.{nat_tests}
use Rattle.fix_core.specs.Fixed.{ranged}
use Rattle.flat_expr.specs.declared.expr.Unknown.{Unknown}
use Rattle.design_meaning.specs.Faults.{numeric}
use Rattle.design_meaning.specs.Readings.{Readings, unknown_of}
use Rattle.tape_code.specs.declared.instruction.Instruction.{Instruction}
use Rattle.tape_code.specs.declared.instruction.Instruction.TheVariants as i
use Rattle.tape_code.specs.declared.instruction.RealOperator.TheVariants as real_operator
use Rattle.tape_code.specs.Steps.{earlier, number_step, function_number, operator_number, HasNumbers}
use Rattle.eval_tape.specs.Tape.{IsValue}
use Rattle.eval_tape.proofs.Results.{value_is}

-- nothing stands before the first place
none_earlier : (numbers : List ℤ) (skipped : ℕ) → earlier numbers 0 skipped ≡ pos 0
none_earlier numbers skipped = let none : nat_lt skipped 0 ≡ false = grind (arith, nat_tests) in rw none refl

first_step : (r : Readings) (x : Instruction) (v : ℤ) → number_step r x (v ∷ []) 0 ≡ number_step r x [] 0
first_step r (i.Function f) v = rw (none_earlier (v ∷ []) 0, none_earlier [] 0) refl
first_step r (i.Operator o right) v = rw (none_earlier (v ∷ []) right, none_earlier (v ∷ []) 0, none_earlier [] right, none_earlier [] 0) refl
first_step r (i.Power n) v = rw (none_earlier (v ∷ []) 0, none_earlier [] 0) refl
first_step r (i.Literal x) v = refl
first_step r (i.Signal s) v = refl
first_step r (i.Unknown u) v = refl
first_step r i.Now v = refl
first_step r i.Other v = refl

pub alone_is : (r : Readings) (x : Instruction) (v : ℤ) → number_step r x [] 0 ≡ Ok v → IsValue r (x ∷ []) v
alone_is r x v h = value_is r (x ∷ []) (v ∷ []) v refl has
  where
    has : HasNumbers r (x ∷ []) 1 (v ∷ [])
    has zero k = first_step r x v ∙ h
    has (suc n) k = absurd (omega (arith, k))

pub multiple_is : (r : Readings) (f : ℤ) (u : Unknown) (x p : ℤ) → numeric (ranged (unknown_of r u)) ≡ Ok x → operator_number real_operator.Multiply f x ≡ Ok p
    → IsValue r (i.Literal f ∷ i.Unknown u ∷ i.Operator real_operator.Multiply 1 ∷ []) p
multiple_is r f u x p number product = value_is r (i.Literal f ∷ i.Unknown u ∷ i.Operator real_operator.Multiply 1 ∷ []) (f ∷ x ∷ p ∷ []) p refl has
  where
    has : HasNumbers r (i.Literal f ∷ i.Unknown u ∷ i.Operator real_operator.Multiply 1 ∷ []) 3 (f ∷ x ∷ p ∷ [])
    has zero k = refl
    has (suc zero) k = number
    has (suc (suc zero)) k = product
    has (suc (suc (suc n))) k = absurd (omega (arith, k))
