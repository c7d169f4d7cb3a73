-- Small designs with their solutions, by computation.
use Rattle.std.proofs.Common.{◌≡◌, ap, ◌∙◌, List, [], ◌∷◌, ℕ, true, false}
use Rattle.std.specs.Prelude.{pos, ℤ, Result}
use Rattle.fix_core.specs.Rounding.{nearest, rnd}
use Rattle.fix_core.specs.Passes.{each, and_then}
use Rattle.fix_core.specs.Fixed.{ranged, sum_of, difference_of, product_of, quotient_of, tenfold_of}
use Rattle.ams_value.specs.declared.val.Val.TheVariants as val
use Rattle.lin_solve.specs.Elimination.{right_side, largest, place_of_largest, scaled, minus_row, reduced, substituted, unknown, unknowns, solution_of}
use Rattle.flat_expr.specs.declared.expr.FlatExpr.TheVariants as e
use Rattle.flat_expr.specs.declared.expr.FlatExpr.TheOpen.{FlatExpr-F}
use Rattle.flat_expr.specs.declared.expr.Unknown.TheVariants as u
use Rattle.flat_design.specs.Order.{unknowns as unknowns_of}
use Rattle.flat_design.specs.declared.objects.Objects.{Objects}
use Rattle.step_data.specs.declared.outcome.Cause.{Cause}
use Rattle.step_data.specs.declared.outcome.ChooseKind.{ChooseKind}
use Rattle.step_data.specs.declared.outcome.ChooseKind.TheVariants.{Quiet, Timed}
use Rattle.step_data.specs.declared.breaks.Element.{Element}
use Rattle.step_data.specs.declared.tip.Tip.{Tip}
use Rattle.design_meaning.specs.Value.{Meaning, meaning_at, meaning_of}
use Rattle.design_meaning.specs.Reading.{readings_of, dots_in}
use Rattle.design_meaning.specs.Equations.{Augmentation, written, quiescent, time_domain, augmentations_from, balance_from, rows_of}
use Rattle.design_meaning.specs.Newton.{corrected, round, newton}
use Rattle.design_meaning.specs.Steps.{choose, trial, settle, landed, step_error}
use Rattle.design_meaning.specs.Worked.{WorkedSolutions, literal, ramp, at_zero}
use Rattle.design_meaning.proofs.Meanings.{meaning-literal, meaning-unknown}

-- newton for a design of one equation, of which the two sides mean this
abbrev solved : Objects → ChooseKind → ℕ → Augmentation → List Element → List ℤ → Meaning → Meaning → Result (List ℤ) Cause
solved objects kind t set elements x a b =
    newton 20 (record {
      rows = written a b ∷ augmentations_from set elements 0 objects.dots;
      unknowns = unknowns_of objects;
      reads = readings_of objects [] kind t;
      tol = 1000000;
    }) x

abbrev sides : {A : Type 0} (f : Meaning → Meaning → A) (i : _) (v : _) → f (meaning_of (e.Unknown i)) (meaning_of (e.Literal v)) ≡ f (meaning_at (FlatExpr-F.Unknown i)) (meaning_at (FlatExpr-F.Literal v))
sides f i v = ap (λ (a : Meaning). f a (meaning_of (e.Literal v))) (meaning-unknown i) ∙ ap (λ (b : Meaning). f (meaning_at (FlatExpr-F.Unknown i)) b) (meaning-literal v)

tip : Tip
tip = record { t = 0; x = pos 0 ∷ pos 1000000000000000000 ∷ []; h = 5000; fresh = true }

later : Tip
later = record { t = 5000; x = pos 5000000000 ∷ pos 1000000000000000000 ∷ []; h = 5000; fresh = false }

pub solutions : WorkedSolutions
unfolding nearest rnd each ranged sum_of difference_of product_of quotient_of tenfold_of right_side largest place_of_largest scaled minus_row reduced substituted unknown unknowns solution_of balance_from rows_of corrected round newton choose trial settle tip later
solutions = record {
  literal_is_found = sides (solved literal Quiet 0 quiescent [] (pos 0 ∷ [])) (u.Quantity 0) (val.Real (pos 2500000000000));
  ramp_is_singular = sides (solved ramp Quiet 0 quiescent [] (pos 0 ∷ pos 0 ∷ [])) (u.Dot 0) (val.Real (pos 1000000000000000000));
  ramp_begins = sides (solved ramp Quiet 0 quiescent (at_zero ∷ []) (pos 0 ∷ pos 0 ∷ [])) (u.Dot 0) (val.Real (pos 1000000000000000000));
  ramp_rises =
      sides (λ a b. and_then (λ y. landed 1000000000 (step_error 5000 (pos 1000000000000000000 ∷ []) (dots_in ramp y)) y)
      (solved ramp Timed 5000 (time_domain (readings_of ramp [] Timed 0 tip.x) true 5000) [] tip.x a b)) (u.Dot 0) (val.Real (pos 1000000000000000000));
  ramp_goes_on =
      sides (λ a b. and_then (λ y. landed 1000000000 (step_error 5000 (pos 1000000000000000000 ∷ []) (dots_in ramp y)) y)
      (solved ramp Timed 10000 (time_domain (readings_of ramp [] Timed 5000 later.x) false 5000) [] later.x a b)) (u.Dot 0) (val.Real (pos 1000000000000000000));
}
