-- One narrowing, without the point and with it.
use Rattle.std.proofs.Common.{◌≡◌, ℕ, ◌+◌, ◌-◌, ◌/◌, Bool, true, false, if◌then◌else◌, ◌||◌, ℤ, List, [], ◌∷◌, Result, Ok, Err, refl, ap, ◌∙◌}
use Rattle.std.specs.List.{list_any}
use Rattle.step_data.specs.declared.breaks.ThresholdState.{ThresholdState}
use Rattle.step_data.specs.declared.outcome.Cause.{Cause}
use Rattle.step_data.specs.declared.outcome.Trial.{Trial}
use Rattle.step_model.specs.System.{Landing}
use Rattle.step_model.specs.Answers.{trial_answer, trial_point}
use Rattle.lockstep_model.specs.Crossing.{Bounds, differs, lower_half, upper_half, narrowed}
use Rattle.above_events.specs.Locating.{Span, with_point, halved, is_unlike, crossed_by}

pub differs_any : (x : List ℤ) (thresholds : List ThresholdState) → list_any (is_unlike x) thresholds ≡ differs x thresholds
differs_any x [] = refl
differs_any x (k ∷ rest) = ap (λ b. is_unlike x k || b) (differs_any x rest)

abbrev span : ℕ → ℕ → ℕ → Span
span lo hi xres = record { lo = lo; hi = hi; xres = xres }

-- the middle becomes the later time, or the earlier one
pub narrow_down : (lo hi xres m : ℕ) (s : Span) (b : Bool) → span lo hi xres ≡ s → b ≡ true → m ≡ lo + (hi - lo) / 2 → (x : List ℤ) → with_point (span lo m xres) x ≡ halved b (with_point s x) x
narrow_down lo hi xres m s b es eb em x = rw (eb, em, ← es) refl

pub narrow_up : (lo hi xres m : ℕ) (s : Span) (b : Bool) → span lo hi xres ≡ s → b ≡ false → m ≡ lo + (hi - lo) / 2 → (x : List ℤ) → with_point (span m hi xres) x ≡ halved b (with_point s x) x
narrow_up lo hi xres m s b es eb em x = rw (eb, em, ← es) refl

halved_if : (b : Bool) (bounds : Bounds) (x : List ℤ) → halved b bounds x ≡ (if b then lower_half bounds x else upper_half bounds)
halved_if true bounds x = refl
halved_if false bounds x = refl

-- the point at the later time goes with it
pub swapped_is : (s s' : Span) (b : Bool) (x old new : List ℤ) → ((y : List ℤ) → with_point s' y ≡ halved b (with_point s y) y) → new ≡ (if b then x else old) → with_point s' new ≡ halved b (with_point s old) x
swapped_is s s' true x old new h e = rw e (h x)
swapped_is s s' false x old new h e = rw e (h old)

pub narrowed_is : (thresholds : List ThresholdState) (bounds new : Bounds) (step : Result Landing Cause) (tip x : List ℤ) (answer : Trial) (b : Bool) → new ≡ halved b bounds x → b ≡ crossed_by answer thresholds x → answer ≡ trial_answer step → x ≡ trial_point tip step → new ≡ narrowed thresholds bounds step
narrowed_is thresholds bounds new (Ok l) tip x answer b e eb ea ex = e ∙ rw (eb, ea, ex) (halved_if (differs l.x thresholds) bounds l.x)
narrowed_is thresholds bounds new (Err c) tip x answer b e eb ea ex = e ∙ rw (eb, ea) refl
