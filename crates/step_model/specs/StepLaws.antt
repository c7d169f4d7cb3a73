-- Laws of attempts: where they end, and that the step stays between the least and the greatest one.
use Rattle.std.specs.Prelude.{◌≡◌, ℕ, ◌*◌, ◌/◌, ◌≤◌, true, false, cond, nat_le, min, List, Result, Ok, Err, refl}
use Rattle.std.proofs.Common.{arith}
use Rattle.std.proofs.lemmas.Bool.Decides.{leb_tells}
use Rattle.ams_value.specs.declared.val.Val.{Val}
use Rattle.step_data.specs.declared.tip.Tip.{Tip}
use Rattle.step_data.specs.declared.tip.Attempt.{Attempt}
use Rattle.step_data.specs.declared.outcome.Cause.{Cause}
use Rattle.step_data.specs.declared.outcome.Options.{Options}
use Rattle.step_data.specs.Steps.{end_of, next}
use Rattle.step_data.specs.Options.{IsAllowed}
use Rattle.step_model.specs.Answers.{IsStep}
use Rattle.step_model.specs.System.{System, Landing, grown, attempt, attempt_by, rejected_by, failed_by}

-- a step between the least and the greatest one
pub record HasStep (o : Options) (h : ℕ) : Type 0 where
  pub least : o.hmin ≤ h
  pub most : h ≤ o.hmax

grown-step : (o : Options) (h err : ℕ) → HasStep o h → HasStep o (grown o h err)
grown-step o h err s =
    let least = s.least in
    let most = s.most in
    elim (nat_le (4 * err) o.ltol) as (λ b. HasStep o (cond b (min (2 * h) o.hmax) h)) [
      | true ↦ record { least = omega arith; most = omega arith }
      | false ↦ s
    ]

-- what is said of an attempt from a tip
pub record AttemptFrom (o : Options) (tip : Tip) (a : Attempt) : Type 0 where
  pub end : a.end ≡ end_of tip
  pub step : HasStep o a.next_h
  pub behind : HasStep o (next tip a).h

attempt_by-from : (o : Options) (tip : Tip) (r : Result Landing Cause) → HasStep o tip.h → AttemptFrom o tip (attempt_by o tip r)
attempt_by-from o tip (Ok l) s =
    record { end = refl; step = grown-step o tip.h l.err s; behind = grown-step o tip.h l.err s }
attempt_by-from o tip (Err c) s =
    elim (nat_le o.hmin (tip.h / 2)) as
    (λ b. nat_le o.hmin (tip.h / 2) ≡ b → AttemptFrom o tip (cond b (rejected_by tip c) (failed_by tip c))) [
      | true ↦ λ low. record { end = refl; step = half low; behind = half low }
      | false ↦ λ low. record { end = refl; step = s; behind = s }
    ] refl
  where
    half : nat_le o.hmin (tip.h / 2) ≡ true → HasStep o (tip.h / 2)
    half low = let most = s.most in record { least = grind (arith, leb_tells); most = omega arith }

-- an attempt ends where the tip's step ends, and the step behind it is between the least and the greatest one
pub attempt_from : (sys : System) (frame : List Val) (tip : Tip) → HasStep sys.options tip.h → AttemptFrom sys.options tip (attempt sys frame tip)
unfolding attempt
attempt_from sys frame tip s = attempt_by-from sys.options tip (sys.trial frame tip tip.h) s

-- with allowed options each step lies from one tick to one second
pub allowed_step : (o : Options) (h : ℕ) → IsAllowed o → HasStep o h → IsStep h
allowed_step o h allowed s =
    let positive = allowed.hmin_least in
    let bound = allowed.hmax_most in
    let least = s.least in
    let most = s.most in
    record { least = omega arith; most = omega arith }

-- the step of a tip, and the steps that its attempt gives
pub record StepsWithin (tip : Tip) (a : Attempt) : Type 0 where
  pub tried : IsStep tip.h
  pub given : IsStep a.next_h
  pub behind : IsStep (next tip a).h

pub attempts_within : (sys : System) (frame : List Val) (tip : Tip) → IsAllowed sys.options → HasStep sys.options tip.h → StepsWithin tip (attempt sys frame tip)
attempts_within sys frame tip allowed s =
    let from = attempt_from sys frame tip s in
    record {
      tried = allowed_step sys.options tip.h allowed s;
      given = allowed_step sys.options (attempt sys frame tip).next_h allowed from.step;
      behind = allowed_step sys.options (next tip (attempt sys frame tip)).h allowed from.behind;
    }
