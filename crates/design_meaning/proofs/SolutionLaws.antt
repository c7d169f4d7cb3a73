-- Solutions are within the tolerance.
use Rattle.std.proofs.Common.{◌≡◌, ℕ, ◌≤◌, zero, suc, Bool, true, false, List, [], ◌∷◌, refl, ap, ◌∙◌, sym, subst, ◌&&◌}
use Rattle.std.specs.Prelude.{ℤ, unsigned_abs, Result, Ok, Err, IsOkAnd, nat_le, if◌then◌else◌}
use Rattle.std.specs.List.{All}
use Rattle.std.proofs.lemmas.List.Elements.{All-cons, All-nil}
use Rattle.std.proofs.lemmas.Bool.{leb-true, and_parts}
use Rattle.message_codes.specs.Codes.{error_too_large}
use Rattle.fix_core.specs.Passes.{and_then, each}
use Rattle.step_data.specs.declared.outcome.Cause.{Cause}
use Rattle.step_data.specs.declared.outcome.ChooseKind.TheVariants.{Timed}
use Rattle.step_model.specs.System.{Landing}
use Rattle.design_meaning.specs.declared.fault.EvalFault.{EvalFault}
use Rattle.design_meaning.specs.Reading.{dots_in}
use Rattle.design_meaning.specs.Equations.{Row, residual_of}
use Rattle.design_meaning.specs.Newton.{Problem, newton, round, of_evaluation, residuals_of, within, judged}
use Rattle.design_meaning.specs.Steps.{choose, rounds, kind_of_set, step_error, landed, trial, settle}
use Rattle.design_meaning.specs.Solutions.{IsWithinTolerance, Solves, SolutionsAreWithinTolerance, settled_problem, stepped_problem}

-- what was answered on the way to an answer
parts : {A B E : Type 0} (f : A → Result B E) (r : Result A E) (b : B) → and_then f r ≡ Ok b → (a : A) × (r ≡ Ok a) × (f a ≡ Ok b)
parts f (Ok a) b e = (a, refl, e)
parts f (Err x) b e = cc

evaluated : {A : Type 0} (r : Result A EvalFault) (a : A) → of_evaluation r ≡ Ok a → r ≡ Ok a
evaluated (Ok b) a e = let same : b ≡ a = cc in ap Ok same
evaluated (Err x) a e = cc

is_within : (p : Problem) (x : List ℤ) (row : Row) (z : ℤ) → residual_of row (p.reads x) ≡ Ok z → unsigned_abs z ≤ p.tol → IsWithinTolerance p x row
is_within p x row z e h = let P : Result ℤ EvalFault → Type 0 = λ r. IsOkAnd r (λ v. unsigned_abs v ≤ p.tol) in subst P (sym e) h

all_within : (p : Problem) (x : List ℤ) (rows : List Row) (zs : List ℤ) → residuals_of rows (p.reads x) ≡ Ok zs → within p.tol zs ≡ true → All (IsWithinTolerance p x) rows
unfolding each
all_within p x [] zs e h = All-nil (IsWithinTolerance p x)
all_within p x (row ∷ rows) zs e h =
    let first = parts (λ b. and_then (λ bs. Ok (b ∷ bs)) (residuals_of rows (p.reads x))) (residual_of row (p.reads x)) zs e in
    let others = parts (λ bs. Ok (first.0 ∷ bs)) (residuals_of rows (p.reads x)) zs first.2 in
    let whole : first.0 ∷ others.0 ≡ zs = cc in
    let both : (nat_le (unsigned_abs first.0) p.tol && within p.tol others.0) ≡ true = ap (within p.tol) whole ∙ h in
    let good = and_parts (nat_le (unsigned_abs first.0) p.tol) (within p.tol others.0) both in
    All-cons (IsWithinTolerance p x) row rows (is_within p x row first.0 first.1 (leb-true _ _ good.0)) (all_within p x rows others.0 others.1 good.1)

by_newton : (n : ℕ) (p : Problem) (x y : List ℤ) → newton n p x ≡ Ok y → Solves p y
unfolding newton
by_newton zero p x y e = cc
by_newton (suc n) p x y e =
    let turned = parts (λ z. and_then (λ residuals. judged (within p.tol residuals) (newton n p) z) (of_evaluation (residuals_of p.rows (p.reads z)))) (round p x) y e in
    let known = parts (λ residuals. judged (within p.tol residuals) (newton n p) turned.0) (of_evaluation (residuals_of p.rows (p.reads turned.0))) y turned.2 in
    elim (within p.tol known.0) as (λ b. within p.tol known.0 ≡ b → judged b (newton n p) turned.0 ≡ Ok y → Solves p y) [
      | true ↦ λ good same.
          let here : turned.0 ≡ y = cc in
          let P : List ℤ → Type 0 = λ z. Solves p z in
          subst P here (all_within p turned.0 p.rows known.0 (evaluated _ _ known.1) good)
      | false ↦ λ bad further. by_newton n p turned.0 y further
    ] refl known.2

landed_at : (limit err : ℕ) (x : List ℤ) (l : Landing) → landed limit err x ≡ Ok l → (l.x ≡ x) × (l.err ≤ limit)
landed_at limit err x l e =
    elim (nat_le err limit) as (λ b. nat_le err limit ≡ b → judged_by b ≡ Ok l → (l.x ≡ x) × (l.err ≤ limit)) [
      | true ↦ λ good same.
          let here : record { x = x; err = err } ≡ l = cc in
          (ap (λ (m : Landing). m.x) (sym here), rw (← ap (λ (m : Landing). m.err) here) (leb-true err limit good))
      | false ↦ λ bad same. cc
    ] refl e
  where
    judged_by : Bool → Result Landing Cause
    judged_by b = if b then Ok (record { x = x; err = err }) else Err (record { code = error_too_large; column = 0 })

pub solutions : SolutionsAreWithinTolerance
unfolding settle trial
solutions = record {
  by_newton = by_newton;
  settled = λ objects options frame t set elements x y e.
      let found = parts (λ branches. newton rounds (settled_problem objects options frame t set elements x branches) x) (choose objects frame t (kind_of_set set) x) y e in
      (found.0, record { chosen = found.1; solved = by_newton rounds _ x y found.2 });
  stepped = λ objects options frame tip s l e.
      let found =
      parts (λ branches. and_then (λ y. landed options.ltol (step_error s (dots_in objects tip.x) (dots_in objects y)) y)
      (newton rounds (stepped_problem objects options frame tip s branches) tip.x)) (choose objects frame tip.t Timed tip.x) l e in
      let solved =
      parts (λ y. landed options.ltol (step_error s (dots_in objects tip.x) (dots_in objects y)) y)
      (newton rounds (stepped_problem objects options frame tip s found.0) tip.x) l found.2 in
      let judged = landed_at options.ltol (step_error s (dots_in objects tip.x) (dots_in objects solved.0)) solved.0 l solved.2 in
      let P : List ℤ → Type 0 = λ y. Solves (stepped_problem objects options frame tip s found.0) y in (
        found.0,
        record {
          chosen = found.1;
          solved = subst P (sym judged.0) (by_newton rounds _ tip.x solved.0 solved.1);
          error = judged.1;
        },
      );
}
