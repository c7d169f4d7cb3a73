-- The equations of a branch can be evaluated, and are prepared.
use Rattle.std.specs.List.{All}
use Rattle.std.proofs.lemmas.List.Elements.{All-cons, All-nil, All-head, All-tail}
use Rattle.std.proofs.Common.{◌≡◌, ◌<◌, ℕ, zero, suc, List, [], ◌∷◌, ◌++◌, length, map, get_or, refl, arith}
use Rattle.flat_expr.specs.declared.expr.Unknown.{Unknown}
use Rattle.flat_design.specs.declared.objects.Pair.{Pair}
use Rattle.flat_design.specs.declared.objects.IfArm.{IfArm}
use Rattle.flat_design.specs.declared.objects.CaseArm.{CaseArm}
use Rattle.flat_design.specs.declared.objects.Selection.{Selection}
use Rattle.flat_design.specs.declared.objects.Selection.TheVariants as selection
use Rattle.flat_design.specs.declared.objects.Equation.{Equation}
use Rattle.flat_design.specs.declared.objects.Equation.TheVariants as equation
use Rattle.design_meaning.specs.Readings.{Readings}
use Rattle.design_meaning.specs.Equations.{if_branch, case_branch, branch_of}
use Rattle.design_rules.specs.Branches.{branch_count}
use Rattle.prepared_pairs.specs.Prepared.{prepared_each, prepared_in}
use Rattle.equation_values.specs.Evaluable.{CanEvaluatePair, CanEvaluateIfArm, CanEvaluateCaseArm, CanEvaluateSelection, CanEvaluateEquation}
use Rattle.equation_rows.specs.Parts.{pairs_of}

-- ---- what is prepared of a branch

if_places : (us : List Unknown) (arms : List IfArm) (last : List Pair) (b : ℕ) → b < suc (length arms)
    → get_or (map (λ (arm : IfArm). prepared_each us arm.pairs) arms ++ prepared_each us last ∷ []) b [] ≡ prepared_each us (if_branch arms last b)
if_places us [] last zero h = refl
if_places us [] last (suc b) h = absurd (omega arith)
if_places us (x ∷ more) last zero h = refl
if_places us (x ∷ more) last (suc b) h = if_places us more last b (omega arith)

case_places : (us : List Unknown) (arms : List CaseArm) (b : ℕ) → b < length arms → get_or (map (λ (arm : CaseArm). prepared_each us arm.pairs) arms) b [] ≡ prepared_each us (case_branch arms b)
case_places us [] b h = absurd (omega arith)
case_places us (x ∷ more) zero h = refl
case_places us (x ∷ more) (suc b) h = case_places us more b (omega arith)

pub branch_places : (us : List Unknown) (c : Selection) (b : ℕ) → b < branch_count c → get_or (prepared_in us c) b [] ≡ prepared_each us (branch_of c b)
branch_places us (selection.If arms last) b h = if_places us arms last b h
branch_places us (selection.Case e arms) b h = case_places us arms b h

-- each branch is prepared
if_within : (us : List Unknown) (arms : List IfArm) (last : List Pair) (b : ℕ) → b < suc (length arms)
    → b < length (map (λ (arm : IfArm). prepared_each us arm.pairs) arms ++ prepared_each us last ∷ [])
if_within us [] last b h = h
if_within us (x ∷ more) last zero h = omega arith
if_within us (x ∷ more) last (suc b) h = let low = if_within us more last b (omega arith) in omega (arith, low)

case_within : (us : List Unknown) (arms : List CaseArm) (b : ℕ) → b < length arms → b < length (map (λ (arm : CaseArm). prepared_each us arm.pairs) arms)
case_within us [] b h = h
case_within us (x ∷ more) zero h = omega arith
case_within us (x ∷ more) (suc b) h = let low = case_within us more b (omega arith) in omega (arith, low)

pub branch_within : (us : List Unknown) (c : Selection) (b : ℕ) → b < branch_count c → b < length (prepared_in us c)
branch_within us (selection.If arms last) b h = if_within us arms last b h
branch_within us (selection.Case e arms) b h = case_within us arms b h

-- ---- what is evaluated

if_evaluable : (r : Readings) (arms : List IfArm) (last : List Pair) (b : ℕ) → All (CanEvaluateIfArm r) arms → All (CanEvaluatePair r) last → All (CanEvaluatePair r) (if_branch arms last b)
if_evaluable r [] last b hs l = l
if_evaluable r (x ∷ more) last zero hs l = (All-head (CanEvaluateIfArm r) x more hs).pairs
if_evaluable r (x ∷ more) last (suc b) hs l = if_evaluable r more last b (All-tail (CanEvaluateIfArm r) x more hs) l

case_evaluable : (r : Readings) (arms : List CaseArm) (b : ℕ) → All (CanEvaluateCaseArm r) arms → All (CanEvaluatePair r) (case_branch arms b)
case_evaluable r [] b hs = All-nil (CanEvaluatePair r)
case_evaluable r (x ∷ more) zero hs = All-head (CanEvaluateCaseArm r) x more hs
case_evaluable r (x ∷ more) (suc b) hs = case_evaluable r more b (All-tail (CanEvaluateCaseArm r) x more hs)

branch_evaluable : (r : Readings) (c : Selection) (b : ℕ) → CanEvaluateSelection r c → All (CanEvaluatePair r) (branch_of c b)
branch_evaluable r (selection.If arms last) b h = if_evaluable r arms last b h.arms_can h.last_can
branch_evaluable r (selection.Case e arms) b h = case_evaluable r arms b h.arms_can

pub pairs_evaluable : (r : Readings) (x : Equation) (b : ℕ) → CanEvaluateEquation r x → All (CanEvaluatePair r) (pairs_of x b)
pairs_evaluable r (equation.Pair p) b h = All-cons (CanEvaluatePair r) p [] h (All-nil (CanEvaluatePair r))
pairs_evaluable r (equation.Choice c) b h = branch_evaluable r c.selection b h
