-- The equations of a branch.
use Rattle.std.proofs.Common.{◌≡◌, ◌<◌, ◌≤◌, ℕ, zero, suc, List, [], ◌∷◌, length, get_or, refl, sym, ap, arith}
use Rattle.flat_design.specs.declared.objects.Pair.{Pair}
use Rattle.flat_design.specs.declared.objects.IfArm.{IfArm}
use Rattle.flat_design.specs.declared.objects.CaseArm.{CaseArm}
use Rattle.design_meaning.specs.Equations.{if_branch, case_branch}

pub if_within : (arms : List IfArm) (last : List Pair) (b : ℕ) (arm : IfArm) → b < length arms → arm ≡ get_or arms b arm → if_branch arms last b ≡ arm.pairs
if_within [] last b arm h e = absurd (omega arith)
if_within (x ∷ more) last zero arm h e = ap (λ (a : IfArm). a.pairs) (sym e)
if_within (x ∷ more) last (suc b) arm h e = if_within more last b arm (omega arith) e

pub if_past : (arms : List IfArm) (last : List Pair) (b : ℕ) → length arms ≤ b → if_branch arms last b ≡ last
if_past [] last b h = refl
if_past (x ∷ more) last zero h = absurd (omega arith)
if_past (x ∷ more) last (suc b) h = if_past more last b (omega arith)

pub case_within : (arms : List CaseArm) (b : ℕ) (arm : CaseArm) → b < length arms → arm ≡ get_or arms b arm → case_branch arms b ≡ arm.pairs
case_within [] b arm h e = absurd (omega arith)
case_within (x ∷ more) zero arm h e = ap (λ (a : CaseArm). a.pairs) (sym e)
case_within (x ∷ more) (suc b) arm h e = case_within more b arm (omega arith) e

pub case_past : (arms : List CaseArm) (b : ℕ) → length arms ≤ b → case_branch arms b ≡ []
case_past [] b h = refl
case_past (x ∷ more) zero h = absurd (omega arith)
case_past (x ∷ more) (suc b) h = case_past more b (omega arith)
