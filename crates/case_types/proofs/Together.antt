-- Parts of which only whether they keep the rules counts.
use Rattle.std.proofs.Common.{◌≡◌, Bool, true, false, refl}
use Rattle.elab_meaning.specs.declared.part.Part.{Part}
use Rattle.elab_meaning.specs.declared.part.Part.TheVariants.{Kept, Wrong, Hidden}
use Rattle.elab_meaning.specs.Parts.{judged}
use Rattle.unit_meaning.specs.Cases.{beside}
use Rattle.case_types.specs.Choices.{fine}

pub beside_more : {A : Type 0} (one : Part A) (so_far rest : Part Bool) → beside (beside (judged fine one) so_far) rest ≡ beside so_far (beside one rest)
beside_more (Kept a) (Kept b) rest = refl
beside_more (Kept a) Wrong (Kept c) = refl
beside_more (Kept a) Wrong Wrong = refl
beside_more (Kept a) Wrong Hidden = refl
beside_more (Kept a) Hidden rest = refl
beside_more Wrong (Kept b) (Kept c) = refl
beside_more Wrong (Kept b) Wrong = refl
beside_more Wrong (Kept b) Hidden = refl
beside_more Wrong Wrong (Kept c) = refl
beside_more Wrong Wrong Wrong = refl
beside_more Wrong Wrong Hidden = refl
beside_more Wrong Hidden rest = refl
beside_more Hidden (Kept b) rest = refl
beside_more Hidden Wrong rest = refl
beside_more Hidden Hidden rest = refl

pub beside_end : (so_far : Part Bool) → beside so_far (Kept true) ≡ judged fine so_far
beside_end (Kept b) = refl
beside_end Wrong = refl
beside_end Hidden = refl

pub beside_fine : {A : Type 0} (one : Part A) (so_far : Part Bool) → judged fine so_far ≡ so_far → judged fine (beside (judged fine one) so_far) ≡ beside (judged fine one) so_far
beside_fine (Kept a) so_far e = e
beside_fine Wrong (Kept b) e = refl
beside_fine Wrong Wrong e = refl
beside_fine Wrong Hidden e = refl
beside_fine Hidden so_far e = refl
