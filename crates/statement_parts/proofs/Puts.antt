-- A list that is put together from the left.
use Rattle.std.proofs.Common.{◌≡◌, ℕ, List, [], ◌∷◌, ◌++◌, refl, sym, ap, append_assoc, append-nil}
use Rattle.elab_meaning.specs.declared.part.Part.{Part}
use Rattle.elab_meaning.specs.declared.part.Part.TheVariants.{Kept, Wrong, Hidden}
use Rattle.elab_meaning.specs.Parts.{both}
use Rattle.unit_meaning.specs.Settings.{ahead}
use Rattle.statement_parts.specs.Lists.{behind, joined}

pub put_ahead : {A : Type 0} (so_far : Part (List A)) (one : Part A) (rest : Part (List A)) → both joined (both behind so_far one) rest ≡ both joined so_far (both ahead one rest)
put_ahead (Kept xs) (Kept x) (Kept ys) = ap Kept (append_assoc xs (x ∷ []) ys)
put_ahead (Kept xs) (Kept x) Wrong = refl
put_ahead (Kept xs) (Kept x) Hidden = refl
put_ahead (Kept xs) Wrong (Kept ys) = refl
put_ahead (Kept xs) Wrong Wrong = refl
put_ahead (Kept xs) Wrong Hidden = refl
put_ahead (Kept xs) Hidden rest = refl
put_ahead Wrong (Kept x) (Kept ys) = refl
put_ahead Wrong (Kept x) Wrong = refl
put_ahead Wrong (Kept x) Hidden = refl
put_ahead Wrong Wrong (Kept ys) = refl
put_ahead Wrong Wrong Wrong = refl
put_ahead Wrong Wrong Hidden = refl
put_ahead Wrong Hidden rest = refl
put_ahead Hidden one rest = refl

pub put_none : {A : Type 0} (so_far : Part (List A)) → both joined so_far (Kept []) ≡ so_far
put_none (Kept xs) = ap Kept (append-nil xs)
put_none Wrong = refl
put_none Hidden = refl

pub put_first : {A : Type 0} (rest : Part (List A)) → both joined (Kept []) rest ≡ rest
put_first (Kept xs) = refl
put_first Wrong = refl
put_first Hidden = refl
