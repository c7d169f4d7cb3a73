-- The last waveform, behind the others or beside them.
use Rattle.std.proofs.Common.{◌≡◌, ℕ, List, Result, refl, sym, ap, ◌∙◌, subst}
use Rattle.std.specs.declared.alloc.AllocError.{AllocError}
use Rattle.ams_token.specs.declared.token.Place.{Place}
use Rattle.flat_design.specs.declared.objects.Process.{Process}
use Rattle.elab_meaning.specs.declared.fault.Notes.{Notes}
use Rattle.expr_types.specs.Known.{Finds}
use Rattle.name_scope.specs.declared.thing.Subtype.{Subtype}
use Rattle.elab_meaning.specs.declared.part.Part.{Part}
use Rattle.elab_meaning.specs.declared.part.Part.TheVariants.{Kept, Wrong, Hidden}
use Rattle.elab_meaning.specs.Parts.{both}
use Rattle.statement_parts.specs.Lists.{behind}
use Rattle.unit_meaning.specs.Settings.{paired, finished}
use Rattle.unit_meaning.specs.Processes.{Wave, assigning_process}
use Rattle.concurrent_processes.specs.Assignments.{assigning_all, assigning_parts}

pub behind_paired : (to : Part (ℕ × Subtype)) (first : Part (List Wave)) (rest : Part Wave) → both assigning_process to (both behind first rest) ≡ assigning_parts to (both paired first rest)
unfolding assigning_all assigning_parts
behind_paired (Kept t) (Kept xs) (Kept x) = refl
behind_paired (Kept t) (Kept xs) Wrong = refl
behind_paired (Kept t) (Kept xs) Hidden = refl
behind_paired (Kept t) Wrong (Kept x) = refl
behind_paired (Kept t) Wrong Wrong = refl
behind_paired (Kept t) Wrong Hidden = refl
behind_paired (Kept t) Hidden rest = refl
behind_paired Wrong (Kept xs) (Kept x) = refl
behind_paired Wrong (Kept xs) Wrong = refl
behind_paired Wrong (Kept xs) Hidden = refl
behind_paired Wrong Wrong (Kept x) = refl
behind_paired Wrong Wrong Wrong = refl
behind_paired Wrong Wrong Hidden = refl
behind_paired Wrong Hidden rest = refl
behind_paired Hidden first rest = refl

-- the process of an assignment whose parts are read
pub behind_made : (place : Place) (to : Part (ℕ × Subtype)) (first : Part (List Wave)) (rest : Part Wave) (waves : Part (List Wave × Wave)) (n m k : Notes) (made : Part Process) (r : Result (Part Process) AllocError)
    → m ≡ n → waves ≡ both paired first rest → made ≡ assigning_parts to waves
    → Finds (finished place (m, made)) r k
    → Finds (finished place (n, both assigning_process to (both behind first rest))) r k
behind_made place to first rest waves n m k made r en ew em h =
    let same : made ≡ both assigning_process to (both behind first rest) = em ∙ (ap (assigning_parts to) ew ∙ sym (behind_paired to first rest)) in
    subst (λ p. Finds (finished place (n, p)) r k) same (subst (λ x. Finds (finished place (x, made)) r k) en h)
