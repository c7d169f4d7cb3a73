-- What is found, by its parts.
use Rattle.std.proofs.Common.{◌≡◌, subst}
use Rattle.elab_meaning.specs.declared.fault.Notes.{Notes}

pub by_parts : {A : Type 0} (P : Notes → A → Type 0) (found : Notes × A) (n : Notes) (a : A) → (n ≡ found.0) × (a ≡ found.1) → P n a → P found.0 found.1
by_parts P found n a h k = subst (λ m. P m found.1) h.0 (subst (λ b. P n b) h.1 k)
