-- Notes without faults.
use Rattle.std.proofs.Common.{◌≡◌, ℕ, Bool, true, false, if◌then◌else◌, List, [], ◌∷◌, ◌++◌, refl, sym, ◌∙◌, subst}
use Rattle.ams_token.specs.declared.token.Place.{Place}
use Rattle.elab_meaning.specs.declared.fault.Cause.{Cause}
use Rattle.elab_meaning.specs.declared.fault.Cause.TheVariants.{NotStatic}
use Rattle.elab_meaning.specs.declared.fault.Fault.{Fault}
use Rattle.elab_meaning.specs.declared.fault.Notes.{Notes}
use Rattle.elab_meaning.specs.declared.typed.Context.{Context}
use Rattle.elab_meaning.specs.Notes.{noted, changing}
use Rattle.reading_laws.specs.Growing.{Grows}
use Rattle.scope_laws.specs.Holds.{HasNoFaults}

front_empty : (A : Type 0) (xs ys : List A) → xs ++ ys ≡ [] → xs ≡ []
front_empty A [] ys h = refl
front_empty A (x ∷ xs) ys h = absurd (cc)

not_empty : (A : Type 0) (xs : List A) (x : A) → xs ++ x ∷ [] ≡ [] → ⊥
not_empty A [] x h = cc
not_empty A (y ∷ xs) x h = cc

-- where there are none behind there were none before
pub faults_before : (a b : Notes) → Grows a b → HasNoFaults b → HasNoFaults a
faults_before a b g h = front_empty Fault a.faults g.faults.more (sym g.faults.whole ∙ h)

pub no_fault : (place : Place) (cause : Cause) (n : Notes) → HasNoFaults (noted place cause n) → ⊥
no_fault place cause n h = not_empty Fault n.faults (record { place = place; cause = cause }) h

-- nothing that changes was read
pub no_change : (c : Context) (place : Place) (n : Notes) → c.is_static ≡ true → HasNoFaults (changing c place n) → ⊥
no_change c place n is h = no_fault place NotStatic n (subst (λ (b : Bool). HasNoFaults (if b then noted place NotStatic n else n)) is h)
