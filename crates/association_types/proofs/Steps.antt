-- One more association.
use Rattle.std.proofs.Common.{◌≡◌, ℕ, suc, ◌+◌, ◌<◌, List, [], ◌∷◌, ◌++◌, length, get_or, drop, sym, ap, ◌∙◌, append_assoc, add-one}
use Rattle.std.proofs.Math.Seq.{drop-cons}
use Rattle.ams_tree.specs.declared.concurrent.Association.{Association}
use Rattle.ams_tree.specs.declared.concurrent.Association.TheVariants as association
use Rattle.elab_meaning.specs.declared.fault.Notes.{Notes}
use Rattle.unit_meaning.specs.declared.request.Assigned.{Assigned}
use Rattle.unit_meaning.specs.Associations.{associations}
use Rattle.association_types.specs.Rules.{Rule, one, HasAdded}

-- those so far, and those that are left
abbrev pub left : {A : Type 0} → Rule A → List (ℕ × A) → ℕ → List Association → Notes → List Assigned → Notes × List Assigned
left rule formals j all n list =
    let rest = associations rule formals j all n in
    (rest.0, list ++ rest.1)

one_more : {A : Type 0} (rule : Rule A) (formals : List (ℕ × A)) (j : ℕ) (a : Association) (more : List Association) (n : Notes) (list : List Assigned)
    → left rule formals j (a ∷ more) n list ≡ left rule formals (j + 1) more (one rule formals j a n).0 (list ++ (one rule formals j a n).1 ∷ [])
one_more rule formals j (association.Open formal place) more n list =
    ap (λ xs. ((associations rule formals (j + 1) more n).0, xs)) (sym (append_assoc list ((one rule formals j (association.Open formal place) n).1 ∷ []) (associations rule formals (j + 1) more n).1))
one_more rule formals j (association.Actual formal x) more n list =
    let found = one rule formals j (association.Actual formal x) n in
    ap (λ xs. ((associations rule formals (j + 1) more found.0).0, xs)) (sym (append_assoc list (found.1 ∷ []) (associations rule formals (j + 1) more found.0).1))

next : (all : List Association) (k : ℕ) (a : Association) → k < length all → a ≡ get_or all k a → drop k all ≡ a ∷ drop (k + 1) all
next all k a h is = drop-cons all k a h ∙ (ap (λ y. y ∷ drop (suc k) all) (sym is) ∙ ap (λ j. a ∷ drop j all) (sym (add-one k)))

-- a step of the loop: what is left behind it is what was left before it
pub step : {A : Type 0} (rule : Rule A) (formals : List (ℕ × A)) (all : List Association) (k : ℕ) (a : Association) (n m : Notes) (list longer : List Assigned) (whole : Notes × List Assigned)
    → k < length all → a ≡ get_or all k a → HasAdded (one rule formals k a n) m list longer → left rule formals k (drop k all) n list ≡ whole → left rule formals (k + 1) (drop (k + 1) all) m longer ≡ whole
step rule formals all k a n m list longer whole h is added e =
    let more = drop (k + 1) all in
    ap (λ v. left rule formals (k + 1) more v longer) added.0
    ∙ (ap (λ xs. left rule formals (k + 1) more (one rule formals k a n).0 xs) added.1
    ∙ (sym (one_more rule formals k a more n list)
    ∙ (sym (ap (λ xs. left rule formals k xs n list) (next all k a h is)) ∙ e)))
