-- One item more of a list that is read.
use Rattle.std.proofs.Common.{◌≡◌, ℕ, suc, ◌+◌, ◌<◌, List, ◌∷◌, length, get_or, drop, sym, ap, ◌∙◌, subst, add-one}
use Rattle.std.proofs.Math.Seq.{drop-cons}
use Rattle.elab_meaning.specs.declared.fault.Notes.{Notes}
use Rattle.elab_meaning.specs.declared.part.Part.{Part}
use Rattle.elab_meaning.specs.Parts.{both}
use Rattle.unit_meaning.specs.Settings.{ahead, listed}
use Rattle.statement_parts.specs.Lists.{behind, joined}
use Rattle.statement_parts.proofs.Puts.{put_ahead}

left : {X : Type 0} (xs : List X) (k : ℕ) (x : X) → k < length xs → x ≡ get_or xs k x → drop k xs ≡ x ∷ drop (k + 1) xs
left xs k x h is = drop-cons xs k x h ∙ (ap (λ y. y ∷ drop (suc k) xs) (sym is) ∙ ap (λ j. x ∷ drop j xs) (sym (add-one k)))

-- a part more, of what is read from the left
told_more : {A : Type 0} (all more : Part (List A)) (one found : Part A) (rest last : Part (List A))
    → more ≡ both behind all one → one ≡ found → rest ≡ last → both joined more rest ≡ both joined all (both ahead found last)
told_more all more one found rest last is answer same =
    ap (λ p. both joined p rest) is
    ∙ (ap (λ p. both joined (both behind all p) rest) answer ∙ (ap (λ r. both joined (both behind all found) r) same ∙ put_ahead all found last))

pub listed_step : {X A : Type 0} (f : X → Notes → Notes × Part A) (xs : List X) (k : ℕ) (x : X) (n m : Notes) (all more : Part (List A)) (one : Part A) (whole : Notes × Part (List A))
    → k < length xs → x ≡ get_or xs k x
    → m ≡ (f x n).0 → one ≡ (f x n).1 → more ≡ both behind all one
    → (listed f (drop k xs) n).0 ≡ whole.0
    → both joined all (listed f (drop k xs) n).1 ≡ whole.1
    → ((listed f (drop (k + 1) xs) m).0 ≡ whole.0) × (both joined more (listed f (drop (k + 1) xs) m).1 ≡ whole.1)
listed_step f xs k x n m all more one whole h is em eo ea p q =
    let e = left xs k x h is in
    let rest = listed f (drop (k + 1) xs) in
    let p2 = subst (λ ys. (listed f ys n).0 ≡ whole.0) e p in
    let q2 = subst (λ ys. both joined all (listed f ys n).1 ≡ whole.1) e q in (
      ap (λ v. (rest v).0) em ∙ p2,
      told_more all more one (f x n).1 (rest m).1 (rest (f x n).0).1 ea eo (ap (λ v. (rest v).1) em) ∙ q2,
    )
