-- A step of a loop that reads a list of parts.
use Rattle.std.proofs.Common.{◌≡◌, ℕ, suc, ◌+◌, ◌<◌, List, ◌∷◌, length, get_or, drop, sym, ap, ◌∙◌, subst, add-one}
use Rattle.std.proofs.Math.Seq.{drop-cons}
use Rattle.elab_meaning.specs.declared.fault.Notes.{Notes}
use Rattle.elab_meaning.specs.declared.part.Part.{Part}
use Rattle.elab_meaning.specs.Parts.{both}
use Rattle.unit_meaning.specs.Settings.{ahead, listed}
use Rattle.statement_parts.specs.Lists.{behind, joined}
use Rattle.statement_parts.proofs.Puts.{put_ahead}

pub taken : {A : Type 0} (xs : List A) (i : ℕ) (x : A) → x ≡ get_or xs i x → i < length xs → drop i xs ≡ x ∷ drop (i + 1) xs
taken xs i x is h = drop-cons xs i x h ∙ (ap (λ y. y ∷ drop (suc i) xs) (sym is) ∙ ap (λ j. x ∷ drop j xs) (sym (add-one i)))

pub listed_step : {A B : Type 0} (rule : B → Notes → Notes × Part A) (xs : List B) (i : ℕ) (x : B) (n m : Notes) (one : Part A) (all now : Part (List A)) (whole : Notes × Part (List A))
    → x ≡ get_or xs i x → i < length xs → m ≡ (rule x n).0 → one ≡ (rule x n).1 → now ≡ both behind all one
    → (listed rule (drop i xs) n).0 ≡ whole.0 → both joined all (listed rule (drop i xs) n).1 ≡ whole.1
    → ((listed rule (drop (i + 1) xs) m).0 ≡ whole.0) × (both joined now (listed rule (drop (i + 1) xs) m).1 ≡ whole.1)
listed_step rule xs i x n m one all now whole is h em eo en a b =
    let e = taken xs i x is h in
    let more = drop (i + 1) xs in (
      ap (λ k. (listed rule more k).0) em ∙ subst (λ ys. (listed rule ys n).0 ≡ whole.0) e a,
      ap (λ p. both joined p (listed rule more m).1) en
          ∙ (ap (λ p. both joined (both behind all p) (listed rule more m).1) eo
          ∙ (ap (λ k. both joined (both behind all (rule x n).1) (listed rule more k).1) em
          ∙ (put_ahead all (rule x n).1 (listed rule more (rule x n).0).1
          ∙ subst (λ ys. both joined all (listed rule ys n).1 ≡ whole.1) e b))),
    )
