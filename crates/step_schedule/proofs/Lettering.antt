-- A schedule grows by a letter.
use Rattle.std.proofs.Common.{◌≡◌, ℕ, suc, List, [], ◌∷◌, ◌++◌, sym, ap, ◌∙◌, append_assoc}
use Rattle.step_schedule.specs.declared.Step.{Step}
use Rattle.step_schedule.specs.Letters.{turned, letter, letters}

pub one_more : (xs ys all : List Step) (x x' m n : ℕ) (s : Step) → ys ≡ xs ++ s ∷ [] → x' ≡ turned x → s ≡ letter x' → n ≡ suc m → xs ++ letters x n ≡ all → ys ++ letters x' m ≡ all
one_more xs ys all x x' m n s e t l k h =
    ap (λ (zs : List Step). zs ++ letters x' m) e
    ∙ append_assoc xs (s ∷ []) (letters x' m)
    ∙ ap (λ (z : Step). xs ++ z ∷ letters x' m) l
    ∙ ap (λ (y : ℕ). xs ++ letter y ∷ letters y m) t
    ∙ ap (λ (j : ℕ). xs ++ letters x j) (sym k)
    ∙ h
