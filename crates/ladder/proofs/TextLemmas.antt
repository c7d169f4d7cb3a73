-- Texts are put behind one another.
use Rattle.std.proofs.Common.{◌≡◌, ℕ, ◌+◌, List, [], ◌∷◌, ◌++◌, suc, refl, sym, ap, ◌∙◌, append_assoc, add-one}
use Rattle.std.specs.Prelude.{decimal, Result, Ok, Err, IfOk, is_ok, if◌then◌else◌}
use Rattle.ladder.specs.Ladder.{Text, written, sections}

-- one part, then the others
pub parts_added : (before first number rest after1 after2 after3 : Text) → after1 ≡ before ++ first → after2 ≡ after1 ++ number → after3 ≡ after2 ++ rest → after3 ≡ before ++ (first ++ number ++ rest)
parts_added before first number rest after1 after2 after3 e f g =
    g ∙ ap (λ l. l ++ rest) (f ∙ ap (λ l. l ++ number) e) ∙ ap (λ l. l ++ rest) (append_assoc before first number) ∙ append_assoc before (first ++ number) rest

pub two_added : (before first second after1 after2 : Text) → after1 ≡ before ++ first → after2 ≡ after1 ++ second → after2 ≡ before ++ (first ++ second)
two_added before first second after1 after2 e f = f ∙ ap (λ l. l ++ second) e ∙ append_assoc before first second

-- one section more
pub section_added : (section : ℕ → Text) (before now after : Text) (j : ℕ) → now ≡ before ++ sections section j → after ≡ now ++ section j → after ≡ before ++ sections section (j + 1)
section_added section before now after j e f =
    two_added before (sections section j) (section j) now after e f ∙ ap (λ n. before ++ sections section n) (sym (add-one j))

pub ruleset text_rules = (parts_added, two_added, section_added)

-- the clause of `push_str`, behind what was added before
pub pushed : {T E : Type 0} (r : Result T E) (before first second middle after : Text) → middle ≡ before ++ first → after ≡ (if is_ok r then middle ++ second else middle) → IfOk r (λ _. after ≡ before ++ (first ++ second))
pushed (Ok x) before first second middle after e f = two_added before first second middle after e f
pushed (Err x) before first second middle after e f = tt
