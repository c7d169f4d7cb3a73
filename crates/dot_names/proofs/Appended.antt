-- The names of equations that stand in two lists.
use Rattle.std.proofs.Common.{◌≡◌, List, [], ◌∷◌, ◌++◌, refl, sym, ap, ◌∙◌, append_assoc}
use Rattle.ams_tree.specs.declared.concurrent.Equation.{Equation}
use Rattle.unit_meaning.specs.Simultaneous.{dots_in, dots_in_equations}

pub equations_append : (xs ys : List Equation) → dots_in_equations (xs ++ ys) ≡ dots_in_equations xs ++ dots_in_equations ys
equations_append [] ys = refl
equations_append (q ∷ xs) ys =
    ap (λ more. (dots_in q.left ++ dots_in q.right) ++ more) (equations_append xs ys)
    ∙ sym (append_assoc (dots_in q.left ++ dots_in q.right) (dots_in_equations xs) (dots_in_equations ys))
