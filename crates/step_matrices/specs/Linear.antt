-- Equations whose slopes are the same at every point.
use Rattle.std.specs.Prelude.{List, [], ◌∷◌, IsSome}
use Rattle.std.specs.List.{All}
use Rattle.flat_expr.specs.declared.expr.Unknown.{Unknown}
use Rattle.flat_design.specs.declared.objects.Pair.{Pair}
use Rattle.flat_design.specs.declared.objects.Equation.{Equation}
use Rattle.flat_design.specs.declared.objects.Equation.TheVariants as equation
use Rattle.prepared_pairs.specs.Prepared.{constant_in_row}

-- each slope of an equation is constant
abbrev pub HasConstants : List Unknown → Pair → Type 0
HasConstants unknowns p = All (λ u. IsSome (constant_in_row p u)) unknowns

-- none is a choice, and the slopes of each are constant
abbrev pub AreLinear : List Unknown → List Equation → Type 0
AreLinear unknowns [] = Unit {0}
AreLinear unknowns (equation.Pair p ∷ more) = HasConstants unknowns p × AreLinear unknowns more
AreLinear unknowns (equation.Choice c ∷ more) = ⊥
