-- Equations that are prepared.
use Rattle.std.specs.Prelude.{ℕ, ℤ, List, [], ◌∷◌, ◌++◌, map, get_or, Option}
use Rattle.fix_core.specs.Fixed.{difference_of}
use Rattle.flat_expr.specs.declared.expr.Unknown.{Unknown}
use Rattle.flat_expr.specs.declared.expr.Unknown.TheVariants.{Quantity}
use Rattle.flat_design.specs.declared.objects.Pair.{Pair}
use Rattle.flat_design.specs.declared.objects.IfArm.{IfArm}
use Rattle.flat_design.specs.declared.objects.CaseArm.{CaseArm}
use Rattle.flat_design.specs.declared.objects.Selection.{Selection}
use Rattle.flat_design.specs.declared.objects.Selection.TheVariants as selection
use Rattle.flat_design.specs.declared.objects.Equation.{Equation}
use Rattle.flat_design.specs.declared.objects.Equation.TheVariants as equation
use Rattle.constant_slopes.specs.Constant.{constant_of, with_two}
use Rattle.read_unknowns.specs.Asked.{asked_places}
use Rattle.eval_tape.specs.Tape as tape
use Rattle.eval_tape.specs.Tape.{tape_of}

-- the asked places of a row, the constant slope at each, and the tapes of both sides, for their values
pub record Content : Type 0 where
  pub places : List ℕ
  pub constants : List (Option ℤ)
  pub left : tape.Content
  pub right : tape.Content

-- the constant slope of an equation by an unknown, where both sides have one
abbrev pub constant_in_row : Pair → Unknown → Option ℤ
constant_in_row p u = with_two difference_of (constant_of u p.left) (constant_of u p.right)

abbrev pub constants_at : Pair → List Unknown → List ℕ → List (Option ℤ)
constants_at p unknowns places = map (λ k. constant_in_row p (get_or unknowns k (Quantity 0))) places

abbrev pub prepared : Pair → List Unknown → Content
prepared p unknowns = record { places = asked_places p unknowns; constants = constants_at p unknowns (asked_places p unknowns); left = tape_of p.left []; right = tape_of p.right [] }

abbrev pub prepared_each : List Unknown → List Pair → List Content
prepared_each unknowns pairs = map (λ p. prepared p unknowns) pairs

-- of each branch, the last one behind the arms
abbrev pub prepared_in : List Unknown → Selection → List (List Content)
prepared_in unknowns (selection.If arms last) = map (λ (arm : IfArm). prepared_each unknowns arm.pairs) arms ++ prepared_each unknowns last ∷ []
prepared_in unknowns (selection.Case e arms) = map (λ (arm : CaseArm). prepared_each unknowns arm.pairs) arms

abbrev pub prepared_by_branch : List Unknown → Equation → List (List Content)
prepared_by_branch unknowns (equation.Pair p) = (prepared p unknowns ∷ []) ∷ []
prepared_by_branch unknowns (equation.Choice c) = prepared_in unknowns c.selection
