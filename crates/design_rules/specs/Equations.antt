-- What is asked of equations (IEEE 1076.1).
use Rattle.std.specs.Prelude.{◌≡◌, ◌<◌, ℕ, Bool, false, ◌||◌, IsTrue, List, [], ◌∷◌, ◌++◌, map, length, Some}
use Rattle.std.specs.List.{slice_get, list_any, flat_map, All}
use Rattle.ams_value.specs.declared.value_type.ValueType.{ValueType}
use Rattle.ams_value.specs.declared.value_type.ValueType.TheVariants.{Boolean, Real}
use Rattle.flat_expr.specs.declared.expr.Unknown.{Unknown}
use Rattle.flat_expr.specs.declared.expr.Unknown.TheVariants.{Dot}
use Rattle.flat_expr.specs.declared.expr.FlatExpr.{FlatExpr}
use Rattle.flat_expr.specs.declared.expr.FlatExpr.TheOpen.{FlatExpr-F}
use Rattle.flat_expr.specs.declared.expr.FlatExpr.TheFolds.{fold-FlatExpr}
use Rattle.flat_design.specs.declared.objects.Pair.{Pair}
use Rattle.flat_design.specs.declared.objects.IfArm.{IfArm}
use Rattle.flat_design.specs.declared.objects.CaseArm.{CaseArm}
use Rattle.flat_design.specs.declared.objects.Selection.{Selection}
use Rattle.flat_design.specs.declared.objects.Selection.TheVariants as selection
use Rattle.flat_design.specs.declared.objects.Equation.{Equation}
use Rattle.flat_design.specs.declared.objects.Equation.TheVariants as equation
use Rattle.flat_design.specs.declared.objects.Objects.{Objects}
use Rattle.design_meaning.specs.Typed.{HasType}
use Rattle.design_meaning.specs.Value.{same_unknown}
use Rattle.design_rules.specs.Types.{sizes_of, equation_scope}
use Rattle.design_rules.specs.Choices.{AreChoices}

-- ---- types

-- both sides are REAL
pub record IsPair (objects : Objects) (p : Pair) : Type 0 where
  pub left : HasType (equation_scope objects) p.left Real
  pub right : HasType (equation_scope objects) p.right Real

-- the equations of a branch, as many as the choice says
pub record IsBody (objects : Objects) (size : ℕ) (pairs : List Pair) : Type 0 where
  pub count : length pairs ≡ size
  pub typed : All (IsPair objects) pairs

pub record IsIfArm (objects : Objects) (size : ℕ) (arm : IfArm) : Type 0 where
  pub condition : HasType (equation_scope objects) arm.condition Boolean
  pub body : IsBody objects size arm.pairs

-- a simultaneous case, with the type of its expression
pub record IsCase (objects : Objects) (size : ℕ) (e : FlatExpr) (arms : List CaseArm) : Type 0 where
  pub kind : ValueType
  pub typed : HasType (equation_scope objects) e kind
  pub some : 0 < length arms
  pub choices : AreChoices (sizes_of objects) kind (flat_map (λ (arm : CaseArm). arm.choices) arms) (map (λ (arm : CaseArm). arm.others) arms)
  pub bodies : All (λ (arm : CaseArm). IsBody objects size arm.pairs) arms

abbrev pub IsSelection : Objects → ℕ → Selection → Type 0
IsSelection objects size (selection.If arms last) = All (IsIfArm objects size) arms × IsBody objects size last
IsSelection objects size (selection.Case e arms) = IsCase objects size e arms

abbrev pub IsEquation : Objects → Equation → Type 0
IsEquation objects (equation.Pair p) = IsPair objects p
IsEquation objects (equation.Choice c) = IsSelection objects c.size c.selection

-- ---- the dots of the equations

abbrev pub pairs_in : Equation → List Pair
pairs_in (equation.Pair p) = p ∷ []
pairs_in (equation.Choice c) = all_branches c.selection
  where
    all_branches : Selection → List Pair
    all_branches (selection.If arms last) = flat_map (λ (arm : IfArm). arm.pairs) arms ++ last
    all_branches (selection.Case e arms) = flat_map (λ (arm : CaseArm). arm.pairs) arms

abbrev pub stands_at : Unknown → FlatExpr-F Bool → Bool
stands_at u (FlatExpr-F.Unknown other) = same_unknown other u
stands_at u (FlatExpr-F.Unary op k a) = a
stands_at u (FlatExpr-F.Binary op k a b) = a || b
stands_at u (FlatExpr-F.Call f a) = a
stands_at u (FlatExpr-F.Index a i range) = a || i
stands_at u _ = false

-- the unknown stands in the expression
abbrev pub stands_in : Unknown → FlatExpr → Bool
stands_in u = fold-FlatExpr Bool (stands_at u)

-- it stands on a side of some equation
abbrev pub is_in_equations : Objects → Unknown → Bool
is_in_equations objects u = list_any (λ (p : Pair). stands_in u p.left || stands_in u p.right) (flat_map pairs_in objects.equations)

-- a quantity whose dot stands in some equation, as a break's selector must
pub record IsSelector (objects : Objects) (quantity : ℕ) : Type 0 where
  pub dot : ℕ
  pub dot_is : slice_get objects.dots dot ≡ Some quantity
  pub used : IsTrue (is_in_equations objects (Dot dot))
