-- The names of a call, from those of its arguments.
use Rattle.std.proofs.Common.{◌≡◌, ℕ, List, map, sym, ◌∙◌, ap}
use Rattle.std.specs.List.{flat_map}
use Rattle.ams_tree.specs.declared.expression.Name.{Name}
use Rattle.ams_tree.specs.declared.expression.Attribute.TheOpen.{Expr-F}
use Rattle.ams_tree.specs.declared.expression.Attribute.TheFolds.{fold-roll-Expr}
use Rattle.ams_tree.specs.declared.expression.Expr.{Expr}
use Rattle.ams_tree.specs.declared.expression.Expr.TheVariants as e
use Rattle.ams_tree.specs.declared.expression.Expr.TheVariants.{rolls-Call}
use Rattle.unit_meaning.specs.Simultaneous.{dots_of_attribute, dots_step, dots_in}

pub call_dots : (x : Name) (all : List Expr) → dots_in (e.Call x all) ≡ flat_map (λ (xs : List ℕ). xs) (map dots_in all)
call_dots x all = ap dots_in (sym (rolls-Call x all)) ∙ fold-roll-Expr (ℕ → List ℕ) (List ℕ) dots_of_attribute dots_step (Expr-F.Call x all)
