-- The names whose 'dot stands in an attribute.
use Rattle.std.specs.Prelude.{ℕ, List}
use Rattle.ams_tree.specs.declared.expression.Attribute.{Attribute}
use Rattle.ams_tree.specs.declared.expression.Attribute.TheFolds.{fold-Attribute}
use Rattle.unit_meaning.specs.Simultaneous.{dots_of_attribute, dots_step}

abbrev pub dots_behind : Attribute → ℕ → List ℕ
dots_behind = fold-Attribute (ℕ → List ℕ) (List ℕ) dots_of_attribute dots_step
