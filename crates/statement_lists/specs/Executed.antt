-- A break element as a process executes it.
use Rattle.std.specs.Prelude.{List, Some, Result}
use Rattle.message_codes.specs.Codes.{double_break}
use Rattle.fix_core.specs.Passes.{◌>>=◌}
use Rattle.flat_expr.specs.declared.statement.BreakElement.{BreakElement}
use Rattle.step_data.specs.Selectors.{has_selector}
use Rattle.step_data.specs.declared.breaks.Element.{Element}
use Rattle.step_data.specs.declared.outcome.Refusal.{Refusal}
use Rattle.cycle_meaning.specs.World.{Context, Local, evaluated, refused_where}
use Rattle.cycle_meaning.specs.Statements.{executed_element}

-- its value comes before the refusal of a second one for the selector
abbrev pub executed_of : Context → Local → List Element → BreakElement → Result Element Refusal
executed_of here l earlier e = do
  v ← evaluated here l e.value
  refused_where (has_selector e.selector earlier) (record { code = double_break; detail = Some e.selector }) (executed_element e v)
