-- The rules by which ports are entered.
use Rattle.std.specs.Prelude.{ℕ, List, Option}
use Rattle.ams_tree.specs.declared.expression.Name.{Name}
use Rattle.unit_meaning.specs.declared.request.Assigned.{Assigned}
use Rattle.unit_meaning.specs.Walk.{Entry, signal_entered, terminal_entered, quantity_entered}
use Rattle.port_entry.specs.declared.rule.Rule.{Rule}
use Rattle.port_entry.specs.declared.rule.Rule.TheVariants as rule

abbrev pub rule_of : List (List ℕ) → Rule → Option Assigned → Name → Entry → Option Entry
rule_of texts (rule.Signal mode v) a x e = signal_entered texts mode v a x e
rule_of texts rule.Terminal a x e = terminal_entered a x e
rule_of texts (rule.Quantity outer mode) a x e = quantity_entered outer mode a x e
