-- Expressions, with what is known of reading them.
use Rattle.std.proofs.Common.{false}
use Rattle.ams_tree.specs.Expressions as G
use Rattle.parse_steps.proofs.Answering.{Answering}
use Rattle.parse_expr.specs.Parsing as R
use Rattle.parse_expr.proofs.RulesCover.{expr_first, expr_next, expression_covers}
use Rattle.parse_expr.proofs.RulesSound.{expression_sound}

abbrev pub answering : Answering G.expression R.expression
answering = record { empty = false; first = expr_first; next = expr_next; covers = expression_covers; sound = expression_sound }
