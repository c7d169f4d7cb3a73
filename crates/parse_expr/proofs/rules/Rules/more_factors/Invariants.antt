use Rattle.std.proofs.Common.{◌≡◌, ◌-◌}
use Rattle.ams_tree.specs.Expressions.{allows}
use Rattle.parse_expr.specs.Parsing.{more_factors, factor_turns, inside}
use Rattle.parse_expr.proofs.rules.Rules.more_factors.Given as goal

-- what the turns that are left make of the tree so far is the whole
abbrev pub invariant-loop-turn : goal.invariant-loop-turn
invariant-loop-turn g l = more_factors (allows l.self.levels) (inside l.self.listed l.self.levels) l.fn.left l.fn.reader ≡ factor_turns (allows l.self.levels) (inside l.self.listed l.self.levels) (l._turn-end - l._turn) l.left l.reader
