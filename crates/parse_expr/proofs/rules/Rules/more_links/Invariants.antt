use Rattle.std.proofs.Common.{◌≡◌, ◌-◌}
use Rattle.ams_tree.specs.Terminals.{word}
use Rattle.ams_tree.specs.Expressions.{allows}
use Rattle.parse_expr.specs.Parsing.{more_links, link_turns, inside}
use Rattle.parse_expr.proofs.rules.Rules.more_links.Given as goal

-- what the turns that are left make of the tree so far is the whole
abbrev pub invariant-loop-turn : goal.invariant-loop-turn
invariant-loop-turn g l = more_links (allows l.self.levels) (inside l.self.listed l.self.levels) (word l.word) l.op l.fn.left l.fn.reader ≡ link_turns (allows l.self.levels) (inside l.self.listed l.self.levels) (word l.word) l.op (l._turn-end - l._turn) l.left l.reader
