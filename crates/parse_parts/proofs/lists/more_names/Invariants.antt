use Rattle.std.proofs.Common.{◌≡◌, ◌-◌}
use Rattle.parse_parts.specs.Parsing.{more_names, name_turns}
use Rattle.parse_parts.proofs.lists.more_names.Given as goal

-- what the turns that are left make of the names so far is the whole
abbrev pub invariant-loop-turn : goal.invariant-loop-turn
invariant-loop-turn l = more_names l.fn.first l.fn.reader ≡ name_turns (l._turn-end - l._turn) l.all l.reader
