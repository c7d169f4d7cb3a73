use Rattle.std.proofs.Common.{◌≡◌, ◌-◌}
use Rattle.parse_steps.specs.Reply.{most_operators}
use Rattle.parse_conc.specs.Parsing.{more_branches, branch_turns}
use Rattle.parse_conc.proofs.simultaneous.more_branches.Given as goal

-- what the turns that are left make of the list so far is the whole
abbrev pub invariant-loop-turn : goal.invariant-loop-turn
invariant-loop-turn l = more_branches most_operators l.fn.levels l.fn.first l.fn.reader ≡ branch_turns most_operators l.fn.levels (l._turn-end - l._turn) l.all l.reader
