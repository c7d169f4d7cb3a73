use Rattle.std.proofs.Common.{◌≡◌, ◌-◌}
use Rattle.parse_steps.specs.Reply.{most_operators}
use Rattle.parse_conc.specs.Parsing.{equations, equation_turns}
use Rattle.parse_conc.proofs.equations.equations.Given as goal

-- what the turns that are left make of the list so far is the whole
abbrev pub invariant-loop-turn : goal.invariant-loop-turn
invariant-loop-turn l = equations most_operators l.fn.levels l.fn.reader ≡ equation_turns most_operators l.fn.levels (l._turn-end - l._turn) l.all l.reader
