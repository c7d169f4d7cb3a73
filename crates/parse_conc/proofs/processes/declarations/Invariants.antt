use Rattle.std.proofs.Common.{◌≡◌, ◌-◌}
use Rattle.parse_steps.specs.Reply.{most_operators}
use Rattle.parse_conc.specs.Parsing.{declarations, declaration_turns}
use Rattle.parse_conc.proofs.processes.declarations.Given as goal

-- what the turns that are left make of the list so far is the whole
abbrev pub invariant-loop-turn : goal.invariant-loop-turn
invariant-loop-turn l = declarations most_operators l.fn.levels l.fn.reader ≡ declaration_turns most_operators l.fn.levels (l._turn-end - l._turn) l.all l.reader
