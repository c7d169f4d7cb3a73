use Rattle.std.proofs.Common.{◌≡◌, ◌-◌}
use Rattle.parse_steps.specs.Reply.{most_operators}
use Rattle.ams_parser.specs.Parsing.{more_generics, generic_turns}
use Rattle.ams_parser.proofs.entities.more_generics.Given as goal

-- what the turns that are left make of the list so far is the whole
abbrev pub invariant-loop-turn : goal.invariant-loop-turn
invariant-loop-turn l = more_generics most_operators l.fn.levels l.fn.first l.fn.reader ≡ generic_turns most_operators l.fn.levels (l._turn-end - l._turn) l.all l.reader
