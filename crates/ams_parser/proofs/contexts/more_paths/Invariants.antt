use Rattle.std.proofs.Common.{◌≡◌, ◌-◌}
use Rattle.ams_parser.specs.Parsing.{more_paths, use_turns}
use Rattle.ams_parser.proofs.contexts.more_paths.Given as goal

-- what the turns that are left make of the list so far is the whole
abbrev pub invariant-loop-turn : goal.invariant-loop-turn
invariant-loop-turn l = more_paths l.fn.first l.fn.reader ≡ use_turns (l._turn-end - l._turn) l.all l.reader
