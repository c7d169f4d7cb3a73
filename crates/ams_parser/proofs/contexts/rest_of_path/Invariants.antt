use Rattle.std.proofs.Common.{◌≡◌, ◌-◌}
use Rattle.ams_parser.specs.Parsing.{rest_of_path, path_turns}
use Rattle.ams_parser.proofs.contexts.rest_of_path.Given as goal

-- what the turns that are left make of the names so far is the whole
abbrev pub invariant-loop-turn : goal.invariant-loop-turn
invariant-loop-turn l = rest_of_path l.fn.first l.fn.reader ≡ path_turns (l._turn-end - l._turn) l.names l.reader
