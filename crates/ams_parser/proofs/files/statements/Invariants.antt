use Rattle.std.proofs.Common.{◌≡◌, ◌-◌}
use Rattle.parse_steps.specs.Reply.{most_operators}
use Rattle.ams_parser.specs.Files.{statements, statement_turns}
use Rattle.ams_parser.proofs.files.statements.Given as goal

-- what the turns that are left make of the list so far is the whole
abbrev pub invariant-loop-turn : goal.invariant-loop-turn
invariant-loop-turn l = statements most_operators l.fn.levels l.fn.reader ≡ statement_turns most_operators l.fn.levels (l._turn-end - l._turn) l.all l.reader
