use Rattle.std.proofs.Common.{◌≡◌, ◌-◌}
use Rattle.parse_seq.specs.Parsing.{body, body_turns, at_level}
use Rattle.parse_seq.proofs.compound.Statements.body.Given as goal

-- what the turns that are left make of the list so far is the whole
abbrev pub invariant-loop-turn : goal.invariant-loop-turn
invariant-loop-turn g l = at_level body l.self.levels l.fn.reader ≡ at_level body_turns l.self.levels (l._turn-end - l._turn) l.all l.reader
