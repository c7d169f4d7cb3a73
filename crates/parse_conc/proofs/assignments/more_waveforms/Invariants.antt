use Rattle.std.proofs.Common.{◌≡◌, ◌-◌}
use Rattle.parse_steps.specs.Reply.{most_operators}
use Rattle.parse_conc.specs.Parsing.{more_waveforms, wave_turns}
use Rattle.parse_conc.proofs.assignments.more_waveforms.Given as goal

-- what the turns that are left make of the waveforms so far is the whole
abbrev pub invariant-loop-turn : goal.invariant-loop-turn
invariant-loop-turn l = more_waveforms most_operators l.fn.levels l.fn.first l.fn.reader ≡ wave_turns most_operators l.fn.levels (l._turn-end - l._turn) (l.conditional, l.last) l.reader
