use Rattle.std.proofs.Common.{◌≡◌, ◌++◌}
use Rattle.std.specs.Prelude.{string_bytes}
use Rattle.ladder.specs.Ladder.{sections, equations}
use Rattle.ladder.proofs.add_all_equations.Given as goal

-- the sections so far
abbrev pub invariant-loop-j : goal.invariant-loop-j
invariant-loop-j l = string_bytes l.text ≡ string_bytes l.fn.text ++ sections equations l.j
