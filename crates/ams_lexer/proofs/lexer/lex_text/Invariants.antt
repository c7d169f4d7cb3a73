use Rattle.std.proofs.Common.{◌≤◌, length, ◌-◌}
use Rattle.ams_lexer.specs.Progress.{IsProgress}
use Rattle.ams_lexer.proofs.lexer.lex_text.Given as goal

abbrev pub invariant-loop-lexer : goal.invariant-loop-lexer
invariant-loop-lexer l = IsProgress l.text l.lexer × (l.lexer.at ≤ length l.text)

abbrev pub decreases-loop-lexer : goal.decreases-loop-lexer
decreases-loop-lexer l = length l.text - l.lexer.at
