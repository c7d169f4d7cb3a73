use Rattle.std.proofs.Common.{◌≡◌, ◌++◌, map, take}
use Rattle.fix_core.specs.Text.{text_of}
use Rattle.commit_trace.specs.Added.{fields_text}
use Rattle.commit_trace.proofs.append.push_reals.Given as goal

-- the fields so far are added
abbrev pub invariant-loop-number : goal.invariant-loop-number
invariant-loop-number l = l.out.items ≡ l.fn.out.items ++ fields_text (map text_of (take l.number-index l.numbers))
