use Rattle.std.proofs.Common.{◌≡◌, ◌++◌, drop}
use Rattle.flat_design.specs.Order.{unknowns}
use Rattle.trace_text.specs.Trace.{numbered, unknown_line}
use Rattle.commit_trace.specs.Added.{IsFront}
use Rattle.commit_trace.proofs.head.push_unknowns.Given as goal

-- the lines so far and those of the rest
abbrev pub invariant-loop-number : goal.invariant-loop-number
invariant-loop-number l =
    record {
      front : IsFront l.fn.out.items l.out.items;
      lines : l.out.items ++ numbered (unknown_line l.flat) l.number (drop l.number (unknowns l.flat)) ≡ l.fn.out.items ++ numbered (unknown_line l.flat) 0 (unknowns l.flat);
    }
