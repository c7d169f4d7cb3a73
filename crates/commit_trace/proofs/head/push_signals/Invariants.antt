use Rattle.std.proofs.Common.{◌≡◌, ◌++◌, drop}
use Rattle.trace_text.specs.Trace.{numbered, signal_line}
use Rattle.commit_trace.specs.Added.{IsFront}
use Rattle.commit_trace.proofs.head.push_signals.Given as goal

-- the lines so far and those of the rest
abbrev pub invariant-loop-number : goal.invariant-loop-number
invariant-loop-number l =
    record {
      front : IsFront l.fn.out.items l.out.items;
      lines : l.out.items ++ numbered signal_line l.number (drop l.number l.signals) ≡ l.fn.out.items ++ numbered signal_line 0 l.signals;
    }
