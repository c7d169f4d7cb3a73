-- Lines of traces, by computation.
use Rattle.std.proofs.Common.{refl}
use Rattle.std.specs.Fmt.{digits}
use Rattle.fix_core.specs.Text.{decimals_text, text_of}
use Rattle.trace_text.specs.Trace.{header}
use Rattle.trace_text.specs.Worked.{WorkedLines}

pub lines : WorkedLines
unfolding digits decimals_text text_of header
lines = record {
  first = refl;
  point = refl;
  crossing = refl;
  signal = refl;
  vector = refl;
  broken = refl;
  report = refl;
  reached = refl;
  refused = refl;
  bare = refl;
}
