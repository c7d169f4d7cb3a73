use Rattle.std.proofs.Common.{◌≡◌, ◌≤◌, vec_len}
use Rattle.port_base.specs.Told.{with_front}
use Rattle.port_io.proofs.whole.read_all.Given as goal

-- what was read and what is left were left at first; each turn read a byte
abbrev pub invariant-loop-turn : goal.invariant-loop-turn
invariant-loop-turn g l =
    let source = g.S.Source in
    record {
      read : source.left l.fn.source ≡ with_front l.bytes.items (source.left l.source);
      long : l._turn ≤ vec_len l.bytes;
      short : vec_len l.bytes ≤ l.limit;
      faults : source.faults l.fn.source ≤ source.faults l.source;
    }
