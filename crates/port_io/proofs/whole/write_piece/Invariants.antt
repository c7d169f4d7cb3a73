use Rattle.std.proofs.Common.{◌≡◌, ◌-◌, ◌≤◌, length, take}
use Rattle.port_base.specs.Told.{with_more}
use Rattle.port_io.proofs.whole.write_piece.Given as goal

-- the sink has taken the front of the piece
abbrev pub invariant-loop-taken : goal.invariant-loop-taken
invariant-loop-taken g l =
    let sink = g.K.Sink in
    record {
      within : l.taken ≤ length l.piece;
      written : sink.held l.sink ≡ with_more (sink.held l.fn.sink) (take l.taken l.piece);
      faults : sink.faults l.fn.sink ≤ sink.faults l.sink;
    }

abbrev pub decreases-loop-taken : goal.decreases-loop-taken
decreases-loop-taken g l = length l.piece - l.taken
