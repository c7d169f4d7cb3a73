-- A source and a sink in memory that give and take at most so many bytes in one call, and some of whose calls fail (own).
use Rattle.std.specs.Prelude.{ℕ, ◌==◌, List, ◌++◌, length, take, drop, min, if◌then◌else◌}
use Rattle.port_io.specs.declared.port.Got.{Got}
use Rattle.port_io.specs.declared.port.Got.TheVariants.{Bytes, End, Failed}
use Rattle.port_io.specs.declared.port.Put.{Put}
use Rattle.port_io.specs.declared.port.Put.TheVariants as put
use Rattle.port_io.specs.Memory.{one_more, is_listed}

-- what is left, the most bytes of a piece, the numbers of the calls that fail, the calls so far and the faults so far
pub record PieceSourceState : Type 0 where
  pub left : List ℕ
  pub most : ℕ
  pub fails : List ℕ
  pub calls : ℕ
  pub faults : ℕ

-- what is held, the most bytes of a piece, the numbers of the calls that fail, the calls so far and the faults so far
pub record PieceSinkState : Type 0 where
  pub held : List ℕ
  pub most : ℕ
  pub fails : List ℕ
  pub calls : ℕ
  pub faults : ℕ

-- what a read into so many places answers: a listed call fails, and another gives as many bytes as are left, fit and go in a piece
abbrev pub read_answer : PieceSourceState → ℕ → Got
read_answer s places =
    if is_listed s.fails s.calls then Failed
    else if length s.left == 0 then End
    else Bytes (min (min places s.most) (length s.left))

-- the source after a call that answered so
abbrev pub after_read : PieceSourceState → Got → PieceSourceState
after_read s (Bytes n) = record s { left = drop n s.left; calls = one_more s.calls }
after_read s End = record s { calls = one_more s.calls }
after_read s Failed = record s { calls = one_more s.calls; faults = one_more s.faults }

-- the sink after a call with this piece that answered so
abbrev pub after_write : PieceSinkState → List ℕ → Put → PieceSinkState
after_write s piece (put.Took n) = record s { held = s.held ++ take n piece; calls = one_more s.calls }
after_write s piece put.Failed = record s { calls = one_more s.calls; faults = one_more s.faults }
