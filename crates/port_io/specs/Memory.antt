-- A source and a sink in memory, some of whose calls fail.
use Rattle.std.specs.Prelude.{ℕ, ◌+◌, ◌==◌, Bool, List, ◌++◌, length, drop, min, if◌then◌else◌}
use Rattle.std.specs.List.{list_any}
use Rattle.port_io.specs.declared.port.Got.{Got}
use Rattle.port_io.specs.declared.port.Got.TheVariants.{Bytes, End, Failed}
use Rattle.port_io.specs.declared.port.Put.{Put}
use Rattle.port_io.specs.declared.port.Put.TheVariants as put

-- what is left, the numbers of the calls that fail, the calls so far and the faults so far
pub record SourceState : Type 0 where
  pub left : List ℕ
  pub fails : List ℕ
  pub calls : ℕ
  pub faults : ℕ

-- what is held, the numbers of the calls that fail, the calls so far and the faults so far
pub record SinkState : Type 0 where
  pub held : List ℕ
  pub fails : List ℕ
  pub calls : ℕ
  pub faults : ℕ

-- one more, or the greatest number of 64 bits
abbrev pub one_more : ℕ → ℕ
one_more count = min (count + 1) 18446744073709551615

-- the number of the next call is listed
abbrev pub is_listed : List ℕ → ℕ → Bool
is_listed fails calls = list_any (λ n. n == one_more calls) fails

-- what a read into so many places answers: a listed call fails, and another gives as many bytes as are left and fit
abbrev pub read_answer : SourceState → ℕ → Got
read_answer s places =
    if is_listed s.fails s.calls then Failed
    else if length s.left == 0 then End
    else Bytes (min places (length s.left))

-- the source after a call that answered so
abbrev pub after_read : SourceState → Got → SourceState
after_read s (Bytes n) = record { left = drop n s.left; fails = s.fails; calls = one_more s.calls; faults = s.faults }
after_read s End = record { left = s.left; fails = s.fails; calls = one_more s.calls; faults = s.faults }
after_read s Failed = record { left = s.left; fails = s.fails; calls = one_more s.calls; faults = one_more s.faults }

-- the sink after a call with this piece that answered so: it takes the whole piece or nothing
abbrev pub after_write : SinkState → List ℕ → Put → SinkState
after_write s piece (put.Took n) = record { held = s.held ++ piece; fails = s.fails; calls = one_more s.calls; faults = s.faults }
after_write s piece put.Failed = record { held = s.held; fails = s.fails; calls = one_more s.calls; faults = one_more s.faults }
