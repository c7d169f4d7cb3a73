use Rattle.std.proofs.Common.{◌++◌, take, Result, Ok, Err, OnErr}
use Rattle.port_io.proofs.Told.{front_more}
use Rattle.port_io.proofs.whole.read_all.Goals as goal

whatever_err : {T E P : Type 0} (r : Result T E) → P → OnErr r P
whatever_err (Ok x) p = tt
whatever_err (Err e) p = p

pub returns-then-count-limit-clause-err : goal.returns-then-count-limit-clause-err
returns-then-count-limit-clause-err g c =
    (c.loop-turn.bytes.items ++ take c.in-Bytes.count c.read.new.buf, front_more _ _ _ _ _ c.loop-turn.invariant.read c.in-Bytes.ensures.bytes)

pub returns-in_err-extend_from_slice-in-Bytes-clause-err : goal.returns-in_err-extend_from_slice-in-Bytes-clause-err
returns-in_err-extend_from_slice-in-Bytes-clause-err g c =
    whatever_err c.from_residual.result
    (c.loop-turn.bytes.items ++ take c.in-Bytes.count c.read.new.buf, front_more _ _ _ _ _ c.loop-turn.invariant.read c.in-Bytes.ensures.bytes)
