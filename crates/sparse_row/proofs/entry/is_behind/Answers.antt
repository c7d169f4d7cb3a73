use Rattle.std.proofs.Common.{◌≡◌, ◌<◌, ◌+◌, ◌-◌, length, get_or, arith}
use Rattle.sparse_row.proofs.Sparse.{lt_of}
use Rattle.sparse_row.proofs.Edits.{place-behind, place-empty}
use Rattle.sparse_row.proofs.entry.is_behind.Goals as goal

pub returns-then-is_empty : goal.returns-then-is_empty
returns-then-is_empty c = λ h from width sparse.
    let none : length c.args.entries.now ≡ 0 = grind arith in
    place-empty c.args.column c.args.entries.now none

pub returns : goal.returns
returns c = λ h from width sparse.
    let es = c.args.entries.now in
    let e = c.index-entries-end.result in
    let some : 0 < length es = grind arith in
    let last = lt_of (get_or es (length es - 1) e).column c.args.column h in
    place-behind c.args.column from width (length es - 1) es e (omega (arith, some)) sparse last
