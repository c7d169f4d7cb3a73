use Rattle.std.proofs.Common.{◌≡◌, ◌≤◌, ◌++◌, take}
use Rattle.std.specs.Prelude.{vec_capacity}
use Rattle.sparse_row.proofs.front.append_all.Given as goal

abbrev pub invariant-loop-entry : goal.invariant-loop-entry
invariant-loop-entry l = record {
  items : l.out.items ≡ l.fn.out.items ++ take l.entry-index l.entries;
  room : vec_capacity l.fn.out ≤ vec_capacity l.out;
}
