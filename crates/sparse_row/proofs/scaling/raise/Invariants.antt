use Rattle.std.proofs.Common.{◌≡◌, ℕ, true, take, drop}
use Rattle.fix_core.specs.Passes.{each, joined}
use Rattle.sparse_row.specs.Entries.{is_sparse}
use Rattle.sparse_row.specs.Reads.{tenfold_entry}
use Rattle.sparse_row.proofs.scaling.raise.Given as goal

abbrev pub invariant-loop-i : goal.invariant-loop-i
invariant-loop-i l = record {
  so_far : each tenfold_entry l.fn.entries ≡ joined (take l.i l.entries) (each tenfold_entry (drop l.i l.entries));
  sparse : (from width : ℕ) → is_sparse from width l.fn.entries ≡ true → is_sparse from width l.entries ≡ true;
}
