use Rattle.std.proofs.Common.{◌≡◌, [], length, drop, get_or, set}
use Rattle.common_rows.specs.Entries.{with_entries}
use Rattle.common_rows.proofs.entries.write_entries.Given as goal

abbrev pub invariant-loop-i : goal.invariant-loop-i
invariant-loop-i l =
    record {
      told : with_entries l.entries (get_or l.fn.rows l.row []) ≡ with_entries (drop l.i l.entries) (get_or l.rows l.row []);
      others : l.rows ≡ set l.fn.rows l.row (get_or l.rows l.row []);
      count : length l.rows ≡ length l.fn.rows;
    }
