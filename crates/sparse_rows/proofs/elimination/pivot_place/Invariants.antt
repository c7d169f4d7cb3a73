use Rattle.std.proofs.Common.{◌≡◌, ◌+◌, ◌<◌, ◌≤◌, length, drop, map}
use Rattle.lin_solve.specs.Elimination.{coefficient, largest, place_of_largest}
use Rattle.sparse_rows.proofs.elimination.pivot_place.Given as goal

abbrev pub invariant-loop-i : goal.invariant-loop-i
invariant-loop-i l =
    let entries = map (coefficient l.column) l.rows in
    record {
      within : l.i ≤ length l.rows;
      largest : l.largest ≡ largest (drop l.i entries);
      place : l.i < length l.rows → l.place ≡ l.i + place_of_largest (drop l.i entries);
      inside : l.place < length l.rows;
    }

abbrev pub decreases-loop-i : goal.decreases-loop-i
decreases-loop-i l = l.i
