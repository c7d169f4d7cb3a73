use Rattle.std.proofs.Common.{◌≡◌, [], length, drop, get_or, set}
use Rattle.equation_values.specs.Reading.{readings_in}
use Rattle.explicit_rows.specs.Writing.{with_slopes}
use Rattle.explicit_rows.proofs.Filled.{slope_at}
use Rattle.explicit_rows.proofs.fill.write_slopes.Given as goal

abbrev pub invariant-loop-i : goal.invariant-loop-i
invariant-loop-i l =
    let slope = slope_at l.pair (readings_in l.values) l.unknowns in
    record {
      told : with_slopes slope l.places (get_or l.fn.rows l.row []) ≡ with_slopes slope (drop l.i l.places) (get_or l.rows l.row []);
      others : l.rows ≡ set l.fn.rows l.row (get_or l.rows l.row []);
      count : length l.rows ≡ length l.fn.rows;
    }
