use Rattle.std.proofs.Common.{◌≡◌, ◌+◌, length, map, take, drop}
use Rattle.fix_core.specs.Passes.{each, joined}
use Rattle.design_meaning.specs.Newton.{linear_row}
use Rattle.equation_values.specs.Reading.{readings_in}
use Rattle.common_rows.specs.Forms.{row_by}
use Rattle.common_rows.proofs.rows.fill_rows.Given as goal

abbrev pub invariant-loop-i : goal.invariant-loop-i
invariant-loop-i l =
    let row = linear_row l.unknowns (readings_in l.values) in
    record {
      told : joined (take l.first l.fn.rows) (each row (map row_by l.forms)) ≡ joined (take (l.first + l.i) l.rows) (each row (map row_by (drop l.i l.forms)));
      count : length l.rows ≡ length l.fn.rows;
    }
