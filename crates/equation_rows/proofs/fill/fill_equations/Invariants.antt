use Rattle.std.proofs.Common.{◌≡◌, ◌≤◌, ◌+◌, length, map, take, drop}
use Rattle.fix_core.specs.Passes.{each, joined}
use Rattle.design_meaning.specs.Equations.{row_of, chosen_pairs}
use Rattle.design_meaning.specs.Newton.{linear_row}
use Rattle.design_rules.specs.Rows.{AreBranches}
use Rattle.equation_values.specs.Reading.{readings_in}
use Rattle.equation_rows.proofs.fill.fill_equations.Given as goal

abbrev pub invariant-loop-i : goal.invariant-loop-i
invariant-loop-i l =
    let f = linear_row l.unknowns (readings_in l.values) in
    record {
      told : joined (take l.first l.fn.rows) (each f (map row_of (chosen_pairs l.equations l.branches))) ≡ joined (take l.row l.rows) (each f (map row_of (chosen_pairs (drop l.i l.equations) (drop l.choice l.branches))));
      ends : l.row + length (chosen_pairs (drop l.i l.equations) (drop l.choice l.branches)) ≡ l.first + length (chosen_pairs l.equations l.branches);
      later : AreBranches (drop l.i l.equations) (drop l.choice l.branches);
      within : l.choice ≤ length l.branches;
      count : length l.rows ≡ length l.fn.rows;
    }
