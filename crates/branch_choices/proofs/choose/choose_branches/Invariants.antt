use Rattle.std.proofs.Common.{◌≡◌, ◌+◌, length, take, drop}
use Rattle.fix_core.specs.Passes.{each, joined}
use Rattle.design_meaning.specs.Steps.{branch_chosen, selections_of}
use Rattle.equation_values.specs.Reading.{readings_in}
use Rattle.branch_choices.proofs.choose.choose_branches.Given as goal

abbrev pub invariant-loop-i : goal.invariant-loop-i
invariant-loop-i l =
    let f = branch_chosen (readings_in l.values) in
    record {
      told : joined (take l.first l.fn.out) (each f (selections_of l.equations)) ≡ joined (take l.place l.out) (each f (selections_of (drop l.i l.equations)));
      ends : l.place + length (selections_of (drop l.i l.equations)) ≡ l.first + length (selections_of l.equations);
      count : length l.out ≡ length l.fn.out;
    }
