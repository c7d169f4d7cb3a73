use Rattle.std.proofs.Common.{◌≡◌, length, take}
use Rattle.system_model.specs.System.{initial_values}
use Rattle.fixed_solver.proofs.initial.write_initial.Given as goal

abbrev pub invariant-loop-i : goal.invariant-loop-i
invariant-loop-i l = record {
  written : take l.i l.out ≡ take l.i (initial_values l.flat);
  count : length l.out ≡ length l.fn.out;
}
