-- The system of a design has its analogue side.
use Rattle.std.proofs.Common.{refl}
use Rattle.fixed_solver.specs.Solves.{SystemsAreSolved}

pub systems_are_solved : SystemsAreSolved
systems_are_solved objects options = record {
  unknowns = refl;
  frame_len = refl;
  choices = refl;
  is_frame = refl;
  is_element = refl;
  initial = refl;
  trial = refl;
  settle = refl;
  choose = refl;
  options_are = refl;
}
