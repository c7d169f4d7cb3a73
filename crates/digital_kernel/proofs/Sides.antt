-- The system of a design has its digital side.
use Rattle.std.proofs.Common.{refl}
use Rattle.digital_kernel.specs.Runs.{SystemsAreRun}

pub systems_are_run : SystemsAreRun
systems_are_run objects options = record {
  unknowns = refl;
  frame_len = refl;
  is_frame = refl;
  is_element = refl;
  is_printable = refl;
  unstarted = refl;
  start_is = refl;
  cycle_is = refl;
  next_time_is = refl;
  frame_is = refl;
  thresholds_are = refl;
  breaks_are = refl;
}
