-- The limits of a flat design (own), by the constants of the code.
use Rattle.std.specs.Prelude.{ℕ}
use Rattle.flat_design.specs.declared.limits.TheConstants.{UNKNOWN_LIMIT, FRAME_LIMIT, SIGNAL_LIMIT, PROCESS_LIMIT, THRESHOLD_LIMIT, INSTANCE_LIMIT}

-- the most unknowns
abbrev pub unknown_limit : ℕ
unknown_limit = UNKNOWN_LIMIT

-- the most values of a frame
abbrev pub frame_limit : ℕ
frame_limit = FRAME_LIMIT

abbrev pub signal_limit : ℕ
signal_limit = SIGNAL_LIMIT

abbrev pub process_limit : ℕ
process_limit = PROCESS_LIMIT

abbrev pub threshold_limit : ℕ
threshold_limit = THRESHOLD_LIMIT

abbrev pub instance_limit : ℕ
instance_limit = INSTANCE_LIMIT
