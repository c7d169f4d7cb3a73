-- The laws of values.
use Rattle.run_types.proofs.Beginning.{first_fits, begun_fits, world_stays, kept_fits}
use Rattle.run_types.proofs.Frames.{frame_fits, first_frame_fits}
use Rattle.run_types.proofs.worlds_have_values_of_their_types.Goals as goal

pub returns-clause-first : goal.returns-clause-first
returns-clause-first c = first_fits

pub returns-clause-begun : goal.returns-clause-begun
returns-clause-begun c = begun_fits

pub returns-clause-stays : goal.returns-clause-stays
returns-clause-stays c = world_stays

pub returns-clause-kept : goal.returns-clause-kept
returns-clause-kept c = kept_fits

pub returns-clause-frame : goal.returns-clause-frame
returns-clause-frame c = frame_fits

pub returns-clause-first_frame : goal.returns-clause-first_frame
returns-clause-first_frame c = first_frame_fits
