-- Concurrent statements, with what is known of reading them.
use Rattle.std.proofs.Common.{false}
use Rattle.ams_tree.specs.Concurrents as G
use Rattle.parse_steps.proofs.Answering.{Answering}
use Rattle.parse_conc.specs.Parsing as R
use Rattle.parse_conc.proofs.ConcCover.{conc_first, conc_next, concurrent_covers}
use Rattle.parse_conc.proofs.ConcSound.{concurrent_sound}

abbrev pub answering : Answering G.concurrent R.concurrent
answering = record { empty = false; first = conc_first; next = conc_next; covers = concurrent_covers; sound = concurrent_sound }
