-- Statements, with what is known of reading them.
use Rattle.std.proofs.Common.{false, []}
use Rattle.ams_tree.specs.Statements as G
use Rattle.parse_steps.proofs.Answering.{Answering}
use Rattle.parse_seq.specs.Parsing as R
use Rattle.parse_seq.proofs.SeqCover.{seq_first, statement_covers}
use Rattle.parse_seq.proofs.SeqSound.{statement_sound}

abbrev pub answering : Answering G.statement R.statement
answering = record { empty = false; first = seq_first; next = []; covers = statement_covers; sound = statement_sound }
