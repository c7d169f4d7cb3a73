-- Design files, with what is known of reading them.
use Rattle.std.proofs.Common.{true}
use Rattle.ams_tree.specs.Designs as G
use Rattle.parse_steps.proofs.Answering.{Answering}
use Rattle.ams_parser.specs.Files as R
use Rattle.ams_parser.proofs.FileCover.{unit_first, design_file_covers}
use Rattle.ams_parser.proofs.FileSound.{design_file_sound}

abbrev pub answering : Answering G.design_file R.design_file
answering = record { empty = true; first = unit_first; next = unit_first; covers = design_file_covers; sound = design_file_sound }
