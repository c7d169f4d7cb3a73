-- Declarations, with what is known of reading them.
use Rattle.std.proofs.Common.{false, []}
use Rattle.ams_tree.specs.Declarations as G
use Rattle.parse_steps.proofs.Answering.{Answering}
use Rattle.parse_decl.specs.Parsing as R
use Rattle.parse_decl.proofs.DeclCover.{declaration_first, declaration_covers}
use Rattle.parse_decl.proofs.DeclSound.{declaration_sound}

abbrev pub answering : Answering G.declaration R.declaration
answering = record { empty = false; first = declaration_first; next = []; covers = declaration_covers; sound = declaration_sound }
