-- Pieces that are added one behind the other.
use Rattle.std.proofs.Common.{append_assoc}
use Rattle.std.proofs.lemmas.List.{append-nil}
use Rattle.std.proofs.lemmas.Grind.{flat_map-append}

pub ruleset text_rules = (append_assoc, flat_map-append, append-nil)
