-- Parts that are added one behind the other.
use Rattle.std.proofs.Common.{append_assoc}

pub ruleset note_rules = (append_assoc)
