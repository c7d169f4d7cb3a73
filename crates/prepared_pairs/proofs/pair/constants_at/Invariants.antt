use Rattle.std.proofs.Common.{◌≡◌, take}
use Rattle.prepared_pairs.specs.Prepared.{constants_at}
use Rattle.prepared_pairs.proofs.pair.constants_at.Given as goal

abbrev pub invariant-loop-place : goal.invariant-loop-place
invariant-loop-place l = l.constants ≡ constants_at l.pair l.unknowns (take l.place-index l.places)
