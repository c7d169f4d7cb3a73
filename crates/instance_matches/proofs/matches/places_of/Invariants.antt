use Rattle.std.proofs.Common.{◌≡◌, [], drop}
use Rattle.instance_matches.specs.Places.{placed}
use Rattle.instance_matches.proofs.matches.places_of.Given as goal

abbrev pub invariant-loop-place : goal.invariant-loop-place
invariant-loop-place l = placed l.formals l.place (drop l.place l.all) l.places ≡ placed l.formals 0 l.all []
