-- Associations with one more that is sound.
use Rattle.std.proofs.Common.{ℕ, zero, suc, ◌+◌, ◌<◌, List, [], ◌∷◌, ◌++◌, arith}
use Rattle.std.proofs.lemmas.List.Elements.{All-append}
use Rattle.unit_meaning.specs.declared.request.Assigned.{Assigned}
use Rattle.instance_matches.specs.Sound.{IsSoundAssigned, AreSound}

one_sound : (a : Assigned) → IsSoundAssigned a → AreSound (a ∷ [])
one_sound a g zero d h = g
one_sound a g (suc k) d h = absurd (omega arith)

pub sound_behind : (xs : List Assigned) (a : Assigned) → AreSound xs → IsSoundAssigned a → AreSound (xs ++ a ∷ [])
sound_behind xs a h g = All-append IsSoundAssigned xs (a ∷ []) h (one_sound a g)
