-- What a source has left and what a sink holds is told by some objects, as those in memory, and by others,
-- as a terminal, it isn't.
use Rattle.std.specs.Prelude.{ℕ, ◌≡◌, List, [], ◌++◌, Option, Some, None, refl}
use Rattle.std.proofs.Common.{ap, sym, append_assoc}
use Rattle.std.proofs.lemmas.List.{append-nil}

-- these bytes, and behind them what is told
abbrev pub with_front : List ℕ → Option (List ℕ) → Option (List ℕ)
with_front front (Some rest) = Some (front ++ rest)
with_front front None = None

-- what is told, and these bytes behind it
abbrev pub with_more : Option (List ℕ) → List ℕ → Option (List ℕ)
with_more (Some held) more = Some (held ++ more)
with_more None more = None

-- one front behind another is one front
abbrev pub FrontsJoin : Type 0
FrontsJoin = (a b : List ℕ) (told : Option (List ℕ)) → with_front a (with_front b told) ≡ with_front (a ++ b) told

-- one piece behind another is one piece
abbrev pub PiecesJoin : Type 0
PiecesJoin = (told : Option (List ℕ)) (a b : List ℕ) → with_more (with_more told a) b ≡ with_more told (a ++ b)

pub with_front_nil : (told : Option (List ℕ)) → with_front [] told ≡ told
with_front_nil None = refl
with_front_nil (Some rest) = refl

pub with_front_twice : (a b : List ℕ) (told : Option (List ℕ)) → with_front a (with_front b told) ≡ with_front (a ++ b) told
with_front_twice a b None = refl
with_front_twice a b (Some rest) = ap Some (sym (append_assoc a b rest))

pub with_more_nil : (told : Option (List ℕ)) → with_more told [] ≡ told
with_more_nil None = refl
with_more_nil (Some held) = ap Some (append-nil held)

pub with_more_twice : (told : Option (List ℕ)) (a b : List ℕ) → with_more (with_more told a) b ≡ with_more told (a ++ b)
with_more_twice None a b = refl
with_more_twice (Some held) a b = ap Some (append_assoc held a b)

pub ruleset told_rules = (with_front_twice, with_more_twice)
