-- Lengths.
use Rattle.std.proofs.Common.{◌≡◌, List, length, map}
use Rattle.std.proofs.lemmas.List.{length-map}

pub length_mapped : {A B : Type 0} (f : A → B) (xs : List A) → length (map f xs) ≡ length xs
length_mapped f xs = length-map xs f
