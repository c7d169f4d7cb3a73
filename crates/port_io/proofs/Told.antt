-- What is told of a source or a sink, piece by piece.
use Rattle.std.proofs.Common.{◌≡◌, ℕ, ◌+◌, ◌-◌, List, ◌++◌, Option, length, take, drop, ap, sym, ◌∙◌, length-drop}
use Rattle.std.proofs.Math.Seq.{take-add, take-length}
use Rattle.port_base.specs.Told.{with_front, with_more, with_front_twice, with_more_twice}

-- the slice from a place on is all behind it
rest_of_slice : (xs : List ℕ) (n : ℕ) → take (length xs - n) (drop n xs) ≡ drop n xs
rest_of_slice xs n = ap (λ k. take k (drop n xs)) (sym (length-drop n xs)) ∙ take-length (drop n xs)

-- a sink takes the next bytes of a piece
pub taken_more : (before mid new : Option (List ℕ)) (piece : List ℕ) (taken count : ℕ) →
    mid ≡ with_more before (take taken piece) → new ≡ with_more mid (take count (take (length piece - taken) (drop taken piece))) →
    new ≡ with_more before (take (taken + count) piece)
taken_more before mid new piece taken count first next =
    next ∙ ap (λ l. with_more mid (take count l)) (rest_of_slice piece taken)
    ∙ ap (λ m. with_more m (take count (drop taken piece))) first ∙ with_more_twice before (take taken piece) (take count (drop taken piece))
    ∙ ap (with_more before) (sym (take-add taken count piece))

-- a source gives more bytes
pub front_more : (old mid new : Option (List ℕ)) (bytes more : List ℕ) → old ≡ with_front bytes mid → mid ≡ with_front more new → old ≡ with_front (bytes ++ more) new
front_more old mid new bytes more first next = first ∙ ap (with_front bytes) next ∙ with_front_twice bytes more new
