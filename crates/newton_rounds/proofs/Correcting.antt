-- A point less its corrections, one unknown at a time.
use Rattle.std.proofs.Common.{◌≡◌, ℕ, ◌+◌, ◌<◌, ◌≤◌, ℤ, pos, List, length, take, drop, set, get_or, Ok, Err, refl, arith}
use Rattle.std.proofs.lemmas.List.{drop_more, take_more_set, drop-set-lt, append-nil, take_all, drop_all}
use Rattle.fix_core.specs.declared.NumFault.{NumFault}
use Rattle.fix_core.specs.Passes.{joined}
use Rattle.fix_core.specs.Laws.{joined-joined, joined_none}
use Rattle.fix_core.specs.Fixed.{difference_of}
use Rattle.design_meaning.specs.Newton.{corrected}

pub correction_more : (xs ds : List ℤ) (i : ℕ) (y : ℤ) → i < length xs → i < length ds → difference_of (get_or xs i (pos 0)) (get_or ds i (pos 0)) ≡ Ok y
    → joined (take i xs) (corrected (drop i xs) (drop i ds)) ≡ joined (take (i + 1) (set xs i y)) (corrected (drop (i + 1) (set xs i y)) (drop (i + 1) ds))
unfolding corrected
correction_more xs ds i y hx hd e =
    rw (drop_more xs i (pos 0) hx, drop_more ds i (pos 0) hd, e, take_more_set xs i y hx, drop-set-lt (i + 1) xs i y (omega arith)) (joined-joined (take i xs) y (corrected (drop (i + 1) xs) (drop (i + 1) ds)))

pub correction_fails : (xs ds : List ℤ) (i : ℕ) (e : NumFault) → i < length xs → i < length ds → difference_of (get_or xs i (pos 0)) (get_or ds i (pos 0)) ≡ Err e → joined (take i xs) (corrected (drop i xs) (drop i ds)) ≡ Err e
unfolding corrected
correction_fails xs ds i e hx hd h = rw (drop_more xs i (pos 0) hx, drop_more ds i (pos 0) hd, h) refl

pub correction_end : (xs ds : List ℤ) (i : ℕ) → length xs ≤ i → joined (take i xs) (corrected (drop i xs) (drop i ds)) ≡ Ok xs
unfolding corrected
correction_end xs ds i h = rw (drop_all i xs h, take_all i xs h, append-nil xs) refl

pub correction_start : (xs ds : List ℤ) → joined (take 0 xs) (corrected (drop 0 xs) (drop 0 ds)) ≡ corrected xs ds
correction_start xs ds = joined_none (corrected xs ds)

pub ruleset corrections = (correction_more, correction_fails, correction_end, correction_start)
