-- The text of a ladder is short.
use Rattle.std.proofs.Common.{◌≡◌, ℕ, zero, suc, ◌+◌, ◌*◌, ◌<◌, ◌≤◌, List, [], ◌∷◌, ◌++◌, length, codes, decimal, refl, arith, length-append}
use Rattle.std.proofs.lemmas.Fmt.{length-decimal-le}
use Rattle.ladder.specs.Ladder.{Text, written, beginning, declaration, middle, equations, ending, sections, ladder_text}

-- the greatest length of these parts with numbers of two digits
abbrev most : List (Text × ℕ) → ℕ
most [] = 0
most (p ∷ parts) = length p.0 + 2 + most parts

abbrev AreFew : List (Text × ℕ) → Type 0
AreFew [] = Unit {0}
AreFew (p ∷ parts) = (p.1 < 100) × AreFew parts

written_short : (parts : List (Text × ℕ)) → AreFew parts → length (written parts) ≤ most parts
written_short [] few = omega arith
written_short (p ∷ parts) few =
    let low = few.0 in
    let number = length-decimal-le 2 p.1 (omega arith) (omega (arith, low)) (omega (arith, low)) in
    let one = length-append (p.0 ++ decimal p.1) (written parts) in
    let two = length-append p.0 (decimal p.1) in
    let rest = written_short parts few.1 in
    omega (arith, number, one, two, rest)

two_short : (a b : Text) (la lb whole : ℕ) → length a ≤ la → length b ≤ lb → la + lb ≤ whole → length (a ++ b) ≤ whole
two_short a b la lb whole ha hb fits = let all = length-append a b in omega (arith, all, ha, hb, fits)

is_short : (a : Text) (n : ℕ) → length a ≡ n → length a ≤ n
is_short a n e = omega (arith, e)

parts_short : (parts : List (Text × ℕ)) (end : Text) (n whole : ℕ) → AreFew parts → most parts ≡ n → length end ≤ 100 → n + 100 ≤ whole → length (written parts ++ end) ≤ whole
parts_short parts end n whole few is short fits =
    let w = written_short parts few in
    two_short (written parts) end n 100 whole (omega (arith, w, is)) short fits

abbrev declared : ℕ → List (Text × ℕ)
declared j =
    (codes "terminal n", j + 1) ∷ (codes " : electrical;\nquantity vr", j + 1) ∷ (codes " across ir", j + 1) ∷ (codes " through n", j) ∷ (codes " to n", j + 1)
    ∷ (codes ";\nquantity vc", j + 1) ∷ (codes " across ic", j + 1) ∷ (codes " through n", j + 1) ∷ []

abbrev equated : ℕ → List (Text × ℕ)
equated j = (codes "vr", j + 1) ∷ (codes " == 1.0e3 * ir", j + 1) ∷ (codes ";\nic", j + 1) ∷ (codes " == 1.0e-9 * vc", j + 1) ∷ []

declaration_short : (j : ℕ) → j < 15 → length (declaration j) ≤ 300
declaration_short j low =
    let next : j + 1 < 100 = omega (arith, low) in
    let this : j < 100 = omega (arith, low) in
    parts_short (declared j) (codes ";\n") 110 300 (next, (next, (next, (this, (next, (next, (next, (next, tt)))))))) refl (omega arith) (omega arith)

equations_short : (j : ℕ) → j < 15 → length (equations j) ≤ 300
equations_short j low =
    let next : j + 1 < 100 = omega (arith, low) in
    parts_short (equated j) (codes "'dot;\n") 43 300 (next, (next, (next, (next, tt)))) refl (omega arith) (omega arith)

sections_short : (section : ℕ → Text) → ((j : ℕ) → j < 15 → length (section j) ≤ 300) → (size : ℕ) → size ≤ 15 → length (sections section size) ≤ 300 * size
sections_short section h zero low = omega arith
sections_short section h (suc j) low =
    let rest = sections_short section h j (omega (arith, low)) in
    let one = h j (omega (arith, low)) in
    let all = length-append (sections section j) (section j) in
    omega (arith, rest, one, all)

sections_few : (section : ℕ → Text) → ((j : ℕ) → j < 15 → length (section j) ≤ 300) → (size : ℕ) → size ≤ 15 → length (sections section size) ≤ 4500
sections_few section h size low = let all = sections_short section h size low in omega (arith, all, low)

pub ladder_short : (size : ℕ) → size ≤ 15 → length (ladder_text size) ≤ 1048576
unfolding ladder_text
ladder_short size low =
    let d = sections_few declaration declaration_short size low in
    let e = sections_few equations equations_short size low in
    let first = two_short beginning (sections declaration size) 157 4500 5000 (is_short beginning 157 refl) d (omega arith) in
    let middles = two_short (beginning ++ sections declaration size) middle 5000 17 6000 first (is_short middle 17 refl) (omega arith) in
    let both = two_short (beginning ++ sections declaration size ++ middle) (sections equations size) 6000 4500 11000 middles e (omega arith) in
    two_short (beginning ++ sections declaration size ++ middle ++ sections equations size) ending 11000 147 1048576 both (is_short ending 147 refl) (omega arith)
