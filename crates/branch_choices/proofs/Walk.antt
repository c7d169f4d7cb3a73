-- A walk over the choices among equations.
use Rattle.std.proofs.Common.{◌≡◌, ◌≢◌, ◌<◌, ◌≤◌, ◌+◌, ℕ, List, [], ◌∷◌, length, set, take, drop, get_or, Result, Ok, Err, refl, ap, ◌∙◌, arith}
use Rattle.std.proofs.lemmas.List.{drop_all}
use Rattle.fix_core.specs.Passes.{each, joined}
use Rattle.fix_core.specs.Laws.{at_place}
use Rattle.flat_design.specs.declared.objects.Choice.{Choice}
use Rattle.flat_design.specs.declared.objects.Selection.{Selection}
use Rattle.flat_design.specs.declared.objects.Equation.{Equation}
use Rattle.flat_design.specs.declared.objects.Equation.TheVariants as equation
use Rattle.design_meaning.specs.Steps.{selections_of}
use Rattle.equation_values.proofs.Segments.{joined_more, joined_stops, joined_end}

-- an equation without a choice is passed
pub pair_passed : (xs : List Equation) (i : ℕ) (x : Equation) → i < length xs → x ≡ get_or xs i x → ((c : Choice) → x ≢ equation.Choice c) → selections_of (drop i xs) ≡ selections_of (drop (i + 1) xs)
pair_passed xs i (equation.Pair p) lt is none = ap selections_of (at_place xs i (equation.Pair p) lt is)
pair_passed xs i (equation.Choice c) lt is none = absurd (none c refl)

-- a choice is the next one
pub choice_next : (xs : List Equation) (i : ℕ) (x : Equation) (c : Choice) → i < length xs → x ≡ get_or xs i x → x ≡ equation.Choice c → selections_of (drop i xs) ≡ c.selection ∷ selections_of (drop (i + 1) xs)
choice_next xs i x c lt is own = ap selections_of (at_place xs i x lt is) ∙ ap (λ y. selections_of (y ∷ drop (i + 1) xs)) own

-- the branch of a choice was written
pub choice_written : {B E : Type 0} (f : Selection → Result B E) (xs : List Equation) (i : ℕ) (x : Equation) (c : Choice) (out : List B) (place : ℕ) (b : B) → i < length xs → x ≡ get_or xs i x → x ≡ equation.Choice c → place < length out → f c.selection ≡ Ok b
    → joined (take place out) (each f (selections_of (drop i xs))) ≡ joined (take (place + 1) (set out place b)) (each f (selections_of (drop (i + 1) xs)))
choice_written f xs i x c out place b lt is own low e =
    ap (λ l. joined (take place out) (each f l)) (choice_next xs i x c lt is own) ∙ joined_more f c.selection (selections_of (drop (i + 1) xs)) out place b low e

-- it has a fault
pub choice_stops : {B E : Type 0} (f : Selection → Result B E) (xs : List Equation) (i : ℕ) (x : Equation) (c : Choice) (done : List B) (q : E) → i < length xs → x ≡ get_or xs i x → x ≡ equation.Choice c → f c.selection ≡ Err q
    → joined done (each f (selections_of (drop i xs))) ≡ Err q
choice_stops f xs i x c done q lt is own e =
    ap (λ l. joined done (each f l)) (choice_next xs i x c lt is own) ∙ joined_stops f c.selection (selections_of (drop (i + 1) xs)) done q e

-- what is written ends where it did
pub ends_more : (xs : List Equation) (i : ℕ) (x : Equation) (c : Choice) (place last : ℕ) → i < length xs → x ≡ get_or xs i x → x ≡ equation.Choice c → place + length (selections_of (drop i xs)) ≡ last → (place + 1) + length (selections_of (drop (i + 1) xs)) ≡ last
ends_more xs i x c place last lt is own ends = let one = ap length (choice_next xs i x c lt is own) in omega (arith, one, ends)

pub choice_within : (xs : List Equation) (i : ℕ) (x : Equation) (c : Choice) (place last : ℕ) → i < length xs → x ≡ get_or xs i x → x ≡ equation.Choice c → place + length (selections_of (drop i xs)) ≡ last → place < last
choice_within xs i x c place last lt is own ends = let one = ap length (choice_next xs i x c lt is own) in omega (arith, one, ends)

-- no equation is left
pub walk_end : {B E : Type 0} (f : Selection → Result B E) (xs : List Equation) (i : ℕ) (out : List B) (place last : ℕ) → length xs ≤ i → place + length (selections_of (drop i xs)) ≡ last
    → joined (take place out) (each f (selections_of (drop i xs))) ≡ Ok (take last out)
walk_end f xs i out place last all ends =
    let none : selections_of (drop i xs) ≡ [] = ap selections_of (drop_all i xs all) in
    let short = ap length none in
    let same : place ≡ last = omega (arith, short, ends) in
    ap (λ l. joined (take place out) (each f l)) none ∙ joined_end f (take place out) ∙ ap (λ n. Ok (take n out)) same
