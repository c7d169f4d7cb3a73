-- A walk over equations with their branches.
use Rattle.std.proofs.Common.{◌≡◌, ◌<◌, ◌≤◌, ◌+◌, ℕ, zero, suc, List, [], ◌∷◌, ◌++◌, length, map, take, drop, get_or, Result, Ok, Err, refl, sym, ap, subst, ◌∙◌, arith, length-append}
use Rattle.std.specs.List.{All}
use Rattle.std.proofs.lemmas.List.{map-append, drop_more, drop_all, get_or-map}
use Rattle.std.proofs.lemmas.List.Elements.{All-get_or}
use Rattle.fix_core.specs.Passes.{each, joined}
use Rattle.fix_core.specs.Laws.{at_place}
use Rattle.flat_expr.specs.declared.expr.Unknown.{Unknown}
use Rattle.flat_design.specs.declared.objects.Pair.{Pair}
use Rattle.flat_design.specs.declared.objects.Choice.{Choice}
use Rattle.flat_design.specs.declared.objects.Equation.{Equation}
use Rattle.flat_design.specs.declared.objects.Equation.TheVariants as equation
use Rattle.design_meaning.specs.Readings.{Readings}
use Rattle.design_meaning.specs.Equations.{Row, row_of, chosen_pairs}
use Rattle.design_rules.specs.Rows.{AreBranches}
use Rattle.prepared_pairs.specs.Prepared.{Content, prepared_each, prepared_by_branch}
use Rattle.equation_values.specs.Evaluable.{CanEvaluatePair, CanEvaluateEquation}
use Rattle.equation_values.proofs.Segments.{parts_written, parts_stop, joined_end}
use Rattle.equation_rows.specs.Parts.{pairs_of, choices_in, branch_in}
use Rattle.equation_rows.proofs.Places.{branch_places, branch_within, pairs_evaluable}

-- the next equation takes its part, and the branches behind are those of the equations behind
pub record Next (x : Equation) (more : List Equation) (bs : List ℕ) (k : ℕ) : Type 0 where
  pub within : k + choices_in x ≤ length bs
  pub split : chosen_pairs (x ∷ more) (drop k bs) ≡ pairs_of x (branch_in x bs k) ++ chosen_pairs more (drop (k + choices_in x) bs)
  pub later : AreBranches more (drop (k + choices_in x) bs)
  pub stands : (us : List Unknown) → branch_in x bs k < length (prepared_by_branch us x)
  pub asked : (us : List Unknown) → get_or (prepared_by_branch us x) (branch_in x bs k) [] ≡ prepared_each us (pairs_of x (branch_in x bs k))

-- there is a branch for a choice
branch_left : (c : Choice) (more : List Equation) (bs : List ℕ) (k : ℕ) → AreBranches (equation.Choice c ∷ more) (drop k bs) → k < length bs
branch_left c more [] zero h = absurd h
branch_left c more [] (suc k) h = absurd h
branch_left c more (b ∷ bs) zero h = omega arith
branch_left c more (b ∷ bs) (suc k) h = let low = branch_left c more bs k h in omega (arith, low)

add_none : (n : ℕ) → n ≡ n + 0
add_none n = omega arith

next : (x : Equation) (more : List Equation) (bs : List ℕ) (k : ℕ) → k ≤ length bs → AreBranches (x ∷ more) (drop k bs) → Next x more bs k
next (equation.Pair p) more bs k low h =
    record {
      within = omega (arith, low);
      split = ap (λ n. p ∷ chosen_pairs more (drop n bs)) (add_none k);
      later = subst (λ n. AreBranches more (drop n bs)) (add_none k) h;
      stands = λ us. omega arith;
      asked = λ us. refl;
    }
next (equation.Choice c) more bs k low h =
    let lt : k < length bs = branch_left c more bs k h in
    let is : drop k bs ≡ get_or bs k 0 ∷ drop (k + 1) bs = drop_more bs k 0 lt in
    let own : AreBranches (equation.Choice c ∷ more) (get_or bs k 0 ∷ drop (k + 1) bs) = subst (AreBranches (equation.Choice c ∷ more)) is h in
    record {
      within = omega (arith, lt);
      split = ap (chosen_pairs (equation.Choice c ∷ more)) is;
      later = own.1;
      stands = λ us. branch_within us c.selection (get_or bs k 0) own.0;
      asked = λ us. branch_places us c.selection (get_or bs k 0) own.0;
    }

-- the same, in the middle of a walk
pub next_at : (xs : List Equation) (bs : List ℕ) (i k : ℕ) (x : Equation) → i < length xs → x ≡ get_or xs i x → k ≤ length bs → AreBranches (drop i xs) (drop k bs) → Next x (drop (i + 1) xs) bs k
next_at xs bs i k x lt is low h = next x (drop (i + 1) xs) bs k low (subst (λ l. AreBranches l (drop k bs)) (at_place xs i x lt is) h)

split_at : (xs : List Equation) (bs : List ℕ) (i k : ℕ) (x : Equation) (pairs : List Pair) → i < length xs → x ≡ get_or xs i x → Next x (drop (i + 1) xs) bs k → pairs ≡ pairs_of x (branch_in x bs k)
    → chosen_pairs (drop i xs) (drop k bs) ≡ pairs ++ chosen_pairs (drop (i + 1) xs) (drop (k + choices_in x) bs)
split_at xs bs i k x pairs lt is h e =
    ap (λ l. chosen_pairs l (drop k bs)) (at_place xs i x lt is) ∙ h.split ∙ ap (λ ps. ps ++ chosen_pairs (drop (i + 1) xs) (drop (k + choices_in x) bs)) (sym e)

-- what is written ends where it did
pub ends_more : (xs : List Equation) (bs : List ℕ) (i k : ℕ) (x : Equation) (pairs : List Pair) (row last : ℕ) → i < length xs → x ≡ get_or xs i x → Next x (drop (i + 1) xs) bs k → pairs ≡ pairs_of x (branch_in x bs k)
    → row + length (chosen_pairs (drop i xs) (drop k bs)) ≡ last → (row + length pairs) + length (chosen_pairs (drop (i + 1) xs) (drop (k + choices_in x) bs)) ≡ last
ends_more xs bs i k x pairs row last lt is h e ends =
    let long = ap length (split_at xs bs i k x pairs lt is h e) ∙ length-append pairs (chosen_pairs (drop (i + 1) xs) (drop (k + choices_in x) bs)) in
    omega (arith, long, ends)

-- the rows of the next equation were written
pub walk_more : {B E : Type 0} (f : Row → Result B E) (xs : List Equation) (bs : List ℕ) (i k : ℕ) (x : Equation) (pairs : List Pair) (done after : List B) → i < length xs → x ≡ get_or xs i x → Next x (drop (i + 1) xs) bs k
    → pairs ≡ pairs_of x (branch_in x bs k) → joined done (each f (map row_of pairs)) ≡ Ok after
    → joined done (each f (map row_of (chosen_pairs (drop i xs) (drop k bs)))) ≡ joined after (each f (map row_of (chosen_pairs (drop (i + 1) xs) (drop (k + choices_in x) bs))))
walk_more f xs bs i k x pairs done after lt is h e told =
    let rest = chosen_pairs (drop (i + 1) xs) (drop (k + choices_in x) bs) in
    ap (λ ps. joined done (each f (map row_of ps))) (split_at xs bs i k x pairs lt is h e)
    ∙ ap (λ rs. joined done (each f rs)) (map-append row_of pairs rest)
    ∙ parts_written f (map row_of pairs) (map row_of rest) done after told

-- one of them has a fault
pub walk_stops : {B E : Type 0} (f : Row → Result B E) (xs : List Equation) (bs : List ℕ) (i k : ℕ) (x : Equation) (pairs : List Pair) (done : List B) (q : E) → i < length xs → x ≡ get_or xs i x → Next x (drop (i + 1) xs) bs k
    → pairs ≡ pairs_of x (branch_in x bs k) → joined done (each f (map row_of pairs)) ≡ Err q → joined done (each f (map row_of (chosen_pairs (drop i xs) (drop k bs)))) ≡ Err q
walk_stops f xs bs i k x pairs done q lt is h e told =
    let rest = chosen_pairs (drop (i + 1) xs) (drop (k + choices_in x) bs) in
    ap (λ ps. joined done (each f (map row_of ps))) (split_at xs bs i k x pairs lt is h e)
    ∙ ap (λ rs. joined done (each f rs)) (map-append row_of pairs rest)
    ∙ parts_stop f (map row_of pairs) (map row_of rest) done q told

-- no equation is left
pub walk_end : {B E : Type 0} (f : Row → Result B E) (xs : List Equation) (bs : List ℕ) (i k : ℕ) (out : List B) (row last : ℕ) → length xs ≤ i → row + length (chosen_pairs (drop i xs) (drop k bs)) ≡ last
    → joined (take row out) (each f (map row_of (chosen_pairs (drop i xs) (drop k bs)))) ≡ Ok (take last out)
walk_end f xs bs i k out row last all ends =
    let none : chosen_pairs (drop i xs) (drop k bs) ≡ [] = ap (λ l. chosen_pairs l (drop k bs)) (drop_all i xs all) in
    let short = ap length none in
    let same : row ≡ last = omega (arith, short, ends) in
    ap (λ ps. joined (take row out) (each f (map row_of ps))) none ∙ joined_end f (take row out) ∙ ap (λ n. Ok (take n out)) same

-- ---- what a call on the next equation asks

pub next_evaluable : (r : Readings) (xs : List Equation) (i : ℕ) (x : Equation) (b : ℕ) (pairs : List Pair) → All (CanEvaluateEquation r) xs → i < length xs → x ≡ get_or xs i x → pairs ≡ pairs_of x b → All (CanEvaluatePair r) pairs
next_evaluable r xs i x b pairs can lt is e =
    subst (All (CanEvaluatePair r)) (sym e) (pairs_evaluable r x b (subst (CanEvaluateEquation r) (sym is) (All-get_or (CanEvaluateEquation r) xs i x lt can)))

own_places : (us : List Unknown) (xs : List Equation) (i : ℕ) (x : Equation) (places : List (List (List Content))) (own : List (List Content)) → i < length xs → x ≡ get_or xs i x → places ≡ map (prepared_by_branch us) xs → own ≡ get_or places i own → own ≡ prepared_by_branch us x
own_places us xs i x places own lt is e at =
    at ∙ ap (λ l. get_or l i own) e ∙ get_or-map (prepared_by_branch us) xs i x own lt ∙ ap (prepared_by_branch us) (sym is)

pub next_stands : (us : List Unknown) (xs : List Equation) (bs : List ℕ) (i k : ℕ) (x : Equation) (b : ℕ) (places : List (List (List Content))) (own : List (List Content)) → i < length xs → x ≡ get_or xs i x → Next x (drop (i + 1) xs) bs k
    → b ≡ branch_in x bs k → places ≡ map (prepared_by_branch us) xs → own ≡ get_or places i own → b < length own
next_stands us xs bs i k x b places own lt is h e all at =
    let low = h.stands us in
    let long = ap length (own_places us xs i x places own lt is all at) in
    omega (arith, low, long, e)

pub next_asked : (us : List Unknown) (xs : List Equation) (bs : List ℕ) (i k : ℕ) (x : Equation) (b : ℕ) (pairs : List Pair) (places : List (List (List Content))) (own : List (List Content)) (asked : List Content) → i < length xs → x ≡ get_or xs i x
    → Next x (drop (i + 1) xs) bs k → b ≡ branch_in x bs k → pairs ≡ pairs_of x b → places ≡ map (prepared_by_branch us) xs → own ≡ get_or places i own → asked ≡ get_or own b [] → asked ≡ prepared_each us pairs
next_asked us xs bs i k x b pairs places own asked lt is h e ps all at found =
    found ∙ ap (λ l. get_or l b []) (own_places us xs i x places own lt is all at) ∙ ap (λ n. get_or (prepared_by_branch us x) n []) e ∙ h.asked us
    ∙ ap (λ n. prepared_each us (pairs_of x n)) (sym e) ∙ ap (prepared_each us) (sym ps)
