-- The rows of a set, part by part.
use Rattle.std.proofs.Common.{◌≡◌, ◌≤◌, ◌+◌, ◌-◌, ℕ, ℤ, List, [], ◌∷◌, ◌++◌, length, take, map, Result, Ok, Err, refl, sym, ap, ◌∙◌, arith, append_assoc, length-append}
use Rattle.std.proofs.lemmas.List.{length-map, take_all}
use Rattle.std.proofs.Common.{zero-add}
use Rattle.std.specs.Prelude.{OnOk}
use Rattle.ams_value.specs.declared.val.Val.{Val}
use Rattle.flat_design.specs.declared.objects.Equation.{Equation}
use Rattle.step_data.specs.declared.outcome.ChooseKind.{ChooseKind}
use Rattle.design_meaning.specs.Steps.{choose}
use Rattle.fix_core.specs.Passes.{each, joined, answer}
use Rattle.fix_core.specs.Laws.{joined_none}
use Rattle.flat_design.specs.declared.objects.Objects.{Objects}
use Rattle.flat_design.specs.Order.{unknown_count}
use Rattle.flat_design.proofs.OrderLaws.{laws}
use Rattle.step_data.specs.declared.breaks.Element.{Element}
use Rattle.step_data.specs.declared.outcome.Cause.{Cause}
use Rattle.design_meaning.specs.declared.fault.EvalFault.{EvalFault}
use Rattle.design_meaning.specs.Equations.{Row, Augmentation, quiescent, row_of, chosen_pairs, sums_of, differences_from, augmentations_from, rows_of}
use Rattle.design_meaning.specs.Newton.{of_evaluation}
use Rattle.design_rules.specs.Design.{IsDesign}
use Rattle.design_rules.specs.Rows.{AreBranches}
use Rattle.design_rules.proofs.Counts.{rows_are_counted, chosen_are_branches}
use Rattle.equation_values.proofs.Segments.{parts_written, parts_stop}
use Rattle.common_rows.specs.Forms.{structural_set}

-- the explicit, the structural and the augmentation set
abbrev pub explicit_set : Objects → List ℕ → List Row
explicit_set objects branches = map row_of (chosen_pairs objects.equations branches)

pub parts_are : (objects : Objects) (branches : List ℕ) (set : Augmentation) (elements : List Element)
    → rows_of objects branches set elements ≡ explicit_set objects branches ++ (structural_set objects ++ augmentations_from set elements 0 objects.dots)
unfolding rows_of
parts_are objects branches set elements =
    let E = explicit_set objects branches in
    let A = augmentations_from set elements 0 objects.dots in
    ap (λ l. l ++ A) (append_assoc E (sums_of objects) (differences_from 0 objects.quantities))
    ∙ append_assoc E (structural_set objects) A

length-augmentations : (set : Augmentation) (elements : List Element) (d : ℕ) (qs : List ℕ) → length (augmentations_from set elements d qs) ≡ length qs
length-augmentations set elements d [] = refl
length-augmentations set elements d (q ∷ qs) = let more = length-augmentations set elements (d + 1) qs in omega (arith, more)

pub record Counted (objects : Objects) (branches : List ℕ) : Type 0 where
  pub sum : length (chosen_pairs objects.equations branches) + (length (structural_set objects) + length objects.dots) ≡ unknown_count objects

pub counted : (objects : Objects) → IsDesign objects → (branches : List ℕ) → AreBranches objects.equations branches → Counted objects branches
counted objects h branches k =
    let E = explicit_set objects branches in
    let S = structural_set objects in
    let A = augmentations_from quiescent [] 0 objects.dots in
    let whole : length (rows_of objects branches quiescent []) ≡ unknown_count objects = rows_are_counted objects h branches k quiescent [] ∙ laws.count objects in
    let split : length (rows_of objects branches quiescent []) ≡ length E + length (S ++ A) = ap length (parts_are objects branches quiescent []) ∙ length-append E (S ++ A) in
    let front : length E ≡ length (chosen_pairs objects.equations branches) = length-map (chosen_pairs objects.equations branches) row_of in
    let rest : length (S ++ A) ≡ length S + length A = length-append S A in
    let last : length A ≡ length objects.dots = length-augmentations quiescent [] 0 objects.dots in
    record { sum = omega (arith, whole, split, front, rest, last) }

-- ---- three parts, one behind the other

pub all_written : {B E : Type 0} (f : Row → Result B E) (xs ys zs : List Row) (rows0 rows1 rows2 rows3 : List B) (a b n : ℕ) (r : Result (Unit {0}) E)
    → joined (take 0 rows0) (each f xs) ≡ Ok (take a rows1) → joined (take a rows1) (each f ys) ≡ Ok (take b rows2) → joined (take b rows2) (each f zs) ≡ answer r (take n rows3) → length rows3 ≤ n
    → each f (xs ++ (ys ++ zs)) ≡ answer r rows3
all_written f xs ys zs rows0 rows1 rows2 rows3 a b n r first second third long =
    sym (joined_none (each f (xs ++ (ys ++ zs))))
    ∙ parts_written f xs (ys ++ zs) [] (take a rows1) first
    ∙ parts_written f ys zs (take a rows1) (take b rows2) second
    ∙ third ∙ ap (answer r) (take_all n rows3 long)

pub first_stops : {B E : Type 0} (f : Row → Result B E) (xs more : List Row) (rows0 : List B) (q : E) → joined (take 0 rows0) (each f xs) ≡ Err q → each f (xs ++ more) ≡ Err q
first_stops f xs more rows0 q first = sym (joined_none (each f (xs ++ more))) ∙ parts_stop f xs more [] q first

pub second_stops : {B E : Type 0} (f : Row → Result B E) (xs ys more : List Row) (rows0 rows1 : List B) (a : ℕ) (q : E)
    → joined (take 0 rows0) (each f xs) ≡ Ok (take a rows1) → joined (take a rows1) (each f ys) ≡ Err q → each f (xs ++ (ys ++ more)) ≡ Err q
second_stops f xs ys more rows0 rows1 a q first second =
    sym (joined_none (each f (xs ++ (ys ++ more)))) ∙ parts_written f xs (ys ++ more) [] (take a rows1) first ∙ parts_stop f ys more (take a rows1) q second

-- ---- the parts as they are written

pub told_first : {B E : Type 0} (f g : Row → Result B E) (xs ys : List Equation) (branches : List ℕ) (rows0 rows1 : List B) (r : Result (Unit {0}) E) → g ≡ f → ys ≡ xs
    → joined (take 0 rows0) (each g (map row_of (chosen_pairs ys branches))) ≡ answer r (take (0 + length (chosen_pairs ys branches)) rows1)
    → joined (take 0 rows0) (each f (map row_of (chosen_pairs xs branches))) ≡ answer r (take (length (chosen_pairs xs branches)) rows1)
told_first f g xs ys branches rows0 rows1 r same is h =
    ap (λ k. joined (take 0 rows0) (each k (map row_of (chosen_pairs xs branches)))) (sym same)
    ∙ ap (λ es. joined (take 0 rows0) (each g (map row_of (chosen_pairs es branches)))) (sym is)
    ∙ h
    ∙ ap (λ n. answer r (take n rows1)) (zero-add (length (chosen_pairs ys branches)))
    ∙ ap (λ es. answer r (take (length (chosen_pairs es branches)) rows1)) is

pub told_second : {B E : Type 0} (f : Objects → Row → Result B E) (objects common : Objects) (rows1 rows2 : List B) (m a b : ℕ) (r : Result (Unit {0}) E) → common ≡ objects → m ≡ a → b ≡ a + length (structural_set objects)
    → joined (take m rows1) (each (f common) (structural_set common)) ≡ answer r (take (m + length (structural_set common)) rows2)
    → joined (take a rows1) (each (f objects) (structural_set objects)) ≡ answer r (take b rows2)
told_second f objects common rows1 rows2 m a b r same here end h =
    ap (λ k. joined (take k rows1) (each (f objects) (structural_set objects))) (sym here)
    ∙ ap (λ o. joined (take m rows1) (each (f o) (structural_set o))) (sym same)
    ∙ h
    ∙ ap (λ o. answer r (take (m + length (structural_set o)) rows2)) same
    ∙ ap (λ k. answer r (take (k + length (structural_set objects)) rows2)) here
    ∙ ap (λ k. answer r (take k rows2)) (sym end)

pub told_third : {B E : Type 0} (f : Objects → Row → Result B E) (objects flat : Objects) (set : Augmentation) (elements : List Element) (rows2 rows3 : List B) (d b : ℕ) (r : Result (Unit {0}) E) → flat ≡ objects → d ≡ b
    → joined (take d rows2) (each (f flat) (augmentations_from set elements 0 flat.dots)) ≡ answer r (take (d + length flat.dots) rows3)
    → joined (take b rows2) (each (f objects) (augmentations_from set elements 0 objects.dots)) ≡ answer r (take (d + length objects.dots) rows3)
told_third f objects flat set elements rows2 rows3 d b r same here h =
    ap (λ k. joined (take k rows2) (each (f objects) (augmentations_from set elements 0 objects.dots))) (sym here)
    ∙ ap (λ (o : Objects). joined (take d rows2) (each (f o) (augmentations_from set elements 0 o.dots))) (sym same)
    ∙ h
    ∙ ap (λ (o : Objects). answer r (take (d + length o.dots) rows3)) same

-- where each part begins
pub record Places (objects : Objects) (branches : List ℕ) (dots len : ℕ) : Type 0 where
  pub enough : len ≤ dots
  pub second : dots - len ≡ length (chosen_pairs objects.equations branches)
  pub third : dots ≡ length (chosen_pairs objects.equations branches) + length (structural_set objects)
  pub last : dots + length objects.dots ≡ unknown_count objects

pub places_found : (objects flat common : Objects) (branches dots : List ℕ) (count len : ℕ) → Counted objects branches → flat ≡ objects → common ≡ objects → dots ≡ flat.dots → count ≡ unknown_count flat → len ≡ length (structural_set common)
    → Places objects branches (count - length dots) len
places_found objects flat common branches dots count len counted ef ec ed eu el =
    let d : length dots ≡ length objects.dots = ap length (ed ∙ ap (λ (o : Objects). o.dots) ef) in
    let u : count ≡ unknown_count objects = eu ∙ ap unknown_count ef in
    let l : len ≡ length (structural_set objects) = el ∙ ap (λ o. length (structural_set o)) ec in
    record {
      enough = omega (arith, d, u, l, counted.sum);
      second = omega (arith, d, u, l, counted.sum);
      third = omega (arith, d, u, l, counted.sum);
      last = omega (arith, d, u, l, counted.sum);
    }

-- ---- the causes of a choice

pub chosen : {X : Type 0} (f : X → Result ℕ EvalFault) (xs : List X) (out0 out : List ℕ) (r : Result (Unit {0}) EvalFault) (n : ℕ)
    → joined (take 0 out0) (each f xs) ≡ answer r (take n out) → length out ≤ n → of_evaluation (each f xs) ≡ answer (of_evaluation r) out
chosen f xs out0 out r n h long = ap of_evaluation (sym (joined_none (each f xs)) ∙ h ∙ ap (answer r) (take_all n out long)) ∙ at r
  where
    at : (r : Result (Unit {0}) EvalFault) → of_evaluation (answer r out) ≡ answer (of_evaluation r) out
    at (Ok u) = refl
    at (Err e) = refl

pub chosen_branches : (objects : Objects) → IsDesign objects → (frame : List Val) (t : ℕ) (kind : ChooseKind) (x : List ℤ) (out : List ℕ) (r : Result (Unit {0}) Cause) → choose objects frame t kind x ≡ answer r out
    → OnOk r (AreBranches objects.equations out)
chosen_branches objects design frame t kind x out (Ok u) h = chosen_are_branches objects design frame t kind x out h
chosen_branches objects design frame t kind x out (Err q) h = tt
