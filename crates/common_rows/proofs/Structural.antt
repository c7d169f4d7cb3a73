-- The structural set, by what is held of it.
use Rattle.std.proofs.Common.{ℤ, Ok, Err, Bool, true, false, subst, ◌≡◌, ◌<◌, ◌≤◌, ◌+◌, ◌*◌, ℕ, zero, suc, List, [], ◌∷◌, ◌++◌, length, map, drop, get_or, refl, sym, ap, ◌∙◌, arith, append_assoc, length-append}
use Rattle.std.specs.List.{All, range_with_len, enumerate_from}
use Rattle.std.proofs.lemmas.List.{map-append, length-map, append-nil, drop_all}
use Rattle.std.proofs.lemmas.List.Elements.{All-cons, All-nil, All-append}
use Rattle.fix_core.specs.Passes.{and_then}
use Rattle.fix_core.specs.Laws.{at_place}
use Rattle.flat_design.specs.declared.objects.Quantity.{Quantity}
use Rattle.flat_design.specs.declared.objects.QuantityKind.{QuantityKind}
use Rattle.flat_design.specs.declared.objects.QuantityKind.TheVariants as kind
use Rattle.flat_design.specs.declared.objects.Objects.{Objects}
use Rattle.flat_design.specs.Flat.{HasNumbers}
use Rattle.flat_expr.specs.declared.expr.Unknown.TheVariants as unknown
use Rattle.design_meaning.specs.declared.fault.EvalFault.{EvalFault}
use Rattle.design_meaning.specs.Readings.{Readings, unknown_of}
use Rattle.design_meaning.specs.Equations.{Row, BranchEnd, balance, ended, balance_from, is_node, end_at, ends_by, ends_from, ends_at, difference_by, differences_from, sums_of}
use Rattle.common_rows.specs.declared.forms.CommonForm.{CommonForm}
use Rattle.common_rows.specs.declared.forms.CommonForm.TheVariants as form
use Rattle.common_rows.specs.Forms.{structural_set, row_by, HasFewEnds, sum_forms, form_by, difference_forms, forms_of}

-- ---- the rows

sums : {X : Type 0} (f : ℕ → Row) (g : ℕ → CommonForm) → ((n : ℕ) → row_by (g n) ≡ f n) → (a : ℕ) (xs : List X) → map row_by (map g (range_with_len a (length xs))) ≡ map (λ (p : ℕ × X). f p.0) (enumerate_from a xs)
sums f g h a [] = refl
sums f g h a (x ∷ xs) = ap (λ w. w ∷ map row_by (map g (range_with_len (a + 1) (length xs)))) (h a) ∙ ap (λ l. f a ∷ l) (sums f g h (a + 1) xs)

one_difference : (q : ℕ) (k : QuantityKind) → map row_by (form_by q k) ≡ difference_by q k
one_difference q (kind.Across plus minus) = refl
one_difference q (kind.Through plus minus) = refl
one_difference q kind.Free = refl

differences : (q : ℕ) (xs : List Quantity) → map row_by (difference_forms q xs) ≡ differences_from q xs
differences q [] = refl
differences q (x ∷ xs) =
    map-append row_by (form_by q x.kind) (difference_forms (q + 1) xs)
    ∙ ap (λ l. l ++ map row_by (difference_forms (q + 1) xs)) (one_difference q x.kind)
    ∙ ap (λ l. difference_by q x.kind ++ l) (differences (q + 1) xs)

pub rows_are : (objects : Objects) → map row_by (forms_of objects) ≡ structural_set objects
rows_are objects =
    map-append row_by (sum_forms objects.quantities (length objects.nodes)) (difference_forms 0 objects.quantities)
    ∙ ap (λ l. l ++ map row_by (difference_forms 0 objects.quantities)) (sums (λ node. balance (ends_at objects node)) (λ node. form.Sum (ends_from node 0 objects.quantities)) (λ n. refl) 0 objects.nodes)
    ∙ ap (λ l. sums_of objects ++ l) (differences 0 objects.quantities)

pub count_is : (objects : Objects) (forms : List CommonForm) → forms ≡ forms_of objects → length forms ≡ length (structural_set objects)
count_is objects forms e = sym (length-map forms row_by) ∙ ap (λ l. length (map row_by l)) e ∙ ap length (rows_are objects)

-- ---- how many ends there are

one_end : (e : BranchEnd) (b : Bool) → length (end_at b e) ≤ 1
one_end e true = omega arith
one_end e false = omega arith

few_by : (node q : ℕ) (k : QuantityKind) → length (ends_by node q k) ≤ 2
few_by node q (kind.Through plus minus) =
    let plus_end : BranchEnd = record { quantity = q; minus_end = false } in
    let minus_end : BranchEnd = record { quantity = q; minus_end = true } in
    let long = length-append (end_at (is_node node plus) plus_end) (end_at (is_node node minus) minus_end) in
    omega (arith, long, one_end plus_end (is_node node plus), one_end minus_end (is_node node minus))
few_by node q (kind.Across plus minus) = omega arith
few_by node q kind.Free = omega arith

few_from : (node q : ℕ) (xs : List Quantity) → length (ends_from node q xs) ≤ 2 * length xs
few_from node q [] = omega arith
few_from node q (x ∷ xs) =
    let long = length-append (ends_by node q x.kind) (ends_from node (q + 1) xs) in
    omega (arith, long, few_by node q x.kind, few_from node (q + 1) xs)

few_sums : (xs : List Quantity) → length xs < 4294967296 → (a n : ℕ) → All HasFewEnds (map (λ node. form.Sum (ends_from node 0 xs)) (range_with_len a n))
few_sums xs h a zero = All-nil HasFewEnds
few_sums xs h a (suc n) =
    All-cons HasFewEnds (form.Sum (ends_from a 0 xs)) (map (λ node. form.Sum (ends_from node 0 xs)) (range_with_len (a + 1) n)) (let few = few_from a 0 xs in omega (arith, few, h)) (few_sums xs h (a + 1) n)

few_difference : (q : ℕ) (k : QuantityKind) → All HasFewEnds (form_by q k)
few_difference q (kind.Across plus minus) = All-cons HasFewEnds (form.Difference q plus minus) [] tt (All-nil HasFewEnds)
few_difference q (kind.Through plus minus) = All-nil HasFewEnds
few_difference q kind.Free = All-nil HasFewEnds

few_differences : (q : ℕ) (xs : List Quantity) → All HasFewEnds (difference_forms q xs)
few_differences q [] = All-nil HasFewEnds
few_differences q (x ∷ xs) = All-append HasFewEnds (form_by q x.kind) (difference_forms (q + 1) xs) (few_difference q x.kind) (few_differences (q + 1) xs)

pub few_ends : (objects : Objects) (forms : List CommonForm) → HasNumbers objects → forms ≡ forms_of objects → All HasFewEnds forms
few_ends objects forms h e =
    subst (All HasFewEnds) (sym e)
    (All-append HasFewEnds (sum_forms objects.quantities (length objects.nodes)) (difference_forms 0 objects.quantities)
    (few_sums objects.quantities h.quantities 0 (length objects.nodes)) (few_differences 0 objects.quantities))

-- ---- loops over the quantities

pub ends_next : (node i : ℕ) (xs : List Quantity) (x : Quantity) (done more : List BranchEnd) → i < length xs → x ≡ get_or xs i x → more ≡ done ++ ends_by node i x.kind
    → done ++ ends_from node i (drop i xs) ≡ more ++ ends_from node (i + 1) (drop (i + 1) xs)
ends_next node i xs x done more lt is e =
    ap (λ l. done ++ ends_from node i l) (at_place xs i x lt is)
    ∙ sym (append_assoc done (ends_by node i x.kind) (ends_from node (i + 1) (drop (i + 1) xs)))
    ∙ ap (λ l. l ++ ends_from node (i + 1) (drop (i + 1) xs)) (sym e)

pub ends_end : (node i : ℕ) (xs : List Quantity) (done : List BranchEnd) → length xs ≤ i → done ++ ends_from node i (drop i xs) ≡ done
ends_end node i xs done h = ap (λ l. done ++ ends_from node i l) (drop_all i xs h) ∙ append-nil done

pub forms_next : (i : ℕ) (xs : List Quantity) (x : Quantity) (done more : List CommonForm) → i < length xs → x ≡ get_or xs i x → more ≡ done ++ form_by i x.kind
    → done ++ difference_forms i (drop i xs) ≡ more ++ difference_forms (i + 1) (drop (i + 1) xs)
forms_next i xs x done more lt is e =
    ap (λ l. done ++ difference_forms i l) (at_place xs i x lt is)
    ∙ sym (append_assoc done (form_by i x.kind) (difference_forms (i + 1) (drop (i + 1) xs)))
    ∙ ap (λ l. l ++ difference_forms (i + 1) (drop (i + 1) xs)) (sym e)

pub forms_end : (i : ℕ) (xs : List Quantity) (done : List CommonForm) → length xs ≤ i → done ++ difference_forms i (drop i xs) ≡ done
forms_end i xs done h = ap (λ l. done ++ difference_forms i l) (drop_all i xs h) ∙ append-nil done

-- ---- the sum at a node

pub balance_next : (r : Readings) (total : ℤ) (ends : List BranchEnd) (i : ℕ) (e : BranchEnd) (next : ℤ) → i < length ends → e ≡ get_or ends i e → ended e total (unknown_of r (unknown.Quantity e.quantity)) ≡ Ok next
    → balance_from r total (drop i ends) ≡ balance_from r next (drop (i + 1) ends)
unfolding balance_from
balance_next r total ends i e next lt is h =
    ap (balance_from r total) (at_place ends i e lt is) ∙ ap (λ m. and_then (λ n. balance_from r n (drop (i + 1) ends)) m) h

pub balance_stops : (r : Readings) (total : ℤ) (ends : List BranchEnd) (i : ℕ) (e : BranchEnd) (q : EvalFault) → i < length ends → e ≡ get_or ends i e → ended e total (unknown_of r (unknown.Quantity e.quantity)) ≡ Err q
    → balance_from r total (drop i ends) ≡ Err q
unfolding balance_from
balance_stops r total ends i e q lt is h =
    ap (balance_from r total) (at_place ends i e lt is) ∙ ap (λ m. and_then (λ n. balance_from r n (drop (i + 1) ends)) m) h

pub balance_end : (r : Readings) (total : ℤ) (ends : List BranchEnd) (i : ℕ) → length ends ≤ i → balance_from r total (drop i ends) ≡ Ok total
unfolding balance_from
balance_end r total ends i h = ap (balance_from r total) (drop_all i ends h)
