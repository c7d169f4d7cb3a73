-- Laws of the equation sets.
use Rattle.std.proofs.Common.{◌≡◌, ℕ, ◌+◌, zero, suc, Bool, true, false, List, [], ◌∷◌, length, refl, ap, ◌∙◌, arith, length-append, add-zero, zero-add}
use Rattle.std.specs.Prelude.{Some}
use Rattle.std.specs.List.{slice_get}
use Rattle.flat_design.specs.declared.objects.Quantity.{Quantity}
use Rattle.flat_design.specs.declared.objects.QuantityKind.{QuantityKind}
use Rattle.flat_design.specs.declared.objects.QuantityKind.TheVariants as kind
use Rattle.step_data.specs.declared.breaks.Element.{Element}
use Rattle.design_meaning.specs.Equations.{BranchEnd, Augmentation, end_at, is_node, ends_by, ends_from, rows_of, augmentation, augmentations_from, element_of, replaced_by_break}
use Rattle.design_meaning.specs.Laws.{one_if, ends_counted, branch_ends, SumsHaveTheBranchEnds, SetsDifferInAugmentation}

length-end_at : (b : Bool) (x : BranchEnd) → length (end_at b x) ≡ one_if b
length-end_at true x = refl
length-end_at false x = refl

length-ends_by : (node q : ℕ) (k : QuantityKind) → length (ends_by node q k) ≡ ends_counted node k
length-ends_by node q kind.Free = refl
length-ends_by node q (kind.Across a b) = refl
length-ends_by node q (kind.Through a b) =
    rw length-append (ap (λ n. n + length (end_at (is_node node b) (record { quantity = q; minus_end = true }))) (length-end_at (is_node node a) _)
    ∙ ap (λ n. one_if (is_node node a) + n) (length-end_at (is_node node b) _))

length-ends_from : (node q : ℕ) (xs : List Quantity) → length (ends_from node q xs) ≡ branch_ends node xs
length-ends_from node q [] = refl
length-ends_from node q (x ∷ xs) =
    rw length-append (ap (λ n. n + length (ends_from node (q + 1) xs)) (length-ends_by node q x.kind)
    ∙ ap (λ n. ends_counted node x.kind + n) (length-ends_from node (q + 1) xs))

pub sums : SumsHaveTheBranchEnds
sums objects node = length-ends_from node 0 objects.quantities

length-augmentations : (set : Augmentation) (elements : List Element) (d : ℕ) (qs : List ℕ) → length (augmentations_from set elements d qs) ≡ length qs
length-augmentations set elements d [] = refl
length-augmentations set elements d (q ∷ qs) = ap suc (length-augmentations set elements (d + 1) qs)

own_row : (set : Augmentation) (elements : List Element) (from d q : ℕ) (qs : List ℕ) → slice_get qs d ≡ Some q
    → slice_get (augmentations_from set elements from qs) d ≡ Some (replaced_by_break (element_of q elements) (augmentation set (from + d) q))
own_row set elements from d q [] h = cc
own_row set elements from zero q (p ∷ qs) h =
    let same : p ≡ q = cc in
    rw (add-zero, same) refl
own_row set elements from (suc d) q (p ∷ qs) h =
    let moved : (from + 1) + d ≡ from + suc d = omega arith in
    rw (← moved) (own_row set elements (from + 1) d q qs h)

pub sets : SetsDifferInAugmentation
unfolding rows_of
sets = record {
  parts = λ objects branches set elements. refl;
  one_each = λ objects set elements. length-augmentations set elements 0 objects.dots;
  own = λ objects set elements d q h. rw (zero-add d) at (own_row set elements 0 d q objects.dots h);
}
