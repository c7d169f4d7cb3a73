-- The equations that every set has besides the explicit ones: the structural set (IEEE 1076.1), by what the code holds.
use Rattle.std.specs.Prelude.{ℕ, ◌+◌, ◌≤◌, ℤ, ◌+ℤ◌, neg_ℤ, List, [], ◌∷◌, ◌++◌, length, map}
use Rattle.std.specs.List.{range_with_len}
use Rattle.fix_core.specs.Units.{one}
use Rattle.flat_expr.specs.declared.expr.Unknown.{Unknown}
use Rattle.flat_expr.specs.declared.expr.Unknown.TheVariants as unknown
use Rattle.flat_design.specs.declared.objects.Quantity.{Quantity}
use Rattle.flat_design.specs.declared.objects.QuantityKind.{QuantityKind}
use Rattle.flat_design.specs.declared.objects.QuantityKind.TheVariants as kind
use Rattle.flat_design.specs.declared.objects.Objects.{Objects}
use Rattle.design_meaning.specs.Equations.{Row, balance, difference, at_unknown, ends_slope, reference_slope, ends_from, sums_of, differences_from}
use Rattle.common_rows.specs.declared.forms.CommonForm.{CommonForm}
use Rattle.common_rows.specs.declared.forms.CommonForm.TheVariants as form

-- the conservation sum of each node, and each across quantity
abbrev pub structural_set : Objects → List Row
structural_set objects = sums_of objects ++ differences_from 0 objects.quantities

-- ---- what is held of them

abbrev pub row_by : CommonForm → Row
row_by (form.Sum ends) = balance ends
row_by (form.Difference q plus minus) = difference q plus minus

-- the slope by an unknown, which is the same at every point
abbrev pub slope_by : CommonForm → Unknown → ℤ
slope_by (form.Sum ends) u = ends_slope u ends
slope_by (form.Difference q plus minus) u =
    at_unknown (unknown.Quantity q) u one +ℤ reference_slope u plus (neg_ℤ one) +ℤ reference_slope u minus one

-- so few that each slope is a number
abbrev pub HasFewEnds : CommonForm → Type 0
HasFewEnds (form.Sum ends) = length ends ≤ 8589934592
HasFewEnds (form.Difference q plus minus) = Unit {0}

abbrev pub sum_forms : List Quantity → ℕ → List CommonForm
sum_forms quantities nodes = map (λ node. form.Sum (ends_from node 0 quantities)) (range_with_len 0 nodes)

abbrev pub form_by : ℕ → QuantityKind → List CommonForm
form_by q (kind.Across plus minus) = form.Difference q plus minus ∷ []
form_by q _ = []

abbrev pub difference_forms : ℕ → List Quantity → List CommonForm
difference_forms q [] = []
difference_forms q (x ∷ more) = form_by q x.kind ++ difference_forms (q + 1) more

abbrev pub forms_of : Objects → List CommonForm
forms_of objects = sum_forms objects.quantities (length objects.nodes) ++ difference_forms 0 objects.quantities
