-- The equation in place of a dot.
use Rattle.std.specs.Prelude.{ℕ, ◌<◌, ◌≤◌, IsTrue, List, length}
use Rattle.flat_design.specs.declared.objects.Objects.{Objects}
use Rattle.flat_design.specs.Order.{is_unknown}
use Rattle.step_data.specs.declared.breaks.Element.{Element}
use Rattle.design_meaning.specs.Equations.{Row, given, euler, trapezoid, Augmentation, augmentation, replaced_by_break, element_of}
use Rattle.augmentation_rows.specs.declared.forms.DotForm.{DotForm}
use Rattle.augmentation_rows.specs.declared.forms.DotForm.TheVariants as form

abbrev pub row_by : DotForm → Row
row_by (form.Given u v) = given u v
row_by (form.Euler q d start s) = euler q d start s
row_by (form.Trapezoid q d start rate s) = trapezoid q d start rate s

-- of a dot and its quantity, the augmentation equation or the break element in its place
abbrev pub dot_row : Augmentation → List Element → ℕ → ℕ → Row
dot_row set elements d q = replaced_by_break (element_of q elements) (augmentation set d q)

-- the step of a row is at most a second
abbrev pub IsShortRow : Row → Type 0
IsShortRow (trapezoid q d start rate s) = s ≤ 1000000000000
IsShortRow _ = Unit {0}

-- a row in place of a dot whose unknowns are those of the design
abbrev pub IsRowOf : Objects → Row → Type 0
IsRowOf objects (given u v) = IsTrue (is_unknown objects u)
IsRowOf objects (euler q d start s) = (q < length objects.quantities) × (d < length objects.dots)
IsRowOf objects (trapezoid q d start rate s) = (q < length objects.quantities) × (d < length objects.dots)
IsRowOf objects _ = ⊥
