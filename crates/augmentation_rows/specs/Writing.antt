-- The slopes of a row in place of a dot, at their places.
use Rattle.std.specs.Prelude.{ℕ, ℤ, pos, neg_ℤ, List, slice_set}
use Rattle.fix_core.specs.Units.{one}
use Rattle.fix_core.specs.Rounding.{rnd}
use Rattle.flat_expr.specs.declared.expr.Unknown.TheVariants.{Quantity, Dot}
use Rattle.flat_design.specs.declared.objects.Objects.{Objects}
use Rattle.flat_design.specs.Order.{number_of}
use Rattle.design_meaning.specs.Equations.{Row, given, euler, trapezoid}

-- 1.0 for a quantity, and a slope for its dot
abbrev pub with_two : Objects → ℕ → ℕ → ℤ → List ℤ → List ℤ
with_two objects q d slope line = slice_set (slice_set line (number_of objects (Quantity q)) one) (number_of objects (Dot d)) slope

-- a line with the slopes of a row
abbrev pub with_slopes : Objects → Row → List ℤ → List ℤ
with_slopes objects (given u v) line = slice_set line (number_of objects u) one
with_slopes objects (euler q d start s) line = with_two objects q d (neg_ℤ (pos s)) line
with_slopes objects (trapezoid q d start rate s) line = with_two objects q d (neg_ℤ (rnd (pos s) (pos 2))) line
with_slopes objects _ line = line
