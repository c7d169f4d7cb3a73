-- Signals, unknowns and DOMAIN as they are read.
use Rattle.std.specs.Prelude.{Bool, true, nat_lt, if◌then◌else◌, ℤ, pos, List, length}
use Rattle.std.specs.List.{slice_index_or}
use Rattle.ams_value.specs.declared.val.Val.{Val}
use Rattle.flat_expr.specs.declared.expr.Unknown.{Unknown}
use Rattle.flat_expr.specs.declared.expr.Unknown.TheVariants.{Quantity, Reference, Dot}
use Rattle.flat_design.specs.declared.objects.Objects.{Objects}
use Rattle.flat_design.specs.Order.{number_of}
use Rattle.design_meaning.specs.Reading.{quiescent_domain, time_domain}
pub use Rattle.driving_values.specs.Driving.{seens}

abbrev pub domain_value : Bool → Val
domain_value timed = if timed then time_domain else quiescent_domain

-- no unknown of another kind has this number
abbrev pub is_there : Objects → Unknown → Bool
is_there objects (Quantity i) = nat_lt i (length objects.quantities)
is_there objects (Reference i) = nat_lt i (length objects.nodes)
is_there objects (Dot i) = true

-- the value of an unknown at a point, 0 where there is none of this number
abbrev pub unknown_in : Objects → List ℤ → Unknown → ℤ
unknown_in objects x u = if is_there objects u then slice_index_or x (number_of objects u) (pos 0) else pos 0
