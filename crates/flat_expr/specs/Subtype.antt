-- Subtypes (IEEE 1076, 6.3).
use Rattle.std.specs.Prelude.{Bool, true, ◌&&◌, int_le}
use Rattle.ams_value.specs.declared.val.Val.{Val}
use Rattle.ams_value.specs.declared.val.Val.TheVariants as val
use Rattle.flat_expr.specs.declared.subtype.Constraint.{Constraint}
use Rattle.flat_expr.specs.declared.subtype.Constraint.TheVariants as constraint

-- a value of the base type belongs to the subtype
abbrev pub lies_in : Constraint → Val → Bool
lies_in (constraint.Integer low high) (val.Int i) = int_le low i && int_le i high
lies_in (constraint.Real low high) (val.Real r) = int_le low r && int_le r high
lies_in _ _ = true
