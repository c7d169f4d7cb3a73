-- What an expression reads.
use Rattle.std.specs.Prelude.{ℕ, Bool, false, ℤ, pos, List}
use Rattle.std.specs.List.{slice_index_or}
use Rattle.ams_value.specs.declared.val.Val.{Val}
use Rattle.ams_value.specs.declared.val.Val.TheVariants as val
use Rattle.flat_expr.specs.declared.expr.SignalName.{SignalName}
use Rattle.flat_expr.specs.declared.expr.SignalName.TheVariants as name
use Rattle.flat_expr.specs.declared.expr.Unknown.{Unknown}
use Rattle.flat_expr.specs.declared.expr.Unknown.TheVariants as unknown

-- a signal's value, and whether it had an event in this cycle
pub record Seen : Type 0 where
  pub value : Val
  pub event : Bool

abbrev pub still : Val → Seen
still v = record { value = v; event = false }

-- the signals, the threshold signals and DOMAIN; the unknowns by their kinds, in units of 10^-12; the variables of the
-- process; and the time in ticks
pub record Readings : Type 0 where
  pub signals : List Seen
  pub thresholds : List Seen
  pub domain : Seen
  pub quantities : List ℤ
  pub references : List ℤ
  pub dots : List ℤ
  pub variables : List Val
  pub now : ℕ

-- at a number that is no object's a reading is FALSE without an event; no typed expression reads there
abbrev pub seen_of : Readings → SignalName → Seen
seen_of r (name.Signal i) = slice_index_or r.signals i (still (val.Bool false))
seen_of r (name.Threshold k) = slice_index_or r.thresholds k (still (val.Bool false))
seen_of r name.Domain = r.domain

abbrev pub unknown_of : Readings → Unknown → ℤ
unknown_of r (unknown.Quantity i) = slice_index_or r.quantities i (pos 0)
unknown_of r (unknown.Reference i) = slice_index_or r.references i (pos 0)
unknown_of r (unknown.Dot i) = slice_index_or r.dots i (pos 0)

abbrev pub variable_of : Readings → ℕ → Val
variable_of r i = slice_index_or r.variables i (val.Bool false)
