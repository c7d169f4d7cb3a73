-- What is known of the values of actuals.
use Rattle.std.specs.Prelude.{ℕ, List, IfSome}
use Rattle.std.specs.List.{All}
use Rattle.expr_types.specs.Known.{IsKind}
use Rattle.unit_meaning.specs.declared.request.Actual.{Actual}
use Rattle.unit_meaning.specs.declared.request.Actual.TheVariants as actual
use Rattle.unit_meaning.specs.declared.request.Assigned.{Assigned}
use Rattle.unit_meaning.specs.Walk.{actual_at}

-- a value that is known is one of its type
abbrev pub IsSoundActual : Actual → Type 0
IsSoundActual (actual.Value k v) = IfSome v (IsKind k)
IsSoundActual _ = Unit {0}

abbrev pub IsSoundAssigned : Assigned → Type 0
IsSoundAssigned a = IsSoundActual a.actual

abbrev pub AreSound : List Assigned → Type 0
AreSound all = All IsSoundAssigned all

-- of associations by the places of their formals
abbrev pub IsSoundGiven : List (ℕ × Assigned) → Type 0
IsSoundGiven given = (i : ℕ) → IfSome (actual_at given i) IsSoundAssigned
