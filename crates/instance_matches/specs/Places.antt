-- The places of formals, one after the other.
use Rattle.std.specs.Prelude.{ℕ, ◌+◌, nat_eq, if◌then◌else◌, List, [], ◌∷◌, ◌++◌, slice_get, Option, Some, None}
use Rattle.std.specs.List.{list_any}
use Rattle.unit_meaning.specs.declared.request.Assigned.{Assigned}
use Rattle.unit_meaning.specs.Walk.{formal_place, closed_actual}

abbrev pub closed : Assigned → Option Assigned
closed a = closed_actual (Some a)

abbrev pub closed_at : List Assigned → ℕ → Option Assigned
closed_at all place = closed_actual (slice_get all place)

-- a place that none of these is
abbrev pub unless_taken : List ℕ → Option ℕ → Option ℕ
unless_taken places (Some i) = if list_any (nat_eq i) places then None else Some i
unless_taken places None = None

abbrev pub free_place : List ℕ → List ℕ → ℕ → Option ℕ → Option ℕ
free_place names places j formal = unless_taken places (formal_place names j formal)

abbrev pub with_place : (List ℕ → Option (List ℕ)) → List ℕ → Option ℕ → Option (List ℕ)
with_place rest places (Some i) = rest (places ++ i ∷ [])
with_place rest places None = None

-- the places of the formals of associations, the first of which stands at j, behind those so far
abbrev pub placed : List ℕ → ℕ → List Assigned → List ℕ → Option (List ℕ)
placed names j [] places = Some places
placed names j (a ∷ more) places = with_place (placed names (j + 1) more) places (free_place names places j a.formal)
