-- Where a process stands in its text.
use Rattle.std.specs.Prelude.{◌≡◌, ℕ, ◌+◌, ℤ, List, [], ◌∷◌, ◌++◌, Some}
use Rattle.flat_expr.specs.declared.statement.Statement.{Statement}
use Rattle.flat_expr.specs.declared.statement.Statement.TheOpen.{Statement-F}
use Rattle.cycle_meaning.specs.Task.{Task, first_turn, Layer}
use Rattle.design_rules.specs.Ways.{layer_at}
use Rattle.process_laws.specs.Resumed.{Surroundings, outermost, body_in, AreOf, left_from}

-- at the statement with a number, or behind the last one; or before the first turn of the for loop with a number, which has these
-- first and last values
pub data ProcessPlace : Type 0 where
  at : Surroundings → ℕ → ProcessPlace
  turning : Surroundings → ℕ → Layer → ℤ → ℤ → ProcessPlace

abbrev pub at_start : ProcessPlace
at_start = at outermost 0

-- ---- what is left there

abbrev pub first_turn_of : Layer → ℤ → ℤ → List Task
first_turn_of (Statement-F.For p left direction right body) from last = first_turn p direction from last body ∷ []
first_turn_of _ from last = []

abbrev pub tasks_at : List Statement → ProcessPlace → List Task
tasks_at top (at round k) = left_from top round k
tasks_at top (turning round k layer from last) = first_turn_of layer from last ++ left_from top round (k + 1)

-- ---- it is in the text

abbrev pub IsFor : Layer → Type 0
IsFor (Statement-F.For p left direction right body) = Unit {0}
IsFor _ = ⊥

abbrev pub IsIn : List Statement → ProcessPlace → Type 0
IsIn top (at round k) = AreOf top round
IsIn top (turning round k layer from last) = AreOf top round × (layer_at k (body_in top round) ≡ Some layer) × IsFor layer
