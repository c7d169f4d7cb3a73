-- The ranges of for loops.
use Rattle.std.specs.Prelude.{◌≡◌, ◌≤ℤ◌, ℕ, ℤ, if◌then◌else◌, List, [], ◌∷◌, Option, Some, None, Result, Ok, IfSome}
use Rattle.std.specs.Ordering.{int_eq}
use Rattle.fix_core.specs.Passes.{◌>>=◌}
use Rattle.flat_expr.specs.declared.expr.FlatExpr.{FlatExpr}
use Rattle.flat_expr.specs.declared.expr.Direction.{Direction}
use Rattle.flat_expr.specs.declared.expr.Direction.TheVariants.{To, Downto}
use Rattle.flat_expr.specs.declared.statement.Statement.{Statement}
use Rattle.step_data.specs.declared.outcome.Refusal.{Refusal}
use Rattle.cycle_meaning.specs.Task.{Task, first_turn}
use Rattle.cycle_meaning.specs.World.{Context, Local, evaluated}
use Rattle.cycle_meaning.specs.Statements.{is_empty, integer_of, for_loop}
use Rattle.cycle_meaning.specs.Processes.{stepped}
use Rattle.statement_values.specs.declared.range.LoopRange.{LoopRange}

-- the first and the last value, and none of an empty range
abbrev pub range_between : Direction → ℤ → ℤ → Option LoopRange
range_between direction first last = if is_empty direction first last then None else Some (record { first = first; last = last })

abbrev pub loop_range : Context → Local → FlatExpr → Direction → FlatExpr → Result (Option LoopRange) Refusal
loop_range here l left direction right = do
  a ← evaluated here l left
  b ← evaluated here l right
  Ok (range_between direction (integer_of a) (integer_of b))

-- a value is not past the last one
abbrev pub IsOnWay : Direction → ℤ → ℤ → Type 0
IsOnWay To i last = i ≤ℤ last
IsOnWay Downto i last = last ≤ℤ i

-- the value of a further turn, and none behind the last one
abbrev pub further_value : Direction → ℤ → ℤ → Option ℤ
further_value direction i last = if int_eq i last then None else Some (stepped direction i)

-- the first value of a range is on the way to its last one
abbrev pub RangesLead : Type 0
RangesLead = (direction : Direction) (first last : ℤ) → IfSome (range_between direction first last) (λ (range : LoopRange). IsOnWay direction range.first range.last)

-- the first turn of a loop, and none of an empty range
abbrev pub turn_of : ℕ → Direction → List Statement → Option LoopRange → List Task
turn_of p direction body None = []
turn_of p direction body (Some range) = first_turn p direction range.first range.last body ∷ []

-- a for loop begins with the first turn of its range
abbrev pub RangesBeginLoops : Type 0
RangesBeginLoops =
    (here : Context) (l : Local) (p : ℕ) (left : FlatExpr) (direction : Direction) (right : FlatExpr) (body : List Statement) →
    for_loop here l p left direction right body ≡ (loop_range here l left direction right >>= (λ range. Ok (turn_of p direction body range)))
