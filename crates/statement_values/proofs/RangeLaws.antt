-- A loop and its range.
use Rattle.std.proofs.Common.{◌≡◌, ℕ, ℤ, Bool, true, false, List, [], ◌∷◌, refl, arith}
use Rattle.std.specs.Prelude.{if◌then◌else◌, None, Some, Result, Ok, Err, IfSome}
use Rattle.std.proofs.lemmas.Int.{ints}
use Rattle.fix_core.specs.Passes.{◌>>=◌}
use Rattle.ams_value.specs.declared.val.Val.{Val}
use Rattle.flat_expr.specs.declared.expr.Direction.{Direction}
use Rattle.flat_expr.specs.declared.expr.Direction.TheVariants.{To, Downto}
use Rattle.flat_expr.specs.declared.statement.Statement.{Statement}
use Rattle.step_data.specs.declared.outcome.Refusal.{Refusal}
use Rattle.cycle_meaning.specs.Task.{first_turn}
use Rattle.cycle_meaning.specs.World.{evaluated}
use Rattle.cycle_meaning.specs.Statements.{is_empty, integer_of}
use Rattle.statement_values.specs.declared.range.LoopRange.{LoopRange}
use Rattle.statement_values.specs.LoopRanges.{range_between, turn_of, IsOnWay, RangesBeginLoops, RangesLead}

by_test : (p : ℕ) (direction : Direction) (body : List Statement) (empty : Bool) (first last : ℤ) →
    (if empty then [] else first_turn p direction first last body ∷ [])
    ≡ turn_of p direction body (if empty then None else Some (record { first = first; last = last }))
by_test p direction body true first last = refl
by_test p direction body false first last = refl

by_bounds : (p : ℕ) (direction : Direction) (body : List Statement) (left right : Result Val Refusal) →
    (left >>= (λ a. right >>= (λ b. Ok (if is_empty direction (integer_of a) (integer_of b) then [] else first_turn p direction (integer_of a) (integer_of b) body ∷ []))))
    ≡ ((left >>= (λ a. right >>= (λ b. Ok (range_between direction (integer_of a) (integer_of b))))) >>= (λ range. Ok (turn_of p direction body range)))
by_bounds p direction body (Ok a) (Ok b) = λ k. Ok (by_test p direction body (is_empty direction (integer_of a) (integer_of b)) (integer_of a) (integer_of b) k)
by_bounds p direction body (Ok a) (Err r) = refl
by_bounds p direction body (Err r) right = refl

pub ranges : RangesBeginLoops
ranges here l p left direction right body = by_bounds p direction body (evaluated here l left) (evaluated here l right)

-- ---- the way to the last value

not_past : (empty : Bool) (direction : Direction) (first last : ℤ) → (empty ≡ false → IsOnWay direction first last) →
    IfSome (if empty then None else Some (record { first = first; last = last })) (λ (range : LoopRange). IsOnWay direction range.first range.last)
not_past true direction first last h = tt
not_past false direction first last h = h refl

on_way : (direction : Direction) (first last : ℤ) → is_empty direction first last ≡ false → IsOnWay direction first last
on_way To first last h = grind (arith, ints)
on_way Downto first last h = grind (arith, ints)

pub lead : RangesLead
lead direction first last = not_past (is_empty direction first last) direction first last (on_way direction first last)
