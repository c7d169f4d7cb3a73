-- What it is to perform a statement.
use Rattle.std.specs.Prelude.{◌≡◌, ◌<◌, ◌+◌, ◌^◌, ◌++◌, [], ◌∷◌, pos, ℕ, ℤ, List, Option, Some, None, Result, Ok, Err}
use Rattle.flat_expr.specs.declared.statement.Statement.{Statement}
use Rattle.cycle_meaning.specs.Task.{Layer}
use Rattle.cycle_meaning.specs.World.{Local}
use Rattle.design_rules.specs.Ways.{layer_at}
use Rattle.process_laws.specs.Resumed.{body_in, AreOf}
use Rattle.statement_lists.specs.declared.fault.ListFault.{ListFault}
use Rattle.statement_lists.specs.declared.fault.ListFault.TheVariants as fault
use Rattle.process_place.specs.Moves.{Moved, goes_to, waits_at, is_refused}
use Rattle.process_stack.specs.Stacks.{Stacked, round_of, place_of}
use Rattle.process_control.specs.declared.control.Wait.{Wait}

-- what is performed gives this: the process goes on or waits at the place of the stack, or it is refused. Where there was
-- no memory, it gave no event
abbrev pub Performs : Moved → List Statement → Local → Local → Stacked → Result (Option Wait) ListFault → Type 0
Performs m top before l s (Ok None) = m ≡ goes_to (place_of top s) l
Performs m top before l s (Ok (Some w)) = m ≡ waits_at w.number w.timeout (place_of top s) l
Performs m top before l s (Err (fault.Refused r)) = m ≡ is_refused l r
Performs m top before l s (Err fault.Memory) = l.world.events ≡ before.world.events

-- the statement at which the stack stands
pub record IsBegun (top : List Statement) (s : Stacked) (layer : Layer) : Type 0 where
  pub of_text : AreOf top (round_of top s.frames)
  pub layer_is : layer_at s.next (body_in top (round_of top s.frames)) ≡ Some layer
  pub first : s.first ≡ None
  pub small : s.next + 1 < 2 ^ 64

-- where the first turn of a loop is to come, the stack is of the text
abbrev pub HasLoop : List Statement → Stacked → Type 0
HasLoop top s = (from : ℤ) → s.first ≡ Some from → AreOf top (round_of top s.frames)

-- the stack is in a branch of the statement; or there was no memory
abbrev pub IsEntered : Stacked → ℕ → ℕ → Stacked → Result (Option Wait) ListFault → Type 0
IsEntered s b k now (Ok None) = now ≡ record s { frames = s.frames ++ record { statement = s.next; branch = b; last = pos 0 } ∷ []; next = k }
IsEntered s b k now (Ok (Some w)) = ⊥
IsEntered s b k now (Err (fault.Refused r)) = ⊥
IsEntered s b k now (Err fault.Memory) = now ≡ s
