-- What is true of the core between two steps.
use Rattle.std.specs.Prelude.{◌≡◌, ℕ, [], Option, Some, None}
use Rattle.step_data.specs.declared.outcome.End.{End}
use Rattle.lockstep_model.specs.declared.moves.Moved.{Moved}
use Rattle.lockstep_model.specs.declared.moves.Moved.TheVariants as says
use Rattle.lockstep_model.specs.Walk.{here}
use Rattle.core_hands.specs.Moves.{Led}

-- where the end was told nothing is left, and no attempt waits
abbrev pub IsOver : Option End → Led → Type 0
IsOver None led = Unit {0}
IsOver (Some e) led = (led.walk.works ≡ []) × (e ≡ led.walk.end) × (here led.reply ≡ 0)

pub record CoreKept (part : ℕ) (ended : Option End) (led : Led) : Type 0 where
  pub part_is : part ≡ 0
  pub over : IsOver ended led

-- a move that tells the end leaves no attempt that waits
abbrev pub NoneHere : Led → Moved → Type 0
NoneHere led (says.Ended e) = here led.reply ≡ 0
NoneHere led (says.Ask ask) = Unit {0}
