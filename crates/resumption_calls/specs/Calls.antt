-- Processes that need not be looked at.
use Rattle.std.specs.Prelude.{◌≡◌, ◌<◌, ℕ, nat_eq, Bool, true, false, List, [], length, Ok, slice_get, slice_index_or}
use Rattle.std.specs.List.{list_any, Contains}
use Rattle.ams_value.specs.declared.val.Val.TheVariants as val
use Rattle.flat_expr.specs.declared.expr.SignalName.{SignalName}
use Rattle.flat_expr.specs.declared.expr.SignalName.TheVariants as name
use Rattle.design_meaning.specs.Readings.{still, seen_of}
use Rattle.cycle_meaning.specs.World.{World, Context, readings_at}
use Rattle.cycle_meaning.specs.Cycles.{Waiting, is_timed_out}
use Rattle.resumption.specs.Sleeps.{Sleep, local_with, waiting_or_none, met}
use Rattle.resumption.specs.Waits.{no_sleep}

-- the timeout of a wait isn't due, and no signal of its sensitivity set had an event
pub record IsQuiet (here : Context) (w : World) (waits : List Waiting) (z : Sleep) : Type 0 where
  pub timeout : is_timed_out here.t z.timeout ≡ false
  pub events : list_any (λ i. (seen_of (readings_at here (local_with w z)) i).event) (waiting_or_none (slice_get waits z.wait)).0 ≡ false

-- such a wait isn't met, whatever its condition
abbrev pub QuietWaitsAreNotMet : Type 0
QuietWaitsAreNotMet = (here : Context) (w : World) (waits : List Waiting) (z : Sleep) → IsQuiet here w waits z → met here w waits z ≡ Ok false

abbrev pub is_called : List ℕ → ℕ → Bool
is_called called j = list_any (nat_eq j) called

-- the processes that aren't called are quiet
abbrev pub OthersAreQuiet : (ℕ → Context) → World → List (List Waiting) → List Sleep → List ℕ → Type 0
OthersAreQuiet at w rows sleeps called =
    (j : ℕ) → j < length sleeps → is_called called j ≡ false → IsQuiet (at j) w (slice_index_or rows j []) (slice_index_or sleeps j no_sleep)

-- ---- which processes to call

-- a signal had an event in the cycle
abbrev pub had_event : World → SignalName → Bool
had_event w (name.Signal i) = (slice_index_or w.signals i (still (val.Bool false))).event
had_event w (name.Threshold k) = (slice_index_or w.thresholds k (still (val.Bool false))).event
had_event w name.Domain = w.domain.event

-- in these lists a process stands at each signal that some wait of it names
abbrev pub HaveCallers : (SignalName → List ℕ) → List (List Waiting) → Type 0
HaveCallers lists rows = (k n : ℕ) (i : SignalName) → Contains (waiting_or_none (slice_get (slice_index_or rows k []) n)).0 i → is_called (lists i) k ≡ true

-- those are called whose timeout is due, and those in the list of a signal that had an event
pub record AreCalled (at : ℕ → Context) (w : World) (lists : SignalName → List ℕ) (sleeps : List Sleep) (called : List ℕ) : Type 0 where
  pub timeouts : (k : ℕ) → k < length sleeps → is_timed_out (at k).t (slice_index_or sleeps k no_sleep).timeout ≡ true → is_called called k ≡ true
  pub events : (i : SignalName) (k : ℕ) → had_event w i ≡ true → is_called (lists i) k ≡ true → is_called called k ≡ true

-- then the others are quiet
abbrev pub CallsSuffice : Type 0
CallsSuffice =
    (at : ℕ → Context) (w : World) (lists : SignalName → List ℕ) (rows : List (List Waiting)) (sleeps : List Sleep) (called : List ℕ)
    → HaveCallers lists rows → AreCalled at w lists sleeps called → OthersAreQuiet at w rows sleeps called
