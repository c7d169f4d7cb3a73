-- Where the waits of a design stand.
use Rattle.std.specs.Prelude.{◌≡◌, ◌<◌, ℕ, Bool, false, true, List, [], map, length, Option, Some, None, Result, Ok, Err, slice_index_or}
use Rattle.std.specs.Option.{option_copied}
use Rattle.std.specs.Global.{Vec}
use denote.Ref.{Bor}
use Rattle.flat_expr.specs.declared.statement.Statement.{Statement, out-Statement}
use Rattle.flat_expr.specs.declared.statement.Statement.TheOpen.{Statement-F}
use Rattle.flat_design.specs.declared.objects.Process.{Process}
use Rattle.step_data.specs.declared.outcome.Refusal.{Refusal}
use Rattle.cycle_meaning.specs.Task.{Layer}
use Rattle.cycle_meaning.specs.World.{Context}
use Rattle.cycle_meaning.specs.Cycles.{Waiting}
use Rattle.process_ready.specs.Ready.{IsReady}
use Rattle.kernel_world.specs.declared.world.World.{World}
use Rattle.kernel_world.specs.Acting.{context_of, world_of}
use Rattle.resumption.specs.Sleeps.{Sleep, waits_of, local_with}
use Rattle.resumption.specs.declared.waits.Waits.{Waits}

abbrev pub is_wait : Layer → Bool
is_wait (Statement-F.Wait number on condition timeout) = true
is_wait _ = false

-- the sensitivity set and the condition of a wait statement
abbrev pub waiting_stated : Layer → Waiting
waiting_stated (Statement-F.Wait number on condition timeout) = (on, condition)
waiting_stated _ = ([], None)

abbrev pub waiting_found : Option Statement → Waiting
waiting_found (Some s) = waiting_stated (out-Statement s)
waiting_found None = ([], None)

abbrev pub row_of : List (Option (Bor Statement)) → List Waiting
row_of row = map (λ o. waiting_found (option_copied o)) row

abbrev pub rows_of : List (Vec (Option (Bor Statement))) → List (List Waiting)
rows_of rows = map (λ row. row_of row.items) rows

-- these are the waits of these processes
abbrev pub AreWaits : List Process → Waits → Type 0
AreWaits ps w = rows_of w.rows.items ≡ map waits_of ps

-- ---- the processes that wait

-- the context of a process with this number
abbrev pub contexts_of : World → ℕ → Context
contexts_of w k = record (context_of w) { process = k }

-- a process that is ready goes on here
abbrev pub IsThere : World → ℕ → Sleep → Type 0
IsThere w k z = (p : Process) × IsReady (contexts_of w k) p (local_with (world_of w) z)

abbrev pub no_sleep : Sleep
no_sleep = record { wait = 0; timeout = None; variables = [] }

abbrev pub AreThere : World → List Sleep → Type 0
AreThere w sleeps = (k : ℕ) → k < length sleeps → IsThere w k (slice_index_or sleeps k no_sleep)

-- ---- the answer

-- those that resume, or the refusal of a condition
abbrev pub answered : Result Unit Refusal → List Bool → Result (List Bool) Refusal
answered (Ok done) resumed = Ok resumed
answered (Err r) resumed = Err r
