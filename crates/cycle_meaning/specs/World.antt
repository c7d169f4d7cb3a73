-- What processes read and change while a cycle runs.
use Rattle.std.specs.Prelude.{ℕ, ◌+◌, Bool, true, false, nat_eq, nat_le, ℤ, pos, negsuc, List, [], ◌∷◌, ◌++◌, length, filter, Option, Some, None, Result, Ok, Err, if◌then◌else◌}
use Rattle.std.specs.List.{slice_index_or, slice_set, range_with_len, list_any}
use Rattle.message_codes.specs.Codes.{range, time_overflow}
use Rattle.fix_core.specs.Units.{most_ticks}
use Rattle.fix_core.specs.Passes.{◌>>=◌}
use Rattle.ams_value.specs.declared.val.Val.{Val}
use Rattle.ams_value.specs.declared.val.Val.TheVariants as val
use Rattle.ams_value.specs.Values.{is_true}
use Rattle.flat_expr.specs.declared.expr.FlatExpr.{FlatExpr}
use Rattle.flat_design.specs.declared.objects.Process.{Process}
use Rattle.flat_design.specs.declared.objects.Objects.{Objects}
use Rattle.flat_design.specs.Lists.{number_in}
use Rattle.step_data.specs.declared.trans.Trans.{Trans}
use Rattle.step_data.specs.declared.breaks.Element.{Element}
use Rattle.step_data.specs.declared.event.Event.{Event}
use Rattle.step_data.specs.declared.outcome.Refusal.{Refusal}
use Rattle.design_meaning.specs.declared.fault.EvalFault.{EvalFault}
use Rattle.design_meaning.specs.Faults.{code_of}
use Rattle.design_meaning.specs.Readings.{Seen, Readings}
use Rattle.design_meaning.specs.Reading.{quantities_in, references_in, dots_in}
use Rattle.design_meaning.specs.Value.{value_of}

-- the signals, threshold signals and DOMAIN with their events of this cycle; the pending transactions of each driven signal;
-- the break elements executed in this cycle, and whether a break was executed; and the events so far
pub record World : Type 0 where
  pub signals : List Seen
  pub thresholds : List Seen
  pub domain : Seen
  pub queues : List (List Trans)
  pub elements : List Element
  pub broke : Bool
  pub events : List Event

-- what stays the same while a process runs: the design, the process's number, the time, the delta, and the unknowns
pub record Context : Type 0 where
  pub objects : Objects
  pub process : ℕ
  pub t : ℕ
  pub n : ℕ
  pub x : List ℤ

-- what a process changes: the world and its own variables
pub record Local : Type 0 where
  pub world : World
  pub variables : List Val

abbrev pub readings_at : Context → Local → Readings
readings_at here l =
    record {
      signals = l.world.signals;
      thresholds = l.world.thresholds;
      domain = l.world.domain;
      quantities = quantities_in here.objects here.x;
      references = references_in here.objects here.x;
      dots = dots_in here.objects here.x;
      variables = l.variables;
      now = here.t;
    }

-- ---- refusals of a process

abbrev pub refusal : Context → ℕ → Refusal
refusal here code = record { code = code; detail = Some here.process }

abbrev pub of_fault : {A : Type 0} → Context → Result A EvalFault → Result A Refusal
of_fault here (Ok a) = Ok a
of_fault here (Err e) = Err (refusal here (code_of e))

-- refused where the test holds
abbrev pub refused_where : Bool → Refusal → {A : Type 0} → A → Result A Refusal
refused_where true r a = Err r
refused_where false r a = Ok a

abbrev pub evaluated : Context → Local → FlatExpr → Result Val Refusal
evaluated here l e = of_fault here (value_of e (readings_at here l))

-- a condition, which holds where none is written
abbrev pub holds : Context → Local → Option FlatExpr → Result Bool Refusal
holds here l None = Ok true
holds here l (Some e) = do
  v ← evaluated here l e
  Ok (is_true v)

-- the time that a delay leads to; a negative one is refused, and so is a time past the greatest one
abbrev pub time_after : Context → Val → Result ℕ Refusal
time_after here (val.Time (pos d)) = if nat_le (here.t + d) most_ticks then Ok (here.t + d) else Err (refusal here time_overflow)
time_after here (val.Time (negsuc d)) = Err (refusal here range)
time_after here _ = Err (refusal here range)

-- ---- drivers: each signal that a process assigns has one

abbrev pub drives : ℕ → Process → Bool
drives i p = list_any (nat_eq i) p.drivers

-- the driven signals in signal order
abbrev pub driven_of : Objects → List ℕ
driven_of objects = filter (λ i. list_any (drives i) objects.processes) (range_with_len 0 (length objects.signals))

abbrev pub number_of_driver : Objects → ℕ → ℕ
number_of_driver objects i = number_in (nat_eq i) (driven_of objects)

abbrev pub pending_of : Objects → World → ℕ → List Trans
pending_of objects w i = slice_index_or w.queues (number_of_driver objects i) []

abbrev pub with_pending : Objects → ℕ → List Trans → World → World
with_pending objects i pending w = record w { queues = slice_set w.queues (number_of_driver objects i) pending }

abbrev pub with_event : Event → World → World
with_event e w = record w { events = w.events ++ e ∷ [] }
