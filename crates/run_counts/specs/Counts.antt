-- The numbers of a run (own): its points, its changes of signals and of thresholds, which are the lines P, S and X of its
-- trace, and its attempts; and the trace of mode make.
use Rattle.std.specs.Prelude.{◌≡◌, ℕ, ◌+◌, List, [], ◌∷◌, ◌++◌, map, flat_map, codes, decimal}
use Rattle.step_data.specs.declared.event.Event.{Event}
use Rattle.step_data.specs.declared.event.Event.TheVariants as event
use Rattle.lockstep_model.specs.Works.{Run, events_of, attempts_in}
use Rattle.trace_text.specs.Trace.{line_of, end_line}
use Rattle.run_counts.specs.declared.counts.EventCounts.{EventCounts}
use Rattle.run_counts.specs.declared.counts.RunCounts.{RunCounts}
use Rattle.run_counts.specs.declared.counts.CountedRun.{CountedRun}

-- what an event counts as a point, as a change of a signal and as a change of a threshold
abbrev pub points_at : Event → ℕ
points_at (event.Solved t n x) = 1
points_at (event.Cross t n k on) = 0
points_at (event.Signal t n i v) = 0
points_at (event.Domain t n) = 0
points_at (event.Broke t n elements) = 0
points_at (event.Report t n severity text) = 0
points_at (event.Branch t n k b) = 0

abbrev pub signals_at : Event → ℕ
signals_at (event.Solved t n x) = 0
signals_at (event.Cross t n k on) = 0
signals_at (event.Signal t n i v) = 1
signals_at (event.Domain t n) = 0
signals_at (event.Broke t n elements) = 0
signals_at (event.Report t n severity text) = 0
signals_at (event.Branch t n k b) = 0

abbrev pub crossings_at : Event → ℕ
crossings_at (event.Solved t n x) = 0
crossings_at (event.Cross t n k on) = 1
crossings_at (event.Signal t n i v) = 0
crossings_at (event.Domain t n) = 0
crossings_at (event.Broke t n elements) = 0
crossings_at (event.Report t n severity text) = 0
crossings_at (event.Branch t n k b) = 0

-- the sum over events
abbrev pub among : (Event → ℕ) → List Event → ℕ
among counts [] = 0
among counts (e ∷ events) = counts e + among counts events

abbrev pub no_events : EventCounts
no_events = record { points = 0; signals = 0; crossings = 0 }

-- an event more, and these events more
abbrev pub gained_one : EventCounts → Event → EventCounts
gained_one c e = record {
  points = c.points + points_at e;
  signals = c.signals + signals_at e;
  crossings = c.crossings + crossings_at e;
}

abbrev pub gained : EventCounts → List Event → EventCounts
gained c events = record {
  points = c.points + among points_at events;
  signals = c.signals + among signals_at events;
  crossings = c.crossings + among crossings_at events;
}

abbrev pub total : EventCounts → ℕ
total c = c.points + c.signals + c.crossings

-- the numbers of a run
abbrev pub counts_of : Run → RunCounts
counts_of run = record { events = gained no_events (events_of run.works); attempts = attempts_in run.works }

abbrev pub counted : Run → CountedRun
counted run = record { counts = counts_of run; end = run.end }

-- fields, each behind a space
abbrev pub fields_text : List (List ℕ) → List ℕ
fields_text fields = flat_map (λ f. codes " " ++ f) fields

-- the numbers of the run of a ladder of so many sections
unfoldable pub counts_line : ℕ → RunCounts → List ℕ
counts_line size c =
    line_of (codes "M") (map decimal (size ∷ c.events.points ∷ c.events.signals ∷ c.events.crossings ∷ c.attempts ∷ []))

-- what mode make writes: the numbers, and the last line of the trace
abbrev pub made_lines : ℕ → CountedRun → List (List ℕ)
made_lines size run = counts_line size run.counts ∷ end_line run.end ∷ []

-- events in two parts are counted one part after the other
abbrev pub CountsJoin : Type 0
CountsJoin = (c : EventCounts) (a b : List Event) → gained (gained c a) b ≡ gained c (a ++ b)
