-- The events of the start and of a cycle can be printed.
use Rattle.std.proofs.Common.{refl, ℕ, ◌+◌, Bool, true, false, ◌||◌, ℤ, List, [], ◌∷◌, ◌++◌, Result, Ok, Err}
use Rattle.std.specs.Prelude.{IsTrue}
use Rattle.std.specs.List.{All}
use Rattle.std.proofs.lemmas.List.Elements.{All-nil, All-cons, All-head, All-tail, All-append}
use Rattle.flat_design.specs.declared.objects.Objects.{Objects}
use Rattle.step_data.specs.declared.event.Event.{Event}
use Rattle.step_data.specs.declared.event.Event.TheVariants as event
use Rattle.step_data.specs.declared.outcome.Refusal.{Refusal}
use Rattle.step_model.specs.System.{System, Digital}
use Rattle.step_model.specs.Printing.{can_print, CanPrint}
use Rattle.design_meaning.specs.Readings.{Seen}
use Rattle.cycle_meaning.specs.World.{World, driven_of}
use Rattle.cycle_meaning.specs.Cycles.{event_if, crossings, is_on, with_thresholds, with_driving, signal_events, Ran_of, all_ran, one_refused, run_all, start_all, context_at, world_of, first_world, first_digital, resumes, ended, after_resumption, cycle, start}
use Rattle.run_laws.specs.Changes.{world_behind}
use Rattle.run_laws.specs.Values.{ValuesFit}
use Rattle.run_laws.specs.Safe.{PrintsValues, StartIsPrintable, CycleIsPrintable}
use Rattle.run_changes.proofs.Running.{runs_change, starts_change}
use Rattle.run_types.proofs.Beginning.{SeenInRange, begun_signals}

abbrev Prints : System → Event → Type 0
Prints sys e = IsTrue (can_print sys e)

if_printed : (sys : System) (b : Bool) (e : Event) → Prints sys e → CanPrint sys (event_if b e)
if_printed sys true e h = All-cons (Prints sys) e [] h (All-nil (Prints sys))
if_printed sys false e h = All-nil (Prints sys)

crossings_printed : (sys : System) (t n k : ℕ) (seen : List Seen) → CanPrint sys (crossings t n k seen)
crossings_printed sys t n k [] = All-nil (Prints sys)
crossings_printed sys t n k (s ∷ more) =
    All-append (Prints sys) (event_if s.event (event.Cross t n k (is_on s.value))) (crossings t n (k + 1) more)
    (if_printed sys s.event (event.Cross t n k (is_on s.value)) refl) (crossings_printed sys t n (k + 1) more)

signals_printed : (objects : Objects) (sys : System) → PrintsValues objects sys → (t n i : ℕ) (seen : List Seen) → All (SeenInRange objects) seen → CanPrint sys (signal_events t n i seen)
signals_printed objects sys prints t n i [] all = All-nil (Prints sys)
signals_printed objects sys prints t n i (s ∷ more) all =
    All-append (Prints sys) (event_if s.event (event.Signal t n i s.value)) (signal_events t n (i + 1) more)
    (if_printed sys s.event (event.Signal t n i s.value) (prints s.value (All-head (SeenInRange objects) s more all)))
    (signals_printed objects sys prints t n (i + 1) more (All-tail (SeenInRange objects) s more all))

pub begun_is_printable : (objects : Objects) (sys : System) (d : Digital) (t n : ℕ) (x : List ℤ) (to_time : Bool) → PrintsValues objects sys → ValuesFit objects d.signals d.queues → CanPrint sys (world_of objects d t n x to_time).events
begun_is_printable objects sys d t n x to_time prints fit =
    let thresholds : List Seen = with_thresholds x objects.thresholds d.kept in
    let signals : List Seen = with_driving t (driven_of objects) d.queues 0 d.signals in
    All-append (Prints sys) (event_if to_time (event.Domain t n) ++ crossings t n 0 thresholds) (signal_events t n 0 signals)
    (All-append (Prints sys) (event_if to_time (event.Domain t n)) (crossings t n 0 thresholds) (if_printed sys to_time (event.Domain t n) refl) (crossings_printed sys t n 0 thresholds))
    (signals_printed objects sys prints t n 0 signals (begun_signals objects d t fit).ranges)

ended_printed : (sys : System) (d : Digital) (t : ℕ) (timed : Bool) (r : Ran_of) → CanPrint sys (world_behind r).events → CanPrint sys (ended d t timed r).events
ended_printed sys d t timed (all_ran w states) h = h
ended_printed sys d t timed (one_refused w r) h = h

pub start_is_printable : StartIsPrintable
unfolding start
start_is_printable objects sys x =
    ended_printed sys (first_digital objects) 0 false (start_all (context_at objects 0 0 x) 0 objects.processes (first_world objects))
    ((starts_change (context_at objects 0 0 x) 0 objects.processes (first_world objects)).printable sys (All-nil (Prints sys)))

resumption_printed : (objects : Objects) (sys : System) (d : Digital) (t n : ℕ) (x : List ℤ) (timed : Bool) (w : World) (r : Result (List Bool) Refusal) → CanPrint sys w.events
    → CanPrint sys (after_resumption objects d t n x timed w r).events
resumption_printed objects sys d t n x timed w (Ok resumed) h =
    ended_printed sys d t timed (run_all (context_at objects t n x) 0 objects.processes d.processes resumed w)
    ((runs_change (context_at objects t n x) 0 objects.processes d.processes resumed w).printable sys h)
resumption_printed objects sys d t n x timed w (Err r) h = h

pub cycle_is_printable : CycleIsPrintable
unfolding cycle
cycle_is_printable objects sys d t n x to_time prints fit =
    resumption_printed objects sys d t n x (d.timed || to_time) (world_of objects d t n x to_time)
    (resumes (context_at objects t n x) (world_of objects d t n x to_time) 0 objects.processes d.processes) (begun_is_printable objects sys d t n x to_time prints fit)
