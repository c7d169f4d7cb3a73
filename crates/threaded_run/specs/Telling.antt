-- What a run by two threads gives, whatever the worker does.
use Rattle.std.specs.Prelude.{◌≡◌, ◌⊎◌, ℕ, ◌+◌, ◌≤◌, List, length, min, Result, Ok, Err, OnOk, IfOk, IfErr}
use Rattle.std.proofs.Common.{inl, arith}
use Rattle.step_data.specs.declared.event.Event.{Event}
use Rattle.step_data.specs.declared.outcome.End.{End}
use Rattle.step_model.specs.System.{System}
use Rattle.lockstep_model.specs.Lockstep.{lockstep}
use Rattle.lockstep_model.specs.Works.{Work, events_of, attempts_in, renewals_in}
use Rattle.timeline.specs.Jobs.{FitsLengths}
use Rattle.threaded_run.specs.declared.sides.Ahead.{Ahead}
use Rattle.timeline.specs.declared.journal.Counts.{Counts}
use Rattle.event_sink.specs.Faults.{Rose}
use Rattle.event_sink.specs.declared.SinkFault.{SinkFault}
use Rattle.event_sink.specs.declared.SinkFault.TheVariants as faulty
use Rattle.runahead_worker.specs.declared.seats.LineSeat.{LineSeat}
use Rattle.runahead_worker.specs.declared.seats.WorkSeat.{WorkSeat}
use Rattle.runahead_worker.specs.Agrees.{counts_of}
use Rattle.runahead_worker.specs.Seats.{IsEven, AfterRounds}
use Rattle.engine_driver.specs.Standing.{CountsAll}

-- what a sink took in of the run and how it ended
pub record TellsRun {A : Type 0} (sys : System) (gained : A → A → List Event → Type 0) (stopped : SinkFault → A → A → List Event → Type 0) (faults : A → ℕ) (a b : A) (ended : Result End SinkFault) : Type 0 where
  -- exactly lockstep's events, and its end
  pub events : OnOk ended (gained a b (events_of (lockstep sys).works))
  pub end : IfOk ended (λ end. end ≡ (lockstep sys).end)
  -- or a front of them, where the sink failed or memory ran out
  pub front : IfErr ended (λ fault. stopped fault a b (events_of (lockstep sys).works))
  pub rose : ended ≡ Err faulty.Failed → Rose (faults a) (faults b)
  pub later : faults a ≤ faults b

-- the numbers of a whole run: own and reused attempts are lockstep's, there is a begin for each work that renews, as far as the number
-- goes, and at most one more for each own attempt
pub record Reported (works : List Work) (own : ℕ) (counts : Counts) : Type 0 where
  pub all_are : counts.reused + own ≡ attempts_in works
  pub begins_least : min (renewals_in works) 18446744073709551615 ≤ counts.begins
  pub begins_most : counts.begins ≤ renewals_in works + own

-- each job that was taken was saved or was stale, as far as the number goes
abbrev pub IsEachPublished : Counts → Type 0
IsEachPublished c = (c.taken ≡ c.saved + c.stale) ⊎ (c.taken ≡ 18446744073709551615)

-- the solver of a worker is of the part, and its room has the part's lengths
pub record RunnerFits (sys : System) (part of : ℕ) (ahead : Ahead) : Type 0 where
  pub part_is : of ≡ part
  pub job : FitsLengths sys.unknowns sys.frame_len ahead.job.tip ahead.job.frame
  pub room : length ahead.made.x ≡ sys.unknowns

module _ {J : Type 0} where
  pub record IsNewWorkSeat (seat : WorkSeat J) : Type 0 where
    pub taken : seat.taken ≡ 0
    pub saved : seat.saved ≡ 0
    pub stale : seat.stale ≡ 0
    pub closed : seat.closed ≡ 0

  pub reported : (works : List Work) (own : ℕ) (c : Counts) (line : LineSeat J) (worker : WorkSeat J) → c ≡ counts_of line.begins worker.taken worker.saved worker.stale line.reused worker.closed → CountsAll works own line → Reported works own c
  reported works own c line worker is all =
      let own_is = all.own_is in
      let all_are = all.all_are in
      let low = all.begins_least in
      let high = all.begins_most in
      rw is (record { all_are = omega arith; begins_least = omega arith; begins_most = omega arith })

  pub reported_if : (ended : Result End SinkFault) (works : List Work) (own : ℕ) (c : Counts) (line : LineSeat J) (worker : WorkSeat J) → c ≡ counts_of line.begins worker.taken worker.saved worker.stale line.reused worker.closed → OnOk ended (CountsAll works own line) → OnOk ended (Reported works own c)
  reported_if (Ok e) works own c line worker is all = reported works own c line worker is all
  reported_if (Err e) works own c line worker is all = tt

  pub each_published : (c : Counts) (line : LineSeat J) (worker : WorkSeat J) → c ≡ counts_of line.begins worker.taken worker.saved worker.stale line.reused worker.closed → IsEven worker → IsEachPublished c
  each_published c line worker is even = rw is even

  pub even_new : (worker : WorkSeat J) → IsNewWorkSeat worker → IsEven worker
  even_new worker new =
      let a = new.taken in
      let b = new.saved in
      let c = new.stale in
      inl (omega arith)

  pub even_after : (old new : WorkSeat J) → IsNewWorkSeat old → AfterRounds old new → IsEven new
  even_after old new first rounds =
      let a = first.taken in
      let b = first.saved in
      let c = first.stale in
      rounds.even (omega arith)
