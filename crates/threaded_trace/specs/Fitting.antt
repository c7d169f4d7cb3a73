-- What the numbers of a run on threads, and its timeline, may be.
use Rattle.std.specs.Prelude.{◌≡◌, ℕ, ◌≤◌, true, false, List, length, Result, Ok, Err, OnOk}
use Rattle.std.proofs.Common.{sym, subst}
use Rattle.step_data.specs.declared.outcome.End.{End}
use Rattle.step_model.specs.System.{System}
use Rattle.lockstep_model.specs.Works.{Work}
use Rattle.trace_sink.specs.declared.TraceFault.{TraceFault}
use Rattle.timeline.specs.declared.journal.Counts.{Counts}
use Rattle.timeline.specs.declared.line.Line.{Line}
use Rattle.timeline.specs.Kept.{Holds, replay_of}
use Rattle.timeline.specs.Notes.{is_legal, nothing_yet, replayed}
use Rattle.threaded_run.specs.Telling.{Reported, IsEachPublished}

-- how often a timeline gave each reply, and own attempts, fit lockstep's works
pub record Fits (works : List Work) (own : ℕ) (counts : Counts) : Type 0 where
  -- each attempt was found or was an own one; begins are as many as works that renew, and at most one more for each own attempt
  pub numbers : Reported works own counts
  -- each job that was taken was saved or was stale
  pub published : IsEachPublished counts
  -- nothing is found where nothing was saved
  pub found_saved : 1 ≤ counts.reused → 1 ≤ counts.saved

-- the notes that were made: one thread can make them, and they tell the timeline's counts
pub record AreNotes (limit : ℕ) (l : Line) : Type 0 where
  pub legal : is_legal limit nothing_yet l.journal.entries ≡ true
  pub tell : replayed nothing_yet l.journal.entries ≡ replay_of l

-- a timeline with this limit
pub record Within (limit : ℕ) (l : Line) : Type 0 where
  pub saved : length l.log.items ≤ limit
  pub notes : l.journal.cut ≡ false → AreNotes limit l

pub fits_if : (r : Result End TraceFault) (works : List Work) (own : ℕ) (c : Counts) (sys : System) (l : Line) → OnOk r (Reported works own c) → IsEachPublished c → c ≡ l.journal.counts → Holds sys l → OnOk r (Fits works own c)
fits_if (Ok end) works own c sys l numbers published same h =
    record {
      numbers = numbers;
      published = published;
      found_saved = subst (λ (x : Counts). 1 ≤ x.reused → 1 ≤ x.saved) (sym same) h.journals.reused_some;
    }
fits_if (Err fault) works own c sys l numbers published same h = tt

pub fits_then : (r r' : Result End TraceFault) (e : End) (works : List Work) (own : ℕ) (c : Counts) → r ≡ Ok e → OnOk r (Fits works own c) → OnOk r' (Fits works own c)
fits_then r (Ok x) e works own c is h = subst (λ (y : Result End TraceFault). OnOk y (Fits works own c)) is h
fits_then r (Err fault) e works own c is h = tt

pub within_of : (sys : System) (l : Line) → Holds sys l → Within sys.options.ahead l
within_of sys l h =
    subst (λ (n : ℕ). Within n l) h.stands.limit_is
    (record {
      saved = h.stands.sound.within;
      notes = λ whole. let t = h.journals.told whole in record { legal = t.legal; tell = t.replay };
    })
