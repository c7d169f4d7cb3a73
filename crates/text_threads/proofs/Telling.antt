-- What is told of a run is the run's.
use Rattle.std.proofs.Common.{◌≡◌, ℕ, List, Option, Result, Ok, Err, sym, ap, subst}
use Rattle.std.specs.Prelude.{OnOk, IfOk}
use Rattle.step_data.specs.declared.outcome.End.{End}
use Rattle.lockstep_model.specs.Works.{Work}
use Rattle.timeline.specs.declared.journal.Counts.{Counts}
use Rattle.trace_sink.specs.Puts.{Puts}
use Rattle.trace_sink.specs.PutsLaws.{puts_value}
use Rattle.trace_sink.specs.declared.TraceFault.{TraceFault}
use Rattle.threaded_trace.specs.Fitting.{Fits}
use Rattle.text_threads.specs.declared.design.Threaded.{Threaded}
use Rattle.text_threads.specs.Told.{told_of}

puts_of_told : (r : Result End TraceFault) (own : ℕ) (counts : Counts) (lines : List (List ℕ)) (before now : Option (List ℕ)) (f f' : ℕ) → Puts r lines before now f f' →
    Puts (told_of r own counts) lines before now f f'
puts_of_told (Ok end) own counts lines before now f f' p = puts_value end (record { end = end; report = record { counts = counts; own = own } }) lines before now f f' p
puts_of_told (Err fault) own counts lines before now f f' p =
    record {
      ok = tt;
      memory = λ m. p.memory (ap Err (cc));
      fault = λ m. p.fault (ap Err (cc));
      front = λ m. p.front (ap Err (cc));
      later = p.later;
    }

pub puts_told : (t : Result Threaded TraceFault) (r : Result End TraceFault) (own : ℕ) (counts : Counts) (a b : List (List ℕ)) (before now : Option (List ℕ)) (f f' : ℕ) →
    t ≡ told_of r own counts → a ≡ b → Puts r a before now f f' → Puts t b before now f f'
puts_told t r own counts a b before now f f' is same p =
    let P = λ (x : Result Threaded TraceFault). Puts x b before now f f' in
    let Q = λ (l : List (List ℕ)). Puts (told_of r own counts) l before now f f' in
    subst P (sym is) (subst Q same (puts_of_told r own counts a before now f f' p))

pub end_told : (t : Result Threaded TraceFault) (r : Result End TraceFault) (own : ℕ) (counts : Counts) (e : End) → t ≡ told_of r own counts → IfOk r (λ end. end ≡ e) →
    IfOk t (λ told. told.end ≡ e)
end_told t (Ok end) own counts e is h = subst (λ (x : Result Threaded TraceFault). IfOk x (λ told. told.end ≡ e)) (sym is) h
end_told t (Err fault) own counts e is h = subst (λ (x : Result Threaded TraceFault). IfOk x (λ told. told.end ≡ e)) (sym is) tt

pub fits_told : (t : Result Threaded TraceFault) (r : Result End TraceFault) (own : ℕ) (counts : Counts) (works : List Work) → t ≡ told_of r own counts → OnOk r (Fits works own counts) →
    IfOk t (λ told. Fits works told.report.own told.report.counts)
fits_told t (Ok end) own counts works is h = subst (λ (x : Result Threaded TraceFault). IfOk x (λ told. Fits works told.report.own told.report.counts)) (sym is) h
fits_told t (Err fault) own counts works is h = subst (λ (x : Result Threaded TraceFault). IfOk x (λ told. Fits works told.report.own told.report.counts)) (sym is) tt
