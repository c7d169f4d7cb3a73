-- What a run wrote, by how it ended.
use Rattle.std.proofs.Common.{◌≡◌, ℕ, List, [], ◌∷◌, ◌++◌, Option, Result, Ok, Err, OnOk, IfOk, IfErr, sym, subst, ap, ◌∙◌}
use Rattle.step_data.specs.declared.event.Event.{Event}
use Rattle.step_data.specs.declared.outcome.End.{End}
use Rattle.event_sink.specs.declared.SinkFault.{SinkFault}
use Rattle.trace_sink.specs.declared.TraceFault.{TraceFault}
use Rattle.lockstep_model.specs.Works.{Work}
use Rattle.timeline.specs.declared.journal.Counts.{Counts}
use Rattle.trace_text.specs.Trace.{end_line}
use Rattle.trace_sink.specs.Puts.{Puts, PutsLine}
use Rattle.trace_sink.specs.PutsLaws.{puts_value, puts_of, puts_then, puts_line}
use Rattle.trace_lines.specs.Lines.{event_lines}
use Rattle.line_sink.specs.Shown.{Shown, Gained, Stopped, cause_of}
use Rattle.threaded_run.specs.Telling.{Reported}
use Rattle.threaded_lines.specs.Ends.{ended_as}

-- a fault is one for any value
pub puts_fault : {T U : Type 0} (e : TraceFault) (lines : List (List ℕ)) (before now : Option (List ℕ)) (f f' : ℕ) → Puts {T = T} (Err e) lines before now f f' → Puts {T = U} (Err e) lines before now f f'
puts_fault e lines before now f f' p = record {
  ok = tt;
  memory = λ m. p.memory (ap Err (cc));
  fault = λ m. p.fault (ap Err (cc));
  front = λ m. p.front (ap Err (cc));
  later = p.later;
}

pub run_puts : (r : Result End SinkFault) (a b : Shown) (events : List Event) → OnOk r (Gained a b events) → IfErr r (λ fault. Stopped fault a b events) → Puts (ended_as r) (event_lines a.enums events) a.held b.held a.faults b.faults
run_puts (Ok end) a b events g s = puts_value tt end (event_lines a.enums events) a.held b.held a.faults b.faults g.puts
run_puts (Err fault) a b events g s = puts_fault (cause_of fault) (event_lines a.enums events) a.held b.held a.faults b.faults s.puts

pub run_end : (r : Result End SinkFault) (end : End) → IfOk r (λ told. told ≡ end) → IfOk (ended_as r) (λ told. told ≡ end)
run_end (Ok e) end h = h
run_end (Err fault) end h = tt

pub run_report : (r : Result End SinkFault) (works : List Work) (own : ℕ) (c c' : Counts) → c' ≡ c → OnOk r (Reported works own c) → OnOk (ended_as r) (Reported works own c')
run_report (Ok e) works own c c' same h = subst (λ (x : Counts). Reported works own x) (sym same) h
run_report (Err fault) works own c c' same h = tt

-- the last line behind the works
pub work_puts : (r r' : Result End TraceFault) (e end : End) (es : List (List ℕ)) (before mid now : Option (List ℕ)) (f f' f'' : ℕ) → r ≡ Ok e → IfOk r (λ told. told ≡ end) → Puts r es before mid f f' → PutsLine r' (end_line e) mid now f' f'' → Puts r' (es ++ end_line end ∷ []) before now f f''
work_puts r r' e end es before mid now f f' f'' is told p line =
    let same : e ≡ end = subst (λ (x : Result End TraceFault). IfOk x (λ told. told ≡ end)) is told in
    let ok : Puts (Ok e) es before mid f f' = subst (λ (x : Result End TraceFault). Puts x es before mid f f') is p in
    puts_of r' (es ++ end_line e ∷ []) (es ++ end_line end ∷ []) before now f f''
    (puts_then e r' es (end_line e ∷ []) before mid now f f' f'' ok (puts_line r' (end_line e) mid now f' f'' line))
    (ap (λ (x : End). es ++ end_line x ∷ []) same)

pub work_end : (r r' : Result End TraceFault) (e end : End) → r ≡ Ok e → IfOk r (λ told. told ≡ end) → IfOk r' (λ told. told ≡ e) → IfOk r' (λ told. told ≡ end)
work_end r (Ok x) e end is told h = h ∙ subst (λ (x : Result End TraceFault). IfOk x (λ told. told ≡ end)) is told
work_end r (Err fault) e end is told h = tt

pub work_report : (r r' : Result End TraceFault) (e : End) (works : List Work) (own : ℕ) (c : Counts) → r ≡ Ok e → OnOk r (Reported works own c) → OnOk r' (Reported works own c)
work_report r (Ok x) e works own c is h = subst (λ (y : Result End TraceFault). OnOk y (Reported works own c)) is h
work_report r (Err fault) e works own c is h = tt
