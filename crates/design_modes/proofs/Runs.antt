-- A run that is another one.
use Rattle.std.proofs.Common.{◌≡◌, ℕ, List, Option, subst, Result, Err, ap, ◌∙◌}
use Rattle.std.specs.Prelude.{IfOk}
use Rattle.step_data.specs.declared.outcome.End.{End}
use Rattle.trace_sink.specs.Puts.{Puts}
use Rattle.trace_sink.specs.declared.TraceFault.{TraceFault}
use Rattle.run_counts.specs.declared.counts.CountedRun.{CountedRun}
use Rattle.run_counts.specs.Counts.{made_lines}

pub puts_as : {T : Type 0} (r : Result T TraceFault) (size : ℕ) (run other : CountedRun) (before now : Option (List ℕ)) (f f' : ℕ) → run ≡ other →
    Puts r (made_lines size run) before now f f' → Puts r (made_lines size other) before now f f'
puts_as r size run other before now f f' e p = subst (λ (x : CountedRun). Puts r (made_lines size x) before now f f') e p

pub ends_as : (r : Result End TraceFault) (run other : CountedRun) → run ≡ other → IfOk r (λ end. end ≡ run.end) → IfOk r (λ end. end ≡ other.end)
ends_as r run other e h = subst (λ (x : CountedRun). IfOk r (λ end. end ≡ x.end)) e h

-- a fault of a call is that of another one
pub puts_fault : {T U : Type 0} (r : Result T TraceFault) (e : TraceFault) (lines : List (List ℕ)) (before now : Option (List ℕ)) (f f' : ℕ) →
    Puts r lines before now f f' → r ≡ Err e → Puts {T = U} (Err e) lines before now f f'
puts_fault r e lines before now f f' p h = record {
  ok = tt;
  memory = λ m. p.memory (h ∙ ap Err (cc));
  fault = λ m. p.fault (h ∙ ap Err (cc));
  front = λ m. p.front (h ∙ ap Err (cc));
  later = p.later;
}
