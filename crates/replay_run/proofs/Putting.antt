-- Calls that write lines one behind the other.
use Rattle.std.proofs.Common.{◌≡◌, ℕ, ◌≤◌, List, [], ◌++◌, Option, Result, Ok, Err, sym, ap, ◌∙◌, arith}
use Rattle.std.proofs.lemmas.List.{map-append}
use Rattle.flat_design.specs.declared.objects.Enumeration.{Enumeration}
use Rattle.step_data.specs.declared.event.Event.{Event}
use Rattle.run_place.specs.Giving.{Gave}
use Rattle.trace_text.specs.Trace.{event_line}
use Rattle.trace_sink.specs.Puts.{Puts, Written}
use Rattle.trace_sink.specs.PutsLaws.{written_start, written_rest, puts_of, puts_then, puts_nothing}
use Rattle.trace_sink.specs.declared.TraceFault.{TraceFault}
use Rattle.trace_sink.specs.declared.TraceFault.TheVariants.{Memory}
use Rattle.trace_lines.specs.Lines.{event_lines}
use Rattle.trace_lines.specs.Rest.{written_lines, puts_done, lines_fail}
use Rattle.replay_run.specs.PutsSome.{PutsSome}

-- another value behind a fault
pub puts_err : {T U : Type 0} (r : Result T TraceFault) (e : TraceFault) (lines : List (List ℕ)) (before now : Option (List ℕ)) (f f' : ℕ) → Puts r lines before now f f' → r ≡ Err e → Puts {T = U} (Err e) lines before now f f'
puts_err r e lines before now f f' p h = record {
  ok = tt;
  memory = λ m. p.memory (h ∙ ap Err (cc));
  fault = λ m. p.fault (h ∙ ap Err (cc));
  front = λ m. p.front (h ∙ ap Err (cc));
  later = p.later;
}

-- the lines of the events of a step, and those still to come
event_split : (enums : List Enumeration) (out whole rest : List Event) → Gave [] out whole rest → event_lines enums whole ≡ event_lines enums out ++ event_lines enums rest
event_split enums out whole rest g =
    ap (event_lines enums) (sym g.whole_is) ∙ map-append (event_line enums) g.front rest
    ∙ ap (λ (es : List Event). event_lines enums es ++ event_lines enums rest) (sym g.new_is)

-- the events of a step are written
pub step_written : {T U : Type 0} (x : T) (y : U) (enums : List Enumeration) (out whole rest : List Event) (before now : Option (List ℕ)) (f f' : ℕ) →
    Gave [] out whole rest → Puts {T = T} (Ok x) (event_lines enums out) before now f f' → PutsSome {T = U} (Ok y) (event_lines enums whole) (event_lines enums rest) before now f f'
step_written x y enums out whole rest before now f f' g p = record {
  ok = written_lines before before now (event_lines enums whole) (event_lines enums out) (event_lines enums rest)
      (written_rest _ _ _ _ _ (written_start before (event_lines enums whole)) (event_split enums out whole rest g)) p.ok;
  err = tt;
  later = p.later;
}

pub step_fails : {T U : Type 0} (r : Result T TraceFault) (e : TraceFault) (enums : List Enumeration) (out whole rest : List Event) (lines : List (List ℕ)) (before now : Option (List ℕ)) (f f' : ℕ) →
    Gave [] out whole rest → Puts r (event_lines enums out) before now f f' → r ≡ Err e → PutsSome {T = U} (Err e) (event_lines enums whole) lines before now f f'
step_fails r e enums out whole rest lines before now f f' g p h = record {
  ok = tt;
  err = lines_fail r e before before now (event_lines enums whole) (event_lines enums out) (event_lines enums rest) f f f'
      (written_rest _ _ _ _ _ (written_start before (event_lines enums whole)) (event_split enums out whole rest g)) p (omega arith) h;
  later = p.later;
}

pub step_lost : {T : Type 0} (lines rest : List (List ℕ)) (held : Option (List ℕ)) (f : ℕ) → PutsSome {T = T} (Err Memory) lines rest held held f f
step_lost lines rest held f = record { ok = tt; err = puts_nothing lines held f; later = omega arith }

-- all that is left is written behind the first lines
pub rest_puts : {T : Type 0} (r : Result T TraceFault) (lines rest : List (List ℕ)) (before mid now : Option (List ℕ)) (f f' f'' : ℕ) →
    Written before mid lines rest → f ≤ f' → Puts r rest mid now f' f'' → Puts r lines before now f f''
rest_puts r lines rest before mid now f f' f'' w older p =
    puts_of r (w.done ++ rest) lines before now f f'' (puts_then tt r w.done rest before mid now f f' f'' (puts_done before mid lines rest f f' w older) p) w.split

-- some more lines are written
pub some_more : (lines mid_rest rest : List (List ℕ)) (before mid now : Option (List ℕ)) → Written before mid lines mid_rest → Written mid now mid_rest rest → Written before now lines rest
some_more lines mid_rest rest before mid now w v =
    written_lines before mid now lines v.done rest (written_rest _ _ _ _ _ w (sym v.split)) v.held

-- a fault among those that are left
pub rest_fails : {T U : Type 0} (r : Result T TraceFault) (e : TraceFault) (lines mid_rest rest : List (List ℕ)) (before mid now : Option (List ℕ)) (f f' f'' : ℕ) →
    Written before mid lines mid_rest → f ≤ f' → PutsSome r mid_rest rest mid now f' f'' → r ≡ Err e → Puts {T = U} (Err e) lines before now f f''
rest_fails (Ok x) e lines mid_rest rest before mid now f f' f'' w older p h = cc
rest_fails {T = T} {U = U} (Err d) e lines mid_rest rest before mid now f f' f'' w older p h =
    rest_puts {T = U} (Err e) lines mid_rest before mid now f f' f'' w older (puts_err {T = T} {U = U} (Err d) e mid_rest mid now f' f'' p.err h)

pub rest_stops : {T U : Type 0} (r : Result T TraceFault) (e : TraceFault) (lines mid_rest rest last : List (List ℕ)) (before mid now : Option (List ℕ)) (f f' f'' : ℕ) →
    Written before mid lines mid_rest → f ≤ f' → PutsSome r mid_rest rest mid now f' f'' → r ≡ Err e → PutsSome {T = U} (Err e) lines last before now f f''
rest_stops {U = U} r e lines mid_rest rest last before mid now f f' f'' w older p h =
    let q : Puts {T = U} (Err e) lines before now f f'' = rest_fails r e lines mid_rest rest before mid now f f' f'' w older p h in
    record { ok = tt; err = q; later = q.later }
