-- Calls of a sink of lines, one behind the other.
use Rattle.std.proofs.Common.{ℕ, List, [], ◌++◌, Option, Result, Ok, Err, length, refl, sym, ap, ◌∙◌, arith}
use Rattle.std.proofs.lemmas.List.{map-append}
use Rattle.std.proofs.Math.Seq.{take-append_seam}
use Rattle.flat_design.specs.declared.objects.Enumeration.{Enumeration}
use Rattle.step_data.specs.declared.event.Event.{Event}
use Rattle.trace_text.specs.Trace.{event_line}
use Rattle.event_sink.specs.declared.SinkFault.{SinkFault}
use Rattle.event_sink.specs.declared.SinkFault.TheVariants as sink
use Rattle.port_base.specs.Told.{with_more, with_more_nil}
use Rattle.port_base.specs.Lines.{text_of_lines}
use Rattle.trace_sink.specs.declared.TraceFault.{TraceFault}
use Rattle.trace_sink.specs.declared.TraceFault.TheVariants as trace
use Rattle.trace_sink.specs.Puts.{Puts}
use Rattle.trace_sink.specs.PutsLaws.{puts_of, puts_then, puts_stops}
use Rattle.trace_lines.specs.Lines.{event_lines}
use Rattle.line_sink.specs.Shown.{Shown, Gained, Stopped, cause_of}

pub gained_nothing : (a : Shown) → Gained a a []
gained_nothing a = record {
  same = refl;
  puts = record { ok = sym (with_more_nil a.held); memory = λ m. cc; fault = λ m. cc; front = λ m. cc; later = omega arith };
}

-- the lines behind those of a first part
behind : {T : Type 0} (r : Result T TraceFault) (a b c : Shown) (xs ys : List Event) → Gained a b xs → Puts r (event_lines b.enums ys) b.held c.held b.faults c.faults → Puts r (event_lines a.enums (xs ++ ys)) a.held c.held a.faults c.faults
behind r a b c xs ys g h =
    puts_of r (event_lines a.enums xs ++ event_lines a.enums ys) (event_lines a.enums (xs ++ ys)) a.held c.held a.faults c.faults
    (puts_then tt r (event_lines a.enums xs) (event_lines a.enums ys) a.held b.held c.held a.faults b.faults c.faults g.puts
    (puts_of r (event_lines b.enums ys) (event_lines a.enums ys) b.held c.held b.faults c.faults h (ap (λ (e : List Enumeration). event_lines e ys) g.same)))
    (sym (map-append (event_line a.enums) xs ys))

pub gained_joins : (a b c : Shown) (xs ys : List Event) → Gained a b xs → Gained b c ys → Gained a c (xs ++ ys)
gained_joins a b c xs ys g h = record { same = h.same ∙ g.same; puts = behind (Ok tt) a b c xs ys g h.puts }

pub stopped_behind : (fault : SinkFault) (a b c : Shown) (xs ys : List Event) → Gained a b xs → Stopped fault b c ys → Stopped fault a c (xs ++ ys)
stopped_behind fault a b c xs ys g h = record { same = h.same ∙ g.same; puts = behind (Err (cause_of fault)) a b c xs ys g h.puts }

-- what comes behind a fault isn't written
pub stopped_ends : (fault : SinkFault) (a b : Shown) (xs ys : List Event) → Stopped fault a b xs → Stopped fault a b (xs ++ ys)
stopped_ends fault a b xs ys s = record {
  same = s.same;
  puts = puts_of (Err (cause_of fault)) (event_lines a.enums xs ++ event_lines a.enums ys) (event_lines a.enums (xs ++ ys)) a.held b.held a.faults b.faults
      (puts_stops (Err (cause_of fault)) (cause_of fault) (event_lines a.enums xs) (event_lines a.enums ys) a.held b.held a.faults b.faults s.puts refl)
      (sym (map-append (event_line a.enums) xs ys));
}

lost : (xs ys : List (List ℕ)) (before now : Option (List ℕ)) (f f' : ℕ) → Puts {T = Unit {0}} (Ok tt) xs before now f f' → Puts {T = Unit {0}} (Err trace.Memory) (xs ++ ys) before now f f'
lost xs ys before now f f' p = record {
  ok = tt;
  memory = λ m. (length xs, p.ok ∙ ap (λ (l : List (List ℕ)). with_more before (text_of_lines l)) (sym (take-append_seam xs ys)));
  fault = λ m. cc;
  front = λ m. cc;
  later = p.later;
}

-- memory ran out between two calls
pub gained_lost : (a b : Shown) (xs ys : List Event) → Gained a b xs → Stopped sink.Memory a b (xs ++ ys)
gained_lost a b xs ys g = record {
  same = g.same;
  puts = puts_of (Err trace.Memory) (event_lines a.enums xs ++ event_lines a.enums ys) (event_lines a.enums (xs ++ ys)) a.held b.held a.faults b.faults
      (lost (event_lines a.enums xs) (event_lines a.enums ys) a.held b.held a.faults b.faults g.puts)
      (sym (map-append (event_line a.enums) xs ys));
}
