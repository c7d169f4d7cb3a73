-- Lines that are written several at a time.
use Rattle.std.proofs.Common.{◌≡◌, ℕ, ◌≤◌, List, [], ◌∷◌, ◌++◌, Option, Result, Ok, Err, refl, sym, ap, ◌∙◌, arith, append_assoc}
use Rattle.port_base.specs.Told.{with_more, with_more_twice}
use Rattle.port_base.specs.Lines.{text_of_lines, text_append}
use Rattle.trace_sink.specs.Puts.{Puts, Written}
use Rattle.trace_sink.specs.PutsLaws.{puts_then, puts_stops, puts_of, written_all}
use Rattle.trace_sink.specs.declared.TraceFault.{TraceFault}

-- these lines more are written
pub written_lines : (before mid now : Option (List ℕ)) (lines some rest : List (List ℕ)) → Written before mid lines (some ++ rest) → now ≡ with_more mid (text_of_lines some) → Written before now lines rest
written_lines before mid now lines some rest w h = record {
  done = w.done ++ some;
  split = append_assoc w.done some rest ∙ w.split;
  held = h ∙ ap (λ m. with_more m (text_of_lines some)) w.held ∙ with_more_twice before (text_of_lines w.done) (text_of_lines some)
      ∙ ap (with_more before) (sym (text_append w.done some));
}

-- what is written so far, as a call that wrote it
pub puts_done : (before mid : Option (List ℕ)) (lines rest : List (List ℕ)) (f f' : ℕ) (w : Written before mid lines rest) → f ≤ f' → Puts {T = Unit {0}} (Ok tt) w.done before mid f f'
puts_done before mid lines rest f f' w later = record { ok = w.held; memory = λ m. cc; fault = λ m. cc; front = λ m. cc; later = later }

-- a fault among these lines ends it
pub lines_fail : {T U : Type 0} (r : Result T TraceFault) (e : TraceFault) (before mid now : Option (List ℕ)) (lines some rest : List (List ℕ)) (f f' f'' : ℕ) →
    Written before mid lines (some ++ rest) → Puts r some mid now f' f'' → f ≤ f' → r ≡ Err e → Puts {T = U} (Err e) lines before now f f''
lines_fail {U = U} r e before mid now lines some rest f f' f'' w p older h =
    puts_of (Err e) ((w.done ++ some) ++ rest) lines before now f f''
    (puts_stops {U = U} r e (w.done ++ some) rest before now f f'' (puts_then tt r w.done some before mid now f f' f'' (puts_done before mid lines (some ++ rest) f f' w older) p) h)
    (append_assoc w.done some rest ∙ w.split)
