-- Processes that aren't marked are passed over.
use Rattle.std.proofs.Common.{◌≡◌, sym, ◌∙◌, ap, ℕ, zero, suc, ◌+◌, ◌-◌, ◌<◌, ◌≤◌, Bool, false, List, length, arith}
use Rattle.flat_design.specs.declared.objects.Process.{Process}
use Rattle.step_model.specs.System.{ProcessState}
use Rattle.cycle_meaning.specs.World.{World, Context}
use Rattle.cycle_meaning.specs.Cycles.{Ran_of}
use Rattle.process_runs.specs.Kept.{Kept, numbered, states_kept}
use Rattle.process_runs.specs.Ran.{ran_from}
use Rattle.process_runs.specs.Called.{MarksAreCalled}
use Rattle.process_runs.proofs.Called.{next_called, within_count, AreUnmarked, none_first, next_behind, none_between}
use Rattle.process_runs.proofs.Nexts.{got, Going}
use Rattle.process_runs.proofs.Ran.{ran_past, states_length}

ran_on : (d n m : ℕ) (at : ℕ → Context) (ps : List Process) (states : List ProcessState) (bs : List Bool) (w : World)
    → n + d ≡ m → m ≤ length ps → length states ≡ length ps → length bs ≡ length ps → AreUnmarked bs n m → ran_from n at 0 ps states bs w ≡ ran_from m at 0 ps states bs w
ran_on zero n m at ps states bs w e within hs hb unmarked = let same : n ≡ m = omega (arith, e) in ap (λ i. ran_from i at 0 ps states bs w) same
ran_on (suc d) n m at ps states bs w e within hs hb unmarked =
    ran_past n at 0 ps states bs w (omega (arith, e, within)) (omega (arith, e, within, hs)) (got bs n false false (omega (arith, e, within, hb)) (unmarked n (omega arith) (omega (arith, e))))
    ∙ ran_on d (suc n) m at ps states bs w (omega (arith, e)) within hs hb (λ k from to. unmarked k (omega (arith, from)) to)

going_past : (whole : Ran_of) (first : Context) (ps : List Process) (bs : List Bool) (n m : ℕ) (here : Context) (w : World) (ks : List Kept)
    → n ≤ m → m ≤ length ps → length bs ≡ length ps → AreUnmarked bs n m → Going whole first ps bs n here w ks → Going whole first ps bs m here w ks
going_past whole first ps bs n m here w ks le within hb unmarked g = record {
  context = g.context;
  can = g.can;
  run = sym (ran_on (m - n) n m (numbered first) ps (states_kept ps ks) bs w (omega (arith, le)) within (states_length ps ks g.can.count) hb unmarked) ∙ g.run;
}

-- those before the first that is called had their turn, and so had those up to the next
pub going_to_first : (whole : Ran_of) (first : Context) (ps : List Process) (bs : List Bool) (called : List ℕ) (here : Context) (w : World) (ks : List Kept)
    → length bs ≡ length ps → MarksAreCalled (length ps) called bs → Going whole first ps bs 0 here w ks → Going whole first ps bs (next_called called (length ps) 0) here w ks
going_to_first whole first ps bs called here w ks hb are g =
    going_past whole first ps bs 0 (next_called called (length ps) 0) here w ks (omega arith) (within_count (length ps) called bs 0 are) hb (none_first (length ps) called bs are) g

pub going_to_next : (whole : Ran_of) (first : Context) (ps : List Process) (bs : List Bool) (called : List ℕ) (i n : ℕ) (here : Context) (w : World) (ks : List Kept)
    → length bs ≡ length ps → MarksAreCalled (length ps) called bs → i < length called → next_called called (length ps) i ≡ n → Going whole first ps bs (n + 1) here w ks → Going whole first ps bs (next_called called (length ps) (i + 1)) here w ks
going_to_next whole first ps bs called i n here w ks hb are h number g =
    going_past whole first ps bs (n + 1) (next_called called (length ps) (i + 1)) here w ks (next_behind (length ps) called bs i n are h number) (within_count (length ps) called bs (i + 1) are) hb
    (none_between (length ps) called bs i n are h number) g
