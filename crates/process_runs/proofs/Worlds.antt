-- The world in which the next process runs.
use Rattle.std.proofs.Common.{◌≡◌, ℕ, ap}
use Rattle.flat_design.specs.declared.objects.Process.{Process}
use Rattle.cycle_meaning.specs.World.{World, Context, Local}
use Rattle.process_ready.specs.Ready.{IsReady}
use Rattle.process_rest.specs.Resting.{IsWorld}
use Rattle.process_runs.specs.Kept.{numbered}

-- another process acts in it
pub world_for : (here : Context) (n : ℕ) (w : World) → IsWorld here w → IsWorld (numbered here n) w
world_for here n w h =
    record {
      signals = h.signals;
      signals_range = h.signals_range;
      thresholds = h.thresholds;
      thresholds_kind = h.thresholds_kind;
      domain = h.domain;
      domain_range = h.domain_range;
      quantities = h.quantities;
      references = h.references;
      dots = h.dots;
      now = h.now;
    }

-- a process that is ready stands in a world of the design
pub world_there : (here : Context) (p : Process) (l : Local) → IsReady here p l → IsWorld here l.world
world_there here p l ready =
    record {
      signals = ready.reads.signals;
      signals_range = ready.reads.signals_range;
      thresholds = ready.reads.thresholds;
      thresholds_kind = ready.reads.thresholds_kind;
      domain = ready.reads.domain;
      domain_range = ready.reads.domain_range;
      quantities = ready.reads.quantities;
      references = ready.reads.references;
      dots = ready.reads.dots;
      now = ready.reads.now;
    }

-- the contexts of the processes
pub contexts_same : (here first : Context) → numbered here 0 ≡ numbered first 0 → numbered here ≡ numbered first
contexts_same here first e =
    let at : Context → ℕ → Context = λ h n. numbered h n in
    ap at e

pub context_same : (here now : Context) (n : ℕ) → now ≡ numbered here n → numbered now 0 ≡ numbered here 0
context_same here now n e = ap (λ (h : Context). numbered h 0) e
