use Rattle.std.proofs.Common.{◌≡◌, ◌<◌, ◌||◌, ℕ, false, length, take, get_or}
use Rattle.std.specs.List.{list_any}
use Rattle.cycle_meaning.specs.World.{drives}
use Rattle.driven_signals.proofs.mark_all.Given as goal

abbrev pub invariant-loop-process : goal.invariant-loop-process
invariant-loop-process l = record {
  count : length l.flags.items ≡ length l.initial.flags.items;
  marks : (i : ℕ) → i < length l.initial.flags.items → get_or l.flags.items i false ≡ (get_or l.initial.flags.items i false || list_any (drives i) (take l.process-index l.processes));
}
