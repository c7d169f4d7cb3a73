use Rattle.std.proofs.Common.{◌≡◌, ◌<◌, ◌||◌, ℕ, false, length, take, get_or}
use Rattle.std.specs.Prelude.{nat_eq}
use Rattle.std.specs.List.{list_any}
use Rattle.driven_signals.proofs.mark.Given as goal

abbrev pub invariant-loop-k : goal.invariant-loop-k
invariant-loop-k l = record {
  count : length l.flags.items ≡ length l.initial.flags.items;
  marks : (i : ℕ) → i < length l.initial.flags.items → get_or l.flags.items i false ≡ (get_or l.initial.flags.items i false || list_any (nat_eq i) (take l.k l.drivers));
}
