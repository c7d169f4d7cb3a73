use Rattle.std.proofs.Common.{◌≡◌, length}
use Rattle.std.specs.List.{All}
use Rattle.kept_rows.specs.Sound.{IsSoundFor}
use Rattle.kept_rows.proofs.kept.eliminations.Given as goal

abbrev pub invariant-loop-place : goal.invariant-loop-place
invariant-loop-place l = record {
  each : All (IsSoundFor l.n) l.all.items;
  count : length l.all.items ≡ l._place;
}
