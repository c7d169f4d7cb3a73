use Rattle.std.proofs.Common.{length, ◌-◌, ◌≡◌, ◌+◌, ◌≤◌, drop}
use Rattle.sparse_row.specs.Entries.{place_in}
use Rattle.sparse_row.proofs.entry.place_of.Given as goal

abbrev pub invariant-loop-place : goal.invariant-loop-place
invariant-loop-place l = (place_in l.column l.entries ≡ l.place + place_in l.column (drop l.place l.entries)) × (l.place ≤ length l.entries)

abbrev pub decreases-loop-place : goal.decreases-loop-place
decreases-loop-place l = length l.entries - l.place
