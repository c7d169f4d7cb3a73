use Rattle.std.proofs.Common.{sym, refl}
use Rattle.sparse_row.proofs.Sparse.{not_lt}
use Rattle.sparse_row.proofs.Edits.{has_at, has_past}
use Rattle.sparse_row.proofs.entry.has_at.Goals as goal

pub returns-then-place-entries : goal.returns-then-place-entries
returns-then-place-entries c = let inside = c.if-place-entries.true in rw c.requires (sym (has_at _ _ _ (rw c.requires at inside)))

pub returns-else-place-entries : goal.returns-else-place-entries
returns-else-place-entries c = let past = c.if-place-entries.false in rw (not_lt _ _ past, has_past _ _ (rw c.requires at past)) refl
