-- Rows as the code has them.
use Rattle.sparse_row.proofs.Sparse.{length-filled, filled_none, sparse_none}
use Rattle.sparse_row.proofs.Lookup.{filled_value}

pub ruleset rows = (length-filled, filled_none, sparse_none, filled_value)
