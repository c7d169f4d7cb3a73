-- What is kept has the shape that right sides ask for.
use Rattle.kept_elimination.proofs.Shape.{whole_shape}
use Rattle.kept_rows.specs.Held.{kept_columns}
use Rattle.kept_rows.proofs.elimination.Elimination.solve.Goals as goal

pub solve_by-requires-clause-passes : goal.solve_by-requires-clause-passes
solve_by-requires-clause-passes c =
    let e = c.args.self.now in
    let whole = whole_shape e.matrix.items e.turns.items (kept_columns e.columns.items) (c.requires.sound.gives c.requires.kept) in
    rw c.as_slice-2.ensures.value whole.shape.passes

pub solve_by-requires-clause-ends : goal.solve_by-requires-clause-ends
solve_by-requires-clause-ends c =
    let e = c.args.self.now in
    let whole = whole_shape e.matrix.items e.turns.items (kept_columns e.columns.items) (c.requires.sound.gives c.requires.kept) in
    rw c.as_slice-2.ensures.value whole.shape.ends
