-- A factor of 0 takes nothing off.
use Rattle.std.proofs.Common.{◌<◌, length, ap, ◌∙◌, sym, arith}
use Rattle.lin_solve.specs.Elimination.{minus_row}
use Rattle.lin_solve.proofs.Steps.{reduced_is, minus_row-zero, zero_size}
use Rattle.lin_solve.proofs.reduce.Goals as goal

pub returns-then-magnitude-eq0-clause-answer : goal.returns-then-magnitude-eq0-clause-answer
returns-then-magnitude-eq0-clause-answer c =
    let hp : c.args.column < length c.args.pivot.now = omega arith in
    let hx : c.args.column < length c.args.row.now = omega arith in
    let e = reduced_is _ _ _ _ _ _ hp hx c.index-pivot-column.is c.index-row-column.is (sym c.in_ok-factor.ensures) in
    let none = zero_size _ (sym c.magnitude.ensures.value ∙ c.if-magnitude-eq0.true) in
    e ∙ ap (λ f. minus_row f c.args.pivot.now c.args.row.now) none ∙ minus_row-zero _ _ c.requires.lengths c.requires.within

pub returns-clause-answer : goal.returns-clause-answer
returns-clause-answer c =
    let hp : c.args.column < length c.args.pivot.now = omega arith in
    let hx : c.args.column < length c.args.row.now = omega arith in
    reduced_is _ _ _ _ _ _ hp hx c.index-pivot-column.is c.index-row-column.is (sym c.in_ok-factor.ensures) ∙ c.minus_row.ensures.answer
