-- A row that is scaled once more, and then as often as is wanted.
use Rattle.std.proofs.Common.{◌≡◌, ◌<◌, ◌≤◌, inl, inr, ◌∙◌, arith}
use Rattle.std.proofs.lemmas.Result.{err_from_is_err_and}
use Rattle.fix_core.specs.Units.{units_per_one}
use Rattle.lin_solve.specs.Elimination.{largest}
use Rattle.kept_rows.proofs.Turning.{largest_whole, scaling_kept, scaling_no_tenfold, scaling_fails, scaling_is}
use Rattle.kept_rows.proofs.turns.+scale.Goals.{then-size-eq0-via-then-size-eq0, then-size-eq0-via-else-size-eq0+then-size-ge-UNITS_PER_ONE}
use Rattle.kept_rows.proofs.turns.+scale.Goals as goal

pub returns-then-size-eq0-clause-answer : goal.returns-then-size-eq0-clause-answer
returns-then-size-eq0-clause-answer t c =
    let row = c.args.row.now in
    let turns : 0 < c.args.turns = omega arith in
    let size = c.largest_before-size.ensures ∙ largest_whole row c.width.result c.width.ensures in
    elim c.then-size-eq0.branch [
      | then-size-eq0-via-then-size-eq0 w ↦
          let none : largest row ≡ 0 = omega (arith, size, w.if-size-eq0.true) in
          scaling_kept c.args.turns row turns (inl none)
      | then-size-eq0-via-else-size-eq0+then-size-ge-UNITS_PER_ONE w ↦
          let large : units_per_one ≤ largest row = omega (arith, size, w.if-size-ge-UNITS_PER_ONE.true) in
          scaling_kept c.args.turns row turns (inr large)
    ]

pub returns-in_err-raise-clause-answer : goal.returns-in_err-raise-clause-answer
returns-in_err-raise-clause-answer t c =
    let row = c.args.row.now in
    let turns : 0 < c.args.turns = omega arith in
    let size = c.largest_before-size.ensures ∙ largest_whole row c.width.result c.width.ensures in
    let some : 0 < largest row = omega (arith, size, c.if-size-eq0.false) in
    let small : largest row < units_per_one = omega (arith, size, c.if-size-ge-UNITS_PER_ONE.false) in
    let p = err_from_is_err_and c.from_residual.result c.from_residual.ensures.1 in
    rw (p.1, p.2) (scaling_no_tenfold c.args.turns row _ turns some small c.in_err-raise.ensures.answer)

pub returns-in_err-more-clause-answer : goal.returns-in_err-more-clause-answer
returns-in_err-more-clause-answer t c =
    let row = c.args.row.now in
    let turns : 0 < c.args.turns = omega arith in
    let size = c.largest_before-size.ensures ∙ largest_whole row c.width.result c.width.ensures in
    let some : 0 < largest row = omega (arith, size, c.if-size-eq0.false) in
    let small : largest row < units_per_one = omega (arith, size, c.if-size-ge-UNITS_PER_ONE.false) in
    let p = err_from_is_err_and c.from_residual-in_err-more.result c.from_residual-in_err-more.ensures.1 in
    rw (p.1, p.2) (scaling_fails c.args.turns row c.raise.new.self _ turns some small c.in_ok-raise.ensures.answer c.in_err-more.ensures.answer)

pub returns-clause-answer : goal.returns-clause-answer
returns-clause-answer t c =
    let row = c.args.row.now in
    let turns : 0 < c.args.turns = omega arith in
    let size = c.largest_before-size.ensures ∙ largest_whole row c.width.result c.width.ensures in
    let some : 0 < largest row = omega (arith, size, c.if-size-eq0.false) in
    let small : largest row < units_per_one = omega (arith, size, c.if-size-ge-UNITS_PER_ONE.false) in
    scaling_is c.args.turns row c.raise.new.self c.scale.new.row c.in_ok-more.more turns some small c.in_ok-raise.ensures.answer c.in_ok-more.ensures.answer
