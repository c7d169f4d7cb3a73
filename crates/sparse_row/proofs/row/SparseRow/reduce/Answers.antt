use Rattle.std.proofs.Common.{rules, ◌≡◌, ℤ, Err, sym, ap, ◌∙◌}
use Rattle.fix_core.specs.Fixed.{quotient_of}
use Rattle.lin_solve.specs.Elimination.{reduced, coefficient}
use Rattle.sparse_row.proofs.Merging.{reduced_fails, reduced_by}
use Rattle.sparse_row.proofs.row.SparseRow.reduce.Goals as goal

pub returns-in_err-factor-clause-answer : goal.returns-in_err-factor-clause-answer
returns-in_err-factor-clause-answer c =
    let read = c.div.ensures ∙ ap (λ (z : ℤ). quotient_of z c.get-2.result) c.get.ensures ∙ ap (quotient_of (coefficient c.args.column c.args.self.now)) c.get-2.ensures in
    let stops : reduced c.args.column c.args.pivot.now c.args.self.now ≡ Err c.in_err-factor.field-0.0 = reduced_fails c.args.column c.args.pivot.now c.args.self.now c.in_err-factor.field-0.0 (sym read ∙ c.in_err-factor.was) in
    rw stops (search rules)

pub returns-clause-answer : goal.returns-clause-answer
returns-clause-answer c =
    let read = c.div.ensures ∙ ap (λ (z : ℤ). quotient_of z c.get-2.result) c.get.ensures ∙ ap (quotient_of (coefficient c.args.column c.args.self.now)) c.get-2.ensures in
    reduced_by c.args.column c.args.pivot.now c.args.self.now c.in_ok-factor.factor (sym read ∙ c.in_ok-factor.was) ∙ c.lose.ensures.answer
