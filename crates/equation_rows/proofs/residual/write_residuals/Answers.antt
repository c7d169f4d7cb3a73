use Rattle.std.proofs.Common.{rules, ◌≡◌, ◌+◌, Err, [], length, map, take, get_or, ap, ◌∙◌}
use Rattle.fix_core.specs.Passes.{each, joined, answer}
use Rattle.design_meaning.specs.Equations.{row_of, chosen_pairs}
use Rattle.equation_values.specs.Residuals.{residual_at}
use Rattle.equation_values.specs.Reading.{readings_in}
use Rattle.equation_rows.specs.Parts.{pairs_of}
use Rattle.equation_rows.proofs.Walk.{next_at, next_evaluable, next_asked, walk_more, walk_stops, walk_end, ends_more}
use Rattle.equation_rows.proofs.residual.write_residuals.Goals as goal

pub write_residuals-requires-clause-evaluable : goal.write_residuals-requires-clause-evaluable
write_residuals-requires-clause-evaluable c =
    next_evaluable (readings_in c.args.values.now) c.args.equations.now c.loop-i.i c.index-equations-i.result c.branch_in-branch.result c.equation_pairs-pairs.result.now c.requires.evaluable c.loop-i-test.true c.index-equations-i.is c.equation_pairs-pairs.ensures

pub write_residuals-requires-clause-prepared : goal.write_residuals-requires-clause-prepared
write_residuals-requires-clause-prepared c =
    let next = next_at c.args.equations.now c.args.branches.now c.loop-i.i c.loop-i.choice c.index-equations-i.result c.loop-i-test.true c.index-equations-i.is c.loop-i.invariant.within c.loop-i.invariant.later in
    next_asked c.args.unknowns.now c.args.equations.now c.args.branches.now c.loop-i.i c.loop-i.choice c.index-equations-i.result c.branch_in-branch.result c.equation_pairs-pairs.result.now c.args.prepared.now c.index-prepared-i.result c.branch_prepared-own.result.now
    c.loop-i-test.true c.index-equations-i.is next c.branch_in-branch.ensures c.equation_pairs-pairs.ensures c.requires.prepared c.index-prepared-i.is
    (c.branch_prepared-own.ensures ∙ ap (λ l. get_or l c.branch_in-branch.result []) c.as_slice.ensures)

pub returns-in_err-write_residuals-clause-answer : goal.returns-in_err-write_residuals-clause-answer
returns-in_err-write_residuals-clause-answer c =
    let f = residual_at (readings_in c.args.values.now) in
    let x = c.index-equations-i.result in
    let next = next_at c.args.equations.now c.args.branches.now c.loop-i.i c.loop-i.choice x c.loop-i-test.true c.index-equations-i.is c.loop-i.invariant.within c.loop-i.invariant.later in
    let own = c.equation_pairs-pairs.ensures ∙ ap (pairs_of x) c.branch_in-branch.ensures in
    let stops : joined (take c.args.first c.args.out.now) (each f (map row_of (chosen_pairs c.args.equations.now c.args.branches.now))) ≡ Err c.in_err-write_residuals.field-0.0 =
    c.loop-i.invariant.told
    ∙ walk_stops f c.args.equations.now c.args.branches.now c.loop-i.i c.loop-i.choice x c.equation_pairs-pairs.result.now (take c.loop-i.row c.loop-i.out) c.in_err-write_residuals.field-0.0 c.loop-i-test.true c.index-equations-i.is next own
    (c.write_residuals.ensures.answer ∙ ap (λ m. answer m (take (c.loop-i.row + length c.equation_pairs-pairs.result.now) c.write_residuals.new.out)) c.in_err-write_residuals.was) in
    rw stops (search rules)

pub loop-i-preserved : goal.loop-i-preserved
loop-i-preserved c =
    let f = residual_at (readings_in c.args.values.now) in
    let x = c.index-equations-i.result in
    let xs = c.args.equations.now in
    let bs = c.args.branches.now in
    let pairs = c.equation_pairs-pairs.result.now in
    let after = take (c.loop-i.row + length pairs) c.write_residuals.new.out in
    let next = next_at xs bs c.loop-i.i c.loop-i.choice x c.loop-i-test.true c.index-equations-i.is c.loop-i.invariant.within c.loop-i.invariant.later in
    let own = c.equation_pairs-pairs.ensures ∙ ap (pairs_of x) c.branch_in-branch.ensures in
    rw (c.choices_in-choice.ensures)
    (record {
      told = c.loop-i.invariant.told
          ∙ walk_more f xs bs c.loop-i.i c.loop-i.choice x pairs (take c.loop-i.row c.loop-i.out) after c.loop-i-test.true c.index-equations-i.is next own
          (c.write_residuals.ensures.answer ∙ ap (λ m. answer m after) c.in_ok-write_residuals.was);
      ends = ends_more xs bs c.loop-i.i c.loop-i.choice x pairs c.loop-i.row (c.args.first + length (chosen_pairs xs bs)) c.loop-i-test.true c.index-equations-i.is next own c.loop-i.invariant.ends;
      later = next.later;
      within = next.within;
      count = c.write_residuals.ensures.count ∙ c.loop-i.invariant.count;
    })

pub returns-clause-answer : goal.returns-clause-answer
returns-clause-answer c =
    c.loop-i.invariant.told
    ∙ walk_end (residual_at (readings_in c.args.values.now)) c.args.equations.now c.args.branches.now c.loop-i.i c.loop-i.choice c.loop-i.out c.loop-i.row (c.args.first + length (chosen_pairs c.args.equations.now c.args.branches.now)) c.loop-i-test.false c.loop-i.invariant.ends
