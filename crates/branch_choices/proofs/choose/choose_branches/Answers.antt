use Rattle.std.proofs.Common.{rules, ◌≡◌, ◌+◌, Err, length, take, sym, ap, ◌∙◌, arith, length-set}
use Rattle.fix_core.specs.Passes.{each, joined}
use Rattle.design_meaning.specs.Steps.{branch_chosen, selections_of}
use Rattle.equation_values.specs.Reading.{readings_in}
use Rattle.branch_choices.proofs.Walk.{pair_passed, choice_written, choice_stops, choice_within, ends_more, walk_end}
use Rattle.branch_choices.proofs.choose.choose_branches.Goals as goal
use Rattle.branch_choices.proofs.choose.choose_branches.Goals.{in-Choice+in_ok-out, in_default}

pub returns-in_err-out-clause-answer : goal.returns-in_err-out-clause-answer
returns-in_err-out-clause-answer c =
    let f = branch_chosen (readings_in c.args.values.now) in
    let stops : joined (take c.args.first c.args.out.now) (each f (selections_of c.args.equations.now)) ≡ Err c.in_err-out.field-0.0 =
    c.loop-i.invariant.told
    ∙ choice_stops f c.args.equations.now c.loop-i.i c.index-equations-i.result c.in-Choice.choice (take c.loop-i.place c.loop-i.out) c.in_err-out.field-0.0 c.loop-i-test.true c.index-equations-i.is c.in-Choice.is (sym c.selected.ensures ∙ c.in_err-out.was) in
    rw stops (search rules)

pub loop-i-preserved : goal.loop-i-preserved
loop-i-preserved c =
    let f = branch_chosen (readings_in c.args.values.now) in
    let xs = c.args.equations.now in
    let x = c.index-equations-i.result in
    let last = c.args.first + length (selections_of xs) in
    elim c.match-equations-i.branch [
      | in-Choice+in_ok-out w ↦
          let low = choice_within xs c.loop-i.i x w.in-Choice.choice c.loop-i.place last c.loop-i-test.true c.index-equations-i.is w.in-Choice.is c.loop-i.invariant.ends in
          rw (w.out-is, w.place-is)
          (record {
            told = c.loop-i.invariant.told
                ∙ choice_written f xs c.loop-i.i x w.in-Choice.choice c.loop-i.out c.loop-i.place w.in_ok-out.field-0 c.loop-i-test.true c.index-equations-i.is w.in-Choice.is
                (omega (arith, low, c.requires.room, c.loop-i.invariant.count)) (sym w.selected.ensures ∙ w.in_ok-out.was);
            ends = ends_more xs c.loop-i.i x w.in-Choice.choice c.loop-i.place last c.loop-i-test.true c.index-equations-i.is w.in-Choice.is c.loop-i.invariant.ends;
            count = length-set c.loop-i.out c.loop-i.place w.in_ok-out.field-0 ∙ c.loop-i.invariant.count;
          })
      | in_default w ↦
          let passed = pair_passed xs c.loop-i.i x c.loop-i-test.true c.index-equations-i.is w.in_default.not-Choice in
          rw (w.out-is, w.place-is)
          (record {
            told = c.loop-i.invariant.told ∙ ap (λ l. joined (take c.loop-i.place c.loop-i.out) (each f l)) passed;
            ends = ap (λ l. c.loop-i.place + length l) (sym passed) ∙ c.loop-i.invariant.ends;
            count = c.loop-i.invariant.count;
          })
    ]

pub returns-clause-answer : goal.returns-clause-answer
returns-clause-answer c =
    c.loop-i.invariant.told
    ∙ walk_end (branch_chosen (readings_in c.args.values.now)) c.args.equations.now c.loop-i.i c.loop-i.out c.loop-i.place (c.args.first + length (selections_of c.args.equations.now)) c.loop-i-test.false c.loop-i.invariant.ends
