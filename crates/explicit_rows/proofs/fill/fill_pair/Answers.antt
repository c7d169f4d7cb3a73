use Rattle.std.proofs.Common.{rules, ◌≡◌, Ok, Err, [], get_or, set, sym, ap, ◌∙◌}
use Rattle.fix_core.specs.Passes.{and_then, answer}
use Rattle.design_meaning.specs.Equations.{row_of}
use Rattle.design_meaning.specs.Newton.{linear_row}
use Rattle.equation_values.specs.Reading.{readings_in}
use Rattle.prepared_pairs.specs.Prepared.{Content}
use Rattle.explicit_rows.proofs.Filled.{pair_filled, pair_faulty, asked_below}
use Rattle.explicit_rows.proofs.fill.fill_pair.Goals as goal

pub write_slopes-requires-clause-places : goal.write_slopes-requires-clause-places
write_slopes-requires-clause-places c = asked_below c.args.pair.now c.args.unknowns.now c.places.result.now (c.places.ensures ∙ ap (λ (own : Content). own.places) c.requires.own)

pub returns-in_err-write_slopes-clause-answer : goal.returns-in_err-write_slopes-clause-answer
returns-in_err-write_slopes-clause-answer c =
    let r = readings_in c.args.values.now in
    let stops : and_then (λ own. Ok (set c.args.rows.now c.args.row own)) (linear_row c.args.unknowns.now r (row_of c.args.pair.now)) ≡ Err c.in_err-write_slopes.field-0.0 =
    pair_faulty c.args.pair.now r c.args.unknowns.now c.places.result.now c.args.rows.now c.clear.new.self c.args.row c.in_ok-residual.residual c.in_err-write_slopes.field-0.0
    (c.places.ensures ∙ ap (λ (own : Content). own.places) c.requires.own) c.requires.size c.requires.row (sym c.pair_residual.ensures ∙ c.in_ok-residual.was) c.clear.ensures
    (c.write_slopes.ensures.answer ∙ ap (λ m. answer m (get_or c.write_slopes.new.rows c.args.row [])) c.in_err-write_slopes.was) in
    rw stops (search rules)

pub returns-clause-answer : goal.returns-clause-answer
returns-clause-answer c =
    pair_filled c.args.pair.now (readings_in c.args.values.now) c.args.unknowns.now c.places.result.now c.args.rows.now c.clear.new.self c.write_slopes.new.rows c.args.row c.in_ok-residual.residual
    (c.places.ensures ∙ ap (λ (own : Content). own.places) c.requires.own) c.requires.size c.requires.row (sym c.pair_residual.ensures ∙ c.in_ok-residual.was) c.clear.ensures
    (c.write_slopes.ensures.answer ∙ ap (λ m. answer m (get_or c.write_slopes.new.rows c.args.row [])) c.in_ok-write_slopes.was) c.write_slopes.ensures.others
    ∙ ap Ok (sym c.set.ensures)
