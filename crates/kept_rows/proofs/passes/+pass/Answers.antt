-- What the first column gave, joined to the answer for the others.
use Rattle.std.proofs.Common.{◌≡◌, ◌<◌, ◌∷◌, length, drop, Ok, ap, ◌∙◌, arith}
use Rattle.std.proofs.lemmas.List.{take_rest, length-drop}
use Rattle.std.proofs.lemmas.Result.{err_from_is_err_and}
use Rattle.fix_core.specs.Passes.{and_then}
use Rattle.kept_elimination.specs.Kept.{passed}
use Rattle.kept_rows.specs.Held.{kept_columns}
use Rattle.kept_rows.proofs.Passing.{pass_end, pass_first, by_factors_fails, by_factors_is, answer_more}
use Rattle.kept_rows.proofs.Rooms.{passes_first}
use Rattle.kept_rows.proofs.passes.+pass.Goals as goal

pub returns-then-is_empty : goal.returns-then-is_empty
returns-then-is_empty t c =
    let none : length c.args.numbers.now ≡ 0 = grind arith in
    pass_end c.args.columns.now c.args.numbers.now c.requires.count none

pub returns-in_err-subtract : goal.returns-in_err-subtract
returns-in_err-subtract t c =
    let hs = c.args.columns.now in
    let h = c.index-columns-0.result in
    let others = c.split_at_mut-front.result.1.now in
    let some : 0 < length hs = omega arith in
    let shape = passes_first hs h some c.index-columns-0.is c.requires.shape in
    let first = pass_first hs h c.args.numbers.now c.swap.new.self c.split_at_mut-front.result.0.now others c.index-front-0.result some c.index-columns-0.is c.swap.ensures.after c.split_at_mut-front.ensures.value c.split_at_mut-front.ensures.front_len c.index-front-0.is in
    let long : length h.factors ≡ length others = omega (arith, shape.1, length-drop 1 hs, c.split_at_mut-front.ensures.back_len, c.swap.ensures.len, c.requires.count) in
    let p = err_from_is_err_and c.from_residual.result c.from_residual.ensures.1 in
    rw (p.1, p.2) (first ∙ by_factors_fails h.factors (passed (kept_columns (drop 1 hs))) c.index-front-0.result others _ long c.in_err-subtract.ensures.answer)

pub returns : goal.returns
returns t c =
    let hs = c.args.columns.now in
    let h = c.index-columns-0.result in
    let others = c.split_at_mut-front.result.1.now in
    let some : 0 < length hs = omega arith in
    let shape = passes_first hs h some c.index-columns-0.is c.requires.shape in
    let first = pass_first hs h c.args.numbers.now c.swap.new.self c.split_at_mut-front.result.0.now others c.index-front-0.result some c.index-columns-0.is c.swap.ensures.after c.split_at_mut-front.ensures.value c.split_at_mut-front.ensures.front_len c.index-front-0.is in
    let long : length h.factors ≡ length others = omega (arith, shape.1, length-drop 1 hs, c.split_at_mut-front.ensures.back_len, c.swap.ensures.len, c.requires.count) in
    let more = simp take_rest at c.pass.ensures in
    first ∙ by_factors_is h.factors (passed (kept_columns (drop 1 hs))) c.index-front-0.result others c.subtract.new.numbers long c.in_ok-subtract.ensures.answer ∙ ap (and_then (λ ds. Ok (c.index-front-0.result ∷ ds))) more ∙ answer_more c.pass.result c.split_at_mut-front.result.0.now c.index-front-0.result c.pass.new.numbers c.split_at_mut-front.ensures.front_len c.index-front-0.is
