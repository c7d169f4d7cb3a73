-- The unknown of the first column behind those of the others.
use Rattle.std.proofs.Common.{◌≡◌, ◌<◌, ◌+◌, length, drop, take, get_or, Ok, ap, ◌∙◌, sym, arith}
use Rattle.std.proofs.lemmas.List.{take_rest, drop-set, take-set}
use Rattle.std.proofs.lemmas.Result.{err_from_is_err_and}
use Rattle.number_ratio.specs.Kept.{answer_of}
use Rattle.kept_rows.proofs.Passing.{back_end, back_fails, back_first, no_sum, no_quotient, an_unknown, alike_before, alike_at}
use Rattle.kept_rows.proofs.Rooms.{divides_first, ends_first}
use Rattle.kept_rows.proofs.passes.+back.Goals as goal

pub returns-then-is_empty-clause-answer : goal.returns-then-is_empty-clause-answer
returns-then-is_empty-clause-answer t c =
    let none : length c.args.columns.now ≡ 0 = grind arith in
    back_end c.args.at c.args.columns.now c.args.numbers.now none c.requires.count

pub returns-in_err-back-clause-answer : goal.returns-in_err-back-clause-answer
returns-in_err-back-clause-answer t c =
    let hs = c.args.columns.now in
    let some : 0 < length hs = grind arith in
    let within : c.args.at < length c.args.numbers.now = omega (arith, c.requires.count) in
    let fails = simp take_rest at c.in_err-back.ensures.answer in
    let p = err_from_is_err_and c.from_residual.result c.from_residual.ensures.1 in
    rw (p.1, p.2) (back_fails c.args.at hs c.args.numbers.now _ some within fails)

pub returns-in_err-back-clause-front : goal.returns-in_err-back-clause-front
returns-in_err-back-clause-front t c = alike_before c.args.at c.back.new.numbers c.args.numbers.now c.back.ensures.front

pub returns-in_err-left-clause-answer : goal.returns-in_err-left-clause-answer
returns-in_err-left-clause-answer t c =
    let hs = c.args.columns.now in
    let h = c.index-columns-0.result in
    let at = c.args.at in
    let new = c.back.new.numbers in
    let b = c.index-numbers-at.result in
    let some : 0 < length hs = grind arith in
    let within : at < length c.args.numbers.now = omega (arith, c.requires.count) in
    let found = simp take_rest at c.in_ok-back.ensures.answer in
    let first = back_first at hs h c.args.numbers.now b (drop (at + 1) new) some c.index-columns-0.is within (c.index-numbers-at.is ∙ alike_at at new c.args.numbers.now b c.back.ensures.front) found in
    let p = err_from_is_err_and c.from_residual-in_err-left.result c.from_residual-in_err-left.ensures.1 in
    rw (p.1, p.2) (first ∙ no_sum at h.pivot b (drop (at + 1) new) _ c.in_err-left.ensures)

pub returns-in_err-left-clause-front : goal.returns-in_err-left-clause-front
returns-in_err-left-clause-front t c = alike_before c.args.at c.back.new.numbers c.args.numbers.now c.back.ensures.front

pub returns-in_err-numbers-clause-answer : goal.returns-in_err-numbers-clause-answer
returns-in_err-numbers-clause-answer t c =
    let hs = c.args.columns.now in
    let h = c.index-columns-0.result in
    let at = c.args.at in
    let new = c.back.new.numbers in
    let b = c.index-numbers-at.result in
    let some : 0 < length hs = grind arith in
    let within : at < length c.args.numbers.now = omega (arith, c.requires.count) in
    let found = simp take_rest at c.in_ok-back.ensures.answer in
    let first = back_first at hs h c.args.numbers.now b (drop (at + 1) new) some c.index-columns-0.is within (c.index-numbers-at.is ∙ alike_at at new c.args.numbers.now b c.back.ensures.front) found in
    let divides = divides_first at hs h some c.index-columns-0.is c.requires.quotients in
    let quotient = c.in_err-numbers.ensures ∙ ap (λ k. answer_of k c.in_ok-left.left) divides.0 in
    let p = err_from_is_err_and c.from_residual-in_err-numbers.result c.from_residual-in_err-numbers.ensures.1 in
    rw (p.1, p.2) (first ∙ no_quotient at h.pivot b c.in_ok-left.left (drop (at + 1) new) _ c.in_ok-left.ensures quotient)

pub returns-in_err-numbers-clause-front : goal.returns-in_err-numbers-clause-front
returns-in_err-numbers-clause-front t c = alike_before c.args.at c.back.new.numbers c.args.numbers.now c.back.ensures.front

pub returns-clause-answer : goal.returns-clause-answer
returns-clause-answer t c =
    let hs = c.args.columns.now in
    let h = c.index-columns-0.result in
    let at = c.args.at in
    let new = c.back.new.numbers in
    let b = c.index-numbers-at.result in
    let x = c.in_ok-numbers.field-0 in
    let some : 0 < length hs = grind arith in
    let within : at < length c.args.numbers.now = omega (arith, c.requires.count) in
    let inside : at < length new = omega (arith, within, c.back.auto.numbers) in
    let found = simp take_rest at c.in_ok-back.ensures.answer in
    let first = back_first at hs h c.args.numbers.now b (drop (at + 1) new) some c.index-columns-0.is within (c.index-numbers-at.is ∙ alike_at at new c.args.numbers.now b c.back.ensures.front) found in
    let divides = divides_first at hs h some c.index-columns-0.is c.requires.quotients in
    let quotient = c.in_ok-numbers.ensures ∙ ap (λ k. answer_of k c.in_ok-left.left) divides.0 in
    rw (drop-set new at x inside) (first ∙ an_unknown at h.pivot b c.in_ok-left.left x (drop (at + 1) new) c.in_ok-left.ensures quotient)

pub returns-clause-front : goal.returns-clause-front
returns-clause-front t c = take-set c.back.new.numbers c.args.at c.in_ok-numbers.field-0 ∙ alike_before c.args.at c.back.new.numbers c.args.numbers.now c.back.ensures.front
