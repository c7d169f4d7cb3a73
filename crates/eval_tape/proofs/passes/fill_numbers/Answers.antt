use Rattle.std.proofs.Common.{◌≡◌, ◌<◌, length, Ok, sym, ◌∙◌, subst, arith}
use Rattle.std.proofs.lemmas.List.{get_or_read}
use Rattle.tape_code.specs.declared.instruction.Instruction.{Instruction}
use Rattle.tape_code.specs.declared.instruction.Instruction.TheVariants.{Other}
use Rattle.tape_code.specs.Steps.{number_step}
use Rattle.eval_tape.proofs.Filled.{numbers_more}
use Rattle.eval_tape.proofs.passes.fill_numbers.Goals as goal

pub loop-place-preserved : goal.loop-place-preserved
loop-place-preserved g c =
    let r = g.V.Values.readings c.args.values.now in
    let numbers = c.loop-place.numbers in
    let place = c.loop-place.place in
    let within : place < length numbers = omega (arith, c.loop-place.auto.numbers, c.requires, c.loop-place-test.true) in
    let own = get_or_read c.args.code.now place c.index-code-place.result c.loop-place-test.true c.index-code-place.is Other in
    numbers_more r c.args.code.now numbers place c.in_ok-numbers.field-0 within c.loop-place.invariant
    (subst (λ (x : Instruction). number_step r x numbers place ≡ Ok c.in_ok-numbers.field-0) own (sym c.number_at.ensures ∙ c.in_ok-numbers.was))
