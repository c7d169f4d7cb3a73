use Rattle.std.proofs.Common.{◌≡◌, ◌<◌, length, Ok, sym, ◌∙◌, subst, arith}
use Rattle.std.proofs.lemmas.List.{get_or_read}
use Rattle.tape_code.specs.declared.instruction.Instruction.{Instruction}
use Rattle.tape_code.specs.declared.instruction.Instruction.TheVariants.{Other}
use Rattle.tape_code.specs.Steps.{slope_step}
use Rattle.eval_tape.proofs.Filled.{slopes_more}
use Rattle.eval_tape.proofs.passes.fill_slopes.Goals as goal

pub loop-place-preserved : goal.loop-place-preserved
loop-place-preserved c =
    let slopes = c.loop-place.slopes in
    let place = c.loop-place.place in
    let within : place < length slopes = omega (arith, c.loop-place.auto.slopes, c.requires.slopes, c.loop-place-test.true) in
    let own = get_or_read c.args.code.now place c.index-code-place.result c.loop-place-test.true c.index-code-place.is Other in
    slopes_more c.args.unknown c.args.code.now c.args.numbers.now slopes place c.in_ok-slopes.field-0 within c.loop-place.invariant
    (subst (λ (x : Instruction). slope_step c.args.unknown x c.args.numbers.now slopes place ≡ Ok c.in_ok-slopes.field-0) own (sym c.slope_at.ensures ∙ c.in_ok-slopes.was))
