use Rattle.std.proofs.Common.{arith, sym, ap, ◌∙◌}
use Rattle.std.proofs.lemmas.List.{take_rest}
use Rattle.ams_lexer.specs.Runs.{goes_on, takes}
use Rattle.ams_lexer.proofs.RunLaws.{run_length-more}
use Rattle.ams_lexer.proofs.runs.run_length.Goals as goal

pub loop-i-preserved : goal.loop-i-preserved
loop-i-preserved c =
    let bs = c.args.bytes.now in
    let i = c.loop-i.i in
    let on = ap (goes_on (takes c.args.class)) (sym (take_rest bs i)) ∙ sym c.goes_on.ensures ∙ c.if-not-goes_on.false in
    omega (arith, run_length-more (takes c.args.class) bs i on)
