use Rattle.design_reading.proofs.Given.{text_gives}
use Rattle.design_reading.proofs.text.read_design.Goals as goal

pub returns-in-Ok : goal.returns-in-Ok
returns-in-Ok c = text_gives c.args.text.now c.args.top.now c.in-Ok.tokens c.design_of_tokens.result c.in-Ok.ensures.tokens c.design_of_tokens.ensures
