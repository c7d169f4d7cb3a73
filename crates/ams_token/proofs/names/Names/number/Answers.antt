use Rattle.std.proofs.Common.{sym}
use Rattle.ams_token.proofs.Places.{there_already, added}
use Rattle.ams_token.proofs.names.Names.number.Goals as goal

pub returns-in-Some-clause-ok : goal.returns-in-Some-clause-ok
returns-in-Some-clause-ok c = there_already c.args.text.now c.args.self.now c.in-Some.number (sym c.in-Some.ensures)

pub returns-in_ok-number-in-None-clause-ok : goal.returns-in_ok-number-in-None-clause-ok
returns-in_ok-number-in-None-clause-ok c = added c.args.self.now c.add.new.self c.args.text.now c.in_ok-number-in-None.number (sym c.in-None.ensures) c.in_ok-number-in-None.ensures.ok.0 c.in_ok-number-in-None.ensures.ok.1
