use Rattle.design_reading.proofs.text.unparsed.Goals as goal

pub returns-in-Ok : goal.returns-in-Ok
returns-in-Ok c = record { fault = c.args.fault.now; found = c.requires.found; told = c.requires.told; note_is = c.in-Ok.ensures }
