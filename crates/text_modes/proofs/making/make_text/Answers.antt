use Rattle.std.proofs.Common.{refl}
use Rattle.program_output.specs.Port.{port}
use Rattle.text_modes.proofs.Ladders.{made_text, refused_text}
use Rattle.text_modes.proofs.making.make_text.Goals as goal

pub returns-in-Ok : goal.returns-in-Ok
returns-in-Ok g c =
    let k = g.K.Sink in
    let e = g.E.Sink in
    made_text c.in-Ok.flat c.args.text.now c.args.size c.args.options.now c.make_design.result c.run_status.result
    (port (k.held c.args.trace.now) (k.held c.make_design.new.trace) (k.faults c.args.trace.now) (k.faults c.make_design.new.trace))
    (port (e.held c.args.notes.now) (e.held c.read_or_refuse.new.notes) (e.faults c.args.notes.now) (e.faults c.read_or_refuse.new.notes))
    c.in-Ok.ensures c.run_status.ensures c.make_design.ensures.puts c.make_design.ensures.end

pub returns-in-Err : goal.returns-in-Err
returns-in-Err g c =
    let k = g.K.Sink in
    let e = g.E.Sink in
    refused_text c.args.text.now c.args.size c.args.options.now c.in-Err.status
    (port (k.held c.args.trace.now) (k.held c.args.trace.now) (k.faults c.args.trace.now) (k.faults c.args.trace.now))
    (port (e.held c.args.notes.now) (e.held c.read_or_refuse.new.notes) (e.faults c.args.notes.now) (e.faults c.read_or_refuse.new.notes))
    c.in-Err.ensures refl
