use Rattle.proc_exec.proofs.Stepping.{comes, each_can, can_there, ready_next, ready_turned}
use Rattle.proc_exec.proofs.running.step.Goals as goal

pub coming-requires-clause-can : goal.coming-requires-clause-can
coming-requires-clause-can g c =
    each_can (g.E.Activation.context c.args.world.now) (g.E.Activation.local c.args.world.now) (g.E.Values.readings c.args.world.now) c.args.text.now c.args.stack.now (g.met.E.Activation.reads c.args.world.now) c.requires

pub perform-requires-clause-begun : goal.perform-requires-clause-begun
perform-requires-clause-begun g c =
    (comes (g.E.Activation.context c.args.world.now) (g.E.Activation.local c.args.world.now) c.args.text.now c.args.stack.now c.coming.new.stack c.coming.result c.in-Ok-Begins.field-0 c.in-Ok-Begins.statement
    c.requires c.coming.ensures.coming c.coming.ensures.first c.coming.ensures.small c.in-Ok-Begins.is c.in-Ok-Begins.field-0-is).begun

pub perform-requires-clause-can : goal.perform-requires-clause-can
perform-requires-clause-can g c =
    can_there (g.E.Activation.context c.args.world.now) (g.E.Activation.local c.args.world.now) (g.E.Values.readings c.args.world.now) c.args.text.now c.args.stack.now c.coming.new.stack c.in-Ok-Begins.statement.now
    (g.met.E.Activation.reads c.args.world.now) c.requires
    (comes (g.E.Activation.context c.args.world.now) (g.E.Activation.local c.args.world.now) c.args.text.now c.args.stack.now c.coming.new.stack c.coming.result c.in-Ok-Begins.field-0 c.in-Ok-Begins.statement
    c.requires c.coming.ensures.coming c.coming.ensures.first c.coming.ensures.small c.in-Ok-Begins.is c.in-Ok-Begins.field-0-is)

pub returns-in-Ok-Begins-clause-ready : goal.returns-in-Ok-Begins-clause-ready
returns-in-Ok-Begins-clause-ready g c =
    ready_next (g.E.Activation.context c.args.world.now) (g.E.Activation.context c.perform.new.world) (g.E.Activation.local c.args.world.now) (g.E.Activation.local c.perform.new.world) c.args.text.now c.args.stack.now
    c.coming.new.stack c.perform.new.stack c.in-Ok-Begins.statement.now c.perform.result c.perform.ensures.context c.requires
    (comes (g.E.Activation.context c.args.world.now) (g.E.Activation.local c.args.world.now) c.args.text.now c.args.stack.now c.coming.new.stack c.coming.result c.in-Ok-Begins.field-0 c.in-Ok-Begins.statement
    c.requires c.coming.ensures.coming c.coming.ensures.first c.coming.ensures.small c.in-Ok-Begins.is c.in-Ok-Begins.field-0-is)
    c.perform.ensures.performs c.perform.ensures.first

pub returns-in-Ok-Turns-clause-ready : goal.returns-in-Ok-Turns-clause-ready
returns-in-Ok-Turns-clause-ready g c =
    ready_turned (g.E.Activation.context c.args.world.now) (g.E.Activation.context c.begin_turn.new.world) (g.E.Activation.local c.args.world.now) (g.E.Activation.local c.begin_turn.new.world) c.args.text.now c.args.stack.now
    c.coming.new.stack c.coming.result c.in-Ok-Turns.field-0 c.in-Ok-Turns.parameter c.begin_turn.ensures.context c.requires c.coming.ensures.coming c.coming.ensures.first c.in-Ok-Turns.is c.in-Ok-Turns.field-0-is c.begin_turn.ensures.local
