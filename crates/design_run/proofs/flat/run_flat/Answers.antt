use Rattle.std.proofs.Common.{refl}
use Rattle.trace_sink.specs.PutsLaws.{puts_of}
use Rattle.design_run.proofs.Budgets.{suits, lines_of_system, end_of_system}
use Rattle.design_run.proofs.flat.run_flat.Goals as goal

pub run_in_lockstep-requires : goal.run_in_lockstep-requires
run_in_lockstep-requires g c =
    let s = suits (g.D.Design.system 0) c.args.flat.now c.args.options.now c.requires.system c.requires.design in
    record { part = refl; stage = c.requires.stage; options = s.options; allowed = c.requires.allowed; deltas = s.deltas; choices = s.choices; cycles = s.cycles; tries = s.tries }

pub returns-in-Ok-clause-puts : goal.returns-in-Ok-clause-puts
returns-in-Ok-clause-puts g c =
    puts_of _ _ _ _ _ _ _ c.run_in_lockstep.ensures.puts (lines_of_system (g.D.Design.system 0) c.args.flat.now c.args.top.now c.args.options.now c.requires.system)

pub returns-in-Ok-clause-end : goal.returns-in-Ok-clause-end
returns-in-Ok-clause-end g c =
    end_of_system c.run_in_lockstep.result (g.D.Design.system 0) c.args.flat.now c.args.options.now c.requires.system c.run_in_lockstep.ensures.end
