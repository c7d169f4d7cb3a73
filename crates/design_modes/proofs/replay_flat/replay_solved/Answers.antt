use Rattle.std.proofs.Common.{refl}
use Rattle.trace_sink.specs.PutsLaws.{puts_of}
use Rattle.design_modes.proofs.Budgets.{suits, lines_of_system, end_of_system, report_of_system}
use Rattle.design_modes.proofs.replay_flat.replay_solved.Goals as goal

pub run_replay-requires : goal.run_replay-requires
run_replay-requires g c =
    let s = suits (g.D.Design.system 0) c.args.flat.now c.args.options.now c.requires.system c.requires.design in
    record { part = refl; worker = refl; stage = c.requires.stage; options = s.options; allowed = c.requires.allowed; deltas = s.deltas; choices = s.choices; cycles = s.cycles; tries = s.tries }

pub returns-in-Ok-clause-puts : goal.returns-in-Ok-clause-puts
returns-in-Ok-clause-puts g c =
    puts_of _ _ _ _ _ _ _ c.run_replay.ensures.puts (lines_of_system (g.D.Design.system 0) c.args.flat.now c.args.top.now c.args.options.now c.requires.system)

pub returns-in-Ok-clause-end : goal.returns-in-Ok-clause-end
returns-in-Ok-clause-end g c =
    end_of_system c.run_replay.result (g.D.Design.system 0) c.args.flat.now c.args.options.now c.requires.system c.run_replay.ensures.end

pub returns-in-Ok-clause-report : goal.returns-in-Ok-clause-report
returns-in-Ok-clause-report g c =
    report_of_system c.run_replay.result (g.D.Design.system 0) c.args.flat.now c.args.options.now c.args.schedule.now c.requires.system c.run_replay.ensures.report
