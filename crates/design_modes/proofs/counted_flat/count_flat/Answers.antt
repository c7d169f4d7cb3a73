use Rattle.std.proofs.Common.{refl}
use Rattle.design_run.proofs.Budgets.{suits}
use Rattle.design_modes.proofs.NamedRun.{counts_of_system}
use Rattle.design_modes.proofs.counted_flat.count_flat.Goals as goal

pub count_in_lockstep-requires : goal.count_in_lockstep-requires
count_in_lockstep-requires g c =
    let s = suits (g.D.Design.system 0) c.args.flat.now c.args.options.now c.requires.system c.requires.design in
    record { part = refl; stage = c.requires.stage; options = s.options; allowed = c.requires.allowed; deltas = s.deltas; choices = s.choices; cycles = s.cycles; tries = s.tries }

pub returns-in-Ok : goal.returns-in-Ok
returns-in-Ok g c =
    counts_of_system c.count_in_lockstep.result (g.D.Design.system 0) c.args.flat.now c.args.options.now c.requires.system c.count_in_lockstep.ensures
