use Rattle.std.proofs.Common.{List, map, length, sym, subst}
use Rattle.cycle_meaning.specs.Cycles.{Waiting}
use Rattle.kernel_world.specs.Acting.{context_of, world_of}
use Rattle.process_runs.specs.Kept.{numbered, states_kept}
use Rattle.process_runs.specs.Sleeping.{asleep}
use Rattle.resumption.specs.Waits.{rows_of}
use Rattle.resumption_calls.specs.Calls.{HaveCallers}
use Rattle.process_callers.specs.Callers.{callers_of}
use Rattle.kernel_cycle.proofs.looking.look.Goals as goal

pub resume_called-requires-clause-there : goal.resume_called-requires-clause-there
resume_called-requires-clause-there c = c.waiting_processes_sleep.ensures.there c.args.world.now (context_of c.args.world.now).objects.processes c.args.kept.now c.requires.can

pub resume_called-requires-clause-quiet : goal.resume_called-requires-clause-quiet
resume_called-requires-clause-quiet c =
    c.calls_suffice.ensures (numbered (context_of c.args.world.now)) (world_of c.args.world.now) (callers_of (length c.args.kept.now) c.args.callers.now) (rows_of c.args.waits.now.rows.items) (map asleep c.args.kept.now) c.args.called.now
    (subst (λ (rows : List (List Waiting)). HaveCallers (callers_of (length c.args.kept.now) c.args.callers.now) rows) (sym c.requires.waits) c.requires.callers) c.requires.calls

pub returns-clause-found : goal.returns-clause-found
returns-clause-found c =
    c.resume_called.ensures.found (states_kept (context_of c.args.world.now).objects.processes c.args.kept.now) (c.waiting_processes_sleep.ensures.states c.args.world.now (context_of c.args.world.now).objects.processes c.args.kept.now c.requires.can)
