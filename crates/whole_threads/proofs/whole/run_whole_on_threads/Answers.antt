use Rattle.trace_sink.specs.PutsLaws.{puts_of}
use Rattle.design_run.proofs.Budgets.{lines_of_system, end_of_system}
use Rattle.whole_threads.proofs.Moving.{moves, SetSolver-send}
use Rattle.whole_threads.proofs.Reports.{suits, fits_of_system}
use Rattle.whole_threads.proofs.whole.run_whole_on_threads.Goals as goal

pub returns-clause-puts : goal.returns-clause-puts
returns-clause-puts g c =
    puts_of _ _ _ _ _ _ _ c.run_kernels.ensures.puts (lines_of_system (g.D.Design.system 0) c.args.flat.now c.args.top.now c.args.options.now c.requires.system)

pub returns-clause-end : goal.returns-clause-end
returns-clause-end g c =
    end_of_system c.run_kernels.result.ended (g.D.Design.system 0) c.args.flat.now c.args.options.now c.requires.system c.run_kernels.ensures.end

pub returns-clause-fits : goal.returns-clause-fits
returns-clause-fits g c =
    let r = c.run_kernels.result in
    fits_of_system r.ended r.own r.counts (g.D.Design.system 0) c.args.flat.now c.args.options.now c.requires.system c.run_kernels.ensures.fits

-- what goes to a thread, or is seen by two, and then what the run asks of the system
pub run_kernels-requires : goal.run_kernels-requires
run_kernels-requires g c k = (
  c.type_bounds.send-D,
  (
    search (moves, SetSolver-send) depth 20,
    (
      c.type_bounds.sync-D,
      (
        record { shared = c.type_bounds.sync-G.shared },
        (
          record { shared = c.type_bounds.sync-R.shared },
          suits (g.D.Design.system 0) c.args.flat.now c.args.options.now c.requires.system c.requires.design c.requires.allowed,
        ),
      ),
    ),
  ),
)
