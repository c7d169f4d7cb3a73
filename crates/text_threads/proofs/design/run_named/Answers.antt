use Rattle.std.proofs.Common.{ℕ, List, ap}
use Rattle.system_model.specs.Trace.{run_of}
use Rattle.design_run.specs.Lines.{run_lines}
use Rattle.text_threads.proofs.Telling.{puts_told, end_told, fits_told}
use Rattle.text_threads.proofs.design.run_named.Goals as goal

pub returns-clause-puts : goal.returns-clause-puts
returns-clause-puts g c =
    let r = c.run_whole_on_threads-traced in
    puts_told c.told_of.result r.result.ended r.result.own r.result.counts _ _ _ _ _ _ c.told_of.ensures (ap (λ (t : List ℕ). run_lines c.args.flat.now t c.args.options.now) c.as_str.ensures.value) r.ensures.puts

pub returns-clause-end : goal.returns-clause-end
returns-clause-end g c =
    let r = c.run_whole_on_threads-traced in
    end_told c.told_of.result r.result.ended r.result.own r.result.counts (run_of c.args.flat.now c.args.options.now).end c.told_of.ensures r.ensures.end

pub returns-clause-fits : goal.returns-clause-fits
returns-clause-fits g c =
    let r = c.run_whole_on_threads-traced in
    fits_told c.told_of.result r.result.ended r.result.own r.result.counts (run_of c.args.flat.now c.args.options.now).works c.told_of.ensures r.ensures.fits
