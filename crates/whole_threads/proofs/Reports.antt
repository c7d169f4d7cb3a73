-- A run of the named design is that of the flat one.
use Rattle.std.specs.Prelude.{◌≡◌, ℕ, Result, OnOk}
use Rattle.std.proofs.Common.{subst}
use Rattle.flat_design.specs.declared.objects.Objects.{Objects}
use Rattle.step_data.specs.Options.{IsAllowed}
use Rattle.step_data.specs.declared.outcome.End.{End}
use Rattle.step_data.specs.declared.outcome.Options.{Options}
use Rattle.step_model.specs.System.{System}
use Rattle.lockstep_model.specs.Lockstep.{lockstep}
use Rattle.system_model.specs.System.{system_of}
use Rattle.system_model.specs.Trace.{run_of}
use Rattle.design_rules.specs.Design.{IsDesign}
use Rattle.timeline.specs.declared.journal.Counts.{Counts}
use Rattle.threaded_trace.specs.Fitting.{Fits}
use Rattle.threaded_kernels.specs.Suits.{Suits}
use Rattle.design_run.proofs.Budgets as budgets

-- what a run asks of the named system
pub suits : (sys : System) (objects : Objects) (options : Options) → sys ≡ system_of objects options → IsDesign objects → IsAllowed options → Suits sys options
suits sys objects options e d allowed =
    let s = budgets.suits sys objects options e d in
    record { options = s.options; allowed = allowed; deltas = s.deltas; choices = s.choices; cycles = s.cycles; tries = s.tries }

-- the numbers of its run
pub fits_of_system : {E : Type 0} (r : Result End E) (own : ℕ) (counts : Counts) (sys : System) (objects : Objects) (options : Options) → sys ≡ system_of objects options →
    OnOk r (Fits (lockstep sys).works own counts) → OnOk r (Fits (run_of objects options).works own counts)
fits_of_system r own counts sys objects options e h = subst (λ (s : System). OnOk r (Fits (lockstep s).works own counts)) e h
