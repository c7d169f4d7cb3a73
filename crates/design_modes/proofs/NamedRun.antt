-- The numbers of the named system's run.
use Rattle.std.proofs.Common.{◌≡◌, subst}
use Rattle.std.specs.Prelude.{Result, IfOk}
use Rattle.flat_design.specs.declared.objects.Objects.{Objects}
use Rattle.step_data.specs.declared.outcome.Options.{Options}
use Rattle.step_model.specs.System.{System}
use Rattle.lockstep_model.specs.Lockstep.{lockstep}
use Rattle.system_model.specs.System.{system_of}
use Rattle.system_model.specs.Trace.{run_of}
use Rattle.run_counts.specs.declared.counts.CountedRun.{CountedRun}
use Rattle.run_counts.specs.Counts.{counted}

pub counts_of_system : {E : Type 0} (r : Result CountedRun E) (sys : System) (objects : Objects) (options : Options) → sys ≡ system_of objects options →
    IfOk r (λ run. run ≡ counted (lockstep sys)) → IfOk r (λ run. run ≡ counted (run_of objects options))
counts_of_system r sys objects options e h = subst (λ (s : System). IfOk r (λ run. run ≡ counted (lockstep s))) e h
