use Rattle.std.specs.Prelude.{◌≡◌, IfOk}
use Rattle.std.proofs.Common.{subst}
use Rattle.lockstep_model.specs.Walk.{Walk}
use Rattle.engine_rows.proofs.whole.run_design.Goals as goal

pub returns-clause-end : goal.returns-clause-end
returns-clause-end g c =
    subst (λ (y : Walk). IfOk c.drive.result (λ end. end ≡ y.end)) c.in_ok-engine.ensures.walk c.drive.ensures.end
