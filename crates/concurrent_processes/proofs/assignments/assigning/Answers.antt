use Rattle.std.proofs.Common.{◌≡◌, IfOk, subst}
use Rattle.elab_meaning.specs.Parts.{judged, both}
use Rattle.unit_meaning.specs.Settings.{paired}
use Rattle.concurrent_processes.specs.Assignments.{assigning_part, assigning_parts}
use Rattle.concurrent_processes.proofs.assignments.assigning.Goals as goal

pub returns : goal.returns
unfolding assigning_parts
returns c =
    subst (λ s. IfOk c.assigned.result (λ made. made ≡ judged assigning_part (both paired s c.args.waves))) c.signal_part.ensures
    (subst (λ p. IfOk c.assigned.result (λ made. made ≡ judged assigning_part p)) c.both.ensures c.assigned.ensures)
