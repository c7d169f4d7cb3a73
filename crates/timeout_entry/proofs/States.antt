-- The timeouts that are kept are those of the states.
use Rattle.std.proofs.Common.{refl, ap, ◌∙◌, ℕ, List, [], ◌∷◌, map, Option, arith}
use Rattle.next_cycle.specs.Next.{timeouts_of}
use Rattle.process_runs.specs.Kept.{states_kept}
use Rattle.cycle_timeouts.specs.Entered.{unless_due, entered, TimeoutsAreEntered}
use Rattle.timeout_entry.specs.Kept.{StartsAreEntered, RunsAreEntered}

pub starts_entered : StartsAreEntered
starts_entered [] [] same = refl
starts_entered [] (k ∷ ks) same = absurd (omega arith)
starts_entered (p ∷ ps) [] same = absurd (omega arith)
starts_entered (p ∷ ps) (k ∷ ks) same = ap (λ (l : List (Option ℕ)). k.timeout ∷ l) (starts_entered ps ks (omega arith))

pub runs_entered : TimeoutsAreEntered → RunsAreEntered
runs_entered law at now k ps states ks bs begun w left ls lk moment met ran =
    ap (λ (l : List (Option ℕ)). entered (map (unless_due now) (timeouts_of states)) l bs) (starts_entered ps ks lk)
    ∙ law at now k ps states (states_kept ps ks) bs begun w left ls moment met ran
