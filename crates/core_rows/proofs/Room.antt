-- A run has few attempts.
use Rattle.std.proofs.Common.{◌≡◌, ◌≤◌, ◌<◌, List, [], ◌∷◌, arith}
use Rattle.step_model.specs.System.{System}
use Rattle.lockstep_model.specs.Lockstep.{lockstep}
use Rattle.lockstep_model.specs.Works.{Work, Worked, Tried, attempts_in, tries_in}
use Rattle.lockstep_model.specs.Budgets.{lockstep_within}
use Rattle.run_place.specs.Budgets.{run_budget}

-- each attempt is a try
few : (works : List Work) → attempts_in works ≤ tries_in works
few [] = omega arith
few (Worked kind events renews standing ∷ works) = let more = few works in omega arith
few (Tried tip frame until made crossing events ∷ works) = let more = few works in omega arith

pub room : (sys : System) → sys.tries ≡ run_budget → attempts_in (lockstep sys).works < 4611686018427387904
room sys budget =
    let one = few (lockstep sys).works in
    let two = (lockstep_within sys).tries in
    omega arith
