-- A run has few attempts, and its ledgers have the names that they have.
use Rattle.std.specs.Prelude.{◌≡◌, ℕ, ◌≤◌, ◌<◌, ◌^◌, List, [], ◌∷◌, refl}
use Rattle.std.proofs.Common.{arith}
use Rattle.step_model.specs.System.{System}
use Rattle.lockstep_model.specs.Lockstep.{lockstep}
use Rattle.lockstep_model.specs.Works.{Work, Worked, Tried, attempts_in, tries_in}
use Rattle.lockstep_model.specs.Budgets.{lockstep_within}
use Rattle.run_place.specs.Budgets.{run_budget}
use Rattle.runahead_worker.specs.declared.seats.Blanks.{Blanks}
use Rattle.runahead_worker.specs.Names.{AreNamed, names_of}

-- each attempt is a try
few : (works : List Work) → attempts_in works ≤ tries_in works
few [] = omega arith
few (Worked kind events renews standing ∷ works) = let more = few works in omega arith
few (Tried tip frame until made crossing events ∷ works) = let more = few works in omega arith

pub few_attempts : (sys : System) → sys.tries ≡ run_budget → attempts_in (lockstep sys).works < 2 ^ 62
few_attempts sys budget =
    let one = few (lockstep sys).works in
    let two = (lockstep_within sys).tries in
    omega arith

-- the names that blanks have, as one word
unfoldable pub own_names : Blanks → ℕ → ℕ
own_names b k = names_of b k

pub all_named : (b : Blanks) → AreNamed (own_names b) b
unfolding own_names
all_named b = record { begins = refl; taken = refl; saved = refl; stale = refl; reused = refl; closed = refl; line_calls = refl; work_calls = refl }
