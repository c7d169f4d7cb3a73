-- Small files, by computation.
use Rattle.std.proofs.Common.{◌≡◌, codes, Ok, refl}
use Rattle.unit_meaning.specs.Drivers.{flattened}
use Rattle.unit_meaning.specs.Walk.{enter}
use Rattle.unit_meaning.specs.Worked.{WorkedUnits, texts, with_branch, one_branch}

branch_row : flattened texts with_branch (codes "e") ≡ Ok one_branch
unfolding enter
branch_row = refl

pub rows : WorkedUnits
unfolding enter
rows = record { branch = branch_row; fine = refl; unsolved = refl; no_top = refl; inner = refl; itself = refl; missing = refl; duplicate = refl }
