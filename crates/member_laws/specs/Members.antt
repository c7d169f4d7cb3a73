-- Lists without repetition whose members all stand in another list.
use Rattle.std.specs.Prelude.{◌≡◌, ◌≢◌, ◌≤◌, ℕ, false, List, length}
use Rattle.std.specs.List.{All, AllPairs, Contains}
use Rattle.flat_design.specs.Lists.{same_threshold}
use Rattle.flat_design.specs.declared.objects.Threshold.{Threshold}

-- such a list is no longer than the other one
pub record FewMembers : Type 0 where
  pub numbers : (xs ys : List ℕ) → AllPairs (λ a b. a ≢ b) xs → All (Contains ys) xs → length xs ≤ length ys
  pub thresholds : (xs ys : List Threshold) → AllPairs (λ a b. same_threshold a b ≡ false) xs → All (Contains ys) xs → length xs ≤ length ys
