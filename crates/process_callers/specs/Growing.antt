-- How the lists grow.
use Rattle.std.specs.Prelude.{◌≡◌, ◌<◌, ℕ, true, List, length}
use Rattle.std.specs.List.{slice_index_or, range_with_len, All, Contains}
use Rattle.flat_expr.specs.declared.expr.SignalName.{SignalName}
use Rattle.resumption_calls.specs.Calls.{is_called}
use Rattle.process_callers.specs.Callers.{Lists, callers_of, AreWithin}

-- a process was put into a list
pub record IsPut (k : ℕ) (old now : List ℕ) : Type 0 where
  pub keeps : (j : ℕ) → is_called old j ≡ true → is_called now j ≡ true
  pub calls : is_called now k ≡ true
  pub within : (count : ℕ) → k < count → All (λ (j : ℕ). j < count) old → All (λ (j : ℕ). j < count) now

-- the list of a place; where there is none, so many processes
abbrev pub at_place : ℕ → List (List ℕ) → ℕ → List ℕ
at_place count lists i = slice_index_or lists i (range_with_len 0 count)

-- a process was put into the list of a place
pub record IsPutAt (count k place : ℕ) (old now : List (List ℕ)) : Type 0 where
  pub keeps : (i j : ℕ) → is_called (at_place count old i) j ≡ true → is_called (at_place count now i) j ≡ true
  pub calls : is_called (at_place count now place) k ≡ true
  pub within : All (λ (list : List ℕ). All (λ (j : ℕ). j < count) list) old → All (λ (list : List ℕ). All (λ (j : ℕ). j < count) list) now
  pub count_is : length now ≡ length old

-- a process was put into the lists of some names, and nobody was taken out
pub record Grows (count k : ℕ) (names : List SignalName) (old now : Lists) : Type 0 where
  pub keeps : (i : SignalName) (j : ℕ) → is_called (callers_of count old i) j ≡ true → is_called (callers_of count now i) j ≡ true
  pub calls : (i : SignalName) → Contains names i → is_called (callers_of count now i) k ≡ true
  pub within : AreWithin count old → AreWithin count now
  pub signals : length now.signals ≡ length old.signals
  pub thresholds : length now.thresholds ≡ length old.thresholds
