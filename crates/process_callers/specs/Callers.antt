-- The lists of the processes that wait on each signal.
use Rattle.std.specs.Prelude.{◌≡◌, ◌<◌, ◌+◌, ℕ, nat_eq, List, [], ◌∷◌, ◌++◌, length, map}
use Rattle.std.specs.List.{slice_index_or, range_with_len, flat_map, All}
use Rattle.std.specs.Global.{Vec}
use Rattle.flat_expr.specs.declared.expr.SignalName.{SignalName}
use Rattle.flat_expr.specs.declared.expr.SignalName.TheVariants as name
use Rattle.cycle_meaning.specs.Cycles.{Waiting}

-- one list for each signal, for each threshold, and for DOMAIN
pub record Lists : Type 0 where
  pub signals : List (List ℕ)
  pub thresholds : List (List ℕ)
  pub domain : List ℕ

abbrev pub items_of : List (Vec ℕ) → List (List ℕ)
items_of lists = map (λ (list : Vec ℕ). list.items) lists

-- the list at a name; where there is no such object, so many processes
abbrev pub callers_of : ℕ → Lists → SignalName → List ℕ
callers_of count c (name.Signal i) = slice_index_or c.signals i (range_with_len 0 count)
callers_of count c (name.Threshold k) = slice_index_or c.thresholds k (range_with_len 0 count)
callers_of count c name.Domain = c.domain

-- the names that some wait of a process has in its sensitivity set
abbrev pub names_of : List Waiting → List SignalName
names_of waits = flat_map (λ (w : Waiting). w.0) waits

-- each number in the lists is one of so many
pub record AreWithin (count : ℕ) (c : Lists) : Type 0 where
  pub signals : All (λ (list : List ℕ). All (λ (k : ℕ). k < count) list) c.signals
  pub thresholds : All (λ (list : List ℕ). All (λ (k : ℕ). k < count) list) c.thresholds
  pub domain : All (λ (k : ℕ). k < count) c.domain
