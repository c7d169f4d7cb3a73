-- Values before the first cycle.
use Rattle.std.proofs.Common.{◌≡◌, ◌≤◌, ℕ, zero, suc, false, List, [], ◌∷◌, length, map, Some, None, Option, refl, ap, arith}
use Rattle.std.specs.List.{slice_get, slice_index_or}
use Rattle.ams_value.specs.declared.val.Val.{Val}
use Rattle.ams_value.specs.declared.val.Val.TheVariants as val
use Rattle.flat_design.specs.declared.objects.Signal.{Signal}
use Rattle.flat_design.specs.declared.objects.Threshold.{Threshold}

pub signal_there : (signals : List Signal) (i : ℕ) (s : Signal) → slice_get signals i ≡ Some s → slice_index_or (map (λ (s : Signal). s.initial) signals) i (val.Bool false) ≡ s.initial
signal_there [] i s e = absurd (cc)
signal_there (x ∷ signals) zero s e = ap (λ (o : Option Signal). elim o as (λ o. Val) [ None ↦ val.Bool false | Some y ↦ y.initial ]) e
signal_there (x ∷ signals) (suc i) s e = signal_there signals i s e

pub signal_missing : (signals : List Signal) (i : ℕ) → length signals ≤ i → slice_index_or (map (λ (s : Signal). s.initial) signals) i (val.Bool false) ≡ val.Bool false
signal_missing [] i h = refl
signal_missing (x ∷ signals) zero h = absurd (omega arith)
signal_missing (x ∷ signals) (suc i) h = signal_missing signals i (omega arith)

pub threshold_is_off : (thresholds : List Threshold) (k : ℕ) → slice_index_or (map (λ (t : Threshold). false) thresholds) k false ≡ false
threshold_is_off [] k = refl
threshold_is_off (x ∷ thresholds) zero = refl
threshold_is_off (x ∷ thresholds) (suc k) = threshold_is_off thresholds k
