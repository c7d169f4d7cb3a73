-- The thresholds of a cycle are those of the definition.
use Rattle.std.proofs.Common.{◌≡◌, ℤ, Bool, false, List, [], ◌∷◌, map, refl, ap}
use Rattle.flat_design.specs.declared.objects.Threshold.{Threshold}
use Rattle.step_data.specs.declared.breaks.ThresholdState.{ThresholdState}
use Rattle.step_data.specs.Thresholds.{is_above}
use Rattle.ams_value.specs.declared.val.Val.TheVariants as val
use Rattle.design_meaning.specs.Readings.{Seen, still}
use Rattle.cycle_meaning.specs.Cycles.{changed, with_thresholds, threshold_states, is_on}
use Rattle.threshold_set.specs.Crossed.{crossed, crossed_of, after, sights_of, off, ThresholdsCross}

signals : (x : List ℤ) (ks : List Threshold) (kept : List Bool) → crossed_of x (threshold_states ks kept) ≡ with_thresholds x ks kept
signals x [] kept = refl
signals x (k ∷ ks) [] = ap (λ l. changed (still (val.Bool false)) (val.Bool (is_above x k.quantity k.level)) ∷ l) (signals x ks [])
signals x (k ∷ ks) (b ∷ kept) = ap (λ l. changed (still (val.Bool b)) (val.Bool (is_above x k.quantity k.level)) ∷ l) (signals x ks kept)

states : (x : List ℤ) (ks : List Threshold) (kept : List Bool)
    → map (after x) (threshold_states ks kept) ≡ threshold_states ks (map (λ (s : Seen). is_on s.value) (with_thresholds x ks kept))
states x [] kept = refl
states x (k ∷ ks) [] = ap (λ l. record { unknown = k.quantity; level = k.level; on = is_above x k.quantity k.level } ∷ l) (states x ks [])
states x (k ∷ ks) (b ∷ kept) = ap (λ l. record { unknown = k.quantity; level = k.level; on = is_above x k.quantity k.level } ∷ l) (states x ks kept)

read : (x : List ℤ) (ss : List ThresholdState) → sights_of (map (after x) ss) (map (λ (s : ThresholdState). (crossed x s).event) ss) ≡ crossed_of x ss
read x [] = refl
read x (s ∷ ss) = ap (λ l. crossed x s ∷ l) (read x ss)

first : (ks : List Threshold) → map off ks ≡ threshold_states ks (map (λ (k : Threshold). false) ks)
first [] = refl
first (k ∷ ks) = ap (λ l. off k ∷ l) (first ks)

pub laws : ThresholdsCross
laws = record { signals = signals; states = states; read = read; first = first }
