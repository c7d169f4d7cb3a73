-- The parts of the first world.
use Rattle.std.proofs.Common.{◌≡◌, ℕ, false, List, [], ◌∷◌, length, map, refl, ap}
use Rattle.std.specs.Prelude.{replicate}
use Rattle.ams_value.specs.declared.val.Val.TheVariants as val
use Rattle.flat_design.specs.declared.objects.Signal.{Signal}
use Rattle.flat_design.specs.declared.objects.Threshold.{Threshold}
use Rattle.flat_design.specs.declared.objects.Objects.{Objects}
use Rattle.step_data.specs.declared.trans.Trans.{Trans}
use Rattle.design_meaning.specs.Readings.{Seen, still}
use Rattle.design_meaning.specs.Reading.{quiescent_domain}
use Rattle.cycle_meaning.specs.World.{World, driven_of}
use Rattle.cycle_meaning.specs.Cycles.{first_world}
use Rattle.threshold_set.specs.Crossed.{silenced, off, sights_of}
use Rattle.driving_values.specs.Driving.{seens}

pub first_signals : (signals : List Signal) → seens (map (λ (s : Signal). s.initial) signals) (replicate (length signals) false) ≡ map (λ (s : Signal). still s.initial) signals
first_signals [] = refl
first_signals (s ∷ signals) = ap (λ (l : List Seen). still s.initial ∷ l) (first_signals signals)

pub first_thresholds : (ks : List Threshold) → sights_of (map off ks) (replicate (length ks) false) ≡ map (λ (k : Threshold). still (val.Bool false)) ks
first_thresholds [] = refl
first_thresholds (k ∷ ks) = ap (λ (l : List Seen). still (val.Bool false) ∷ l) (first_thresholds ks)

pub first_queues : {A B : Type 0} (xs : List A) → replicate {A = List B} (length xs) [] ≡ map (λ (x : A). []) xs
first_queues [] = refl
first_queues (x ∷ xs) = ap (λ l. [] ∷ l) (first_queues xs)

pub off_silenced : (ks : List Threshold) → map silenced (map off ks) ≡ map off ks
off_silenced [] = refl
off_silenced (k ∷ ks) = ap (λ l. off k ∷ l) (off_silenced ks)

pub first_is : (objects : Objects) (signals thresholds : List Seen) (queues : List (List Trans))
    → signals ≡ map (λ (s : Signal). still s.initial) objects.signals → thresholds ≡ map (λ (k : Threshold). still (val.Bool false)) objects.thresholds
    → queues ≡ map (λ (i : ℕ). []) (driven_of objects)
    → (let w : World = record { signals = signals; thresholds = thresholds; domain = still quiescent_domain; queues = queues; elements = []; broke = false; events = [] } in
    w ≡ first_world objects)
first_is objects signals thresholds queues es et eq = rw (es, et, eq) refl
