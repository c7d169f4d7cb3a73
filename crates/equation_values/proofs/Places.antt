-- What is lent is what equations read.
use Rattle.std.proofs.Common.{◌≡◌, ◌<◌, ◌≤◌, ◌+◌, ℕ, zero, suc, Bool, true, false, ℤ, List, [], ◌∷◌, length, map, take, drop, get_or, slice_get, Option, Some, None, refl, sym, ap, ◌∙◌, arith}
use Rattle.std.specs.Prelude.{slice_index_or}
use Rattle.std.specs.List.{range_with_len}
use Rattle.std.proofs.lemmas.Simd.{map-map}
use Rattle.std.proofs.lemmas.List.{drop-drop}
use Rattle.ams_value.specs.declared.val.Val.{Val}
use Rattle.ams_value.specs.declared.val.Val.TheVariants as val
use Rattle.flat_expr.specs.declared.expr.SignalName.{SignalName}
use Rattle.flat_expr.specs.declared.expr.SignalName.TheVariants as name
use Rattle.flat_design.specs.declared.objects.Objects.{Objects}
use Rattle.flat_design.specs.Reads.{frame_of}
use Rattle.step_data.specs.declared.outcome.ChooseKind.{ChooseKind}
use Rattle.design_meaning.specs.Readings.{Seen, Readings, still, seen_of}
use Rattle.design_meaning.specs.Reading.{readings_of, framed, dots_in, references_in}
use Rattle.equation_values.specs.declared.values.EquationValues.{EquationValues}
use Rattle.equation_values.specs.Reading.{seen_at, readings_in, place_in, HasPlaces}

-- the value at the place of a number
pub value_found : (frame : List Val) (places : List ℕ) (i p : ℕ) → slice_get places i ≡ Some p → slice_index_or (map (seen_at frame) places) i (still (val.Bool false)) ≡ still (slice_index_or frame p (val.Bool false))
value_found frame [] i p h = cc
value_found frame (q ∷ places) zero p h = let same : q ≡ p = cc in ap (seen_at frame) same
value_found frame (q ∷ places) (suc i) p h = value_found frame places i p h

pub value_missing : (frame : List Val) (places : List ℕ) (i : ℕ) → slice_get places i ≡ None → slice_index_or (map (seen_at frame) places) i (still (val.Bool false)) ≡ still (val.Bool false)
value_missing frame [] i h = refl
value_missing frame (q ∷ places) zero h = cc
value_missing frame (q ∷ places) (suc i) h = value_missing frame places i h

no_event_at : (frame : List Val) (places : List ℕ) (i : ℕ) → (slice_index_or (map (seen_at frame) places) i (still (val.Bool false))).event ≡ false
no_event_at frame [] i = refl
no_event_at frame (q ∷ places) zero = refl
no_event_at frame (q ∷ places) (suc i) = no_event_at frame places i

-- equations read no events
pub no_events : (v : EquationValues) (s : SignalName) → (seen_of (readings_in v) s).event ≡ false
no_events v (name.Signal i) = no_event_at v.frame.now v.signals.now i
no_events v (name.Threshold k) = no_event_at v.frame.now v.thresholds.now k
no_events v name.Domain = refl

-- ---- the readings of a design

places_seen : (objects : Objects) (frame : List Val) (f : ℕ → SignalName) (n : ℕ) (places : List ℕ) → places ≡ map (λ i. place_in (frame_of objects) (f i)) (range_with_len 0 n)
    → map (seen_at frame) places ≡ map (λ i. framed objects frame (f i)) (range_with_len 0 n)
places_seen objects frame f n places e = rw e (map-map (seen_at frame) (λ i. place_in (frame_of objects) (f i)) (range_with_len 0 n))

pub readings : (v : EquationValues) (objects : Objects) (frame : List Val) (kind : ChooseKind) (t : ℕ) (x others : List ℤ) → HasPlaces objects v.signals.now v.thresholds.now
    → v.frame.now ≡ frame → v.kind ≡ kind → v.time ≡ t → v.quantities.now ≡ take (length objects.quantities) x → others ≡ drop (length objects.quantities) x
    → v.references.now ≡ take (length objects.nodes) others → v.dots.now ≡ drop (length objects.nodes) others → readings_in v ≡ readings_of objects frame kind t x
readings v objects frame kind t x others places ef ek et eq eo er ed =
    let dots : v.dots.now ≡ dots_in objects x = ed ∙ ap (drop (length objects.nodes)) eo ∙ drop-drop (length objects.nodes) (length objects.quantities) x in
    let references : v.references.now ≡ references_in objects x = er ∙ ap (take (length objects.nodes)) eo in
    let signals = places_seen objects v.frame.now name.Signal (length objects.signals) v.signals.now places.signals_are in
    let thresholds = places_seen objects v.frame.now name.Threshold (length objects.thresholds) v.thresholds.now places.thresholds_are in
    rw (signals, thresholds, eq, references, dots, ef, ek, et) refl
