-- A filled frame is that of the definition.
use Rattle.std.proofs.Common.{◌≡◌, ℕ, zero, suc, Bool, false, List, [], ◌∷◌, map, refl, ap, ◌∙◌}
use Rattle.std.specs.List.{slice_get, slice_index_or}
use Rattle.ams_value.specs.declared.val.Val.TheVariants as val
use Rattle.flat_expr.specs.declared.expr.SignalName.{SignalName}
use Rattle.flat_expr.specs.declared.expr.SignalName.TheVariants as name
use Rattle.flat_design.specs.Reads.{frame_of}
use Rattle.step_data.specs.declared.breaks.ThresholdState.{ThresholdState}
use Rattle.step_model.specs.System.{Digital}
use Rattle.cycle_meaning.specs.Cycles.{value_in}
use Rattle.threshold_set.specs.Crossed.{value_of}
use Rattle.frame_values.specs.Frames.{value_by, FramesAreFilled}

kept_at : (thresholds : List ThresholdState) (k : ℕ) → value_of (slice_get thresholds k) ≡ val.Bool (slice_index_or (map (λ (s : ThresholdState). s.on) thresholds) k false)
kept_at [] k = refl
kept_at (s ∷ thresholds) zero = refl
kept_at (s ∷ thresholds) (suc k) = kept_at thresholds k

value : (d : Digital) (thresholds : List ThresholdState) (s : SignalName) → map (λ (s : ThresholdState). s.on) thresholds ≡ d.kept → value_by d.signals thresholds d.timed s ≡ value_in d s
value d thresholds (name.Signal i) e = refl
value d thresholds (name.Threshold k) e = kept_at thresholds k ∙ ap (λ (kept : List Bool). val.Bool (slice_index_or kept k false)) e
value d thresholds name.Domain e = refl

values : (d : Digital) (thresholds : List ThresholdState) (names : List SignalName) → map (λ (s : ThresholdState). s.on) thresholds ≡ d.kept
    → map (value_by d.signals thresholds d.timed) names ≡ map (value_in d) names
values d thresholds [] e = refl
values d thresholds (s ∷ names) e = rw (value d thresholds s e, values d thresholds names e) refl

pub frames : FramesAreFilled
frames objects d thresholds e = values d thresholds (frame_of objects) e
