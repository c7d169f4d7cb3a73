-- The values of a frame by their names.
use Rattle.std.specs.Prelude.{◌≡◌, Bool, false, if◌then◌else◌, List, map}
use Rattle.std.specs.List.{slice_get, slice_index_or}
use Rattle.ams_value.specs.declared.val.Val.{Val}
use Rattle.ams_value.specs.declared.val.Val.TheVariants as val
use Rattle.flat_expr.specs.declared.expr.SignalName.{SignalName}
use Rattle.flat_expr.specs.declared.expr.SignalName.TheVariants as name
use Rattle.flat_design.specs.declared.objects.Objects.{Objects}
use Rattle.flat_design.specs.Reads.{frame_of}
use Rattle.step_data.specs.declared.breaks.ThresholdState.{ThresholdState}
use Rattle.step_model.specs.System.{Digital}
use Rattle.design_meaning.specs.Reading.{quiescent_domain, time_domain}
use Rattle.cycle_meaning.specs.Cycles.{frame}
use Rattle.threshold_set.specs.Crossed.{value_of}

-- the value of a signal, a threshold or DOMAIN
abbrev pub value_by : List Val → List ThresholdState → Bool → SignalName → Val
value_by signals thresholds timed (name.Signal i) = slice_index_or signals i (val.Bool false)
value_by signals thresholds timed (name.Threshold k) = value_of (slice_get thresholds k)
value_by signals thresholds timed name.Domain = if timed then time_domain else quiescent_domain

abbrev pub FramesAreFilled : Type 0
FramesAreFilled =
    (objects : Objects) (d : Digital) (thresholds : List ThresholdState) → map (λ (s : ThresholdState). s.on) thresholds ≡ d.kept
    → map (value_by d.signals thresholds d.timed) (frame_of objects) ≡ frame objects d
