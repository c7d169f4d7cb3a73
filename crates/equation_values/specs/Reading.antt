-- What is lent to the evaluation of equations.
use Rattle.std.specs.Prelude.{◌≡◌, ℕ, false, List, [], length, map, slice_index_or}
use Rattle.std.specs.List.{range_with_len}
use Rattle.ams_value.specs.declared.val.Val.{Val}
use Rattle.ams_value.specs.declared.val.Val.TheVariants as val
use Rattle.flat_expr.specs.declared.expr.SignalName.{SignalName}
use Rattle.flat_expr.specs.declared.expr.SignalName.TheVariants.{Signal, Threshold}
use Rattle.flat_expr.specs.Expr.{same_signal}
use Rattle.flat_design.specs.declared.objects.Objects.{Objects}
use Rattle.flat_design.specs.Lists.{number_in}
use Rattle.flat_design.specs.Reads.{frame_of}
use Rattle.design_meaning.specs.Readings.{Seen, Readings, still}
use Rattle.design_meaning.specs.Reading.{domain_of}
use Rattle.equation_values.specs.declared.values.EquationValues.{EquationValues}

-- the value at a place of a frame, FALSE behind its end
abbrev pub seen_at : List Val → ℕ → Seen
seen_at frame place = still (slice_index_or frame place (val.Bool false))

abbrev pub readings_in : EquationValues → Readings
readings_in v =
    record {
      signals = map (seen_at v.frame.now) v.signals.now;
      thresholds = map (seen_at v.frame.now) v.thresholds.now;
      domain = still (domain_of v.kind);
      quantities = v.quantities.now;
      references = v.references.now;
      dots = v.dots.now;
      variables = [];
      now = v.time;
    }

-- the place of a signal in a frame, or the frame's length
abbrev pub place_in : List SignalName → SignalName → ℕ
place_in names s = number_in (λ other. same_signal other s) names

-- the places that the signals and the thresholds of a design have in its frame
pub record HasPlaces (objects : Objects) (signals thresholds : List ℕ) : Type 0 where
  pub signals_are : signals ≡ map (λ i. place_in (frame_of objects) (Signal i)) (range_with_len 0 (length objects.signals))
  pub thresholds_are : thresholds ≡ map (λ k. place_in (frame_of objects) (Threshold k)) (range_with_len 0 (length objects.thresholds))
