-- What the equations read under a frame.
use Rattle.std.specs.Prelude.{ℕ, ◌+◌, false, ℤ, List, [], length, take, drop, map}
use Rattle.std.specs.List.{slice_index_or, range_with_len}
use Rattle.ams_value.specs.declared.val.Val.{Val}
use Rattle.ams_value.specs.declared.val.Val.TheVariants as val
use Rattle.flat_expr.specs.declared.expr.SignalName.{SignalName}
use Rattle.flat_expr.specs.declared.expr.SignalName.TheVariants.{Signal, Threshold}
use Rattle.flat_expr.specs.Expr.{same_signal}
use Rattle.flat_design.specs.declared.objects.Objects.{Objects}
use Rattle.flat_design.specs.Lists.{number_in}
use Rattle.flat_design.specs.Reads.{frame_of}
use Rattle.step_data.specs.declared.outcome.ChooseKind.{ChooseKind}
use Rattle.step_data.specs.declared.outcome.ChooseKind.TheVariants.{Quiet, Timed}
use Rattle.design_meaning.specs.Readings.{Seen, Readings, still}

-- the literals of DOMAIN_TYPE, which is enumeration type 0
abbrev pub quiescent_domain : Val
quiescent_domain = val.Enum 0 0

abbrev pub time_domain : Val
time_domain = val.Enum 0 1

abbrev pub domain_of : ChooseKind → Val
domain_of Quiet = quiescent_domain
domain_of Timed = time_domain

-- a signal of the frame, which equations read without its events
abbrev pub framed : Objects → List Val → SignalName → Seen
framed objects frame s = still (slice_index_or frame (number_in (λ other. same_signal other s) (frame_of objects)) (val.Bool false))

-- the values of the unknowns by their kinds
abbrev pub quantities_in : Objects → List ℤ → List ℤ
quantities_in objects x = take (length objects.quantities) x

abbrev pub references_in : Objects → List ℤ → List ℤ
references_in objects x = take (length objects.nodes) (drop (length objects.quantities) x)

abbrev pub dots_in : Objects → List ℤ → List ℤ
dots_in objects x = drop (length objects.quantities + length objects.nodes) x

-- what equations read: the frame, DOMAIN, a point and a time
abbrev pub readings_of : Objects → List Val → ChooseKind → ℕ → List ℤ → Readings
readings_of objects frame kind t x =
    record {
      signals = map (λ i. framed objects frame (Signal i)) (range_with_len 0 (length objects.signals));
      thresholds = map (λ k. framed objects frame (Threshold k)) (range_with_len 0 (length objects.thresholds));
      domain = still (domain_of kind);
      quantities = quantities_in objects x;
      references = references_in objects x;
      dots = dots_in objects x;
      variables = [];
      now = t;
    }
