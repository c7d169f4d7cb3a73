-- The system that a flat design with its options is.
use Rattle.std.specs.Prelude.{ℕ, ◌+◌, ◌&&◌, nat_eq, nat_lt, Bool, true, false, ℤ, pos, List, [], ◌∷◌, ◌++◌, length, map, replicate, Option, Some, None}
use Rattle.std.specs.List.{slice_get, list_any}
use Rattle.ams_value.specs.declared.val.Val.{Val}
use Rattle.ams_value.specs.declared.value_type.ValueType.{ValueType}
use Rattle.ams_value.specs.declared.value_type.ValueType.TheVariants.{Boolean, Enumeration}
use Rattle.ams_value.specs.Types.{type_of, is_in_range}
use Rattle.flat_expr.specs.declared.expr.SignalName.{SignalName}
use Rattle.flat_expr.specs.declared.expr.SignalName.TheVariants as name
use Rattle.flat_design.specs.declared.objects.Signal.{Signal}
use Rattle.flat_design.specs.declared.objects.Objects.{Objects}
use Rattle.flat_design.specs.Lists.{enumeration_sizes}
use Rattle.flat_design.specs.Reads.{frame_of}
use Rattle.flat_design.specs.Order.{unknown_count}
use Rattle.step_data.specs.declared.breaks.Element.{Element}
use Rattle.step_data.specs.declared.outcome.Options.{Options}
use Rattle.step_model.specs.System.{System}
use Rattle.design_meaning.specs.Typed.{same_type}
use Rattle.design_meaning.specs.Steps.{choose, trial, settle, selections_of}
use Rattle.cycle_meaning.specs.Cycles.{first_digital, start, cycle, next_time, frame, thresholds, breaks}

-- ---- the types of a frame's places

-- a value lies in the range of its type, and can be printed
abbrev pub is_printable : Objects → Val → Bool
is_printable objects v = is_in_range (enumeration_sizes objects) v

-- a value is of this type, and in its range
abbrev pub is_of_type : Objects → ValueType → Val → Bool
is_of_type objects k v = same_type (type_of v) k && is_in_range (enumeration_sizes objects) v

abbrev pub is_signal_value : Objects → Option Signal → Val → Bool
is_signal_value objects (Some s) v = is_of_type objects s.kind v
is_signal_value objects None v = false

-- a value is of the type of this signal; DOMAIN_TYPE is enumeration type 0
abbrev pub is_value_of : Objects → SignalName → Val → Bool
is_value_of objects (name.Signal i) v = is_signal_value objects (slice_get objects.signals i) v
is_value_of objects (name.Threshold k) v = is_of_type objects Boolean v
is_value_of objects name.Domain v = is_of_type objects (Enumeration 0) v

abbrev pub are_values_of : Objects → List SignalName → List Val → Bool
are_values_of objects [] [] = true
are_values_of objects [] (v ∷ vs) = false
are_values_of objects (s ∷ names) [] = false
are_values_of objects (s ∷ names) (v ∷ vs) = is_value_of objects s v && are_values_of objects names vs

-- ---- break elements of the design

-- the selector is a differentiated quantity
abbrev pub is_element : Objects → Element → Bool
is_element objects e = list_any (nat_eq e.selector) objects.dots && nat_lt e.quantity (length objects.quantities)

-- ---- the start values and the budgets

-- quantities start at their initial values, references and dots at 0.0
abbrev pub initial_values : Objects → List ℤ
initial_values objects = map (λ q. q.initial) objects.quantities ++ replicate (length objects.nodes + length objects.dots) (pos 0)

-- the most deltas at one time
unfoldable pub delta_budget : ℕ
delta_budget = 1000

-- the most cycles
unfoldable pub cycle_budget : ℕ
cycle_budget = 200000

-- the most attempts, side steps and probes together
unfoldable pub try_budget : ℕ
try_budget = 200000

-- ---- the system

abbrev pub system_of : Objects → Options → System
system_of objects options =
    record {
      unknowns = unknown_count objects;
      frame_len = length (frame_of objects);
      choices = length (selections_of objects.equations);
      is_frame = are_values_of objects (frame_of objects);
      is_element = is_element objects;
      is_printable = is_printable objects;
      initial = initial_values objects;
      trial = trial objects options;
      settle = settle objects options;
      choose = choose objects;
      unstarted = first_digital objects;
      start = start objects;
      cycle = cycle objects;
      next_time = next_time;
      frame = frame objects;
      thresholds = thresholds objects;
      breaks = breaks;
      options = options;
      deltas = delta_budget;
      cycles = cycle_budget;
      tries = try_budget;
    }

-- a design names a system for each part; it has one part, which is the whole
abbrev pub systems_of : Objects → Options → ℕ → System
systems_of objects options part = system_of objects options
