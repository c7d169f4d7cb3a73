-- Small cycles, worked out.
use Rattle.std.specs.Prelude.{◌≡◌, pos, [], ◌∷◌, Some, None, true, false}
use Rattle.ams_value.specs.declared.val.Val.TheVariants as val
use Rattle.ams_value.specs.declared.value_type.ValueType.TheVariants as kind
use Rattle.flat_expr.specs.declared.subtype.Constraint.TheVariants.{Whole}
use Rattle.flat_design.specs.declared.objects.Objects.{Objects}
use Rattle.flat_design.specs.Lists.{no_objects}
use Rattle.step_data.specs.declared.event.Event.TheVariants as event
use Rattle.step_data.specs.declared.outcome.Ran.TheVariants.{Done}
use Rattle.step_model.specs.System.{ProcessState, Digital}
use Rattle.cycle_meaning.specs.Cycles.{cycle, next_time}

-- a signal of type BIT with the initial value '0', a process that drives it and has no statement, and a threshold of 0.5 on quantity 0
abbrev pub driven : Objects
driven = record no_objects {
  signals = record { path = []; kind = kind.Bit; constraint = Whole; initial = val.Bit false } ∷ [];
  thresholds = record { quantity = 0; level = pos 500000000000 } ∷ [];
  processes = record { variables = []; statements = []; drivers = 0 ∷ []; waits = [] } ∷ [];
}

abbrev pub asleep : ProcessState
asleep = record { wait = 0; timeout = None; variables = []; loops = [] }

-- in the time domain at 0, '1' stands pending at 10 ns
abbrev pub pending : Digital
pending =
    record {
      time = 0;
      timed = true;
      kept = false ∷ [];
      signals = val.Bit false ∷ [];
      queues = (record { at = 10000; value = val.Bit true } ∷ []) ∷ [];
      processes = asleep ∷ [];
      ramps = [];
      broken = [];
    }

pub record WorkedCycles : Type 0 where
  pub next : next_time pending ≡ Some 10000
  -- at 10 ns the signal becomes '1', and nothing is pending any more
  pub driving : cycle driven pending 10000 0 (pos 0 ∷ []) false
      ≡ record {
        digital = record pending { time = 10000; signals = val.Bit true ∷ []; queues = [] ∷ [] };
        events = event.Signal 10000 0 0 (val.Bit true) ∷ [];
        ran = Done false;
      }
  -- earlier, above 0.5, the threshold becomes TRUE
  pub crossing : cycle driven pending 5001 0 (pos 500001000000 ∷ []) false
      ≡ record { digital = record pending { time = 5001; kept = true ∷ [] }; events = event.Cross 5001 0 0 true ∷ []; ran = Done false }
  -- the change of DOMAIN stands first
  pub domain : (cycle driven (record pending { timed = false }) 10000 2 (pos 500001000000 ∷ []) true).events
      ≡ event.Domain 10000 2 ∷ event.Cross 10000 2 0 true ∷ event.Signal 10000 2 0 (val.Bit true) ∷ []
