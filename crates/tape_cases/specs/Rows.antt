-- What the rows read.
use Rattle.std.specs.Prelude.{ℕ, ℤ, pos, [], ◌∷◌}
use Rattle.ams_value.specs.declared.val.Val.TheVariants as val
use Rattle.ams_value.specs.declared.value_type.ValueType.TheVariants.{Real, Integer}
use Rattle.design_meaning.specs.Readings.{Readings, still}
use Rattle.design_meaning.specs.Typed.{Scope}

-- a signal of REAL, one of INTEGER, three quantities and the time
abbrev pub rows_scope : Scope
rows_scope =
    record { enumerations = 2 ∷ []; signals = Real ∷ Integer ∷ []; thresholds = 0; quantities = 3; references = 0; dots = 0; variables = [] }

abbrev pub readings_at : ℤ → ℤ → ℤ → ℕ → Readings
readings_at first second third now =
    record {
      signals = still (val.Real (pos 2500000000000)) ∷ still (val.Int (pos 3)) ∷ [];
      thresholds = [];
      domain = still (val.Enum 0 1);
      quantities = first ∷ second ∷ third ∷ [];
      references = [];
      dots = [];
      variables = [];
      now = now;
    }
