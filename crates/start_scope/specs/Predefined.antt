-- The predefined names by groups.
use Rattle.std.specs.Prelude.{ℕ, List, [], ◌∷◌, ◌++◌, codes, pos, true, false, Some, None}
use Rattle.std.specs.List.{fold}
use Rattle.ams_value.specs.declared.val.Val.TheVariants as val
use Rattle.ams_value.specs.declared.value_type.ValueType.TheVariants as t
use Rattle.flat_expr.specs.declared.expr.Function.TheVariants as function
use Rattle.flat_design.specs.declared.objects.Terminal.TheVariants as terminal
use Rattle.name_scope.specs.declared.thing.Thing.{Thing}
use Rattle.name_scope.specs.declared.thing.Thing.TheVariants as thing
use Rattle.name_scope.specs.declared.scope.Scope.{Scope}
use Rattle.unit_meaning.specs.Units.{whole, from_integer, with_predefined}

abbrev pub types : List (List ℕ × Thing)
types =
    (codes "boolean", thing.Type (whole t.Boolean) None)
    ∷ (codes "bit", thing.Type (whole t.Bit) None)
    ∷ (codes "integer", thing.Type (whole t.Integer) (Some function.Integer))
    ∷ (codes "natural", thing.Type (from_integer (pos 0)) None)
    ∷ (codes "positive", thing.Type (from_integer (pos 1)) None)
    ∷ []

abbrev pub more_types : List (List ℕ × Thing)
more_types =
    (codes "real", thing.Type (whole t.Real) (Some function.Real))
    ∷ (codes "voltage", thing.Type (whole t.Real) None)
    ∷ (codes "current", thing.Type (whole t.Real) None)
    ∷ (codes "time", thing.Type (whole t.Time) None)
    ∷ (codes "domain_type", thing.Type (whole (t.Enumeration 0)) None)
    ∷ (codes "bit_vector", thing.BitVector)
    ∷ []

abbrev pub functions : List (List ℕ × Thing)
functions =
    (codes "false", thing.Literal (val.Bool false))
    ∷ (codes "true", thing.Literal (val.Bool true))
    ∷ (codes "exp", thing.Function function.Exp)
    ∷ (codes "sin", thing.Function function.Sin)
    ∷ (codes "cos", thing.Function function.Cos)
    ∷ (codes "sqrt", thing.Function function.Sqrt)
    ∷ []

abbrev pub constants : List (List ℕ × Thing)
constants =
    (codes "math_pi", thing.Constant (whole t.Real) (Some (val.Real (pos 3141592653590))))
    ∷ (codes "math_2_pi", thing.Constant (whole t.Real) (Some (val.Real (pos 6283185307180))))
    ∷ (codes "now", thing.Now)
    ∷ (codes "domain", thing.Domain)
    ∷ (codes "electrical", thing.Nature 0)
    ∷ (codes "electrical_ref", thing.Terminal terminal.Reference 0)
    ∷ []

abbrev pub domains : List (List ℕ × Thing)
domains =
    (codes "quiescent_domain", thing.Literal (val.Enum 0 0))
    ∷ (codes "time_domain", thing.Literal (val.Enum 0 1))
    ∷ (codes "frequency_domain", thing.Literal (val.Enum 0 2))
    ∷ []

-- a scope whose innermost region has these names too
abbrev pub with_all : List (List ℕ) → List (List ℕ × Thing) → Scope → Scope
with_all texts all s = record { outer = s.outer; inner = fold (with_predefined texts) s.inner all }
