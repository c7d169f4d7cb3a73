-- A well-formed design: a quantity whose slope is 1.0e6, and a process that waits twice in a loop, assigns a signal and breaks.
use Rattle.std.specs.Prelude.{pos, [], ◌∷◌, codes, None, true, false}
use Rattle.ams_value.specs.declared.val.Val.TheVariants as val
use Rattle.ams_value.specs.declared.value_type.ValueType.TheVariants as kind
use Rattle.flat_expr.specs.declared.expr.SignalName.TheVariants.{Signal}
use Rattle.flat_expr.specs.declared.expr.Direction.TheVariants.{To}
use Rattle.flat_expr.specs.declared.expr.Unknown.TheVariants as unknown
use Rattle.flat_expr.specs.declared.expr.FlatExpr.TheVariants as e
use Rattle.flat_expr.specs.declared.subtype.Constraint.TheVariants.{Whole}
use Rattle.flat_expr.specs.declared.statement.DelayMechanism.TheVariants.{Transport}
use Rattle.flat_expr.specs.declared.statement.BreakElement.{BreakElement}
use Rattle.flat_expr.specs.declared.statement.WaveElement.{WaveElement}
use Rattle.flat_expr.specs.declared.statement.Statement.{Statement}
use Rattle.flat_expr.specs.declared.statement.Statement.TheVariants as s
use Rattle.flat_design.specs.declared.objects.Signal.{Signal as SignalObject}
use Rattle.flat_design.specs.declared.objects.Quantity.{Quantity}
use Rattle.flat_design.specs.declared.objects.Pair.{Pair as Sides}
use Rattle.flat_design.specs.declared.objects.Instance.{Instance}
use Rattle.flat_design.specs.declared.objects.Variable.{Variable}
use Rattle.flat_design.specs.declared.objects.QuantityKind.TheVariants.{Free}
use Rattle.flat_design.specs.declared.objects.Equation.TheVariants.{Pair}
use Rattle.flat_design.specs.declared.objects.Process.{Process}
use Rattle.flat_design.specs.declared.objects.Objects.{Objects}
use Rattle.flat_design.specs.Lists.{no_objects}
use Rattle.design_rules.specs.Design.{domain_type, IsDesign}

-- signal '1'
abbrev pub high : WaveElement
high = record { value = e.Literal (val.Bit true); delay = None }

-- quantity => 0.0
abbrev pub to_zero : BreakElement
to_zero = record { selector = 0; quantity = 0; value = e.Literal (val.Real (pos 0)) }

-- for i in 0 to 1 loop wait on s; end loop;
abbrev pub waits_twice : Statement
waits_twice = s.For 0 (e.Literal (val.Int (pos 0))) To (e.Literal (val.Int (pos 1))) (s.Wait 0 (Signal 0 ∷ []) None None ∷ [])

-- s <= transport '1';
abbrev pub raises : Statement
raises = s.SignalAssignment 0 Whole Transport (high ∷ [])

-- break q => 0.0;
abbrev pub breaks : Statement
breaks = s.Break (to_zero ∷ []) None

abbrev pub parameter : Variable
parameter = record { name = codes "i"; kind = kind.Integer; constraint = Whole; initial = val.Int (pos 0); is_parameter = true }

abbrev pub worked_process : Process
worked_process =
    record {
      variables = parameter ∷ [];
      statements = waits_twice ∷ raises ∷ breaks ∷ [];
      drivers = 0 ∷ [];
      waits = record { path = record { statement = 0; branch = 0 } ∷ record { statement = 0; branch = 0 } ∷ []; parameters = 0 ∷ [] } ∷ [];
    }

abbrev pub signal : SignalObject
signal = record { path = codes "top.s"; kind = kind.Bit; constraint = Whole; initial = val.Bit false }

abbrev pub quantity : Quantity
quantity = record { path = codes "top.q"; kind = Free; initial = pos 0 }

-- q'dot == 1.0e6;
abbrev pub slope : Sides
slope = record { left = e.Unknown (unknown.Dot 0); right = e.Literal (val.Real (pos 1000000000000000000)) }

abbrev pub top : Instance
top = record { path = codes "top"; equations = 1; unknowns = 1 }

abbrev pub worked_design : Objects
worked_design =
    record no_objects {
      signals = signal ∷ [];
      quantities = quantity ∷ [];
      equations = Pair slope ∷ [];
      dots = 0 ∷ [];
      processes = worked_process ∷ [];
      instances = top ∷ [];
      enumerations = domain_type ∷ [];
    }

-- so the promises can be met
abbrev pub WorkedDesign : Type 0
WorkedDesign = IsDesign worked_design
