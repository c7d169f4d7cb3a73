-- The designs of the cases.
use Rattle.std.specs.Prelude.{ℕ, ℤ, pos, true, false, List, [], ◌∷◌, codes}
use Rattle.ams_value.specs.declared.val.Val.TheVariants as val
use Rattle.ams_value.specs.declared.op.BinaryOperator.TheVariants.{Multiply, Subtract, Equal}
use Rattle.ams_value.specs.declared.value_type.ValueType.TheVariants as kind
use Rattle.flat_expr.specs.declared.expr.SignalName.TheVariants.{Signal}
use Rattle.flat_expr.specs.declared.expr.Unknown.{Unknown}
use Rattle.flat_expr.specs.declared.expr.Unknown.TheVariants as unknown
use Rattle.flat_expr.specs.declared.expr.FlatExpr.{FlatExpr}
use Rattle.flat_expr.specs.declared.expr.FlatExpr.TheVariants as e
use Rattle.flat_expr.specs.declared.subtype.Constraint.TheVariants.{Whole}
use Rattle.flat_design.specs.declared.objects.Signal.{Signal as SignalObject}
use Rattle.flat_design.specs.declared.objects.Terminal.TheVariants.{Node, Reference}
use Rattle.flat_design.specs.declared.objects.Node.{Node as NodeObject}
use Rattle.flat_design.specs.declared.objects.QuantityKind.{QuantityKind}
use Rattle.flat_design.specs.declared.objects.QuantityKind.TheVariants.{Free, Across, Through}
use Rattle.flat_design.specs.declared.objects.Quantity.{Quantity}
use Rattle.flat_design.specs.declared.objects.Pair.{Pair as Sides}
use Rattle.flat_design.specs.declared.objects.IfArm.{IfArm}
use Rattle.flat_design.specs.declared.objects.Selection.TheVariants.{If}
use Rattle.flat_design.specs.declared.objects.Choice.{Choice as ChoiceObject}
use Rattle.flat_design.specs.declared.objects.Instance.{Instance}
use Rattle.flat_design.specs.declared.objects.Equation.{Equation}
use Rattle.flat_design.specs.declared.objects.Equation.TheVariants.{Pair, Choice}
use Rattle.flat_design.specs.declared.objects.Objects.{Objects}
use Rattle.flat_design.specs.Lists.{no_objects}
use Rattle.design_rules.specs.Design.{domain_type}

-- ---- parts

-- a number of so many units
abbrev pub number : ℤ → FlatExpr
number units = e.Literal (val.Real units)

abbrev pub times : FlatExpr → FlatExpr → FlatExpr
times a b = e.Binary Multiply kind.Real a b

abbrev pub less : FlatExpr → FlatExpr → FlatExpr
less a b = e.Binary Subtract kind.Real a b

abbrev pub quantity : List ℕ → QuantityKind → Quantity
quantity path k = record { path = path; kind = k; initial = pos 0 }

-- an unknown on the left side
abbrev pub equation : Unknown → FlatExpr → Equation
equation u right = Pair (record { left = e.Unknown u; right = right })

abbrev pub instance : List ℕ → ℕ → Instance
instance path count = record { path = path; equations = count; unknowns = count }

-- ---- a resistor and a capacitor at 5 V

-- across vs through js at n1, across vr through ir from n1 to n2, across vc through ic at n2
abbrev pub branches : List Quantity
branches =
    quantity (codes "rc.vs") (Across (Node 0) Reference)
    ∷ quantity (codes "rc.js") (Through (Node 0) Reference)
    ∷ quantity (codes "rc.vr") (Across (Node 0) (Node 1))
    ∷ quantity (codes "rc.ir") (Through (Node 0) (Node 1))
    ∷ quantity (codes "rc.vc") (Across (Node 1) Reference)
    ∷ quantity (codes "rc.ic") (Through (Node 1) Reference)
    ∷ []

-- vs == 5.0; vr == 1.0e3 * ir; ic == 1.0e-9 * vc'dot;
abbrev pub charging : List Equation
charging =
    equation (unknown.Quantity 0) (number (pos 5000000000000))
    ∷ equation (unknown.Quantity 2) (times (number (pos 1000000000000000)) (e.Unknown (unknown.Quantity 3)))
    ∷ equation (unknown.Quantity 5) (times (number (pos 1000)) (e.Unknown (unknown.Dot 0)))
    ∷ []

abbrev pub nodes : List NodeObject
nodes = record { path = codes "rc.n1" } ∷ record { path = codes "rc.n2" } ∷ []

abbrev pub charged_capacitor : Objects
charged_capacitor =
    record no_objects {
      quantities = branches;
      nodes = nodes;
      equations = charging;
      dots = 4 ∷ [];
      instances = instance (codes "rc") 3 ∷ [];
      enumerations = domain_type ∷ [];
    }

-- ---- a slope that is a polynomial of the time

-- the time in nanoseconds
abbrev pub nanoseconds : FlatExpr
nanoseconds = times (number (pos 1000000000000000000000)) e.NowReal

-- 1.0e6 * (1.0e9 * now) * (1.0e9 * now - 5.0) * (10.0 - 1.0e9 * now)
abbrev pub polynomial : FlatExpr
polynomial =
    times (times (times (number (pos 1000000000000000000)) nanoseconds) (less nanoseconds (number (pos 5000000000000)))) (less (number (pos 10000000000000)) nanoseconds)

abbrev pub polynomial_slope : Objects
polynomial_slope =
    record no_objects {
      quantities = quantity (codes "e.q") Free ∷ [];
      equations = equation (unknown.Dot 0) polynomial ∷ [];
      dots = 0 ∷ [];
      instances = instance (codes "e") 1 ∷ [];
      enumerations = domain_type ∷ [];
    }

-- ---- a level that a signal chooses

-- signal s : bit
abbrev pub chooser : SignalObject
chooser = record { path = codes "e.s"; kind = kind.Bit; constraint = Whole; initial = val.Bit false }

-- s = '1'
abbrev pub is_high : FlatExpr
is_high = e.Binary Equal kind.Boolean (e.Signal (Signal 0) kind.Bit) (e.Literal (val.Bit true))

abbrev pub has_level : ℤ → Sides
has_level units = record { left = e.Unknown (unknown.Quantity 0); right = number units }

abbrev pub high_arm : IfArm
high_arm = record { condition = is_high; pairs = has_level (pos 2000000000000) ∷ [] }

-- if s = '1' use q == 2.0; else q == 1.0; end use;
abbrev pub choice : ChoiceObject
choice = record { selection = If (high_arm ∷ []) (has_level (pos 1000000000000) ∷ []); size = 1 }

abbrev pub chosen_level : Objects
chosen_level =
    record no_objects {
      signals = chooser ∷ [];
      quantities = quantity (codes "e.q") Free ∷ [];
      equations = Choice choice ∷ [];
      instances = instance (codes "e") 1 ∷ [];
      enumerations = domain_type ∷ [];
    }
