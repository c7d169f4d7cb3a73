-- What of a flat design may be seen by two threads: all of it.
use denote.Param.Send.{IsSync, sendable}
use Rattle.std.proofs.Crossing.{crosses}
use Rattle.std.proofs.option.Option.TheSendSync as option
use Rattle.flat_expr.proofs.expr.FlatExpr.TheLaws.TheKnot as expressions
use Rattle.flat_expr.proofs.statement.Statement.TheLaws.TheKnot as statements
use Rattle.fix_core.proofs.Fix.TheSendSync as of_fix
use Rattle.ams_value.proofs.op.BinaryOperator.TheSendSync as of_binaryoperator
use Rattle.ams_value.proofs.op.UnaryOperator.TheSendSync as of_unaryoperator
use Rattle.ams_value.proofs.val.Val.TheSendSync as of_val
use Rattle.ams_value.proofs.value_type.ValueType.TheSendSync as of_valuetype
use Rattle.flat_expr.proofs.expr.Direction.TheSendSync as of_direction
use Rattle.flat_expr.proofs.expr.Function.TheSendSync as of_function
use Rattle.flat_expr.proofs.expr.IndexRange.TheSendSync as of_indexrange
use Rattle.flat_expr.proofs.expr.SignalName.TheSendSync as of_signalname
use Rattle.flat_expr.proofs.expr.Unknown.TheSendSync as of_unknown
use Rattle.flat_expr.proofs.statement.Severity.TheSendSync as of_severity
use Rattle.flat_expr.proofs.subtype.Constraint.TheSendSync as of_constraint
use Rattle.flat_design.proofs.objects.Terminal.TheSendSync as of_terminal
use Rattle.flat_design.proofs.objects.QuantityKind.TheSendSync as of_quantitykind
use Rattle.flat_design.proofs.objects.Threshold.TheSendSync as of_threshold
use Rattle.flat_design.proofs.objects.PathStep.TheSendSync as of_pathstep
use Rattle.flat_design.proofs.objects.Ramp.TheSendSync as of_ramp
use Rattle.sqlite_items.proofs.items.Items.TheSendSync as of_items
use Rattle.sqlite_items.proofs.boxed.Boxed.TheSendSync as of_boxed
use Rattle.flat_expr.specs.contracts.expr.FlatExpr as FlatExpr
use Rattle.flat_expr.specs.contracts.statement.WaveElement as WaveElement
use Rattle.flat_expr.specs.contracts.statement.DelayMechanism as DelayMechanism
use Rattle.flat_expr.specs.contracts.statement.BreakElement as BreakElement
use Rattle.flat_expr.specs.contracts.statement.Statement as Statement
use Rattle.flat_design.specs.contracts.objects.Signal as Signal
use Rattle.flat_design.specs.contracts.objects.Quantity as Quantity
use Rattle.flat_design.specs.contracts.objects.Node as Node
use Rattle.flat_design.specs.contracts.objects.Pair as Pair
use Rattle.flat_design.specs.contracts.objects.IfArm as IfArm
use Rattle.flat_design.specs.contracts.objects.CaseArm as CaseArm
use Rattle.flat_design.specs.contracts.objects.Selection as Selection
use Rattle.flat_design.specs.contracts.objects.Choice as Choice
use Rattle.flat_design.specs.contracts.objects.Equation as Equation
use Rattle.flat_design.specs.contracts.objects.Variable as Variable
use Rattle.flat_design.specs.contracts.objects.WaitPlace as WaitPlace
use Rattle.flat_design.specs.contracts.objects.Process as Process
use Rattle.flat_design.specs.contracts.objects.Instance as Instance
use Rattle.flat_design.specs.contracts.objects.Enumeration as Enumeration
use Rattle.flat_design.specs.contracts.objects.Objects as Objects
use Rattle.flat_design.specs.contracts.flat.Flat as Flat

ruleset leaves = (sendable, crosses, option.the_field_sync, of_fix.the_sync, of_binaryoperator.the_field_sync, of_unaryoperator.the_field_sync, of_val.the_field_sync, of_valuetype.the_field_sync, of_direction.the_field_sync, of_function.the_field_sync, of_indexrange.the_field_sync, of_signalname.the_field_sync, of_unknown.the_field_sync, of_severity.the_field_sync, of_constraint.the_field_sync, of_terminal.the_field_sync, of_quantitykind.the_field_sync, of_threshold.the_field_sync, of_pathstep.the_field_sync, of_ramp.the_field_sync, of_items.the_sync, of_boxed.the_sync)

pub FlatExpr-sync : IsSync FlatExpr.the_field.row
FlatExpr-sync = search (leaves, expressions.sync-FlatExpr) depth 20

pub WaveElement-sync : IsSync WaveElement.the_field.row
WaveElement-sync = search (leaves, FlatExpr-sync) depth 20

pub DelayMechanism-sync : IsSync DelayMechanism.the_field.row
DelayMechanism-sync = search (leaves, FlatExpr-sync) depth 20

pub BreakElement-sync : IsSync BreakElement.the_field.row
BreakElement-sync = search (leaves, FlatExpr-sync) depth 20

pub Statement-sync : IsSync Statement.the_field.row
Statement-sync = search (leaves, statements.sync-Statement, FlatExpr-sync, WaveElement-sync, DelayMechanism-sync, BreakElement-sync) depth 20

pub Signal-sync : IsSync Signal.the_field.row
Signal-sync = search leaves depth 20

pub Quantity-sync : IsSync Quantity.the_field.row
Quantity-sync = search leaves depth 20

pub Node-sync : IsSync Node.the_field.row
Node-sync = search leaves depth 20

pub Pair-sync : IsSync Pair.the_field.row
Pair-sync = search (leaves, FlatExpr-sync) depth 20

pub IfArm-sync : IsSync IfArm.the_field.row
IfArm-sync = search (leaves, FlatExpr-sync, Pair-sync) depth 20

pub CaseArm-sync : IsSync CaseArm.the_field.row
CaseArm-sync = search (leaves, Pair-sync) depth 20

pub Selection-sync : IsSync Selection.the_field.row
Selection-sync = search (leaves, FlatExpr-sync, Pair-sync, IfArm-sync, CaseArm-sync) depth 20

pub Choice-sync : IsSync Choice.the_field.row
Choice-sync = search (leaves, Selection-sync) depth 20

pub Equation-sync : IsSync Equation.the_field.row
Equation-sync = search (leaves, Pair-sync, Choice-sync) depth 20

pub Variable-sync : IsSync Variable.the_field.row
Variable-sync = search leaves depth 20

pub WaitPlace-sync : IsSync WaitPlace.the_field.row
WaitPlace-sync = search leaves depth 20

pub Process-sync : IsSync Process.the_field.row
Process-sync = search (leaves, Variable-sync, Statement-sync, WaitPlace-sync) depth 20

pub Instance-sync : IsSync Instance.the_field.row
Instance-sync = search leaves depth 20

pub Enumeration-sync : IsSync Enumeration.the_field.row
Enumeration-sync = search leaves depth 20

pub Objects-sync : IsSync Objects.the_field.row
Objects-sync = search (leaves, Signal-sync, Quantity-sync, Node-sync, Equation-sync, Process-sync, Instance-sync, Enumeration-sync) depth 20

pub Flat-sync : IsSync Flat.the_row
Flat-sync = search (leaves, Objects-sync) depth 20
