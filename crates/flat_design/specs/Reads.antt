-- The frame: the signals that the equations read.
use Rattle.std.specs.Prelude.{Bool, ◌||◌, List, ◌++◌, length, filter, map}
use Rattle.std.specs.List.{list_any, range_with_len}
use Rattle.flat_expr.specs.declared.expr.SignalName.{SignalName}
use Rattle.flat_expr.specs.declared.expr.SignalName.TheVariants.{Signal, Threshold}
use Rattle.flat_expr.specs.Expr.{reads_in}
use Rattle.flat_design.specs.declared.objects.Pair.{Pair}
use Rattle.flat_design.specs.declared.objects.IfArm.{IfArm}
use Rattle.flat_design.specs.declared.objects.CaseArm.{CaseArm}
use Rattle.flat_design.specs.declared.objects.Selection.{Selection}
use Rattle.flat_design.specs.declared.objects.Selection.TheVariants as selection
use Rattle.flat_design.specs.declared.objects.Equation.{Equation}
use Rattle.flat_design.specs.declared.objects.Equation.TheVariants as equation
use Rattle.flat_design.specs.declared.objects.Objects.{Objects}

abbrev pub pair_reads : SignalName → Pair → Bool
pair_reads s p = reads_in s p.left || reads_in s p.right

abbrev pub if_arm_reads : SignalName → IfArm → Bool
if_arm_reads s arm = reads_in s arm.condition || list_any (pair_reads s) arm.pairs

abbrev pub case_arm_reads : SignalName → CaseArm → Bool
case_arm_reads s arm = list_any (pair_reads s) arm.pairs

abbrev pub selection_reads : SignalName → Selection → Bool
selection_reads s (selection.If arms last) = list_any (if_arm_reads s) arms || list_any (pair_reads s) last
selection_reads s (selection.Case expression arms) = reads_in s expression || list_any (case_arm_reads s) arms

-- the explicit equation reads the signal, in a pair or in a condition
abbrev pub equation_reads : SignalName → Equation → Bool
equation_reads s (equation.Pair p) = pair_reads s p
equation_reads s (equation.Choice c) = selection_reads s c.selection

abbrev pub is_read : Objects → SignalName → Bool
is_read objects s = list_any (equation_reads s) objects.equations

-- the signals that equations read, in signal order, and after them the thresholds that they read, by number
abbrev pub frame_of : Objects → List SignalName
frame_of objects =
    filter (is_read objects) (map Signal (range_with_len 0 (length objects.signals)))
    ++ filter (is_read objects) (map Threshold (range_with_len 0 (length objects.thresholds)))
