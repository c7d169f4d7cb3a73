-- Arms of a simultaneous case, and conditions of a simultaneous if.
use Rattle.std.specs.Prelude.{Bool, Result, Ok}
use Rattle.std.specs.List.{list_any}
use Rattle.ams_value.specs.declared.val.Val.{Val}
use Rattle.ams_value.specs.Values.{equals, is_true}
use Rattle.fix_core.specs.Passes.{◌>>=◌}
use Rattle.flat_expr.specs.declared.expr.FlatExpr.{FlatExpr}
use Rattle.flat_design.specs.declared.objects.CaseArm.{CaseArm}
use Rattle.design_meaning.specs.declared.fault.EvalFault.{EvalFault}
use Rattle.design_meaning.specs.Readings.{Readings}
use Rattle.design_meaning.specs.Value.{value_of}

-- the arm names the value
abbrev pub names : Val → CaseArm → Bool
names v arm = list_any (equals v) arm.choices

abbrev pub has_others : CaseArm → Bool
has_others arm = arm.others

-- whether a condition is TRUE
abbrev pub truth_of : FlatExpr → Readings → Result Bool EvalFault
truth_of e r = value_of e r >>= (λ v. Ok (is_true v))
