-- Small designs with their solutions.
use Rattle.std.specs.Prelude.{◌≡◌, pos, [], ◌∷◌, Ok, Err, true, false}
use Rattle.ams_value.specs.declared.val.Val.TheVariants as val
use Rattle.flat_expr.specs.declared.expr.FlatExpr.{FlatExpr}
use Rattle.flat_expr.specs.declared.expr.FlatExpr.TheVariants as e
use Rattle.flat_expr.specs.declared.expr.Unknown.TheVariants as unknown
use Rattle.flat_design.specs.declared.objects.QuantityKind.TheVariants.{Free}
use Rattle.flat_design.specs.declared.objects.Quantity.{Quantity}
use Rattle.flat_design.specs.declared.objects.Equation.{Equation}
use Rattle.flat_design.specs.declared.objects.Equation.TheVariants as equation
use Rattle.flat_design.specs.declared.objects.Objects.{Objects}
use Rattle.flat_design.specs.Lists.{no_objects}
use Rattle.step_data.specs.declared.outcome.Options.{Options}
use Rattle.step_data.specs.declared.outcome.SetKind.TheVariants.{Quiescent}
use Rattle.step_data.specs.declared.breaks.Element.{Element}
use Rattle.design_meaning.specs.Steps.{trial, settle}

abbrev pub quantity : Quantity
quantity = record { path = []; kind = Free; initial = pos 0 }

abbrev pub equals : FlatExpr → FlatExpr → Equation
equals left right = equation.Pair (record { left = left; right = right })

-- steps of 5 ns, residuals of at most 0.000001 and errors of at most 0.001
abbrev pub options : Options
options = record { stop = 10000; ahead = 64; h0 = 5000; hmin = 5000; hmax = 5000; tol = 1000000; ltol = 1000000000; xres = 1 }

-- quantity q; q == 2.5;
abbrev pub literal : Objects
literal = record no_objects {
  quantities = quantity ∷ [];
  equations = equals (e.Unknown (unknown.Quantity 0)) (e.Literal (val.Real (pos 2500000000000))) ∷ [];
}

-- quantity q; q'dot == 1.0e6;
abbrev pub ramp : Objects
ramp = record no_objects {
  quantities = quantity ∷ [];
  dots = 0 ∷ [];
  equations = equals (e.Unknown (unknown.Dot 0)) (e.Literal (val.Real (pos 1000000000000000000))) ∷ [];
}

-- break q => 0.0;
abbrev pub at_zero : Element
at_zero = record { selector = 0; quantity = 0; value = pos 0 }

pub record WorkedSolutions : Type 0 where
  -- one quantity with a literal has its value at once
  pub literal_is_found : settle literal options [] 0 Quiescent [] (pos 0 ∷ []) ≡ Ok (pos 2500000000000 ∷ [])
  -- without a value for q the first column has no pivot
  pub ramp_is_singular : settle ramp options [] 0 Quiescent [] (pos 0 ∷ pos 0 ∷ []) ≡ Err (record { code = 60; column = 0 })
  -- a break gives it one
  pub ramp_begins : settle ramp options [] 0 Quiescent (at_zero ∷ []) (pos 0 ∷ pos 0 ∷ []) ≡ Ok (pos 0 ∷ pos 1000000000000000000 ∷ [])
  -- from there 5 ns later q is 0.005
  pub ramp_rises : trial ramp options [] (record { t = 0; x = pos 0 ∷ pos 1000000000000000000 ∷ []; h = 5000; fresh = true }) 5000
      ≡ Ok (record { x = pos 5000000000 ∷ pos 1000000000000000000 ∷ []; err = 0 })
  -- and by the trapezoidal rule, from a tip that is not fresh, another 5 ns later it is 0.01
  pub ramp_goes_on : trial ramp options [] (record { t = 5000; x = pos 5000000000 ∷ pos 1000000000000000000 ∷ []; h = 5000; fresh = false }) 5000
      ≡ Ok (record { x = pos 10000000000 ∷ pos 1000000000000000000 ∷ []; err = 0 })
