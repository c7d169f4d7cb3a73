-- What a process makes of the parts of a statement.
use Rattle.std.specs.Prelude.{◌≡◌, ℕ, Bool, not, ◌&&◌, ℤ, List, ◌∷◌, Option, Some, Result, Ok}
use Rattle.std.specs.List.{slice_set}
use Rattle.std.specs.Option.{ForSome}
use Rattle.message_codes.specs.Codes.{range}
use Rattle.fix_core.specs.Passes.{◌>>=◌}
use Rattle.ams_value.specs.declared.val.Val.{Val}
use Rattle.ams_value.specs.Values.{ticks_of}
use Rattle.flat_expr.specs.declared.expr.FlatExpr.{FlatExpr}
use Rattle.flat_expr.specs.declared.subtype.Constraint.{Constraint}
use Rattle.flat_expr.specs.Subtype.{lies_in}
use Rattle.flat_expr.specs.declared.statement.WaveElement.{WaveElement}
use Rattle.step_data.specs.declared.outcome.Refusal.{Refusal}
use Rattle.design_meaning.specs.Readings.{Readings}
use Rattle.expr_eval.specs.Condition.{CanEvaluate}
use Rattle.cycle_meaning.specs.World.{Context, Local, refusal, refused_where, evaluated, time_after}
use Rattle.cycle_meaning.specs.Statements.{delay_of, bad_delay, transactions, variable_assignment}
use Rattle.statement_values.specs.declared.element.Subtypes.{Subtypes}
use Rattle.statement_values.specs.declared.element.Timed.{Timed}

-- a value that lies in a subtype
abbrev pub assigned_value : Context → Local → Constraint → FlatExpr → Result Val Refusal
assigned_value here l constraint e = do
  v ← evaluated here l e
  refused_where (not (lies_in constraint v)) (refusal here range) v

-- the transaction of a value and a delay that are tested: the subtype, the delay, the time
abbrev pub tested_parts : Context → (Val → Bool) → Option ℤ → Option ℤ → Val → Val → Result Timed Refusal
tested_parts here fits limit before v d = do
  tested ← refused_where (not (fits v)) (refusal here range) v
  delay ← refused_where (bad_delay limit before (ticks_of d)) (refusal here range) (ticks_of d)
  at ← time_after here d
  Ok (record { transaction = record { at = at; value = tested }; delay = delay })

-- the transaction of a waveform element, and its delay
abbrev pub transaction : Context → Local → (Val → Bool) → Option ℤ → Option ℤ → WaveElement → Result Timed Refusal
transaction here l fits limit before e = do
  v ← evaluated here l e.value
  d ← delay_of here l e.delay
  tested_parts here fits limit before v d

-- the values of both subtypes
abbrev pub fits_both : Subtypes → Val → Bool
fits_both subtypes v = lies_in subtypes.written v && lies_in subtypes.declared v

-- both expressions of the element can be evaluated
pub record CanEvaluateElement (r : Readings) (e : WaveElement) : Type 0 where
  pub value : CanEvaluate r e.value
  pub delay : ForSome e.delay (CanEvaluate r)

-- assignments are made of these parts
pub record PartsMakeAssignments : Type 0 where
  pub variable : (here : Context) (l : Local) (i : ℕ) (constraint : Constraint) (e : FlatExpr) →
      variable_assignment here l i constraint e ≡ (assigned_value here l constraint e >>= (λ v. Ok (record l { variables = slice_set l.variables i v })))
  pub waveform : (here : Context) (l : Local) (fits : Val → Bool) (limit before : Option ℤ) (e : WaveElement) (more : List WaveElement) →
      transactions here l fits limit before (e ∷ more)
      ≡ (transaction here l fits limit before e >>= (λ made. transactions here l fits limit (Some made.delay) more >>= (λ later. Ok (made.transaction ∷ later))))
