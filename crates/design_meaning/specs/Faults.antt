-- The faults of an evaluation.
use Rattle.std.specs.Prelude.{ℕ, Result, Ok, Err}
use Rattle.message_codes.specs.Codes.{domain_fault, range, value_overflow, value_divide_by_zero}
use Rattle.fix_core.specs.declared.NumFault.{NumFault}
use Rattle.fix_core.specs.declared.NumFault.TheVariants as number
use Rattle.ams_value.specs.declared.fault.ValFault.{ValFault}
use Rattle.ams_value.specs.declared.fault.ValFault.TheVariants as operator
use Rattle.design_meaning.specs.declared.fault.EvalFault.{EvalFault}
use Rattle.design_meaning.specs.declared.fault.EvalFault.TheVariants as fault

abbrev pub code_of : EvalFault → ℕ
code_of fault.Domain = domain_fault
code_of fault.Range = range
code_of fault.Overflow = value_overflow
code_of fault.DivideByZero = value_divide_by_zero

-- the fault of a number in an expression
abbrev pub of_number : NumFault → EvalFault
of_number number.Overflow = fault.Overflow
of_number number.DivideByZero = fault.DivideByZero
of_number number.Domain = fault.Domain

abbrev pub of_operator : ValFault → EvalFault
of_operator operator.Range = fault.Range
of_operator operator.Overflow = fault.Overflow
of_operator operator.DivideByZero = fault.DivideByZero

-- a number, or its fault in an expression
abbrev pub numeric : {A : Type 0} → Result A NumFault → Result A EvalFault
numeric (Ok a) = Ok a
numeric (Err e) = Err (of_number e)

abbrev pub operated : {A : Type 0} → Result A ValFault → Result A EvalFault
operated (Ok a) = Ok a
operated (Err e) = Err (of_operator e)
