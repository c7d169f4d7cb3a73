-- The numbers of the faults.
use Rattle.std.specs.Prelude.{ℕ}
use Rattle.message_codes.specs.Codes.{overflow, divide_by_zero, domain_fault}
use Rattle.fix_core.specs.declared.NumFault.{NumFault}
use Rattle.fix_core.specs.declared.NumFault.TheVariants.{Overflow, DivideByZero, Domain}

abbrev pub code_of : NumFault → ℕ
code_of Overflow = overflow
code_of DivideByZero = divide_by_zero
code_of Domain = domain_fault
