-- The numbers of the faults.
use Rattle.std.specs.Prelude.{ℕ}
use Rattle.message_codes.specs.Codes.{singular, solver_overflow}
use Rattle.lin_solve.specs.declared.LinFault.{LinFault}
use Rattle.lin_solve.specs.declared.LinFault.TheVariants.{Singular, Overflow}

abbrev pub code_of : LinFault → ℕ
code_of (Singular column) = singular
code_of Overflow = solver_overflow
