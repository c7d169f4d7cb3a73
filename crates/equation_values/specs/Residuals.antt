-- The residual of a row at what is read.
use Rattle.std.specs.Prelude.{ℤ, Result}
use Rattle.design_meaning.specs.declared.fault.EvalFault.{EvalFault}
use Rattle.design_meaning.specs.Readings.{Readings}
use Rattle.design_meaning.specs.Equations.{Row, residual_of}

abbrev pub residual_at : Readings → Row → Result ℤ EvalFault
residual_at r row = residual_of row r
