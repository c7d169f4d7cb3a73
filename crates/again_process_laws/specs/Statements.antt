-- What the statements of an architecture break doesn't depend on what is noted before them.
use Rattle.std.specs.Prelude.{List, Option}
use Rattle.ams_tree.specs.declared.concurrent.ConcurrentStatement.{ConcurrentStatement}
use Rattle.ams_tree.specs.declared.design.DesignUnit.{DesignUnit}
use Rattle.ams_tree.specs.declared.expression.Name.{Name}
use Rattle.name_scope.specs.declared.scope.Scope.{Scope}
use Rattle.elab_meaning.specs.declared.fault.Notes.{Notes}
use Rattle.unit_meaning.specs.Settings.{Setting}
use Rattle.unit_meaning.specs.Units.{statement_notes}
use Rattle.again_laws.specs.Again.{BreaksAlike}

-- two readings of any statement, an instance or another, add the same faults
abbrev pub StatementsBreakAlike : Type 0
StatementsBreakAlike =
    (w : Setting) (start : Scope) (units : List DesignUnit) (scope : Scope) (label : Option Name) (x : ConcurrentStatement) (n m : Notes)
    → BreaksAlike n m (statement_notes w start units scope label x n) (statement_notes w start units scope label x m)
