-- What concurrent and simultaneous statements make at an instance (IEEE 1076, 11; IEEE 1076.1, simultaneous statements).
use Rattle.std.specs.Prelude.{Bool, Option}
use Rattle.ams_tree.specs.declared.concurrent.ConcurrentStatement.{ConcurrentStatement}
use Rattle.ams_tree.specs.declared.expression.Expr.{Expr}
use Rattle.ams_tree.specs.declared.expression.Name.{Name}
use Rattle.flat_design.specs.declared.objects.Objects.{Objects}
use Rattle.name_scope.specs.declared.scope.Scope.{Scope}
use Rattle.name_scope.specs.declared.thing.Thing.{Thing}
use Rattle.elab_meaning.specs.declared.fault.Notes.{Notes}
use Rattle.unit_meaning.specs.declared.draft.Made.{Made}
use Rattle.unit_meaning.specs.declared.draft.Made.TheVariants as made
use Rattle.unit_meaning.specs.Settings.{Setting, choosing, typed}
use Rattle.unit_meaning.specs.Concurrent.{concurrent}
use Rattle.design_rules.specs.Types.{sizes_of, equation_scope}
use Rattle.design_rules.specs.Equations.{IsEquation}
use Rattle.design_rules.specs.Design.{IsProcess}
use Rattle.typed_laws.specs.Fitting.{HasRoom}
use Rattle.part_laws.specs.Parts.{OnKept}
use Rattle.scope_laws.specs.Holds.{HasNoFaults}
use Rattle.written_laws.specs.Written.{IsWritten}
use Rattle.choice_laws.specs.Choices.{AsksValues, CountsOf}
use Rattle.made_laws.specs.Made.{ArchitectureStands}

-- a process or an equation of a well-formed design
abbrev pub IsMade : Objects → Made → Type 0
IsMade objects (made.Process p) = IsProcess objects p
IsMade objects (made.Equation q) = IsEquation objects q
IsMade objects made.Nothing = Unit {0}

-- what simultaneous cases ask of a scope: values that are asked are known and of their types, and the enumeration type of an
-- expression has as many literals where it is read as in the design
pub record CasesStand (objects : Objects) (w : Setting) (scope : Scope) : Type 0 where
  pub values : AsksValues (equation_scope objects) w.texts scope
  pub counts : (x : Expr) (n : Notes) → OnKept (CountsOf w.enumerations (sizes_of objects)) (typed w scope choosing x n).1

-- it is so of each statement of a text, where no rule is broken and the design has room for what is noted
abbrev pub ConcurrentStatementsAreMade : Type 0
ConcurrentStatementsAreMade =
    (objects : Objects) (w : Setting) (Also : Thing → Bool) (scope : Scope) (label : Option Name) (x : ConcurrentStatement) (n : Notes)
    → ArchitectureStands objects w Also scope → CasesStand objects w scope → IsWritten x
    → HasNoFaults (concurrent w scope label x n).0 → HasRoom (equation_scope objects) (concurrent w scope label x n).0 → IsMade objects (concurrent w scope label x n).1
