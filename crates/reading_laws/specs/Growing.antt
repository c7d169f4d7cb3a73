-- Reading only adds to the notes.
use Rattle.std.specs.Prelude.{◌≡◌, ℕ, List, ◌++◌}
use Rattle.ams_tree.specs.declared.expression.Expr.{Expr}
use Rattle.flat_design.specs.declared.objects.Threshold.{Threshold}
use Rattle.name_scope.specs.declared.scope.Scope.{Scope}
use Rattle.elab_meaning.specs.declared.fault.Fault.{Fault}
use Rattle.elab_meaning.specs.declared.fault.Notes.{Notes}
use Rattle.elab_meaning.specs.declared.typed.Context.{Context}
use Rattle.elab_meaning.specs.Expressions.{expression}

-- a list with more members behind those of another
pub record Extends (A : Type 0) (old new : List A) : Type 0 where
  pub more : List A
  pub whole : new ≡ old ++ more

-- notes with more of each kind behind the others
pub record Grows (old new : Notes) : Type 0 where
  pub faults : Extends Fault old.faults new.faults
  pub dots : Extends ℕ old.dots new.dots
  pub thresholds : Extends Threshold old.thresholds new.thresholds

-- the notes behind an expression are those before it, and more
abbrev pub ReadingAddsNotes : Type 0
ReadingAddsNotes = (texts : List (List ℕ)) (scope : Scope) (x : Expr) (c : Context) (n : Notes) → Grows n (expression texts scope x c n).0
