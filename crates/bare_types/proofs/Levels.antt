-- A threshold behind its level.
use Rattle.std.proofs.Common.{◌≡◌, ℕ, List, Option, Result, subst}
use Rattle.std.specs.declared.alloc.AllocError.{AllocError}
use Rattle.ams_tree.specs.declared.expression.Expr.{Expr}
use Rattle.flat_expr.specs.declared.expr.SignalName.{SignalName}
use Rattle.name_scope.specs.declared.scope.Scope.{Scope}
use Rattle.name_scope.specs.declared.thing.Thing.{Thing}
use Rattle.elab_meaning.specs.declared.fault.Notes.{Notes}
use Rattle.elab_meaning.specs.declared.part.Part.{Part}
use Rattle.elab_meaning.specs.declared.typed.Asked.{Asked}
use Rattle.elab_meaning.specs.Expressions.{static}
use Rattle.elab_meaning.specs.Parts.{both, part_of}
use Rattle.unit_meaning.specs.Bare.{level_at, threshold_at}
use Rattle.unit_meaning.specs.Settings.{running}
use Rattle.expr_types.specs.Known.{Finds}

pub behind : (texts all : List (List ℕ)) (scope : Scope) (x : Expr) (n k m : Notes) (found : Part Thing) (value : Option Asked) (r : Result (Part SignalName) AllocError)
    → all ≡ texts → k ≡ (static all scope x running n).0 → value ≡ (static all scope x running n).1
    → Finds (threshold_at (both level_at found (part_of value)) k) r m
    → Finds (threshold_at (both level_at found (part_of (static texts scope x running n).1)) (static texts scope x running n).0) r m
behind texts all scope x n k m found value r t e f h =
    subst (λ ts. Finds (threshold_at (both level_at found (part_of (static ts scope x running n).1)) (static ts scope x running n).0) r m) t
    (subst (λ v. Finds (threshold_at (both level_at found (part_of v)) (static all scope x running n).0) r m) f
    (subst (λ j. Finds (threshold_at (both level_at found (part_of value)) j) r m) e h))
