-- Any concurrent or simultaneous statement that is no instance, read twice.
use Rattle.std.specs.Prelude.{ℕ, Bool, IsTrue, List, Option}
use Rattle.ams_tree.specs.declared.concurrent.ConcurrentStatement.{ConcurrentStatement}
use Rattle.ams_tree.specs.declared.expression.Name.{Name}
use Rattle.name_scope.specs.declared.scope.Scope.{Scope}
use Rattle.unit_meaning.specs.Settings.{Setting}
use Rattle.unit_meaning.specs.Concurrent.{concurrent}
use Rattle.alike_books.specs.Books.{PartsFollow}
use Rattle.alike_parts.specs.Follows.{BothRead, ReadsFollow}

abbrev pub ConcurrentStatementsFollow : Type 0
ConcurrentStatementsFollow =
    (G : Bool) (natures : List ℕ) (v w : Setting) (c i : Scope) → BothRead (IsTrue G) natures v w c i → PartsFollow
    → (label : Option Name) (x : ConcurrentStatement) → ReadsFollow (IsTrue G) (λ n. (concurrent v c label x n).0) (λ n. (concurrent w i label x n).0)
