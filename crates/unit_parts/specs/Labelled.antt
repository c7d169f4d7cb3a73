-- The label of one statement.
use Rattle.std.specs.Prelude.{Option, Some, None}
use Rattle.ams_tree.specs.declared.expression.Name.{Name}
use Rattle.name_scope.specs.declared.thing.Thing.TheVariants as thing
use Rattle.elab_meaning.specs.declared.book.Book.{Book}
use Rattle.elab_meaning.specs.Declarations.{declared}

abbrev pub labelled : Book → Option Name → Book
labelled b o = elim o as (λ o. Book) [ Some x ↦ declared thing.Label x b | None ↦ b ]
