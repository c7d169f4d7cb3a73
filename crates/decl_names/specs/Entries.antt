-- What names are declared as.
use Rattle.std.specs.Prelude.{ℕ, List, IfSome}
use Rattle.ams_tree.specs.declared.expression.Name.{Name}
use Rattle.name_scope.specs.declared.thing.Thing.TheVariants as thing
use Rattle.elab_meaning.specs.declared.book.Book.{Book}
use Rattle.elab_meaning.specs.Declarations.{declared, signal_of, node, quantity_of, type_of_subtype}
use Rattle.expr_types.specs.Known.{IsKind}
use Rattle.decl_names.specs.declared.entry.Entry.{Entry}
use Rattle.decl_names.specs.declared.entry.Entry.TheVariants as entry

-- a name that is declared as this
abbrev pub declared_as : List (List ℕ) → Entry → Name → Book → Book
declared_as texts (entry.Signal access v) x b = signal_of texts access v x b
declared_as texts (entry.Constant s v) x b = declared (thing.Constant s v) x b
declared_as texts (entry.Node m) x b = node texts m x b
declared_as texts (entry.Quantity k c initial) x b = quantity_of texts k c initial x b
declared_as texts (entry.Type s) x b = type_of_subtype s x b

-- a constant's value is one of its type's
abbrev pub IsSoundEntry : Entry → Type 0
IsSoundEntry (entry.Constant s v) = IfSome v (IsKind s.kind)
IsSoundEntry _ = Unit {0}
