-- What calls that read parts of declarations answer.
use Rattle.std.specs.Prelude.{◌≡◌, Result, Ok, Err}
use Rattle.std.specs.declared.alloc.AllocError.{AllocError}
use Rattle.elab_meaning.specs.declared.book.Book.{Book}
use Rattle.elab_meaning.specs.declared.fault.Notes.{Notes}
use Rattle.elab_meaning.specs.Declarations.{with_notes}

-- what a call has answered, and the book behind it, of which it changes the notes alone: this, unless memory ran out
abbrev pub FindsIn : {A : Type 0} → Notes × A → Result A AllocError → Book → Book → Type 0
FindsIn found (Ok a) old new = (new ≡ with_notes found.0 old) × (a ≡ found.1)
FindsIn found (Err e) old new = Unit {0}
