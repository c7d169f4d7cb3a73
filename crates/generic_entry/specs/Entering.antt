-- What calls that enter the interface of an instance answer, and one declaration of generics.
use Rattle.std.specs.Prelude.{◌≡◌, ℕ, Bool, true, if◌then◌else◌, List, Option, Some, None, Result, Ok, Err}
use Rattle.std.specs.declared.alloc.AllocError.{AllocError}
use Rattle.ams_tree.specs.declared.declaration.Generic.{Generic}
use Rattle.elab_meaning.specs.declared.book.Book.{Book}
use Rattle.elab_meaning.specs.declared.fault.Notes.{Notes}
use Rattle.elab_meaning.specs.declared.part.Part.{Part}
use Rattle.elab_meaning.specs.declared.typed.Valued.{Valued}
use Rattle.elab_meaning.specs.Declarations.{with_notes}
use Rattle.elab_meaning.specs.Parts.{kept, closed}
use Rattle.elab_meaning.specs.Subtypes.{holds_known}
use Rattle.unit_meaning.specs.declared.request.Actual.{Actual}
use Rattle.unit_meaning.specs.declared.request.Actual.TheVariants as actual
use Rattle.unit_meaning.specs.declared.request.Assigned.{Assigned}
use Rattle.unit_meaning.specs.Interfaces.{first_place, generic_default}
use Rattle.unit_meaning.specs.Walk.{generic_names, is_there}

-- whether the associations fit, and what is read then: this, unless memory ran out
abbrev pub Enters : {A : Type 0} → Option A → Result Bool AllocError → A → Type 0
Enters found (Ok fits) now = found ≡ (if fits then Some now else None)
Enters found (Err e) now = Unit {0}

-- an actual's value belongs to the generic's subtype, as far as both are known
abbrev pub is_in_range : Option Valued → Actual → Bool
is_in_range (Some d) (actual.Value k v) = holds_known d.subtype.constraint v
is_in_range _ _ = true

-- one declaration of generics
abbrev pub generic_judged : List (ℕ × Assigned) → ℕ → Generic → Notes × Part Valued → Book → Option Book
generic_judged given i g d b = generic_names given (kept d.1) (is_there g.default) i g.names (with_notes (closed (first_place g.constant g.names) d.1 d.0) b)

abbrev pub generic_entered_from : List (List ℕ) → List (ℕ × Assigned) → ℕ → Generic → Book → Option Book
generic_entered_from texts given i g b = generic_judged given i g (generic_default texts b.scope g.indication g.default b.notes) b
