-- What a call that reads statements has answered, and the draft behind it.
use Rattle.std.specs.Prelude.{◌≡◌, Result, Ok, Err}
use Rattle.std.specs.declared.alloc.AllocError.{AllocError}
use Rattle.unit_meaning.specs.declared.draft.Draft.{Draft}

-- this, unless memory ran out
abbrev pub FindsIn : {A : Type 0} → Draft × A → Result A AllocError → Draft → Type 0
FindsIn found (Ok a) draft = (draft ≡ found.0) × (a ≡ found.1)
FindsIn found (Err e) draft = Unit {0}
