-- Parts of which only the kind counts.
use Rattle.std.specs.Prelude.{Bool, true, false, if◌then◌else◌, List, [], ◌∷◌, Option, Some, None}
use Rattle.elab_meaning.specs.declared.part.Part.{Part}
use Rattle.elab_meaning.specs.declared.part.Part.TheVariants.{Kept, Wrong, Hidden}

-- a list of what is written, or of nothing
abbrev pub option_list : {A : Type 0} → Option A → List A
option_list None = []
option_list (Some x) = x ∷ []

-- something in the part breaks a rule
abbrev pub is_hidden : {A : Type 0} → Part A → Bool
is_hidden Hidden = true
is_hidden _ = false

-- what is wrong where it stands, unless something in it breaks a rule
abbrev pub wrong_unless : {A : Type 0} → Bool → Part A
wrong_unless is_broken = if is_broken then Hidden else Wrong
