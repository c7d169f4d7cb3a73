-- Lists of parts that are put together from the left.
use Rattle.std.specs.Prelude.{List, [], ◌∷◌, ◌++◌}
use Rattle.elab_meaning.specs.declared.part.Part.{Part}
use Rattle.elab_meaning.specs.declared.part.Part.TheVariants.{Kept}

-- one part more
abbrev pub behind : {A : Type 0} → List A → A → Part (List A)
behind all x = Kept (all ++ x ∷ [])

-- those so far, and those that are left
abbrev pub joined : {A : Type 0} → List A → List A → Part (List A)
joined all more = Kept (all ++ more)
