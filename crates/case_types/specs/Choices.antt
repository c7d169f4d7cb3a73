-- Whether choices keep the rules.
use Rattle.std.specs.Prelude.{Bool, true}
use Rattle.elab_meaning.specs.declared.part.Part.{Part}
use Rattle.elab_meaning.specs.declared.part.Part.TheVariants.{Kept}

abbrev pub fine : {A : Type 0} → A → Part Bool
fine a = Kept true
