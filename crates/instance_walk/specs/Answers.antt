-- What a call that makes something of a design answers.
use Rattle.std.specs.Prelude.{◌≡◌, Result, Ok, Err}
use Rattle.unit_meaning.specs.declared.site.Refusal.{Refusal}
use Rattle.walk_answers.specs.declared.stop.Stop.{Stop}
use Rattle.walk_answers.specs.declared.stop.Stop.TheVariants.{Refused, OutOfMemory}

-- this, or why there is none; unless memory ran out
abbrev pub Answers : {A : Type 0} → Result A Refusal → Result A Stop → Type 0
Answers found (Ok a) = found ≡ Ok a
Answers found (Err (Refused r)) = found ≡ Err r
Answers found (Err OutOfMemory) = Unit {0}
