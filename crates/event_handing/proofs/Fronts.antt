-- Events that were put behind others.
use Rattle.std.proofs.Common.{◌≡◌, ℕ, List, ◌++◌, take, drop, Result, Ok, Err}
use Rattle.std.specs.Prelude.{OnErr}
use Rattle.std.proofs.lemmas.List.{take-append-drop}
use Rattle.step_data.specs.declared.event.Event.{Event}
use Rattle.step_model.specs.Kernel.{AddsFront}

-- the first so many are a front
pub front_taken : (old new added : List Event) (k : ℕ) → new ≡ old ++ take k added → AddsFront old new added
front_taken old new added k e = record { front = take k added; is_front = (drop k added, take-append-drop k added); new_is = e }

pub on_err : {A E : Type 0} (r : Result A E) (P : Type 0) → P → OnErr r P
on_err (Ok a) P p = tt
on_err (Err e) P p = p
