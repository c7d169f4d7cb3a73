-- What calls of the walk answer.
use Rattle.std.specs.Prelude.{◌≡◌, ℕ, List, Result, Ok, Err}
use Rattle.flat_design.specs.declared.objects.Enumeration.{Enumeration}
use Rattle.name_scope.specs.declared.scope.Scope.{Scope}
use Rattle.unit_meaning.specs.Settings.{Setting}
use Rattle.unit_meaning.specs.declared.site.Refusal.{Refusal}
use Rattle.unit_meaning.specs.declared.site.Site.{Site}
use Rattle.unit_meaning.specs.Walk.{Around}
use Rattle.walk_answers.specs.declared.body.Body.{Body}
use Rattle.walk_answers.specs.declared.stop.Stop.{Stop}
use Rattle.walk_answers.specs.declared.stop.Stop.TheVariants.{Refused, OutOfMemory}

-- the flat design behind what is entered, or why there is none; unless memory ran out
abbrev pub Walks : {A : Type 0} → Result Site Refusal → Result A Stop → Site → Type 0
Walks found (Ok a) now = found ≡ Ok now
Walks found (Err (Refused r)) now = found ≡ Err r
Walks found (Err OutOfMemory) now = Unit {0}

abbrev pub body_with : Scope → List Enumeration → List ℕ → ℕ → Body
body_with scope enumerations selectors number = record { scope = scope; enumerations = enumerations; selectors = selectors; number = number }

abbrev pub setting_with : List (List ℕ) → List Enumeration → List ℕ → Setting
setting_with texts enumerations selectors = record { texts = texts; enumerations = enumerations; selectors = selectors }

-- the instance at a path that a body is
abbrev pub around_of : List (List ℕ) → List ℕ → Body → Around
around_of texts path b = record { setting = setting_with texts b.enumerations b.selectors; scope = b.scope; path = path; number = b.number }

-- an instance and the flat design with it, or why there is none; unless memory ran out
abbrev pub Opens : List (List ℕ) → List ℕ → Result (Around × Site) Refusal → Result Body Stop → Site → Type 0
Opens texts path found (Ok body) now = found ≡ Ok (around_of texts path body, now)
Opens texts path found (Err (Refused r)) now = found ≡ Err r
Opens texts path found (Err OutOfMemory) now = Unit {0}
