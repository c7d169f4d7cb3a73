-- How a call on a text starts: with the text's flat design, or with the note of its first refusal.
use Rattle.std.specs.Prelude.{◌≡◌, ℕ, List, Result, Ok, Err, ◌⊎◌}
use Rattle.flat_design.specs.declared.objects.Objects.{Objects}
use Rattle.design_rules.specs.Design.{IsDesign}
use Rattle.design_reading.specs.Reading.{Gives}
use Rattle.program_output.specs.Port.{Port, Stays}
use Rattle.program_output.specs.Output.{Tells}
use Rattle.program_output.specs.declared.status.Status.{Status}
use Rattle.program_output.specs.declared.status.Status.TheVariants as status

-- a text has at most so many bytes
abbrev pub most_bytes : ℕ
most_bytes = 1048576

-- the text is refused, and a call that ends with this status has told its note
abbrev pub Refuses : Status → List ℕ → List ℕ → Port → Type 0
Refuses s text top notes = (note : List ℕ) × Gives text top (Err note) × Tells note status.DesignRefused s notes

-- the well-formed flat design of the text, and no note; or the text is refused; or memory ran out before a note
abbrev pub Starts : Result Objects Status → List ℕ → List ℕ → Port → Type 0
Starts (Ok objects) text top notes = Gives text top (Ok objects) × IsDesign objects × Stays notes
Starts (Err s) text top notes = Refuses s text top notes ⊎ (s ≡ status.Memory) × Stays notes
