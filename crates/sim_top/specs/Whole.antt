-- What a call leaves where nothing fails.
use Rattle.std.specs.Prelude.{◌≡◌, ℕ, ◌≤◌, List, length, Some, None, Result, ◌⊎◌}
use Rattle.port_base.specs.Lines.{text_of_lines}
use Rattle.flat_design.specs.declared.objects.Objects.{Objects}
use Rattle.word_rules.specs.declared.mode.Mode.TheVariants as mode
use Rattle.word_rules.specs.Words.{Text, refusal, request_of}
use Rattle.design_reading.specs.Reading.{Gives}
use Rattle.program_output.specs.Port.{Port, Fails, Gains}
use Rattle.program_output.specs.Output.{Output}
use Rattle.program_output.specs.declared.status.Status.{Status}
use Rattle.program_output.specs.declared.status.Status.TheVariants as status
use Rattle.text_modes.specs.Start.{most_bytes}
use Rattle.text_modes.specs.TextRun.{text_output}
use Rattle.sim_top.specs.Outcome.{options_of, Ends}

-- a call in mode lockstep on a text that isn't too long, neither source nor sinks of which fail
pub record IsSound (words : List Text) (text : Text) (source trace notes : Port) : Type 0 where
  pub accepted : refusal words ≡ None
  pub lockstep : (request_of words).mode ≡ mode.Lockstep
  pub told : source.before ≡ Some text
  pub short : length text ≤ most_bytes
  pub reads : ¬ Fails source
  pub writes : ¬ Fails trace
  pub tells : ¬ Fails notes

-- all of an output is handed on
abbrev pub HandsOnAll : Output → Status → Port → Port → Type 0
HandsOnAll output s trace notes = (s ≡ output.status) × Gains trace (text_of_lines output.lines) × Gains notes output.note

-- what the text gives is handed on, unless memory runs out
abbrev pub OutputsAreWhole : Type 0
OutputsAreWhole =
    (s : Status) (words : List Text) (text : Text) (design : Result Objects (List ℕ)) (source trace notes : Port) → Ends s words source trace notes
    → IsSound words text source trace notes → Gives text (request_of words).top design
    → HandsOnAll (text_output (request_of words).top (options_of (request_of words)) design) s trace notes ⊎ (s ≡ status.Memory)
