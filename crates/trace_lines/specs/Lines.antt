-- The lines of a trace, one by one.
use Rattle.std.specs.Prelude.{◌≡◌, ℕ, ◌+◌, List, [], ◌∷◌, ◌++◌, map, codes}
use Rattle.flat_design.specs.declared.objects.Enumeration.{Enumeration}
use Rattle.flat_design.specs.declared.objects.Objects.{Objects}
use Rattle.flat_design.specs.Order.{unknowns}
use Rattle.step_data.specs.declared.event.Event.{Event}
use Rattle.step_data.specs.declared.outcome.End.{End}
use Rattle.step_data.specs.declared.outcome.Options.{Options}
use Rattle.port_base.specs.Lines.{text_of_lines}
use Rattle.trace_text.specs.Trace.{line_of, option_fields, unknown_line, signal_line, threshold_line, event_line, end_line, trace_text}

-- a line for each, numbered from there
abbrev pub numbered_lines : {A : Type 0} → (ℕ → A → List ℕ) → ℕ → List A → List (List ℕ)
numbered_lines line i [] = []
numbered_lines line i (x ∷ more) = line i x ∷ numbered_lines line (i + 1) more

-- the version, the top and the options
unfoldable pub options_line : List ℕ → Options → List ℕ
options_line top options = line_of (codes "A") (codes "2" ∷ top ∷ option_fields options)

-- the signals and the thresholds by number
abbrev pub name_lines : Objects → List (List ℕ)
name_lines objects =
    numbered_lines signal_line 0 objects.signals ++ numbered_lines threshold_line 0 objects.thresholds

-- the lines of the header
abbrev pub header_lines : Objects → List ℕ → Options → List (List ℕ)
header_lines objects top options =
    options_line top options ∷ numbered_lines (unknown_line objects) 0 (unknowns objects) ++ name_lines objects

-- a line for each event
abbrev pub event_lines : List Enumeration → List Event → List (List ℕ)
event_lines enums events = map (event_line enums) events

-- the lines behind the header
abbrev pub work_lines : List Enumeration → List Event → End → List (List ℕ)
work_lines enums events last = event_lines enums events ++ end_line last ∷ []

-- all lines
abbrev pub trace_lines : Objects → List ℕ → Options → List Event → End → List (List ℕ)
trace_lines objects top options events last =
    header_lines objects top options ++ work_lines objects.enumerations events last

-- the lines one behind the other are the text of the trace
abbrev pub LinesAreTheTrace : Type 0
LinesAreTheTrace =
    (objects : Objects) (top : List ℕ) (options : Options) (events : List Event) (last : End) →
    text_of_lines (trace_lines objects top options events last) ≡ trace_text objects top options events last
