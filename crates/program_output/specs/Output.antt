-- The output of the program, and what a call has made of it.
use Rattle.std.specs.Prelude.{◌≡◌, ℕ, List, [], ◌⊎◌}
use Rattle.port_base.specs.Lines.{text_of_lines, GainsLines}
use Rattle.program_output.specs.Port.{Port, Stays, Gains, FailsIn}
use Rattle.program_output.specs.declared.status.Status.{Status}
use Rattle.program_output.specs.declared.status.Status.TheVariants as status

abbrev pub code_of : Status → ℕ
code_of status.Reached = 0
code_of status.DesignRefused = 1
code_of status.WordsRefused = 2
code_of status.RunRefused = 3
code_of status.ReadFault = 4
code_of status.WriteFault = 5
code_of status.Memory = 6
code_of status.TooLong = 7

-- the status, the lines of the trace, and the note
pub record Output : Type 0 where
  pub status : Status
  pub lines : List (List ℕ)
  pub note : List ℕ

-- of what is refused before a run: no trace
abbrev pub noted : Status → List ℕ → Output
noted own note = record { status = own; lines = []; note = note }

-- A call that ends with this status has handed on an output: all of it, with its own status; or up to where a sink failed; or,
-- where memory ran out, whole first lines of the trace.
abbrev pub HandsOn : Output → Status → Port → Port → Type 0
HandsOn output s trace notes =
    (s ≡ output.status) × Gains trace (text_of_lines output.lines) × Gains notes output.note
    ⊎ (s ≡ status.WriteFault) × FailsIn trace (text_of_lines output.lines) × Stays notes
    ⊎ (s ≡ status.WriteFault) × Gains trace (text_of_lines output.lines) × FailsIn notes output.note
    ⊎ (s ≡ status.Memory) × GainsLines trace.before trace.now output.lines × Stays notes

-- memory ran out before there was an output
abbrev pub HandsOnNothing : Status → Port → Port → Type 0
HandsOnNothing s trace notes = (s ≡ status.Memory) × Stays trace × Stays notes

-- a call that has only a note to write, which goes with its own status
abbrev pub Tells : List ℕ → Status → Status → Port → Type 0
Tells note own s notes = (s ≡ own) × Gains notes note ⊎ (s ≡ status.WriteFault) × FailsIn notes note
