-- The output of the program, and how a call of it ends.
use Rattle.std.specs.Prelude.{◌≡◌, ℕ, ◌<◌, ◌≤◌, ◌==◌, List, ◌++◌, length, map, codes, decimal, Option, Some, None, IfSome, if◌then◌else◌, ◌⊎◌}
use Rattle.step_data.specs.declared.outcome.Options.{Options}
use Rattle.step_schedule.specs.declared.Step.{Step}
use Rattle.step_schedule.specs.declared.Step.TheVariants as steps
use Rattle.word_rules.specs.declared.mode.Mode.{Mode}
use Rattle.word_rules.specs.declared.mode.Mode.TheVariants as mode
use Rattle.word_rules.specs.Words.{Text, Request, refusal, request_of}
use Rattle.program_output.specs.Port.{Port, Stays, Fails, ReadsAll}
use Rattle.program_output.specs.Output.{Output, HandsOn, HandsOnNothing, Tells, noted}
use Rattle.program_output.specs.declared.status.Status.{Status}
use Rattle.program_output.specs.declared.status.Status.TheVariants as status
use Rattle.text_modes.specs.Start.{most_bytes}
use Rattle.text_modes.specs.TextRun.{RunsText}
use Rattle.text_modes.specs.TextReplay.{ReplaysText}
use Rattle.text_threads.specs.TextThreads.{RunsTextOnThreads}
use Rattle.ladder.specs.Ladder.{ladder_text}
use Rattle.text_modes.specs.Making.{MakesText}

-- the options of a run, of what is asked for
abbrev pub options_of : Request → Options
options_of request = record {
  stop = request.stop;
  ahead = request.ahead;
  h0 = request.h0;
  hmin = request.hmin;
  hmax = request.hmax;
  tol = request.tol;
  ltol = request.ltol;
  xres = request.xres;
}

-- ---- refusals before a design

-- `usage N`
abbrev pub usage_note : ℕ → Text
usage_note number = codes "usage " ++ decimal number ++ codes "\n"

abbrev pub usage : ℕ → Output
usage number = noted status.WordsRefused (usage_note number)

abbrev pub too_long_note : Text
too_long_note = codes "error 7\n"

abbrev pub too_long : Output
too_long = noted status.TooLong too_long_note

-- more bytes are left in the source than a text may have, where it tells them
abbrev pub HasTooMany : Port → Type 0
HasTooMany source = IfSome source.before (λ bytes. most_bytes < length bytes)

-- a note is told, unless memory runs out before
abbrev pub TellsOrLacks : List ℕ → Status → Status → Port → Type 0
TellsOrLacks note own s notes = Tells note own s notes ⊎ (s ≡ status.Memory) × Stays notes

-- ---- the modes

-- A call that ends with this status and hands on what its text gives in such a way
abbrev pub Reads : (Text → Type 0) → Status → Port → Port → Port → Type 0
Reads Handed s source trace notes =
    -- couldn't read the source,
    (s ≡ status.ReadFault) × Fails source × Stays trace × Stays notes
    -- or refused it for its length,
    ⊎ HasTooMany source × HandsOn too_long s trace notes
    -- or read all of it and handed on what this text gives,
    ⊎ ((text : Text) × ReadsAll source text × (length text ≤ most_bytes) × Handed text)
    -- or had no memory for it
    ⊎ HandsOnNothing s trace notes

-- In mode lockstep that is the run of the text.
abbrev pub Simulates : Status → Request → Port → Port → Port → Type 0
Simulates s request source trace notes = Reads (λ text. RunsText s text request.top (options_of request) trace notes) s source trace notes

-- In mode run that is its run on threads.
abbrev pub RunsAhead : Status → Request → Port → Port → Port → Type 0
RunsAhead s request source trace notes = Reads (λ text. RunsTextOnThreads s text request.top (options_of request) trace notes) s source trace notes

-- the step of a letter: `w` is the worker's, the other one the engine's
abbrev pub step_of : ℕ → Step
step_of letter = if letter == 119 then steps.W else steps.D

-- In mode replay that is its replay by the schedule.
abbrev pub Replays : Status → Request → Port → Port → Port → Type 0
Replays s request source trace notes =
    Reads (λ text. ReplaysText s text request.top (options_of request) (map step_of request.schedule) trace notes) s source trace notes

-- In mode make it has handed on what the text of the generated ladder gives, and has read nothing.
abbrev pub Makes : Status → Request → Port → Port → Port → Type 0
Makes s request source trace notes = Stays source × MakesText s (ladder_text request.size) request.size (options_of request) trace notes

abbrev pub Performs : Mode → Status → Request → Port → Port → Port → Type 0
Performs mode.Run s request source trace notes = RunsAhead s request source trace notes
Performs mode.Lockstep s request source trace notes = Simulates s request source trace notes
Performs mode.Replay s request source trace notes = Replays s request source trace notes
Performs mode.Make s request source trace notes = Makes s request source trace notes

-- ---- the whole

-- With words whose first refused one is this: they are told before anything is read. With accepted words their mode is performed, where
-- there is memory to read them.
abbrev pub EndsBy : Option ℕ → Status → Request → Port → Port → Port → Type 0
EndsBy (Some number) s request source trace notes = Stays source × HandsOn (usage number) s trace notes
EndsBy None s request source trace notes = Performs request.mode s request source trace notes ⊎ Stays source × HandsOnNothing s trace notes

-- a call with these words that ends with this status
abbrev pub Ends : Status → List Text → Port → Port → Port → Type 0
Ends s words source trace notes = EndsBy (refusal words) s (request_of words) source trace notes
