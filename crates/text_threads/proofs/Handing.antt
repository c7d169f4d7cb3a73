-- What a call on a text has handed on.
use Rattle.std.proofs.Common.{◌≡◌, ℕ, List, Result, Ok, Err, length, refl, sym, ap, subst, ◌∙◌, inl, inr, ◌⊎◌, arith}
use Rattle.std.specs.Prelude.{IfOk}
use Rattle.std.proofs.lemmas.List.{take_all}
use Rattle.flat_design.specs.declared.objects.Objects.{Objects}
use Rattle.step_data.specs.declared.outcome.End.{End}
use Rattle.step_data.specs.declared.outcome.Options.{Options}
use Rattle.lockstep_model.specs.Works.{Work, attempts_in, renewals_in}
use Rattle.system_model.specs.Trace.{run_of}
use Rattle.port_base.specs.Told.{with_more}
use Rattle.port_base.specs.Lines.{text_of_lines, GainsLines}
use Rattle.trace_sink.specs.Puts.{Puts}
use Rattle.trace_sink.specs.declared.TraceFault.{TraceFault}
use Rattle.trace_sink.specs.declared.TraceFault.TheVariants as faults
use Rattle.design_reading.specs.Reading.{Gives, Reads}
use Rattle.design_reading.specs.declared.unread.Unread.{Unread}
use Rattle.design_reading.specs.declared.unread.Unread.TheVariants as unread
use Rattle.design_run.specs.Lines.{run_lines}
use Rattle.ahead_report.specs.declared.Report.{Report}
use Rattle.ahead_report.specs.Note.{report_note}
use Rattle.threaded_trace.specs.Fitting.{Fits}
use Rattle.program_output.specs.Port.{Port, Stays, Gains}
use Rattle.program_output.specs.Output.{HandsOn, Tells}
use Rattle.program_output.specs.OutputLaws.{hands_on_note}
use Rattle.program_output.specs.declared.status.Status.{Status}
use Rattle.program_output.specs.declared.status.Status.TheVariants as status
use Rattle.run_status.specs.Ran.{end_status}
use Rattle.text_threads.specs.declared.design.Threaded.{Threaded}
use Rattle.text_threads.specs.TextThreads.{noted_run, HandsOnRun, RunsTextOnThreads, TellsRun, TellsUnread}

-- numbers that fit any works: each attempt is an own one
abbrev alone : List Work → Report
alone works = record { counts = record { begins = renewals_in works; taken = 0; saved = 0; stale = 0; reused = 0; closed = 0 }; own = attempts_in works }

alone_fits : (works : List Work) → Fits works (alone works).own (alone works).counts
alone_fits works =
    record {
      numbers = record { all_are = omega arith; begins_least = omega arith; begins_most = omega arith };
      published = inl (omega arith);
      found_saved = λ some. absurd (omega arith);
    }

-- all lines are first lines
all_lines : (trace : Port) (lines : List (List ℕ)) → Gains trace (text_of_lines lines) → GainsLines trace.before trace.now lines
all_lines trace lines gains =
    (length lines, gains ∙ ap (λ (l : List (List ℕ)). with_more trace.before (text_of_lines l)) (sym (take_all (length lines) lines (omega arith))))

-- a trace that is written, and what is told behind it
told_on : (top : List ℕ) (options : Options) (objects : Objects) (report : Report) (s : Status) (trace notes : Port) → Gains trace (text_of_lines (run_lines objects top options)) →
    Tells (report_note report) (end_status (run_of objects options).end) s notes ⊎ (s ≡ status.Memory) × Stays notes → HandsOn (noted_run top options objects report) s trace notes
told_on top options objects report s trace notes gains (inl (inl all)) = inl (all.0, gains, all.1)
told_on top options objects report s trace notes gains (inl (inr fails)) = inr (inr (inl (fails.0, gains, fails.1)))
told_on top options objects report s trace notes gains (inr lacks) = inr (inr (inr (lacks.0, all_lines trace (run_lines objects top options) gains, lacks.1)))

-- a run whose trace is written, or isn't, with what is told behind it
hands_on_run : (top : List ℕ) (options : Options) (objects : Objects) (r : Result Threaded TraceFault) (s : Status) (trace notes : Port) →
    Puts r (run_lines objects top options) trace.before trace.now trace.faults trace.faults_now → IfOk r (λ told. told.end ≡ (run_of objects options).end) →
    IfOk r (λ told. Fits (run_of objects options).works told.report.own told.report.counts) → TellsRun r s notes → HandsOnRun top options (Ok objects) s trace notes
hands_on_run top options objects (Ok told) s trace notes p same fits tells =
    let P : End → Type 0 = λ e. Tells (report_note told.report) (end_status e) s notes ⊎ (s ≡ status.Memory) × Stays notes in
    (told.report, fits, told_on top options objects told.report s trace notes p.ok (subst P same tells))
hands_on_run top options objects (Err faults.WriteFault) s trace notes p same fits tells =
    let works = (run_of objects options).works in
    (alone works, alone_fits works, inr (inl (tells.0, (p.fault refl, p.front refl), tells.1)))
hands_on_run top options objects (Err faults.Memory) s trace notes p same fits tells =
    let works = (run_of objects options).works in
    (alone works, alone_fits works, inr (inr (inr (tells.0, p.memory refl, tells.1))))

-- the run of the flat design that the text gives
pub runs_design : (s : Status) (text name top : List ℕ) (options : Options) (objects : Objects) (r : Result Threaded TraceFault) (trace notes : Port) → name ≡ top → Gives text name (Ok objects) →
    Puts r (run_lines objects top options) trace.before trace.now trace.faults trace.faults_now → IfOk r (λ told. told.end ≡ (run_of objects options).end) →
    IfOk r (λ told. Fits (run_of objects options).works told.report.own told.report.counts) → TellsRun r s notes → RunsTextOnThreads s text top options trace notes
runs_design s text name top options objects r trace notes e gives puts ends fits tells =
    inl (
      Ok objects,
      subst (λ (t : List ℕ). Gives text t (Ok objects)) e gives,
      hands_on_run top options objects r s trace notes puts ends fits tells,
    )

-- a text that is refused, or no memory
pub runs_unread : (u : Unread) (s : Status) (text name top : List ℕ) (options : Options) (trace notes : Port) → name ≡ top → Reads (Gives text name) (Err u) → Stays trace →
    TellsUnread u s notes → RunsTextOnThreads s text top options trace notes
runs_unread (unread.Refused note) s text name top options trace notes e gives stays tells =
    inl (
      Err note.items,
      subst (λ (t : List ℕ). Gives text t (Err note.items)) e gives,
      hands_on_note status.DesignRefused s note.items trace notes stays tells,
    )
runs_unread unread.Memory s text name top options trace notes e gives stays lacks = inr (lacks.0, stays, lacks.1)

-- a note that is told behind a run
pub tells_told : (r : Result Threaded TraceFault) (told : Threaded) (note text : List ℕ) (own s : Status) (notes : Port) → r ≡ Ok told → note ≡ report_note told.report → text ≡ note →
    own ≡ end_status told.end → Tells text own s notes → TellsRun r s notes
tells_told r told note text own s notes is note_is text_is own_is tells =
    subst (λ (x : Result Threaded TraceFault). TellsRun x s notes) (sym is)
    (inl (subst (λ (t : List ℕ). Tells t (end_status told.end) s notes) (text_is ∙ note_is) (subst (λ (o : Status). Tells text o s notes) own_is tells)))
