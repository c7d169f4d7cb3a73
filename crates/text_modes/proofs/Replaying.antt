-- What a call on a text has handed on.
use Rattle.std.proofs.Common.{◌≡◌, ℕ, List, Result, Ok, Err, length, refl, sym, ap, subst, ◌∙◌, inl, inr, ◌⊎◌, arith}
use Rattle.std.specs.Prelude.{IfOk}
use Rattle.std.proofs.lemmas.List.{take_all}
use Rattle.flat_design.specs.declared.objects.Objects.{Objects}
use Rattle.step_data.specs.declared.outcome.End.{End}
use Rattle.step_data.specs.declared.outcome.Options.{Options}
use Rattle.step_schedule.specs.declared.Step.{Step}
use Rattle.system_model.specs.Trace.{run_of}
use Rattle.port_base.specs.Told.{with_more}
use Rattle.port_base.specs.Lines.{text_of_lines, GainsLines}
use Rattle.trace_sink.specs.Puts.{Puts}
use Rattle.trace_sink.specs.declared.TraceFault.{TraceFault}
use Rattle.trace_sink.specs.declared.TraceFault.TheVariants as faults
use Rattle.design_reading.specs.Reading.{Gives, Reads}
use Rattle.design_reading.specs.declared.unread.Unread.{Unread}
use Rattle.design_reading.specs.declared.unread.Unread.TheVariants as unread
use Rattle.design_run.specs.Lines.{run_lines}
use Rattle.ahead_report.specs.declared.Report.{Report}
use Rattle.ahead_report.specs.Note.{report_note}
use Rattle.replay_run.specs.declared.whole.Replayed.{Replayed}
use Rattle.design_modes.specs.Report.{design_report}
use Rattle.program_output.specs.Port.{Port, Stays, Gains}
use Rattle.program_output.specs.Output.{Output, HandsOn, Tells}
use Rattle.program_output.specs.OutputLaws.{hands_on_note}
use Rattle.program_output.specs.declared.status.Status.{Status}
use Rattle.program_output.specs.declared.status.Status.TheVariants as status
use Rattle.run_status.specs.Ran.{end_status}
use Rattle.text_modes.specs.TextReplay.{TellsReplay, TellsUnread, ReplaysText}

-- the output of a run that ends so, with these lines and the note of this report
abbrev pub told_output : End → List (List ℕ) → Report → Output
told_output end lines report = record { status = end_status end; lines = lines; note = report_note report }

-- all lines are first lines
all_lines : (trace : Port) (lines : List (List ℕ)) → Gains trace (text_of_lines lines) → GainsLines trace.before trace.now lines
all_lines trace lines gains =
    (length lines, gains ∙ ap (λ (l : List (List ℕ)). with_more trace.before (text_of_lines l)) (sym (take_all (length lines) lines (omega arith))))

told_on : (end : End) (report : Report) (lines : List (List ℕ)) (s : Status) (trace notes : Port) → Gains trace (text_of_lines lines) →
    Tells (report_note report) (end_status end) s notes ⊎ (s ≡ status.Memory) × Stays notes → HandsOn (told_output end lines report) s trace notes
told_on end report lines s trace notes gains (inl (inl all)) = inl (all.0, gains, all.1)
told_on end report lines s trace notes gains (inl (inr fails)) = inr (inr (inl (fails.0, gains, fails.1)))
told_on end report lines s trace notes gains (inr lacks) = inr (inr (inr (lacks.0, all_lines trace lines gains, lacks.1)))

-- a replay whose trace is written, or isn't, with what is told behind it
pub replays_hand_on : (r : Result Replayed TraceFault) (end : End) (report : Report) (lines : List (List ℕ)) (s : Status) (trace notes : Port) →
    Puts r lines trace.before trace.now trace.faults trace.faults_now → IfOk r (λ told. told.end ≡ end) → IfOk r (λ told. told.report ≡ report) →
    TellsReplay r s notes → HandsOn (told_output end lines report) s trace notes
replays_hand_on (Ok told) end report lines s trace notes p same_end same_report tells =
    rw (sym same_end) (rw (sym same_report) (told_on told.end told.report lines s trace notes p.ok tells))
replays_hand_on (Err faults.WriteFault) end report lines s trace notes p same_end same_report tells = inr (inl (tells.0, (p.fault refl, p.front refl), tells.1))
replays_hand_on (Err faults.Memory) end report lines s trace notes p same_end same_report tells = inr (inr (inr (tells.0, p.memory refl, tells.1)))

-- the replay of the flat design that the text gives
pub replays_design : (s : Status) (text name top : List ℕ) (options : Options) (schedule : List Step) (objects : Objects) (r : Result Replayed TraceFault) (trace notes : Port) → name ≡ top → Gives text name (Ok objects) →
    Puts r (run_lines objects top options) trace.before trace.now trace.faults trace.faults_now → IfOk r (λ told. told.end ≡ (run_of objects options).end) →
    IfOk r (λ told. told.report ≡ design_report objects options schedule) → TellsReplay r s notes → ReplaysText s text top options schedule trace notes
replays_design s text name top options schedule objects r trace notes e gives puts ends reports tells =
    inl (
      Ok objects,
      subst (λ (t : List ℕ). Gives text t (Ok objects)) e gives,
      replays_hand_on r (run_of objects options).end (design_report objects options schedule) (run_lines objects top options) s trace notes puts ends reports tells,
    )

-- a text that is refused, or no memory
pub replays_unread : (u : Unread) (s : Status) (text name top : List ℕ) (options : Options) (schedule : List Step) (trace notes : Port) → name ≡ top → Reads (Gives text name) (Err u) →
    Stays trace → TellsUnread u s notes → ReplaysText s text top options schedule trace notes
replays_unread (unread.Refused note) s text name top options schedule trace notes e gives stays tells =
    inl (
      Err note.items,
      subst (λ (t : List ℕ). Gives text t (Err note.items)) e gives,
      hands_on_note status.DesignRefused s note.items trace notes stays tells,
    )
replays_unread unread.Memory s text name top options schedule trace notes e gives stays lacks = inr (lacks.0, stays, lacks.1)

-- a note that is told behind a replay
pub tells_told : (r : Result Replayed TraceFault) (told : Replayed) (note text : List ℕ) (own s : Status) (notes : Port) → r ≡ Ok told → note ≡ report_note told.report → text ≡ note →
    own ≡ end_status told.end → Tells text own s notes → TellsReplay r s notes
tells_told r told note text own s notes is note_is text_is own_is tells =
    subst (λ (x : Result Replayed TraceFault). TellsReplay x s notes) (sym is)
    (inl (subst (λ (t : List ℕ). Tells t (end_status told.end) s notes) (text_is ∙ note_is) (subst (λ (o : Status). Tells text o s notes) own_is tells)))
