-- What a call on a text has handed on.
use Rattle.std.proofs.Common.{◌≡◌, ℕ, List, Result, Ok, Err, sym, subst, inl, inr, ◌⊎◌}
use Rattle.std.specs.Prelude.{IfOk}
use Rattle.flat_design.specs.declared.objects.Objects.{Objects}
use Rattle.step_data.specs.declared.outcome.End.{End}
use Rattle.step_data.specs.declared.outcome.Options.{Options}
use Rattle.system_model.specs.Trace.{run_of}
use Rattle.trace_sink.specs.Puts.{Puts}
use Rattle.trace_sink.specs.declared.TraceFault.{TraceFault}
use Rattle.design_reading.specs.Reading.{Gives}
use Rattle.design_run.specs.Lines.{run_lines}
use Rattle.program_output.specs.Port.{Port, Stays}
use Rattle.program_output.specs.OutputLaws.{hands_on_note}
use Rattle.program_output.specs.declared.status.Status.{Status}
use Rattle.program_output.specs.declared.status.Status.TheVariants as status
use Rattle.run_status.specs.Ran.{run_status, RunsHandOn}
use Rattle.text_modes.specs.Start.{Refuses, Starts}
use Rattle.text_modes.specs.TextRun.{RunsText}

-- the run of the flat design that the text gives
pub runs_design : (s : Status) (text name top : List ℕ) (options : Options) (objects : Objects) (r : Result End TraceFault) (trace notes : Port) → RunsHandOn → name ≡ top → s ≡ run_status r →
    Starts (Ok objects) text name notes → Puts r (run_lines objects top options) trace.before trace.now trace.faults trace.faults_now →
    IfOk r (λ end. end ≡ (run_of objects options).end) → RunsText s text top options trace notes
runs_design s text name top options objects r trace notes law e f starts puts ends =
    subst (λ (x : Status). RunsText x text top options trace notes) (sym f)
    (inl (
      Ok objects,
      subst (λ (t : List ℕ). Gives text t (Ok objects)) e starts.0,
      law r (run_of objects options).end (run_lines objects top options) trace notes puts ends starts.2,
    ))

-- a text that is refused, or no memory
nothing : (s : Status) (text top : List ℕ) (options : Options) (trace notes : Port) → Refuses s text top notes ⊎ (s ≡ status.Memory) × Stays notes → Stays trace →
    RunsText s text top options trace notes
nothing s text top options trace notes (inl refused) stays =
    inl (Err refused.0, refused.1, hands_on_note status.DesignRefused s refused.0 trace notes stays refused.2)
nothing s text top options trace notes (inr lacks) stays = inr (lacks.0, stays, lacks.1)

pub runs_nothing : (s : Status) (text name top : List ℕ) (options : Options) (trace notes : Port) → name ≡ top → Starts (Err s) text name notes → Stays trace →
    RunsText s text top options trace notes
runs_nothing s text name top options trace notes e starts stays =
    subst (λ (t : List ℕ). RunsText s text t options trace notes) e (nothing s text name options trace notes starts stays)
