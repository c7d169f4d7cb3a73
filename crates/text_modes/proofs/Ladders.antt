-- What a call on the text of a ladder hands on.
use Rattle.std.proofs.Common.{◌≡◌, ℕ, List, Result, Ok, Err, sym, subst, inl, inr, codes}
use Rattle.std.specs.Prelude.{IfOk}
use Rattle.flat_design.specs.declared.objects.Objects.{Objects}
use Rattle.step_data.specs.declared.outcome.End.{End}
use Rattle.step_data.specs.declared.outcome.Options.{Options}
use Rattle.system_model.specs.Trace.{run_of}
use Rattle.trace_sink.specs.Puts.{Puts}
use Rattle.trace_sink.specs.declared.TraceFault.{TraceFault}
use Rattle.run_counts.specs.Counts.{counted, made_lines}
use Rattle.program_output.specs.Port.{Port, Stays}
use Rattle.program_output.specs.OutputLaws.{hands_on_note}
use Rattle.program_output.specs.declared.status.Status.{Status}
use Rattle.program_output.specs.declared.status.Status.TheVariants as status
use Rattle.run_status.specs.Ran.{run_status}
use Rattle.run_status.specs.RanLaws.{runs_hand_on}
use Rattle.text_modes.specs.Start.{Starts}
use Rattle.text_modes.specs.Making.{MakesText}

-- a text with a design
pub made_text : (objects : Objects) (text : List ℕ) (size : ℕ) (options : Options) (r : Result End TraceFault) (s : Status) (trace notes : Port) →
    Starts (Ok objects) text (codes "ladder") notes → s ≡ run_status r →
    Puts r (made_lines size (counted (run_of objects options))) trace.before trace.now trace.faults trace.faults_now →
    IfOk r (λ told. told ≡ (run_of objects options).end) → MakesText s text size options trace notes
made_text objects text size options r s trace notes starts so puts ends =
    subst (λ (x : Status). MakesText x text size options trace notes) (sym so)
    (inl (Ok objects, starts.0, runs_hand_on r (run_of objects options).end (made_lines size (counted (run_of objects options))) trace notes puts ends starts.2))

-- a text without one
pub refused_text : (text : List ℕ) (size : ℕ) (options : Options) (s : Status) (trace notes : Port) → Starts (Err s) text (codes "ladder") notes → Stays trace →
    MakesText s text size options trace notes
refused_text text size options s trace notes (inl refused) stays =
    inl (Err refused.0, refused.1, hands_on_note status.DesignRefused s refused.0 trace notes stays refused.2)
refused_text text size options s trace notes (inr none) stays = inr (none.0, stays, none.1)

pub text_is : (s : Status) (text other : List ℕ) (size : ℕ) (options : Options) (trace notes : Port) → text ≡ other → MakesText s text size options trace notes → MakesText s other size options trace notes
text_is s text other size options trace notes e h = subst (λ (t : List ℕ). MakesText s t size options trace notes) e h
