-- What a replay asks of the system of a design.
use Rattle.std.proofs.Common.{◌≡◌, ℕ, ◌≤◌, ◌<◌, ◌^◌, List, [], ◌∷◌, length, refl, sym, ap, subst, arith}
use Rattle.std.specs.Prelude.{Result, IfOk}
use Rattle.flat_design.specs.declared.objects.Equation.{Equation}
use Rattle.flat_design.specs.declared.objects.Equation.TheVariants as equation
use Rattle.flat_design.specs.declared.objects.Objects.{Objects}
use Rattle.step_data.specs.declared.outcome.Options.{Options}
use Rattle.step_model.specs.System.{System}
use Rattle.step_schedule.specs.declared.Step.{Step}
use Rattle.design_meaning.specs.Steps.{selections_of}
use Rattle.design_rules.specs.Design.{IsDesign}
use Rattle.run_place.specs.Budgets as run
use Rattle.lockstep_model.specs.Lockstep.{lockstep}
use Rattle.lockstep_model.specs.Works.{events_of}
use Rattle.trace_lines.specs.Lines.{trace_lines}
use Rattle.system_model.specs.Trace.{run_of}
use Rattle.system_model.specs.System.{system_of, delta_budget, cycle_budget, try_budget}
use Rattle.design_run.specs.Lines.{run_lines}
use Rattle.replay_model.specs.Replays.{report_of}
use Rattle.replay_run.specs.declared.whole.Replayed.{Replayed}
use Rattle.design_modes.specs.Report.{design_report}

-- at most as many choices as equations
choices_few : (es : List Equation) → length (selections_of es) ≤ length es
choices_few [] = omega arith
choices_few (equation.Pair p ∷ more) = let h = choices_few more in omega arith
choices_few (equation.Choice c ∷ more) = let h = choices_few more in omega arith

pub record Suits (sys : System) (given : Options) : Type 0 where
  pub options : given ≡ sys.options
  pub deltas : sys.deltas ≡ run.delta_budget
  pub choices : sys.choices < 2 ^ 32
  pub cycles : sys.cycles ≡ run.run_budget
  pub tries : sys.tries ≡ run.run_budget

system_suits : (objects : Objects) (options : Options) → IsDesign objects → Suits (system_of objects options) options
unfolding delta_budget cycle_budget try_budget
system_suits objects options d = record {
  options = refl;
  deltas = refl;
  choices = let few = choices_few objects.equations in let numbers = d.numbers.equations in omega arith;
  cycles = refl;
  tries = refl;
}

pub suits : (sys : System) (objects : Objects) (options : Options) → sys ≡ system_of objects options → IsDesign objects → Suits sys options
suits sys objects options e d = subst (λ s. Suits s options) (sym e) (system_suits objects options d)

-- the lines of the named system's run
pub lines_of_system : (sys : System) (objects : Objects) (top : List ℕ) (options : Options) → sys ≡ system_of objects options →
    trace_lines objects top options (events_of (lockstep sys).works) (lockstep sys).end ≡ run_lines objects top options
lines_of_system sys objects top options e =
    ap (λ (s : System). trace_lines objects top options (events_of (lockstep s).works) (lockstep s).end) e

-- its end
pub end_of_system : {E : Type 0} (r : Result Replayed E) (sys : System) (objects : Objects) (options : Options) → sys ≡ system_of objects options →
    IfOk r (λ told. told.end ≡ (lockstep sys).end) → IfOk r (λ told. told.end ≡ (run_of objects options).end)
end_of_system r sys objects options e h = subst (λ (s : System). IfOk r (λ told. told.end ≡ (lockstep s).end)) e h

-- its report
pub report_of_system : {E : Type 0} (r : Result Replayed E) (sys : System) (objects : Objects) (options : Options) (schedule : List Step) → sys ≡ system_of objects options →
    IfOk r (λ told. told.report ≡ report_of sys schedule) → IfOk r (λ told. told.report ≡ design_report objects options schedule)
unfolding design_report
report_of_system r sys objects options schedule e h = subst (λ (s : System). IfOk r (λ told. told.report ≡ report_of s schedule)) e h
