-- A process between two runs.
use Rattle.std.specs.Prelude.{◌≡◌, ◌≤◌, ℕ, IsTrue, [], map, length, List, Option, Some, None}
use Rattle.std.specs.List.{slice_get, All}
use Rattle.fix_core.specs.Units.{most_ticks}
use Rattle.ams_value.specs.declared.value_type.ValueType.TheVariants.{Boolean, Enumeration}
use Rattle.ams_value.specs.Types.{type_of, is_in_range}
use Rattle.flat_expr.specs.declared.statement.Statement.{Statement}
use Rattle.flat_design.specs.declared.objects.Signal.{Signal}
use Rattle.flat_design.specs.declared.objects.Variable.{Variable}
use Rattle.flat_design.specs.declared.objects.Process.{Process}
use Rattle.design_meaning.specs.Readings.{Seen}
use Rattle.design_meaning.specs.Reading.{quantities_in, references_in, dots_in}
use Rattle.cycle_meaning.specs.World.{World, Context, Local}
use Rattle.design_rules.specs.Types.{sizes_of}
use Rattle.design_rules.specs.Design.{IsProcess}
use Rattle.process_laws.specs.Held.{kept_variables}
use Rattle.process_place.specs.ProcessPlace.{ProcessPlace, IsIn}
use Rattle.process_place.specs.Moves.{waiting, run_at}
use Rattle.process_stack.specs.Stacks.{Stacked, place_of}
use Rattle.proc_exec.specs.Running.{StandsReady}

-- what processes read of a world has the types of the design, and the point has its unknowns
pub record IsWorld (here : Context) (w : World) : Type 0 where
  pub signals : map (λ (s : Seen). type_of s.value) w.signals ≡ map (λ (s : Signal). s.kind) here.objects.signals
  pub signals_range : All (λ (s : Seen). IsTrue (is_in_range (sizes_of here.objects) s.value)) w.signals
  pub thresholds : length w.thresholds ≡ length here.objects.thresholds
  pub thresholds_kind : All (λ (s : Seen). type_of s.value ≡ Boolean) w.thresholds
  pub domain : type_of w.domain.value ≡ Enumeration 0
  pub domain_range : IsTrue (is_in_range (sizes_of here.objects) w.domain.value)
  pub quantities : length (quantities_in here.objects here.x) ≡ length here.objects.quantities
  pub references : length (references_in here.objects here.x) ≡ length here.objects.nodes
  pub dots : length (dots_in here.objects here.x) ≡ length here.objects.dots
  pub now : here.t ≤ most_ticks

abbrev pub at_first : Stacked
at_first = record { frames = []; next = 0; first = None }

-- a process is ready at its first statement with the initial values
abbrev pub StartsReady : Type 0
StartsReady =
    (here : Context) (w : World) (p : Process) → slice_get here.objects.processes here.process ≡ Some p → IsProcess here.objects p → IsWorld here w
    → StandsReady here (record { world = w; variables = map (λ (x : Variable). x.initial) p.variables }) p.statements at_first

-- where it waits, it is ready with the variables that it keeps there
abbrev pub RestsReady : Type 0
RestsReady =
    (here : Context) (p : Process) (budget : ℕ) (before after : Local) (from : ProcessPlace) (s : Stacked) (k : ℕ) (t : Option ℕ)
    → slice_get here.objects.processes here.process ≡ Some p → IsIn p.statements from
    → run_at budget here p.statements before from ≡ waiting k t (place_of p.statements s) after → StandsReady here after p.statements s
    → StandsReady here (record after { variables = kept_variables p k after }) p.statements s

-- a process that is ready is so later, in a world of the design, with its own variables
abbrev pub GoesOnReady : Type 0
GoesOnReady =
    (here later : Context) (l : Local) (w : World) (top : List Statement) (s : Stacked) → later.objects ≡ here.objects → later.process ≡ here.process → IsWorld later w
    → StandsReady here l top s → StandsReady later (record { world = w; variables = l.variables }) top s
