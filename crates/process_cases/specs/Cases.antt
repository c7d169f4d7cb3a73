-- A process that waits in a loop without an end and leaves it, reports, waits for 5 ps, and then turns without a wait.
use Rattle.std.specs.Prelude.{◌≡◌, refl, ℕ, Bool, pos, List, [], ◌∷◌, Some, None}
use Rattle.ams_value.specs.declared.val.Val.{Val}
use Rattle.ams_value.specs.declared.val.Val.TheVariants as val
use Rattle.flat_expr.specs.declared.expr.FlatExpr.TheVariants as e
use Rattle.flat_expr.specs.declared.statement.Severity.TheVariants.{Note}
use Rattle.flat_expr.specs.declared.statement.Statement.{Statement}
use Rattle.flat_expr.specs.declared.statement.Statement.TheVariants as s
use Rattle.flat_design.specs.declared.objects.Process.{Process}
use Rattle.flat_design.specs.declared.objects.Objects.{Objects}
use Rattle.flat_design.specs.Lists.{no_objects}
use Rattle.step_data.specs.declared.breaks.Element.{Element}
use Rattle.step_data.specs.declared.event.Event.{Event}
use Rattle.design_meaning.specs.Readings.{Readings, still}
use Rattle.cycle_meaning.specs.World.{Context, Local, readings_at}
use Rattle.design_rules.specs.Design.{domain_type}

-- loop wait; exit; end loop;
abbrev pub waits_once : Statement
waits_once = s.Loop None (s.Wait 0 [] None None ∷ s.Exit None ∷ [])

-- report "a" severity note;
abbrev pub says : Statement
says = s.Report (97 ∷ []) Note

-- wait for 5 ps;
abbrev pub waits_for : Statement
waits_for = s.Wait 1 [] None (Some (e.Literal (val.Time (pos 5))))

-- loop null; end loop;
abbrev pub spins : Statement
spins = s.Loop None (s.Null ∷ [])

abbrev pub case_text : List Statement
case_text = waits_once ∷ says ∷ waits_for ∷ spins ∷ []

abbrev pub case_process : Process
case_process =
    record {
      variables = [];
      statements = case_text;
      drivers = [];
      waits =
          record { path = record { statement = 0; branch = 0 } ∷ record { statement = 0; branch = 0 } ∷ []; parameters = [] }
          ∷ record { path = record { statement = 2; branch = 0 } ∷ []; parameters = [] }
          ∷ [];
    }

-- a process that drives a signal, and isn't run
abbrev pub driving : Process
driving = record case_process { drivers = 0 ∷ [] }

abbrev pub case_objects : Objects
case_objects = record no_objects { processes = case_process ∷ driving ∷ []; enumerations = domain_type ∷ [] }

-- what a process runs in
abbrev pub case_context : ℕ → ℕ → Context
case_context process t = record { objects = case_objects; process = process; t = t; n = 0; x = [] }

abbrev pub case_local : List Val → List Element → Bool → List Event → Local
case_local variables elements broke events =
    record {
      world = record { signals = []; thresholds = []; domain = still (val.Enum 0 0); queues = []; elements = elements; broke = broke; events = events };
      variables = variables;
    }

abbrev pub case_readings : List Val → ℕ → Readings
case_readings variables t =
    record {
      signals = [];
      thresholds = [];
      domain = still (val.Enum 0 0);
      quantities = [];
      references = [];
      dots = [];
      variables = variables;
      now = t;
    }

pub case_reads : (process t : ℕ) (variables : List Val) (elements : List Element) (broke : Bool) (events : List Event)
    → readings_at (case_context process t) (case_local variables elements broke events) ≡ case_readings variables t
case_reads process t variables elements broke events = refl
