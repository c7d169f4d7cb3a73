-- A process that is ready to run.
use Rattle.std.specs.Prelude.{◌≡◌, ℕ, Option, Some}
use Rattle.std.specs.List.{slice_get}
use Rattle.flat_expr.specs.declared.statement.Statement.{Statement}
use Rattle.flat_design.specs.declared.objects.Process.{Process}
use Rattle.design_meaning.specs.Typed.{Reads}
use Rattle.cycle_meaning.specs.Task.{Layer}
use Rattle.cycle_meaning.specs.World.{Context, Local, readings_at}
use Rattle.design_rules.specs.Ways.{layer_at}
use Rattle.design_rules.specs.Types.{process_scope}
use Rattle.design_rules.specs.Design.{IsProcess}
use Rattle.process_laws.specs.Resumed.{Surroundings, body_in, AreOf}
use Rattle.process_place.specs.ProcessPlace.{ProcessPlace, IsIn}
use Rattle.process_place.specs.Moves.{begins_at, turns_to, coming, goes_to, waits_at, moved}
use Rattle.process_ready.specs.Allowed.{EachCan, LeadRound, LeadAt}

-- the process is well formed, and all that it reads has a value of its type
pub record IsReady (here : Context) (p : Process) (l : Local) : Type 0 where
  pub process_is : slice_get here.objects.processes here.process ≡ Some p
  pub rules : IsProcess here.objects p
  pub reads : Reads (process_scope here.objects p) (readings_at here l)

-- and it goes on at a place where the parameters of its loops are on their way
pub record GoesReady (here : Context) (p : Process) (l : Local) (q : ProcessPlace) : Type 0 where
  pub ready : IsReady here p l
  pub way : LeadAt l.variables q

pub record StaysReady : Type 0 where
  pub can : (here : Context) (p : Process) (l : Local) → IsReady here p l → EachCan here (readings_at here l) p.statements
  pub begins : (here : Context) (p : Process) (l : Local) (q : ProcessPlace) → IsIn p.statements q → GoesReady here p l q
      → (s : Statement) (c : Surroundings) (k : ℕ) → coming here l p.statements q ≡ begins_at s c k → LeadRound l.variables c
  pub turns : (here : Context) (p : Process) (l : Local) (q : ProcessPlace) → IsIn p.statements q → GoesReady here p l q
      → (next : ProcessPlace) (turned : Local) → coming here l p.statements q ≡ turns_to next turned → GoesReady here p turned next
  pub goes : (here : Context) (p : Process) (l : Local) → IsReady here p l
      → (c : Surroundings) (k : ℕ) (layer : Layer) → AreOf p.statements c → layer_at k (body_in p.statements c) ≡ Some layer → LeadRound l.variables c
      → (next : ProcessPlace) (after : Local) → moved here l p.statements c k layer ≡ goes_to next after → GoesReady here p after next
  pub waits : (here : Context) (p : Process) (l : Local) → IsReady here p l
      → (c : Surroundings) (k : ℕ) (layer : Layer) → AreOf p.statements c → layer_at k (body_in p.statements c) ≡ Some layer → LeadRound l.variables c
      → (number : ℕ) (t : Option ℕ) (next : ProcessPlace) (after : Local) → moved here l p.statements c k layer ≡ waits_at number t next after → GoesReady here p after next
