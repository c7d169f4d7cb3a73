-- Well-formed flat designs: what elaboration promises, and solver, kernel and engine may ask.
use Rattle.std.specs.Prelude.{◌≡◌, ◌≤◌, ◌<◌, ℕ, ◌+◌, ◌≢◌, true, false, IsTrue, List, [], ◌∷◌, length, codes, Some}
use Rattle.std.specs.List.{slice_get, flat_map, All, AllPairs}
use Rattle.fix_core.specs.Fixed.{IsInRange}
use Rattle.ams_value.specs.declared.value_type.ValueType.TheVariants.{Integer}
use Rattle.flat_expr.specs.declared.subtype.Constraint.{Constraint}
use Rattle.flat_expr.specs.declared.statement.DelayMechanism.{DelayMechanism}
use Rattle.flat_expr.specs.declared.statement.WaveElement.{WaveElement}
use Rattle.flat_expr.specs.declared.statement.Statement.TheOpen.{Statement-F}
use Rattle.flat_design.specs.declared.objects.Signal.{Signal}
use Rattle.flat_design.specs.declared.objects.Terminal.{Terminal}
use Rattle.flat_design.specs.declared.objects.Terminal.TheVariants as terminal
use Rattle.flat_design.specs.declared.objects.QuantityKind.{QuantityKind}
use Rattle.flat_design.specs.declared.objects.QuantityKind.TheVariants as quantity
use Rattle.flat_design.specs.declared.objects.Quantity.{Quantity}
use Rattle.flat_design.specs.declared.objects.Threshold.{Threshold}
use Rattle.flat_design.specs.declared.objects.PathStep.{PathStep}
use Rattle.flat_design.specs.declared.objects.Variable.{Variable}
use Rattle.flat_design.specs.declared.objects.Process.{Process}
use Rattle.flat_design.specs.declared.objects.Instance.{Instance}
use Rattle.flat_design.specs.declared.objects.Enumeration.{Enumeration}
use Rattle.flat_design.specs.declared.objects.Ramp.{Ramp}
use Rattle.flat_design.specs.declared.objects.Objects.{Objects}
use Rattle.flat_design.specs.Flat.{HasNumbers}
use Rattle.flat_design.specs.Lists.{same_threshold}
use Rattle.flat_design.specs.Order.{unknown_count, equation_names}
use Rattle.flat_design.specs.Reads.{frame_of}
use Rattle.flat_design.specs.Limits.{unknown_limit, frame_limit, signal_limit, process_limit, threshold_limit, instance_limit}
use Rattle.cycle_meaning.specs.World.{drives}
use Rattle.design_rules.specs.Ways.{LeadsTo, EachStatement, AreWaysRight, AreParametersSafe, Nests}
use Rattle.design_rules.specs.Types.{sizes_of, IsDeclaredAs}
use Rattle.design_rules.specs.Equations.{IsEquation}
use Rattle.design_rules.specs.Branches.{HasFewBranches}
use Rattle.design_rules.specs.Statements.{IsAllowed}

-- ---- limits

pub record KeepsLimits (objects : Objects) : Type 0 where
  pub unknowns : unknown_count objects ≤ unknown_limit
  pub frame : length (frame_of objects) ≤ frame_limit
  pub signals : length objects.signals ≤ signal_limit
  pub processes : length objects.processes ≤ process_limit
  pub thresholds : length objects.thresholds ≤ threshold_limit
  pub instances : length objects.instances ≤ instance_limit
  pub branches : All HasFewBranches objects.equations

-- the most bytes of an enumeration literal
abbrev pub literal_limit : ℕ
literal_limit = 64

-- the most enumeration types, and the most literals of one: their numbers have 16 bits
abbrev pub enumeration_limit : ℕ
enumeration_limit = 65536

-- ---- the objects

pub record IsEnumeration (x : Enumeration) : Type 0 where
  pub count : length x.literals ≤ enumeration_limit
  pub literals : All (λ (name : List ℕ). length name ≤ literal_limit) x.literals

-- enumeration type 0
abbrev pub domain_type : Enumeration
domain_type = record { literals = codes "quiescent_domain" ∷ codes "time_domain" ∷ codes "frequency_domain" ∷ [] }

abbrev pub IsSignal : Objects → Signal → Type 0
IsSignal objects s = IsDeclaredAs (sizes_of objects) s.kind s.constraint s.initial

abbrev pub IsTerminal : Objects → Terminal → Type 0
IsTerminal objects (terminal.Node i) = i < length objects.nodes
IsTerminal objects terminal.Reference = Unit {0}

abbrev pub HasTerminals : Objects → QuantityKind → Type 0
HasTerminals objects quantity.Free = Unit {0}
HasTerminals objects (quantity.Across plus minus) = IsTerminal objects plus × IsTerminal objects minus
HasTerminals objects (quantity.Through plus minus) = IsTerminal objects plus × IsTerminal objects minus

pub record IsQuantity (objects : Objects) (q : Quantity) : Type 0 where
  pub terminals : HasTerminals objects q.kind
  pub initial : IsInRange q.initial

pub record IsThreshold (objects : Objects) (k : Threshold) : Type 0 where
  pub quantity : k.quantity < length objects.quantities
  pub level : IsInRange k.level

pub record IsRamp (objects : Objects) (r : Ramp) : Type 0 where
  pub signal : r.signal < length objects.signals
  pub signals : r.first + 3 < length objects.signals
  pub quantity : r.quantity < length objects.quantities

-- the solvability count of an instance
abbrev pub IsSolvable : Instance → Type 0
IsSolvable x = x.equations ≡ x.unknowns

-- ---- processes

pub record IsVariable (objects : Objects) (x : Variable) : Type 0 where
  pub declared : IsDeclaredAs (sizes_of objects) x.kind x.constraint x.initial
  pub parameter : x.is_parameter ≡ true → x.kind ≡ Integer

-- each driver is of a signal that some statement assigns; an assignment asks for the driver
abbrev pub AreDriversUsed : Process → Type 0
AreDriversUsed p =
    (i : ℕ) → IsTrue (drives i p)
    → (steps : List PathStep) × (ps : List ℕ) × (k : ℕ) × (c : Constraint) × (m : DelayMechanism) × (wave : List WaveElement)
    × LeadsTo steps ps k (Statement-F.SignalAssignment i c m wave) p.statements

pub record IsProcess (objects : Objects) (p : Process) : Type 0 where
  pub variables : All (IsVariable objects) p.variables
  pub statements : EachStatement (IsAllowed objects p) p.statements
  pub drivers : AreDriversUsed p
  pub ways : AreWaysRight p
  pub parameters : AreParametersSafe p
  pub nests : Nests p

-- ---- the design

pub record IsDesign (objects : Objects) : Type 0 where
  pub numbers : HasNumbers objects
  pub limits : KeepsLimits objects
  -- DOMAIN_TYPE is the first enumeration type
  pub domain : slice_get objects.enumerations 0 ≡ Some domain_type
  pub enumeration_count : length objects.enumerations ≤ enumeration_limit
  pub enumerations : All IsEnumeration objects.enumerations
  pub signals : All (IsSignal objects) objects.signals
  pub quantities : All (IsQuantity objects) objects.quantities
  -- a quantity has one dot at most
  pub dots : All (λ q. q < length objects.quantities) objects.dots
  pub dots_once : AllPairs (λ a b. a ≢ b) objects.dots
  pub thresholds : All (IsThreshold objects) objects.thresholds
  pub thresholds_once : AllPairs (λ a b. same_threshold a b ≡ false) objects.thresholds
  pub equations : All (IsEquation objects) objects.equations
  -- as many equations as unknowns
  pub count : length (equation_names objects) ≡ unknown_count objects
  pub instances : All IsSolvable objects.instances
  pub processes : All (IsProcess objects) objects.processes
  -- a signal has one driver at most
  pub drivers_once : AllPairs (λ a b. a ≢ b) (flat_map (λ (p : Process). p.drivers) objects.processes)
  pub ramps : All (IsRamp objects) objects.ramps
