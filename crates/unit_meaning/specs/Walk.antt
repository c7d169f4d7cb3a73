-- The walk over the instances (IEEE 1076, 14; the order of tests and the limits are own).
use Rattle.std.specs.Prelude.{ℕ, zero, suc, ◌+◌, ◌-◌, ◌<◌, nat_eq, nat_lt, nat_le, ◌||◌, ◌&&◌, not, Bool, true, false, if◌then◌else◌, List, [], ◌∷◌, ◌++◌, length, map, position, codes, Option, Some, None, Result, Ok, Err}
use Rattle.std.specs.List.{fold, list_any}
use Rattle.std.specs.Str.{bytes_eq}
use Rattle.std.specs.Map.{lookup as entry_of}
use Rattle.fix_core.specs.Passes.{and_then, ◌>>=◌}
use Rattle.ams_token.specs.declared.token.Place.{Place}
use Rattle.ams_tree.specs.declared.expression.Name.{Name}
use Rattle.ams_tree.specs.declared.declaration.Declaration.{Declaration}
use Rattle.ams_tree.specs.declared.declaration.Declaration.TheVariants as declare
use Rattle.ams_tree.specs.declared.declaration.Generic.{Generic}
use Rattle.ams_tree.specs.declared.declaration.Mode.{Mode}
use Rattle.ams_tree.specs.declared.declaration.Mode.TheVariants.{In, Out}
use Rattle.ams_tree.specs.declared.declaration.Port.{Port}
use Rattle.ams_tree.specs.declared.declaration.Port.TheVariants as port
use Rattle.ams_tree.specs.declared.concurrent.Concurrent.{Concurrent}
use Rattle.ams_tree.specs.declared.concurrent.ConcurrentStatement.{ConcurrentStatement}
use Rattle.ams_tree.specs.declared.concurrent.ConcurrentStatement.TheVariants as conc
use Rattle.ams_tree.specs.declared.concurrent.Instance.{Instance as Written}
use Rattle.ams_tree.specs.declared.design.DesignUnit.{DesignUnit}
use Rattle.ams_tree.specs.declared.design.Entity.{Entity}
use Rattle.ams_tree.specs.declared.design.Architecture.{Architecture}
use Rattle.ams_value.specs.declared.value_type.ValueType.TheVariants as t
use Rattle.flat_design.specs.Limits.{unknown_limit, signal_limit, process_limit, threshold_limit, instance_limit}
use Rattle.flat_design.specs.declared.objects.Objects.{Objects}
use Rattle.flat_design.specs.declared.objects.Instance.{Instance}
use Rattle.name_scope.specs.declared.thing.Kind.TheVariants.{Of}
use Rattle.name_scope.specs.declared.thing.QuantityClass.{QuantityClass}
use Rattle.name_scope.specs.declared.thing.QuantityClass.TheVariants as class
use Rattle.name_scope.specs.declared.thing.Subtype.{Subtype}
use Rattle.name_scope.specs.declared.thing.Thing.{Thing}
use Rattle.name_scope.specs.declared.thing.Thing.TheVariants as thing
use Rattle.name_scope.specs.declared.scope.Scope.{Scope}
use Rattle.elab_meaning.specs.declared.book.Book.{Book}
use Rattle.elab_meaning.specs.declared.fault.Cause.TheVariants.{WrongType}
use Rattle.elab_meaning.specs.declared.fault.Fault.{Fault}
use Rattle.elab_meaning.specs.declared.fault.Notes.{Notes}
use Rattle.elab_meaning.specs.declared.part.Part.{Part}
use Rattle.elab_meaning.specs.declared.part.Part.TheVariants.{Kept, Wrong, Hidden}
use Rattle.elab_meaning.specs.declared.typed.Valued.{Valued}
use Rattle.elab_meaning.specs.Notes.{noted, no_notes, first_fault, is_of_instances, text_of}
use Rattle.elab_meaning.specs.Kinds.{same_kind}
use Rattle.elab_meaning.specs.Parts.{kept, closed}
use Rattle.elab_meaning.specs.Subtypes.{valued, holds_known}
use Rattle.elab_meaning.specs.Declarations.{declared, constant_of, signal_of, names_of, nature_named, with_notes}
use Rattle.unit_meaning.specs.declared.draft.Made.{Made}
use Rattle.unit_meaning.specs.declared.draft.Made.TheVariants as made
use Rattle.unit_meaning.specs.declared.request.Actual.{Actual}
use Rattle.unit_meaning.specs.declared.request.Actual.TheVariants as actual
use Rattle.unit_meaning.specs.declared.request.Assigned.{Assigned}
use Rattle.unit_meaning.specs.declared.request.Request.{Request}
use Rattle.unit_meaning.specs.declared.site.Limit.TheVariants as limit
use Rattle.unit_meaning.specs.declared.site.Refusal.{Refusal}
use Rattle.unit_meaning.specs.declared.site.Refusal.TheVariants.{Broken, NoTop, PortMismatch, Recursive, TooMany}
use Rattle.unit_meaning.specs.declared.site.Site.{Site}
use Rattle.unit_meaning.specs.Settings.{Setting}
use Rattle.unit_meaning.specs.Simultaneous.{equation_count}
use Rattle.unit_meaning.specs.Concurrent.{concurrent}
use Rattle.unit_meaning.specs.Interfaces.{first_place, generic_default, is_out, access_of, class_of, quantity_subtype}
use Rattle.unit_meaning.specs.Associations.{entity_in, architecture_in, instance_maps}
use Rattle.unit_meaning.specs.Units.{start_of, first_objects, opened, setting_of, judged_statement}

-- ---- associations by their formals

-- the formal of an association, by its place in the interface
abbrev pub formal_place : List ℕ → ℕ → Option ℕ → Option ℕ
formal_place names j (Some x) = position (nat_eq x) names
formal_place names j None = if nat_lt j (length names) then Some j else None

abbrev pub is_taken : ℕ → List (ℕ × Assigned) → Bool
is_taken i so_far = list_any (λ (entry : ℕ × Assigned). nat_eq i entry.0) so_far

-- an association of this formal beside those so far; none where it names no formal, or one a second time
abbrev pub with_match : (List (ℕ × Assigned) → Option (List (ℕ × Assigned))) → List (ℕ × Assigned) → Assigned → Option ℕ → Option (List (ℕ × Assigned))
with_match rest so_far a None = None
with_match rest so_far a (Some i) = if is_taken i so_far then None else rest (so_far ++ (i, a) ∷ [])

abbrev pub matched_from : List ℕ → ℕ → List Assigned → List (ℕ × Assigned) → Option (List (ℕ × Assigned))
matched_from names j [] so_far = Some so_far
matched_from names j (a ∷ more) so_far = with_match (matched_from names (j + 1) more) so_far a (formal_place names j a.formal)

abbrev pub matched : List ℕ → List Assigned → Option (List (ℕ × Assigned))
matched names all = matched_from names 0 all []

-- none where it is left out or open
abbrev pub closed_actual : Option Assigned → Option Assigned
closed_actual (Some a) = elim a.actual as (λ x. Option Assigned) [ actual.Open ↦ None | actual.Object x t ↦ Some a | actual.Value k v ↦ Some a ]
closed_actual None = None

abbrev pub actual_at : List (ℕ × Assigned) → ℕ → Option Assigned
actual_at given i = closed_actual (entry_of (nat_eq i) given)

-- ---- generics

-- the value of an actual belongs to the generic's subtype
abbrev pub range_notes : Option Valued → Assigned → Notes → Notes
range_notes (Some d) a n = elim a.actual as (λ x. Notes) [ actual.Value k v ↦ (if holds_known d.subtype.constraint v then n else noted a.place WrongType n) | actual.Open ↦ n | actual.Object x t ↦ n ]
range_notes None a n = n

abbrev pub kind_suits : Option Valued → Actual → Bool
kind_suits (Some d) (actual.Value k v) = same_kind d.subtype.kind k
kind_suits None (actual.Value k v) = true
kind_suits d _ = false

abbrev pub actual_value : Option Valued → Actual → Thing
actual_value (Some d) (actual.Value k v) = constant_of (record { subtype = d.subtype; value = v })
actual_value _ _ = thing.Faulty

abbrev pub default_thing : Option Valued → Thing
default_thing (Some d) = constant_of d
default_thing None = thing.Faulty

-- a generic has its actual's value, or its default; without either the associations don't fit
abbrev pub generic_entered : Option Valued → Bool → Option Assigned → Name → Book → Option Book
generic_entered d has_default (Some a) x b =
    if kind_suits d a.actual then Some (declared (actual_value d a.actual) x (with_notes (range_notes d a b.notes) b)) else None
generic_entered d true None x b = Some (declared (default_thing d) x b)
generic_entered d false None x b = None

abbrev pub if_some : {A B : Type 0} → (A → Option B) → Option A → Option B
if_some f (Some a) = f a
if_some f None = None

abbrev pub generic_names : List (ℕ × Assigned) → Option Valued → Bool → ℕ → List Name → Book → Option Book
generic_names given d has_default i [] b = Some b
generic_names given d has_default i (x ∷ more) b =
    if_some (generic_names given d has_default (i + 1) more) (generic_entered d has_default (actual_at given i) x b)

abbrev pub is_there : {A : Type 0} → Option A → Bool
is_there (Some a) = true
is_there None = false

abbrev pub generics_entered : List (List ℕ) → List (ℕ × Assigned) → ℕ → List Generic → Book → Option Book
generics_entered texts given i [] b = Some b
generics_entered texts given i (g ∷ more) b =
    let d = generic_default texts b.scope g.indication g.default b.notes in
    if_some (generics_entered texts given (i + length g.names) more)
    (generic_names given (kept d.1) (is_there g.default) i g.names (with_notes (closed (first_place g.constant g.names) d.1 d.0) b))

-- ---- ports

-- an instance while its ports are entered: what is read, and the quantities that are actuals of ports of mode out, each by the instance in which it is named
pub record Entry : Type 0 where
  pub book : Book
  pub used : List (ℕ × ℕ)

abbrev pub bound : Thing → Name → Entry → Entry
bound t x s = record s { book = declared t x s.book }

-- a signal port is its actual's signal, one of the same type
abbrev pub signal_bound : Option Mode → Option Valued → Actual → Name → Entry → Option Entry
signal_bound mode (Some d) (actual.Object y (thing.Signal i s a)) x e =
    if same_kind s.kind d.subtype.kind then Some (bound (thing.Signal i d.subtype (access_of mode)) x e) else None
signal_bound mode (Some d) (actual.Object y thing.Domain) x e =
    if not (is_out mode) && same_kind d.subtype.kind (Of (t.Enumeration 0)) then Some (bound thing.Domain x e) else None
signal_bound mode None (actual.Object y (thing.Signal i s a)) x e = Some (bound thing.Faulty x e)
signal_bound mode None (actual.Object y thing.Domain) x e = if is_out mode then None else Some (bound thing.Faulty x e)
signal_bound mode d _ x e = None

abbrev pub new_port_signal : List (List ℕ) → Option Mode → Option Valued → Name → Book → Book
new_port_signal texts mode (Some d) x b = signal_of texts (access_of mode) d x b
new_port_signal texts mode None x b = declared thing.Faulty x b

-- one that is left out is a signal of its own with its default
abbrev pub signal_entered : List (List ℕ) → Option Mode → Option Valued → Option Assigned → Name → Entry → Option Entry
signal_entered texts mode d None x e = Some (record e { book = new_port_signal texts mode d x e.book })
signal_entered texts mode d (Some a) x e = signal_bound mode d a.actual x e

abbrev pub terminal_entered : Option Assigned → Name → Entry → Option Entry
terminal_entered None x e = None
terminal_entered (Some a) x e =
    elim a.actual as (λ y. Option Entry) [ actual.Object y t ↦ terminal_bound t x e | actual.Open ↦ None | actual.Value k v ↦ None ]
  where
    terminal_bound : Thing → Name → Entry → Option Entry
    terminal_bound (thing.Terminal end m) x e = Some (bound (thing.Terminal end m) x e)
    terminal_bound _ x e = None

-- the quantities that a port of mode out may stand for
abbrev pub is_source : QuantityClass → Bool
is_source class.Free = true
is_source class.Through = true
is_source class.PortOut = true
is_source _ = false

abbrev pub is_used : ℕ → ℕ → List (ℕ × ℕ) → Bool
is_used outer q used = list_any (λ (u : ℕ × ℕ). nat_eq u.0 outer && nat_eq u.1 q) used

abbrev pub out_bound : ℕ → ℕ → QuantityClass → Name → Entry → Option Entry
out_bound outer q c x e =
    if is_source c && not (is_used outer q e.used)
    then Some (record (bound (thing.Quantity q class.PortOut) x e) { used = e.used ++ (outer, q) ∷ [] })
    else None

abbrev pub quantity_bound : ℕ → Option Mode → Thing → Name → Entry → Option Entry
quantity_bound outer mode (thing.Quantity q c) x e =
    if is_out mode then out_bound outer q c x e else Some (bound (thing.Quantity q class.PortIn) x e)
quantity_bound outer mode _ x e = None

abbrev pub quantity_entered : ℕ → Option Mode → Option Assigned → Name → Entry → Option Entry
quantity_entered outer mode None x e = None
quantity_entered outer mode (Some a) x e =
    elim a.actual as (λ y. Option Entry) [ actual.Object y t ↦ quantity_bound outer mode t x e | actual.Open ↦ None | actual.Value k v ↦ None ]

-- each name of a declaration of ports by the same rule
abbrev pub names_entered : (Option Assigned → Name → Entry → Option Entry) → List (ℕ × Assigned) → ℕ → List Name → Entry → Option Entry
names_entered rule given i [] e = Some e
names_entered rule given i (x ∷ more) e = if_some (names_entered rule given (i + 1) more) (rule (actual_at given i) x e)

abbrev pub judged_entry : {A : Type 0} → Place → Notes × Part A → Entry → Entry
judged_entry place found e = record e { book = with_notes (closed place found.1 found.0) e.book }

abbrev pub port_entered : List (List ℕ) → ℕ → List (ℕ × Assigned) → ℕ → Port → Entry → Option Entry
port_entered texts outer given i (port.Signal place names mode type x) e =
    let d = valued texts e.book.scope type x e.book.notes in
    names_entered (signal_entered texts mode (kept d.1)) given i names (judged_entry (first_place place names) d e)
port_entered texts outer given i (port.Terminal place names m) e = names_entered terminal_entered given i names (judged_entry place (nature_named m e.book) e)
port_entered texts outer given i (port.Quantity place names mode type) e =
    names_entered (quantity_entered outer mode) given i names (judged_entry place (quantity_subtype texts type e.book) e)

abbrev pub port_names : Port → List Name
port_names (port.Signal place names mode i x) = names
port_names (port.Terminal place names m) = names
port_names (port.Quantity place names mode i) = names

abbrev pub ports_entered : List (List ℕ) → ℕ → List (ℕ × Assigned) → ℕ → List Port → Entry → Option Entry
ports_entered texts outer given i [] e = Some e
ports_entered texts outer given i (p ∷ more) e =
    if_some (ports_entered texts outer given (i + length (port_names p)) more) (port_entered texts outer given i p e)

-- ---- the interface of an instance

abbrev pub numbers : List Name → List ℕ
numbers names = map (λ (x : Name). x.number) names

abbrev pub generic_numbers : List Generic → List ℕ
generic_numbers [] = []
generic_numbers (g ∷ more) = numbers g.names ++ generic_numbers more

abbrev pub port_numbers : List Port → List ℕ
port_numbers [] = []
port_numbers (p ∷ more) = numbers (port_names p) ++ port_numbers more

-- none where the associations don't fit
abbrev pub entry_of_instance : List (List ℕ) → Request → Entity → Site → Option Entry
entry_of_instance texts r e s =
    if_some (λ (generics : List (ℕ × Assigned)).
    if_some (λ (ports : List (ℕ × Assigned)).
    if_some (λ (b : Book). ports_entered texts r.outer ports 0 e.ports (record { book = b; used = s.used }))
    (generics_entered texts generics 0 e.generics (record { scope = start_of texts; notes = no_notes; objects = s.objects; path = r.path; natures = 1 })))
    (matched (port_numbers e.ports) r.ports))
    (matched (generic_numbers e.generics) r.generics)

-- ---- the two numbers of the solvability count

abbrev pub out_names : Port → ℕ
out_names (port.Quantity place names mode i) = if is_out mode then length names else 0
out_names _ = 0

abbrev pub out_count : List Port → ℕ
out_count [] = 0
out_count (p ∷ more) = out_names p + out_count more

-- free quantities and through quantities
abbrev pub own_quantities : Declaration → ℕ
own_quantities (declare.Quantity place names i x) = length names
own_quantities (declare.Across place across through plus minus) = length (names_of through)
own_quantities (declare.Through place through plus minus) = length through
own_quantities _ = 0

abbrev pub quantity_count : List Declaration → ℕ
quantity_count [] = 0
quantity_count (d ∷ more) = own_quantities d + quantity_count more

abbrev pub equations_of : List Concurrent → ℕ
equations_of [] = 0
equations_of (c ∷ more) = equation_count c.statement + equations_of more

abbrev pub instance_of : Request → Entity → Architecture → Instance
instance_of r e a = record { path = r.path; equations = equations_of a.statements; unknowns = quantity_count a.declarations + out_count e.ports }

-- what is the actual of a port of mode out isn't counted in the outer instance
abbrev pub lessened : ℕ → ℕ → List Instance → List Instance
lessened i k [] = []
lessened zero k (x ∷ more) = record x { unknowns = x.unknowns - k } ∷ more
lessened (suc i) k (x ∷ more) = x ∷ lessened i k more

abbrev pub with_instance : Request → Entity → Architecture → Objects → Objects
with_instance r e a o = record o { instances = lessened r.outer (out_count e.ports) o.instances ++ instance_of r e a ∷ [] }

-- ---- statements of an instance

-- from a request and the flat design so far to the flat design with the instance
abbrev pub Entering : Type 0
Entering = Request → Site → Result Site Refusal

abbrev pub is_process : ConcurrentStatement → Bool
is_process (conc.Process p) = true
is_process (conc.Assign x delay all last when) = true
is_process (conc.Assert a) = true
is_process (conc.Break place elements names when) = true
is_process _ = false

abbrev pub process_count : List Concurrent → ℕ
process_count [] = 0
process_count (c ∷ more) = if is_process c.statement then 1 + process_count more else process_count more

abbrev pub with_made : Made → Objects → Objects
with_made (made.Process p) o = record o { processes = o.processes ++ p ∷ [] }
with_made (made.Equation q) o = record o { equations = o.equations ++ q ∷ [] }
with_made made.Nothing o = o

-- a statement with the numbers that its dots and thresholds get by their first appearance
abbrev pub with_statement : Notes × Made → Site → Site
with_statement found s = record s { objects = with_made found.1 (record s.objects { dots = found.0.dots; thresholds = found.0.thresholds }) }

abbrev pub numbering : Site → Notes
numbering s = record { faults = []; dots = s.objects.dots; thresholds = s.objects.thresholds }

abbrev pub inner_path : List (List ℕ) → List ℕ → Name → List ℕ
inner_path texts path x = path ++ codes "." ++ text_of texts x.number

abbrev pub name_number : Option Name → Option ℕ
name_number (Some x) = Some x.number
name_number None = None

abbrev pub request_of : Setting → List DesignUnit → Scope → List ℕ → ℕ → Name → Written → Site → Request
request_of w units scope path number x i s =
    let maps = (instance_maps w.texts (start_of w.texts) units scope i (numbering s)).1 in
    record {
      path = inner_path w.texts path x;
      entity = i.entity.number;
      architecture = name_number i.architecture;
      generics = maps.0;
      ports = maps.1;
      outer = number;
    }

-- an instance whose number and path these are, and the scope of its statements
pub record Around : Type 0 where
  pub setting : Setting
  pub scope : Scope
  pub path : List ℕ
  pub number : ℕ

abbrev pub statement_walked : Entering → List DesignUnit → Around → Option Name → ConcurrentStatement → Site → Result Site Refusal
statement_walked inner units at (Some x) (conc.Instance i) s = inner (request_of at.setting units at.scope at.path at.number x i s) s
statement_walked inner units at None (conc.Instance i) s = Ok s
statement_walked inner units at label x s = Ok (with_statement (concurrent at.setting at.scope label x (numbering s)) s)

abbrev pub statements_walked : Entering → List DesignUnit → Around → List Concurrent → Site → Result Site Refusal
statements_walked inner units at [] s = Ok s
statements_walked inner units at (c ∷ more) s = statement_walked inner units at c.label c.statement s >>= statements_walked inner units at more

-- ---- entering an instance

-- the limits on what all instances so far have
abbrev pub within_limits : Site → Result Site Refusal
within_limits s =
    if nat_lt unknown_limit (length s.objects.quantities + length s.objects.nodes + length s.dots) then Err (TooMany limit.Unknowns)
    else (if nat_lt signal_limit (length s.objects.signals) then Err (TooMany limit.Signals)
    else (if nat_lt process_limit s.processes then Err (TooMany limit.Processes)
    else (if nat_lt threshold_limit (length s.thresholds) then Err (TooMany limit.Thresholds)
    else Ok s)))

abbrev pub unbroken : Option Fault → Site → Result Site Refusal
unbroken (Some f) s = Err (Broken f)
unbroken None s = Ok s

-- the own objects of an instance, and what its statements note, counted with those of the instances so far
abbrev pub counted : Request → Entity → Architecture → Entry → Book → Notes → Site → Site
counted r e a entry b n s =
    record {
      objects = with_instance r e a b.objects;
      dots = n.dots;
      thresholds = n.thresholds;
      processes = s.processes + process_count a.statements;
      used = entry.used;
    }

abbrev pub body_entered : Entering → List (List ℕ) → List DesignUnit → Request → Entity → Architecture → Entry → Site → Result Site Refusal
body_entered inner texts units r e a entry s =
    let b = opened texts a entry.book in
    let w = setting_of texts b a in
    let n =
    fold (judged_statement w (start_of texts) units b.scope)
    (record { faults = b.notes.faults; dots = s.dots; thresholds = s.thresholds }) a.statements in
    unbroken (first_fault is_of_instances n.faults) (counted r e a entry b n s)
    >>= within_limits
    >>= statements_walked inner units (record { setting = w; scope = b.scope; path = r.path; number = length s.objects.instances }) a.statements

abbrev pub interface_entered : Entering → List (List ℕ) → List DesignUnit → Request → Entity → Architecture → Option Entry → Site → Result Site Refusal
interface_entered inner texts units r e a None s = Err (PortMismatch r.path)
interface_entered inner texts units r e a (Some entry) s = body_entered inner texts units r e a entry s

-- an entity that is no part of itself, and its architecture
abbrev pub unit_entered : Entering → List (List ℕ) → List DesignUnit → List ℕ → Request → Option Entity → Option Architecture → Site → Result Site Refusal
unit_entered inner texts units above r (Some e) (Some a) s =
    if list_any (nat_eq r.entity) above then Err (Recursive r.path)
    else interface_entered inner texts units r e a (entry_of_instance texts r e s) s
unit_entered inner texts units above r _ _ s = Err (NoTop (text_of texts r.entity))

-- the tests on entering an instance come in this order: too many instances, no such unit, a part of itself, associations that don't fit, broken rules, limits
abbrev pub entered : Entering → List (List ℕ) → List DesignUnit → List ℕ → Entering
entered inner texts units above r s =
    if nat_lt (length s.objects.instances) instance_limit
    then unit_entered inner texts units above r (entity_in units r.entity) (architecture_in units r.entity r.architecture) s
    else Err (TooMany limit.Instances)

-- with at most so many instances inside one another; above are the entities round this instance
unfoldable pub enter : List (List ℕ) → List DesignUnit → ℕ → List ℕ → Entering
enter texts units zero above r s = Err (TooMany limit.Instances)
enter texts units (suc depth) above r s = entered (enter texts units depth (above ++ r.entity ∷ [])) texts units above r s

abbrev pub first_site : Site
first_site = record { objects = first_objects; dots = []; thresholds = []; processes = 0; used = [] }

abbrev pub top_request : List ℕ → ℕ → Request
top_request top x = record { path = top; entity = x; architecture = None; generics = []; ports = []; outer = instance_limit }

-- the top is an instance without associations
abbrev pub walked : List (List ℕ) → List DesignUnit → List ℕ → Option ℕ → Result Site Refusal
walked texts units top None = Err (NoTop top)
walked texts units top (Some x) = enter texts units instance_limit [] (top_request top x) first_site
