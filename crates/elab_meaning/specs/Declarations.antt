-- Declarations (IEEE 1076, 6; natures, terminals and quantities: IEEE 1076.1, 4.8, 6.4.2.6, 6.4.2.7).
use Rattle.std.specs.Prelude.{ℕ, ◌+◌, nat_eq, nat_le, nat_lt, ℤ, pos, Bool, true, false, ◌&&◌, ◌||◌, not, if◌then◌else◌, List, [], ◌∷◌, ◌++◌, length, map, codes, Option, Some, None}
use Rattle.std.specs.List.{fold, list_all}
use Rattle.ams_token.specs.declared.token.Place.{Place}
use Rattle.ams_tree.specs.declared.expression.Name.{Name}
use Rattle.ams_tree.specs.declared.expression.Expr.{Expr}
use Rattle.ams_tree.specs.declared.declaration.SubtypeIndication.{SubtypeIndication}
use Rattle.ams_tree.specs.declared.declaration.Declaration.{Declaration}
use Rattle.ams_tree.specs.declared.declaration.Declaration.TheVariants as declare
use Rattle.ams_value.specs.declared.val.Val.{Val}
use Rattle.ams_value.specs.declared.val.Val.TheVariants as val
use Rattle.ams_value.specs.declared.value_type.ValueType.{ValueType}
use Rattle.ams_value.specs.declared.value_type.ValueType.TheVariants as t
use Rattle.flat_expr.specs.declared.subtype.Constraint.{Constraint}
use Rattle.flat_expr.specs.declared.subtype.Constraint.TheVariants.{Whole as Unconstrained}
use Rattle.flat_design.specs.declared.objects.Objects.{Objects}
use Rattle.flat_design.specs.declared.objects.Terminal.{Terminal}
use Rattle.flat_design.specs.declared.objects.Terminal.TheVariants as terminal
use Rattle.flat_design.specs.declared.objects.QuantityKind.{QuantityKind}
use Rattle.flat_design.specs.declared.objects.QuantityKind.TheVariants as flat
use Rattle.name_scope.specs.declared.thing.Thing.{Thing}
use Rattle.name_scope.specs.declared.thing.Thing.TheVariants as thing
use Rattle.name_scope.specs.declared.thing.Kind.{Kind}
use Rattle.name_scope.specs.declared.thing.Kind.TheVariants.{Of, Vector}
use Rattle.name_scope.specs.declared.thing.Access.{Access}
use Rattle.name_scope.specs.declared.thing.Access.TheVariants.{Assignable}
use Rattle.name_scope.specs.declared.thing.QuantityClass.{QuantityClass}
use Rattle.name_scope.specs.declared.thing.QuantityClass.TheVariants as class
use Rattle.name_scope.specs.declared.thing.Subtype.{Subtype}
use Rattle.name_scope.specs.declared.thing.SubtypeConstraint.{SubtypeConstraint}
use Rattle.name_scope.specs.declared.thing.SubtypeConstraint.TheVariants as constraint
use Rattle.name_scope.specs.declared.scope.Scope.{Scope}
use Rattle.name_scope.specs.Scopes.{declared_in, lookup, with_name}
use Rattle.elab_meaning.specs.declared.fault.Cause.TheVariants.{Duplicate, NatureMismatch, WrongType}
use Rattle.elab_meaning.specs.declared.fault.Notes.{Notes}
use Rattle.elab_meaning.specs.declared.book.Book.{Book}
use Rattle.elab_meaning.specs.declared.part.Part.{Part}
use Rattle.elab_meaning.specs.declared.part.Part.TheVariants.{Kept, Wrong, Hidden}
use Rattle.elab_meaning.specs.declared.typed.Valued.{Valued}
use Rattle.elab_meaning.specs.Notes.{noted, text_of}
use Rattle.elab_meaning.specs.Kinds.{same_kind, value_type}
use Rattle.elab_meaning.specs.Parts.{kept, where_true, judged, both, closed, found_thing}
use Rattle.elab_meaning.specs.Subtypes.{subtype, valued, initial, leftmost}

-- ---- names

-- a name that its region has already
abbrev pub duplicate : Name → Option Thing → Notes → Notes
duplicate x None n = n
duplicate x (Some t) n = noted x.place (Duplicate x.number) n

abbrev pub declared : Thing → Name → Book → Book
declared t x b = record b { scope = with_name b.scope x.number t; notes = duplicate x (declared_in b.scope.inner x.number) b.notes }

abbrev pub with_notes : Notes → Book → Book
with_notes n b = record b { notes = n }

abbrev pub with_objects : Objects → Book → Book
with_objects o b = record b { objects = o }

-- several names, each of them by the same rule
abbrev pub each : (Name → Book → Book) → List Name → Book → Book
each rule names b = fold (λ now x. rule x now) b names

-- of a declaration that breaks a rule the names stand for nothing of which more is said
abbrev pub faulty : Name → Book → Book
faulty x b = declared thing.Faulty x b

abbrev pub each_of : {A : Type 0} → (A → Name → Book → Book) → Part A → List Name → Book → Book
each_of rule (Kept a) names b = each (rule a) names b
each_of rule _ names b = each faulty names b

-- the names of a declaration at this place, each by the rule where the declaration keeps the rules
abbrev pub declaring_each : {A : Type 0} → (A → Name → Book → Book) → Place → List Name → Notes × Part A → Book → Book
declaring_each rule place names found b = each_of rule found.1 names (with_notes (closed place found.1 found.0) b)

-- the path of an object: that of its instance, and its name
abbrev pub path_of : List (List ℕ) → Name → Book → List ℕ
path_of texts x b = b.path ++ codes "." ++ text_of texts x.number

-- ---- signals and constants

abbrev pub value_or_leftmost : Subtype → Option Val → Val
value_or_leftmost s (Some v) = v
value_or_leftmost s None = leftmost s

abbrev pub range_part : SubtypeConstraint → Constraint
range_part (constraint.Range c) = c
range_part _ = Unconstrained

abbrev pub with_signal : List (List ℕ) → Valued → Name → Book → Book
with_signal texts v x b =
    with_objects (record b.objects {
      signals =
          b.objects.signals
          ++ record {
            path = path_of texts x b;
            kind = value_type v.subtype.kind;
            constraint = range_part v.subtype.constraint;
            initial = value_or_leftmost v.subtype v.value;
          } ∷ [];
    }) b

abbrev pub signal_of : List (List ℕ) → Access → Valued → Name → Book → Book
signal_of texts access v x b = declared (thing.Signal (length b.objects.signals) v.subtype access) x (with_signal texts v x b)

-- where the length of a vector follows from generics, so does its value
abbrev pub constant_value : Kind → Option Val → Option Val
constant_value (Of k) v = v
constant_value Vector v = None

abbrev pub constant_of : Valued → Thing
constant_of v = thing.Constant v.subtype (constant_value v.subtype.kind v.value)

abbrev pub constant : Valued → Name → Book → Book
constant v x b = declared (constant_of v) x b

-- ---- terminals and natures

abbrev pub nature_of : Thing → Part ℕ
nature_of (thing.Nature m) = Kept m
nature_of _ = Wrong

abbrev pub nature_named : Name → Book → Notes × Part ℕ
nature_named x b =
    let found = found_thing x (lookup b.scope x.number) b.notes in
    (found.0, judged nature_of found.1)

abbrev pub node : List (List ℕ) → ℕ → Name → Book → Book
node texts m x b =
    declared (thing.Terminal (terminal.Node (length b.objects.nodes)) m) x
    (with_objects (record b.objects { nodes = b.objects.nodes ++ record { path = path_of texts x b } ∷ [] }) b)

-- a type of REAL
abbrev pub is_real : Thing → Bool
is_real (thing.Type s f) = same_kind s.kind (Of t.Real)
is_real _ = false

abbrev pub new_nature : Thing → Thing → Part Bool
new_nature across through = where_true (is_real across && is_real through) true

abbrev pub with_nature : Name → Name → Book → Book
with_nature name reference b =
    declared (thing.Terminal terminal.Reference b.natures) reference (declared (thing.Nature b.natures) name (record b { natures = b.natures + 1 }))

abbrev pub nature_of_part : Name → Name → Part Bool → Book → Book
nature_of_part name reference (Kept fine) b = with_nature name reference b
nature_of_part name reference _ b = faulty reference (faulty name b)

-- both types are of REAL
abbrev pub nature : Place → Name → Name → Name → Name → Book → Book
nature place name across through reference b =
    let a = found_thing across (lookup b.scope across.number) b.notes in
    let c = found_thing through (lookup b.scope through.number) a.0 in
    let made = both new_nature a.1 c.1 in
    nature_of_part name reference made (with_notes (closed place made c.0) b)

-- ---- quantities

abbrev pub with_quantity : List (List ℕ) → QuantityKind → ℤ → Name → Book → Book
with_quantity texts k initial x b =
    with_objects (record b.objects { quantities = b.objects.quantities ++ record { path = path_of texts x b; kind = k; initial = initial } ∷ [] }) b

abbrev pub quantity_of : List (List ℕ) → QuantityKind → QuantityClass → ℤ → Name → Book → Book
quantity_of texts k c initial x b = declared (thing.Quantity (length b.objects.quantities) c) x (with_quantity texts k initial x b)

abbrev pub initial_real : Option Val → ℤ
initial_real (Some (val.Real r)) = r
initial_real _ = pos 0

-- a free quantity is REAL; its default of 0.0 belongs to each of its subtypes
abbrev pub free_of : Subtype → Part Subtype
free_of s = where_true (same_kind s.kind (Of t.Real)) s

abbrev pub free_value : List (List ℕ) → Scope → Part Subtype → Option Expr → Notes → Notes × Part ℤ
free_value texts scope s None n = (n, judged (λ (k : Subtype). Kept (pos 0)) s)
free_value texts scope s (Some x) n =
    let v = initial texts scope s (Some x) n in
    (v.0, judged (λ (k : Valued). Kept (initial_real k.value)) v.1)

abbrev pub free_quantity : List (List ℕ) → SubtypeIndication → Option Expr → Book → Notes × Part ℤ
free_quantity texts i x b =
    let s = subtype texts b.scope i b.notes in
    free_value texts b.scope (judged free_of s.1) x s.0

-- ---- branches

-- an end of a branch, and its nature
abbrev pub terminal_of : Thing → Part (Terminal × ℕ)
terminal_of (thing.Terminal end m) = Kept (end, m)
terminal_of _ = Wrong

abbrev pub terminal_named : Name → Book → Notes → Notes × Part (Terminal × ℕ)
terminal_named x b n =
    let found = found_thing x (lookup b.scope x.number) n in
    (found.0, judged terminal_of found.1)

-- the second of two terminals has the nature of the first
abbrev pub matched : Place → ℕ → ℕ → Notes → Notes
matched place m k n = if nat_eq m k then n else noted place NatureMismatch n

abbrev pub matched_ends : Place → Part (Terminal × ℕ) → Part (Terminal × ℕ) → Notes → Notes
matched_ends place (Kept plus) (Kept minus) n = matched place plus.1 minus.1 n
matched_ends place _ _ n = n

abbrev pub ends : Terminal × ℕ → Terminal × ℕ → Part (Terminal × Terminal)
ends plus minus = Kept (plus.0, minus.0)

abbrev pub to_reference : Terminal × ℕ → Part (Terminal × Terminal)
to_reference plus = Kept (plus.0, terminal.Reference)

-- the two ends of a branch; without a second one the nature's reference
abbrev pub branch : Name → Option Name → Book → Notes × Part (Terminal × Terminal)
branch plus None b =
    let p = terminal_named plus b b.notes in
    (p.0, judged to_reference p.1)
branch plus (Some minus) b =
    let p = terminal_named plus b b.notes in
    let m = terminal_named minus b p.0 in
    (matched_ends minus.place p.1 m.1 m.0, both ends p.1 m.1)

abbrev pub across_of : List (List ℕ) → Terminal × Terminal → Name → Book → Book
across_of texts ends x b = quantity_of texts (flat.Across ends.0 ends.1) class.Across (pos 0) x b

abbrev pub through_of : List (List ℕ) → Terminal × Terminal → Name → Book → Book
through_of texts ends x b = quantity_of texts (flat.Through ends.0 ends.1) class.Through (pos 0) x b

abbrev pub names_of : Option (List Name) → List Name
names_of (Some names) = names
names_of None = []

-- the across quantities of a branch, and then its through quantities
abbrev pub branch_quantities : List (List ℕ) → Place → List Name → List Name → Notes × Part (Terminal × Terminal) → Book → Book
branch_quantities texts place across through found b =
    each_of (through_of texts) found.1 through (declaring_each (across_of texts) place across found b)

-- ---- types

-- at most 65,536 types of at most 65,536 literals, each of at most 64 bytes
abbrev pub is_enumeration : List (List ℕ) → List Name → Book → Bool
is_enumeration texts literals b =
    nat_lt (length b.objects.enumerations) 65536
    && (nat_le (length literals) 65536 && list_all (λ (x : Name). nat_le (length (text_of texts x.number)) 64) literals)

abbrev pub with_enumeration : List (List ℕ) → List Name → Book → Book
with_enumeration texts literals b =
    with_objects (record b.objects { enumerations = b.objects.enumerations ++ record { literals = map (λ (x : Name). text_of texts x.number) literals } ∷ [] }) b

abbrev pub literals_from : ℕ → ℕ → List Name → Book → Book
literals_from type position [] b = b
literals_from type position (x ∷ more) b = literals_from type (position + 1) more (declared (thing.Literal (val.Enum type position)) x b)

abbrev pub of_enumeration : ℕ → Subtype
of_enumeration type = record { kind = Of (t.Enumeration type); constraint = constraint.Range Unconstrained }

abbrev pub enumeration : List (List ℕ) → Place → Name → List Name → Book → Book
enumeration texts place name literals b =
    let type = length b.objects.enumerations in
    if is_enumeration texts literals b
    then literals_from type 0 literals (declared (thing.Type (of_enumeration type) None) name (with_enumeration texts literals b))
    else each faulty literals (faulty name (with_notes (noted place WrongType b.notes) b))

abbrev pub type_of_subtype : Subtype → Name → Book → Book
type_of_subtype s x b = declared (thing.Type s None) x b

-- ---- the whole

-- one declaration behind those that are read
abbrev pub declaration : List (List ℕ) → Book → Declaration → Book
declaration texts b (declare.Signal place names i x) = declaring_each (signal_of texts Assignable) place names (valued texts b.scope i x b.notes) b
declaration texts b (declare.Constant place names i x) = declaring_each constant place names (valued texts b.scope i (Some x) b.notes) b
declaration texts b (declare.Terminal place names m) = declaring_each (node texts) place names (nature_named m b) b
declaration texts b (declare.Quantity place names i x) = declaring_each (quantity_of texts flat.Free class.Free) place names (free_quantity texts i x b) b
declaration texts b (declare.Across place across through plus minus) = branch_quantities texts place across (names_of through) (branch plus minus b) b
declaration texts b (declare.Through place through plus minus) = branch_quantities texts place [] through (branch plus minus b) b
declaration texts b (declare.Nature place name across through reference) = nature place name across through reference b
declaration texts b (declare.Enumeration place name literals) = enumeration texts place name literals b
declaration texts b (declare.Subtype place name i) = declaring_each type_of_subtype place (name ∷ []) (subtype texts b.scope i b.notes) b

abbrev pub declarations : List (List ℕ) → List Declaration → Book → Book
declarations texts all b = fold (declaration texts) b all
