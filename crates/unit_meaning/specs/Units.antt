-- The units of a file as the check of types and of natures sees them (IEEE 1076, 3 and 13).
use Rattle.std.specs.Prelude.{ℕ, nat_eq, Bool, true, false, ◌&&◌, if◌then◌else◌, List, [], ◌∷◌, ◌++◌, position, codes, ℤ, pos, Option, Some, None}
use Rattle.std.specs.List.{fold, list_any}
use Rattle.std.specs.Str.{bytes_eq}
use Rattle.ams_tree.specs.declared.expression.Name.{Name}
use Rattle.ams_tree.specs.declared.concurrent.Concurrent.{Concurrent}
use Rattle.ams_tree.specs.declared.concurrent.ConcurrentStatement.{ConcurrentStatement}
use Rattle.ams_tree.specs.declared.concurrent.ConcurrentStatement.TheVariants as conc
use Rattle.ams_tree.specs.declared.design.DesignUnit.{DesignUnit}
use Rattle.ams_tree.specs.declared.design.DesignUnit.TheVariants as unit
use Rattle.ams_tree.specs.declared.design.Entity.{Entity}
use Rattle.ams_tree.specs.declared.design.Architecture.{Architecture}
use Rattle.ams_value.specs.Ranges.{most_integer}
use Rattle.ams_value.specs.declared.val.Val.TheVariants as val
use Rattle.ams_value.specs.declared.value_type.ValueType.{ValueType}
use Rattle.ams_value.specs.declared.value_type.ValueType.TheVariants as t
use Rattle.flat_expr.specs.declared.expr.Function.{Function}
use Rattle.flat_expr.specs.declared.expr.Function.TheVariants as function
use Rattle.flat_expr.specs.declared.subtype.Constraint.{Constraint}
use Rattle.flat_expr.specs.declared.subtype.Constraint.TheVariants as range
use Rattle.flat_design.specs.Lists.{no_objects}
use Rattle.flat_design.specs.declared.objects.Objects.{Objects}
use Rattle.flat_design.specs.declared.objects.Terminal.TheVariants as terminal
use Rattle.name_scope.specs.declared.thing.Kind.TheVariants.{Of}
use Rattle.name_scope.specs.declared.thing.Subtype.{Subtype}
use Rattle.name_scope.specs.declared.thing.SubtypeConstraint.TheVariants as constraint
use Rattle.name_scope.specs.declared.thing.Thing.{Thing}
use Rattle.name_scope.specs.declared.thing.Thing.TheVariants as thing
use Rattle.name_scope.specs.declared.scope.Scope.{Scope}
use Rattle.name_scope.specs.Scopes.{Region, with_thing}
use Rattle.elab_meaning.specs.declared.book.Book.{Book}
use Rattle.elab_meaning.specs.declared.fault.Cause.{Cause}
use Rattle.elab_meaning.specs.declared.fault.Cause.TheVariants.{Unknown, WrongType, Duplicate}
use Rattle.elab_meaning.specs.declared.fault.Fault.{Fault}
use Rattle.elab_meaning.specs.declared.fault.Notes.{Notes}
use Rattle.elab_meaning.specs.Notes.{noted, no_notes, first_fault, is_of_types, is_of_natures}
use Rattle.elab_meaning.specs.Declarations.{declared, declarations, with_notes}
use Rattle.unit_meaning.specs.Settings.{Setting}
use Rattle.unit_meaning.specs.Simultaneous.{selectors_of}
use Rattle.unit_meaning.specs.Concurrent.{concurrent}
use Rattle.unit_meaning.specs.Interfaces.{interface}
use Rattle.unit_meaning.specs.Associations.{entity_in, instance_maps}

-- ---- the region round each unit (IEEE 1076, 16.3; IEEE 1076.1.1)

abbrev pub whole : ValueType → Subtype
whole k = record { kind = Of k; constraint = constraint.Range range.Whole }

-- the integers from this one on
abbrev pub from_integer : ℤ → Subtype
from_integer low = record { kind = Of t.Integer; constraint = constraint.Range (range.Integer low (pos most_integer)) }

abbrev pub predefined : List (List ℕ × Thing)
predefined =
    (codes "boolean", thing.Type (whole t.Boolean) None)
    ∷ (codes "bit", thing.Type (whole t.Bit) None)
    ∷ (codes "integer", thing.Type (whole t.Integer) (Some function.Integer))
    ∷ (codes "natural", thing.Type (from_integer (pos 0)) None)
    ∷ (codes "positive", thing.Type (from_integer (pos 1)) None)
    ∷ (codes "real", thing.Type (whole t.Real) (Some function.Real))
    ∷ (codes "voltage", thing.Type (whole t.Real) None)
    ∷ (codes "current", thing.Type (whole t.Real) None)
    ∷ (codes "time", thing.Type (whole t.Time) None)
    ∷ (codes "domain_type", thing.Type (whole (t.Enumeration 0)) None)
    ∷ (codes "bit_vector", thing.BitVector)
    ∷ (codes "false", thing.Literal (val.Bool false))
    ∷ (codes "true", thing.Literal (val.Bool true))
    ∷ (codes "exp", thing.Function function.Exp)
    ∷ (codes "sin", thing.Function function.Sin)
    ∷ (codes "cos", thing.Function function.Cos)
    ∷ (codes "sqrt", thing.Function function.Sqrt)
    ∷ (codes "math_pi", thing.Constant (whole t.Real) (Some (val.Real (pos 3141592653590))))
    ∷ (codes "math_2_pi", thing.Constant (whole t.Real) (Some (val.Real (pos 6283185307180))))
    ∷ (codes "now", thing.Now)
    ∷ (codes "domain", thing.Domain)
    ∷ (codes "electrical", thing.Nature 0)
    ∷ (codes "electrical_ref", thing.Terminal terminal.Reference 0)
    ∷ (codes "quiescent_domain", thing.Literal (val.Enum 0 0))
    ∷ (codes "time_domain", thing.Literal (val.Enum 0 1))
    ∷ (codes "frequency_domain", thing.Literal (val.Enum 0 2))
    ∷ []

-- a name that stands nowhere in the text has no number
abbrev pub with_numbered : Option ℕ → Thing → Region → Region
with_numbered (Some x) t region = with_thing region x t
with_numbered None t region = region

abbrev pub with_predefined : List (List ℕ) → Region → List ℕ × Thing → Region
with_predefined texts region p = with_numbered (position (bytes_eq p.0) texts) p.1 region

abbrev pub start_of : List (List ℕ) → Scope
start_of texts = record { outer = fold (with_predefined texts) [] predefined ∷ []; inner = [] }

-- enumeration type 0 is DOMAIN_TYPE
abbrev pub first_objects : Objects
first_objects =
    record no_objects { enumerations = record { literals = codes "quiescent_domain" ∷ codes "time_domain" ∷ codes "frequency_domain" ∷ [] } ∷ [] }

-- ---- units

-- a name behind `end` is that of the unit
abbrev pub end_name : Name → Option Name → Notes → Notes
end_name name None n = n
end_name name (Some x) n = if nat_eq name.number x.number then n else noted x.place WrongType n

abbrev pub is_entity : ℕ → DesignUnit → Bool
is_entity x (unit.Entity e) = nat_eq e.name.number x
is_entity x _ = false

abbrev pub is_architecture : ℕ → ℕ → DesignUnit → Bool
is_architecture entity x (unit.Architecture a) = nat_eq a.entity.number entity && nat_eq a.name.number x
is_architecture entity x _ = false

-- a unit of its kind and name stands before
abbrev pub repeated : Name → Bool → Notes → Notes
repeated name there n = if there then noted name.place (Duplicate name.number) n else n

abbrev pub in_region : Scope → Notes → Book → Book
in_region start n b = record b { scope = start; notes = n }

abbrev pub entity_checked : List (List ℕ) → List DesignUnit → Entity → Book → Book
entity_checked texts before e b =
    interface texts e (in_region (start_of texts) (end_name e.name e.end (repeated e.name (list_any (is_entity e.name.number) before) b.notes)) b)

-- the labels of the statements are names of the architecture
abbrev pub label : Book → Concurrent → Book
label b c = elim c.label as (λ o. Book) [ Some x ↦ declared thing.Label x b | None ↦ b ]

abbrev pub labels : List Concurrent → Book → Book
labels all b = fold label b all

abbrev pub setting_of : List (List ℕ) → Book → Architecture → Setting
setting_of texts b a = record { texts = texts; enumerations = b.objects.enumerations; selectors = selectors_of a.statements }

-- what a statement notes
abbrev pub statement_notes : Setting → Scope → List DesignUnit → Scope → Option Name → ConcurrentStatement → Notes → Notes
statement_notes w start units scope label (conc.Instance i) n = (instance_maps w.texts start units scope i n).0
statement_notes w start units scope label s n = (concurrent w scope label s n).0

abbrev pub judged_statement : Setting → Scope → List DesignUnit → Scope → Notes → Concurrent → Notes
judged_statement w start units scope n c = statement_notes w start units scope c.label c.statement n

-- the statements behind the declarations
abbrev pub judged_body : List (List ℕ) → List DesignUnit → Architecture → Book → Notes
judged_body texts units a b = fold (judged_statement (setting_of texts b a) (start_of texts) units b.scope) b.notes a.statements

abbrev pub opened : List (List ℕ) → Architecture → Book → Book
opened texts a b = labels a.statements (declarations texts a.declarations b)

abbrev pub body_checked : List (List ℕ) → List DesignUnit → Architecture → Book → Book
body_checked texts units a b =
    let inner = opened texts a b in
    with_notes (judged_body texts units a inner) inner

-- the entity of an architecture stands before it
abbrev pub of_entity : List (List ℕ) → List DesignUnit → Architecture → Option Entity → Book → Book
of_entity texts units a None b = with_notes (noted a.entity.place (Unknown a.entity.number) b.notes) b
of_entity texts units a (Some e) b = body_checked texts units a (interface texts e b)

abbrev pub architecture_checked : List (List ℕ) → List DesignUnit → List DesignUnit → Architecture → Book → Book
architecture_checked texts units before a b =
    of_entity texts units a (entity_in before a.entity.number)
    (in_region (start_of texts) (end_name a.name a.end (repeated a.name (list_any (is_architecture a.entity.number a.name.number) before) b.notes)) b)

abbrev pub unit_checked : List (List ℕ) → List DesignUnit → List DesignUnit → DesignUnit → Book → Book
unit_checked texts units before (unit.Entity e) b = entity_checked texts before e b
unit_checked texts units before (unit.Architecture a) b = architecture_checked texts units before a b
unit_checked texts units before _ b = b

abbrev pub units_checked : List (List ℕ) → List DesignUnit → List DesignUnit → List DesignUnit → Book → Book
units_checked texts units before [] b = b
units_checked texts units before (u ∷ more) b = units_checked texts units (before ++ u ∷ []) more (unit_checked texts units before u b)

abbrev pub first_book : List (List ℕ) → Book
first_book texts = record { scope = start_of texts; notes = no_notes; objects = first_objects; path = []; natures = 1 }

-- all that a file breaks
abbrev pub file_faults : List (List ℕ) → List DesignUnit → List Fault
file_faults texts units = (units_checked texts units [] units (first_book texts)).notes.faults

-- the first fault that the check of types answers, and the first that the check of natures does
abbrev pub type_fault : List (List ℕ) → List DesignUnit → Option Fault
type_fault texts units = first_fault is_of_types (file_faults texts units)

abbrev pub nature_fault : List (List ℕ) → List DesignUnit → Option Fault
nature_fault texts units = first_fault is_of_natures (file_faults texts units)
