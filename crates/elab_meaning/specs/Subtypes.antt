-- Subtypes (IEEE 1076, 6.3 and 5.3.2), and the values that declarations give.
use Rattle.std.specs.Prelude.{ℕ, ◌+◌, ◌-◌, ℤ, pos, neg_ℤ, int_lt, int_le, unsigned_abs, Bool, true, false, ◌&&◌, ◌||◌, if◌then◌else◌, List, Option, Some, None}
use Rattle.fix_core.specs.Units.{most_units, most_ticks}
use Rattle.ams_value.specs.Ranges.{most_integer, most_elements}
use Rattle.ams_token.specs.declared.token.Place.{Place}
use Rattle.ams_tree.specs.declared.expression.Expr.{Expr}
use Rattle.ams_tree.specs.declared.declaration.Bounds.{Bounds}
use Rattle.ams_tree.specs.declared.declaration.Direction.{Direction}
use Rattle.ams_tree.specs.declared.declaration.Direction.TheVariants.{To, Downto}
use Rattle.ams_tree.specs.declared.declaration.Range.{Range}
use Rattle.ams_tree.specs.declared.declaration.SubtypeIndication.{SubtypeIndication}
use Rattle.ams_value.specs.declared.val.Val.{Val}
use Rattle.ams_value.specs.declared.val.Val.TheVariants as val
use Rattle.ams_value.specs.declared.value_type.ValueType.{ValueType}
use Rattle.ams_value.specs.declared.value_type.ValueType.TheVariants as t
use Rattle.flat_expr.specs.declared.expr.Direction as flat
use Rattle.flat_expr.specs.declared.expr.Direction.TheVariants as way
use Rattle.flat_expr.specs.declared.subtype.Constraint.{Constraint}
use Rattle.flat_expr.specs.declared.subtype.Constraint.TheVariants as range
use Rattle.flat_expr.specs.Subtype.{lies_in}
use Rattle.name_scope.specs.declared.thing.Thing.{Thing}
use Rattle.name_scope.specs.declared.thing.Thing.TheVariants as thing
use Rattle.name_scope.specs.declared.thing.Kind.{Kind}
use Rattle.name_scope.specs.declared.thing.Kind.TheVariants.{Of, Vector}
use Rattle.name_scope.specs.declared.thing.Subtype.{Subtype}
use Rattle.name_scope.specs.declared.thing.SubtypeConstraint.{SubtypeConstraint}
use Rattle.name_scope.specs.declared.thing.SubtypeConstraint.TheVariants as constraint
use Rattle.name_scope.specs.declared.scope.Scope.{Scope}
use Rattle.name_scope.specs.Scopes.{lookup}
use Rattle.elab_meaning.specs.declared.fault.Notes.{Notes}
use Rattle.elab_meaning.specs.declared.part.Part.{Part}
use Rattle.elab_meaning.specs.declared.part.Part.TheVariants.{Kept, Wrong, Hidden}
use Rattle.elab_meaning.specs.declared.typed.Asked.{Asked}
use Rattle.elab_meaning.specs.declared.typed.Valued.{Valued}
use Rattle.elab_meaning.specs.declared.typed.Context.{Context}
use Rattle.elab_meaning.specs.declared.typed.Surrounding.TheVariants as surrounding
use Rattle.elab_meaning.specs.Kinds.{same_kind}
use Rattle.elab_meaning.specs.Parts.{part_of, where_true, judged, both, found_thing}
use Rattle.elab_meaning.specs.Expressions.{static}

abbrev pub declaring : Context
declaring = record { surrounding = surrounding.Declaration; is_static = true }

-- an expression of a declaration whose value is asked before the run
abbrev pub static_part : List (List ℕ) → Scope → Expr → Notes → Notes × Part Asked
static_part texts scope x n =
    let found = static texts scope x declaring n in
    (found.0, part_of found.1)

-- ---- which values a subtype has

abbrev pub holds : SubtypeConstraint → Val → Bool
holds (constraint.Range c) v = lies_in c v
holds _ v = true

-- a value belongs to the subtype, as far as both are known
abbrev pub holds_known : SubtypeConstraint → Option Val → Bool
holds_known c (Some v) = holds c v
holds_known c None = true

-- it may be given to a name of the subtype
abbrev pub suits : Subtype → Asked → Bool
suits s a = same_kind s.kind a.kind && holds_known s.constraint a.value

-- ---- vectors

-- a bound of an index: an INTEGER from 0 to 63
abbrev pub bound_value : Option Val → Part (Option ℕ)
bound_value (Some (val.Int i)) = where_true (int_le (pos 0) i && int_lt i (pos most_elements)) (Some (unsigned_abs i))
bound_value (Some v) = Wrong
bound_value None = Kept None

abbrev pub index_bound : Asked → Part (Option ℕ)
index_bound a = if same_kind a.kind (Of t.Integer) then bound_value a.value else Wrong

abbrev pub direction_of : Direction → flat.Direction
direction_of To = way.To
direction_of Downto = way.Downto

-- how many elements a range has; a null range has none
abbrev pub length_of : ℕ → Direction → ℕ → ℕ
length_of left To right = right + 1 - left
length_of left Downto right = left + 1 - right

abbrev pub vector_of : Direction → Option ℕ → Option ℕ → Subtype
vector_of d (Some left) (Some right) =
    record { kind = Of (t.BitVector (length_of left d right)); constraint = constraint.Index (record { left = left; direction = direction_of d }) }
vector_of d _ _ = record { kind = Vector; constraint = constraint.Later }

abbrev pub bounded : Direction → Asked → Asked → Part Subtype
bounded d a b = both (λ left right. Kept (vector_of d left right)) (index_bound a) (index_bound b)

abbrev pub given_index : Subtype → Part (Option Subtype)
given_index s = Kept (Some s)

abbrev pub indexed : Direction → Asked → Asked → Part (Option Subtype)
indexed d a b = judged given_index (bounded d a b)

abbrev pub ranged_index : Direction → Part Asked → Part Asked → Part (Option Subtype)
ranged_index d left right = both (indexed d) left right

-- the range of an index, where it is written, as the subtype of BIT_VECTOR with it
abbrev pub index_subtype : List (List ℕ) → Scope → Option Range → Notes → Notes × Part (Option Subtype)
index_subtype texts scope None n = (n, Kept None)
index_subtype texts scope (Some r) n =
    let left = static_part texts scope r.left n in
    let right = static_part texts scope r.right left.0 in
    (right.0, ranged_index r.direction left.1 right.1)

-- the subtype of a mark: BIT_VECTOR alone has the range of an index, and must have it
abbrev pub marked : Thing → Option Subtype → Part Subtype
marked thing.BitVector (Some s) = Kept s
marked (thing.Type s f) None = Kept s
marked _ _ = Wrong

-- ---- ranges of values

abbrev pub is_ranged : Kind → Bool
is_ranged (Of t.Integer) = true
is_ranged (Of t.Real) = true
is_ranged _ = false

-- the bounds belong to the subtype that is narrowed, unless the range is empty
abbrev pub ranged : Subtype → Bool → Val → Val → Constraint → Part Subtype
ranged s is_empty low high c =
    where_true (is_empty || (holds s.constraint low && holds s.constraint high)) (record { kind = s.kind; constraint = constraint.Range c })

abbrev pub range_of : Subtype → Option Val → Option Val → Part Subtype
range_of s (Some (val.Int a)) (Some (val.Int b)) = ranged s (int_lt b a) (val.Int a) (val.Int b) (range.Integer a b)
range_of s (Some (val.Real a)) (Some (val.Real b)) = ranged s (int_lt b a) (val.Real a) (val.Real b) (range.Real a b)
range_of s _ _ = Kept (record { kind = s.kind; constraint = constraint.Later })

abbrev pub narrowed : Subtype → Asked → Asked → Part Subtype
narrowed s a b = if is_ranged s.kind && same_kind a.kind s.kind && same_kind b.kind s.kind then range_of s a.value b.value else Wrong

abbrev pub wrong_beside : Asked → Asked → Part Subtype
wrong_beside a b = Wrong

abbrev pub narrowed_by : Part Subtype → Part Asked → Part Asked → Part Subtype
narrowed_by (Kept s) a b = both (narrowed s) a b
narrowed_by Wrong a b = both wrong_beside a b
narrowed_by Hidden a b = Hidden

abbrev pub in_bounds : List (List ℕ) → Scope → Option Bounds → Part Subtype → Notes → Notes × Part Subtype
in_bounds texts scope None s n = (n, s)
in_bounds texts scope (Some r) s n =
    let low = static_part texts scope r.low n in
    let high = static_part texts scope r.high low.0 in
    (high.0, narrowed_by s low.1 high.1)

-- what a subtype indication is found to be
abbrev pub subtype : List (List ℕ) → Scope → SubtypeIndication → Notes → Notes × Part Subtype
subtype texts scope i n =
    let mark = found_thing i.mark (lookup scope i.mark.number) n in
    let index = index_subtype texts scope i.index mark.0 in
    in_bounds texts scope i.bounds (both marked mark.1 index.1) index.0

-- ---- values of declarations

abbrev pub first_integer : SubtypeConstraint → ℤ
first_integer (constraint.Range (range.Integer low high)) = low
first_integer _ = neg_ℤ (pos most_integer)

abbrev pub first_real : SubtypeConstraint → ℤ
first_real (constraint.Range (range.Real low high)) = low
first_real _ = neg_ℤ (pos most_units)

abbrev pub first_of_type : SubtypeConstraint → ValueType → Val
first_of_type c t.Boolean = val.Bool false
first_of_type c t.Bit = val.Bit false
first_of_type c t.Integer = val.Int (first_integer c)
first_of_type c t.Real = val.Real (first_real c)
first_of_type c t.Time = val.Time (neg_ℤ (pos most_ticks))
first_of_type c (t.Enumeration n) = val.Enum n 0
first_of_type c (t.BitVector n) = val.Bits n 0

abbrev pub leftmost_of : Kind → SubtypeConstraint → Val
leftmost_of (Of k) c = first_of_type c k
leftmost_of Vector c = val.Bits 0 0

-- the leftmost value of the subtype; of a vector, each element's
abbrev pub leftmost : Subtype → Val
leftmost s = leftmost_of s.kind s.constraint

-- the value that is written
abbrev pub written : Subtype → Asked → Part Valued
written s a = where_true (suits s a) (record { subtype = s; value = a.value })

-- where none is written, the leftmost one, which the subtype must have
abbrev pub default : Subtype → Part Valued
default s = where_true (holds s.constraint (leftmost s)) (record { subtype = s; value = Some (leftmost s) })

-- a subtype and the value that is written, or the leftmost one
abbrev pub initial : List (List ℕ) → Scope → Part Subtype → Option Expr → Notes → Notes × Part Valued
initial texts scope s None n = (n, judged default s)
initial texts scope s (Some x) n =
    let value = static_part texts scope x n in
    (value.0, both written s value.1)

-- a subtype and its value as a declaration writes them
abbrev pub valued : List (List ℕ) → Scope → SubtypeIndication → Option Expr → Notes → Notes × Part Valued
valued texts scope i x n =
    let s = subtype texts scope i n in
    initial texts scope s.1 x s.0
