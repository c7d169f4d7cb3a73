-- The types of operators' results (IEEE 1076, 9.2), and of values (5.2, 5.3), as far as they are known.
use Rattle.std.specs.Prelude.{nat_eq, Bool, true, false, ◌&&◌, ◌||◌, if◌then◌else◌, Option, Some, None}
use Rattle.ams_value.specs.declared.op.UnaryOperator.{UnaryOperator}
use Rattle.ams_value.specs.declared.op.UnaryOperator.TheVariants as op1
use Rattle.ams_value.specs.declared.op.BinaryOperator.{BinaryOperator}
use Rattle.ams_value.specs.declared.op.BinaryOperator.TheVariants as op2
use Rattle.ams_value.specs.declared.value_type.ValueType.{ValueType}
use Rattle.ams_value.specs.declared.value_type.ValueType.TheVariants as t
use Rattle.ams_value.specs.Types.{unary_type, binary_type}
use Rattle.name_scope.specs.declared.thing.Kind.{Kind}
use Rattle.name_scope.specs.declared.thing.Kind.TheVariants.{Of, Vector}

abbrev pub same_type : ValueType → ValueType → Bool
same_type t.Boolean t.Boolean = true
same_type t.Bit t.Bit = true
same_type t.Integer t.Integer = true
same_type t.Real t.Real = true
same_type t.Time t.Time = true
same_type (t.Enumeration m) (t.Enumeration n) = nat_eq m n
same_type (t.BitVector m) (t.BitVector n) = nat_eq m n
same_type _ _ = false

abbrev pub is_vector : Kind → Bool
is_vector Vector = true
is_vector (Of (t.BitVector n)) = true
is_vector _ = false

-- one type; a vector whose length isn't known is of the type of each vector
abbrev pub same_kind : Kind → Kind → Bool
same_kind (Of s) (Of u) = same_type s u
same_kind s u = is_vector s && is_vector u

-- the type that an expression of the flat design has; where it isn't known, the expression is only read for its rules
abbrev pub value_type : Kind → ValueType
value_type (Of k) = k
value_type Vector = t.BitVector 0

abbrev pub as_kind : Option ValueType → Option Kind
as_kind (Some k) = Some (Of k)
as_kind None = None

abbrev pub unary_kind : UnaryOperator → Kind → Option Kind
unary_kind op (Of k) = as_kind (unary_type op k)
unary_kind op1.Not Vector = Some Vector
unary_kind op Vector = None

-- ---- where the length of a vector isn't known

-- the length of the other one is that of both
abbrev pub open_logical : Kind → Kind → Option Kind
open_logical Vector (Of (t.BitVector n)) = Some (Of (t.BitVector n))
open_logical (Of (t.BitVector n)) Vector = Some (Of (t.BitVector n))
open_logical Vector Vector = Some Vector
open_logical _ _ = None

abbrev pub open_equality : Kind → Kind → Option Kind
open_equality s u = if is_vector s && is_vector u then Some (Of t.Boolean) else None

abbrev pub open_shift : Kind → Kind → Option Kind
open_shift Vector (Of t.Integer) = Some Vector
open_shift _ _ = None

abbrev pub is_joined : Kind → Bool
is_joined (Of t.Bit) = true
is_joined k = is_vector k

abbrev pub open_concat : Kind → Kind → Option Kind
open_concat s u = if is_joined s && is_joined u then Some Vector else None

abbrev pub open_kind : BinaryOperator → Kind → Kind → Option Kind
open_kind op2.And s u = open_logical s u
open_kind op2.Or s u = open_logical s u
open_kind op2.Nand s u = open_logical s u
open_kind op2.Nor s u = open_logical s u
open_kind op2.Xor s u = open_logical s u
open_kind op2.Xnor s u = open_logical s u
open_kind op2.Equal s u = open_equality s u
open_kind op2.NotEqual s u = open_equality s u
open_kind op2.Sll s u = open_shift s u
open_kind op2.Srl s u = open_shift s u
open_kind op2.Sla s u = open_shift s u
open_kind op2.Sra s u = open_shift s u
open_kind op2.Rol s u = open_shift s u
open_kind op2.Ror s u = open_shift s u
open_kind op2.Concat s u = open_concat s u
open_kind op s u = None

abbrev pub binary_kind : BinaryOperator → Kind → Kind → Option Kind
binary_kind op (Of s) (Of u) = as_kind (binary_type op s u)
binary_kind op s u = open_kind op s u
