-- Literals (IEEE 1076, 9.3.2), and times with their units (5.2.4).
use Rattle.std.specs.Prelude.{ℕ, ◌+◌, ◌*◌, ◌/◌, ◌^◌, nat_eq, nat_lt, nat_le, ℤ, pos, negsuc, int_lt, unsigned_abs, ◌+ℤ◌, Bool, if◌then◌else◌, List, [], ◌∷◌, length, codes, Option, Some, None, Result, Ok, Err}
use Rattle.std.specs.List.{fold}
use Rattle.std.specs.Str.{bytes_eq}
use Rattle.fix_core.specs.Fixed.{decimal_of}
use Rattle.fix_core.specs.Units.{most_ticks}
use Rattle.ams_value.specs.Ranges.{most_integer, most_elements}
use Rattle.fix_core.specs.declared.NumFault.{NumFault}
use Rattle.ams_token.specs.declared.token.Place.{Place}
use Rattle.ams_token.specs.declared.token.Integer.{Integer}
use Rattle.ams_token.specs.declared.token.Decimal.{Decimal}
use Rattle.ams_tree.specs.declared.expression.Name.{Name}
use Rattle.ams_tree.specs.declared.expression.NumberValue.{NumberValue}
use Rattle.ams_tree.specs.declared.expression.NumberValue.TheVariants as written
use Rattle.ams_tree.specs.declared.expression.LiteralValue.{LiteralValue}
use Rattle.ams_tree.specs.declared.expression.LiteralValue.TheVariants as content
use Rattle.ams_value.specs.declared.val.Val.{Val}
use Rattle.ams_value.specs.declared.val.Val.TheVariants as val
use Rattle.ams_value.specs.declared.value_type.ValueType.{ValueType}
use Rattle.ams_value.specs.Types.{type_of}
use Rattle.flat_expr.specs.declared.expr.FlatExpr.TheVariants as e
use Rattle.name_scope.specs.declared.thing.Thing.{Thing}
use Rattle.name_scope.specs.declared.thing.Kind.TheVariants.{Of}
use Rattle.elab_meaning.specs.declared.fault.Cause.TheVariants.{Unknown}
use Rattle.elab_meaning.specs.declared.fault.Notes.{Notes}
use Rattle.elab_meaning.specs.declared.typed.Scale.{Scale}
use Rattle.elab_meaning.specs.declared.typed.StaticValue.TheVariants.{Known}
use Rattle.elab_meaning.specs.Notes.{Found, noted, wrong, text_of}

abbrev pub literal : Place → Val → Notes → Found
literal place v n = (n, Some (record { place = place; kind = Of (type_of v); expr = e.Literal v; value = Known v }))

-- a literal, or none where it is out of the range of its type
abbrev pub in_range : Place → Option Val → Notes → Found
in_range place (Some v) n = literal place v n
in_range place None n = wrong place n

-- ---- numbers

abbrev pub integer_value : Integer → ℕ
integer_value x = x.digits * x.base ^ x.exponent

abbrev pub integer_literal : Integer → Option Val
integer_literal x = if nat_le (integer_value x) most_integer then Some (val.Int (pos (integer_value x))) else None

abbrev pub rounded : Result ℤ NumFault → Option Val
rounded (Ok r) = Some (val.Real r)
rounded (Err f) = None

abbrev pub real_literal : Decimal → Option Val
real_literal x = if nat_lt x.digits (10 ^ 32) then rounded (decimal_of x.digits x.power) else None

abbrev pub number_literal : NumberValue → Option Val
number_literal (written.Int x) = integer_literal x
number_literal (written.Real x) = real_literal x

-- ---- times

abbrev pub scale_of : List ℕ → Option Scale
scale_of text =
    if bytes_eq text (codes "fs") then Some (record { factor = 1; power = negsuc 2 })
    else (if bytes_eq text (codes "ps") then Some (record { factor = 1; power = pos 0 })
    else (if bytes_eq text (codes "ns") then Some (record { factor = 1; power = pos 3 })
    else (if bytes_eq text (codes "us") then Some (record { factor = 1; power = pos 6 })
    else (if bytes_eq text (codes "ms") then Some (record { factor = 1; power = pos 9 })
    else (if bytes_eq text (codes "sec") then Some (record { factor = 1; power = pos 12 })
    else (if bytes_eq text (codes "min") then Some (record { factor = 6; power = pos 13 })
    else (if bytes_eq text (codes "hr") then Some (record { factor = 36; power = pos 14 })
    else None)))))))

-- m * 10 ^ p, without what stands behind the point
abbrev pub truncated : ℕ → ℤ → ℕ
truncated m p = if int_lt p (pos 0) then m / 10 ^ unsigned_abs p else m * 10 ^ unsigned_abs p

abbrev pub ticks_at : ℕ → ℤ → Option Val
ticks_at m p = if nat_le (truncated m p) most_ticks then Some (val.Time (pos (truncated m p))) else None

-- the exact product of what is written and the unit
abbrev pub time_literal : NumberValue → Scale → Option Val
time_literal (written.Int x) s = if nat_le (integer_value x) most_integer then ticks_at (integer_value x * s.factor) s.power else None
time_literal (written.Real x) s = if nat_lt x.digits (10 ^ 32) then ticks_at (x.digits * s.factor) (x.power +ℤ s.power) else None

-- behind a number a name that is no unit
abbrev pub no_unit : Place → Name → Option Thing → Notes → Found
no_unit place x None n = (noted x.place (Unknown x.number) n, None)
no_unit place x (Some t) n = wrong place n

abbrev pub scaled_at : Place → NumberValue → Name → Option Thing → Option Scale → Notes → Found
scaled_at place x unit thing (Some s) n = in_range place (time_literal x s) n
scaled_at place x unit thing None n = no_unit place unit thing n

-- a number before a unit is in the range of its own type too
abbrev pub time_at : Place → NumberValue → Option Val → Name → Option Thing → Option Scale → Notes → Found
time_at place x None unit thing scale n = wrong place n
time_at place x (Some v) unit thing scale n = scaled_at place x unit thing scale n

abbrev pub number_at : List (List ℕ) → (ℕ → Option Thing) → Place → NumberValue → Option Name → Notes → Found
number_at texts things place x None n = in_range place (number_literal x) n
number_at texts things place x (Some unit) n = time_at place x (number_literal x) unit (things unit.number) (scale_of (text_of texts unit.number)) n

-- ---- characters and strings

abbrev pub char_literal : ℕ → Option Val
char_literal c = if nat_lt c 48 then None else (if nat_lt c 50 then Some (val.Bit (nat_lt 48 c)) else None)

-- a content with one more element behind it
abbrev pub with_element : Option ℕ → ℕ → Option ℕ
with_element (Some a) c = if nat_eq c 48 then Some (2 * a) else (if nat_eq c 49 then Some (2 * a + 1) else None)
with_element None c = None

abbrev pub bits_literal : ℕ → Option ℕ → Option Val
bits_literal n (Some a) = Some (val.Bits n a)
bits_literal n None = None

-- at most as many characters as a vector has elements, each '0' and '1'
abbrev pub vector_literal : List ℕ → Option Val
vector_literal text = if nat_le (length text) most_elements then bits_literal (length text) (fold with_element (Some 0) text) else None

abbrev pub content_literal : List (List ℕ) → LiteralValue → Option Val
content_literal texts (content.Char c) = char_literal c
content_literal texts (content.Str x) = vector_literal (text_of texts x)
content_literal texts (content.Bits x) = vector_literal (text_of texts x)

abbrev pub literal_at : List (List ℕ) → Place → LiteralValue → Notes → Found
literal_at texts place x n = in_range place (content_literal texts x) n
