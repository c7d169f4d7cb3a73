-- Enumeration types of expressions, step by step.
use Rattle.std.proofs.Common.{◌+◌, ◌*◌, ◌^◌, ℕ, ℤ, pos, length, Bool, true, false, if◌then◌else◌, List, [], ◌∷◌, Option, Some, None, IfSome, Result, Ok, Err}
use Rattle.std.specs.Prelude.{◌&&◌, ◌+ℤ◌, nat_eq, nat_le, nat_lt}
use Rattle.std.specs.List.{fold}
use Rattle.fix_core.specs.Fixed.{decimal_of}
use Rattle.fix_core.specs.Units.{most_ticks}
use Rattle.fix_core.specs.declared.NumFault.{NumFault}
use Rattle.ams_token.specs.declared.token.Place.{Place}
use Rattle.ams_tree.specs.declared.expression.Name.{Name}
use Rattle.ams_tree.specs.declared.expression.NumberValue.{NumberValue}
use Rattle.ams_tree.specs.declared.expression.NumberValue.TheVariants as written
use Rattle.ams_tree.specs.declared.expression.LiteralValue.{LiteralValue}
use Rattle.ams_tree.specs.declared.expression.LiteralValue.TheVariants as content
use Rattle.ams_value.specs.declared.val.Val.{Val}
use Rattle.ams_value.specs.declared.val.Val.TheVariants as val
use Rattle.ams_value.specs.declared.op.UnaryOperator.{UnaryOperator}
use Rattle.ams_value.specs.declared.op.UnaryOperator.TheVariants as op1
use Rattle.ams_value.specs.declared.op.BinaryOperator.{BinaryOperator}
use Rattle.ams_value.specs.declared.op.BinaryOperator.TheVariants as op2
use Rattle.ams_value.specs.declared.value_type.ValueType.{ValueType}
use Rattle.ams_value.specs.declared.value_type.ValueType.TheVariants.{Boolean, Bit, Integer, Real, Time, Enumeration as EnumerationType, BitVector}
use Rattle.ams_value.specs.Ranges.{most_integer, most_elements}
use Rattle.ams_value.specs.Types.{type_of, number_type, truth_type, unary_type, logical_type, order_type, equality_type, shift_type, sum_type, vector_type, concat_type, product_type, quotient_type, remainder_type, power_type, binary_type}
use Rattle.flat_expr.specs.declared.expr.Function.{Function}
use Rattle.flat_expr.specs.declared.expr.Function.TheVariants as function
use Rattle.flat_expr.specs.Expr.{kind_of_call}
use Rattle.flat_design.specs.declared.objects.Enumeration.{Enumeration}
use Rattle.flat_design.specs.declared.objects.Terminal.TheVariants as terminal
use Rattle.flat_design.specs.declared.objects.Threshold.{Threshold}
use Rattle.name_scope.specs.declared.thing.Kind.{Kind}
use Rattle.name_scope.specs.declared.thing.Kind.TheVariants.{Of, Vector}
use Rattle.name_scope.specs.declared.thing.Subtype.{Subtype}
use Rattle.name_scope.specs.declared.thing.Thing.{Thing}
use Rattle.name_scope.specs.declared.thing.Thing.TheVariants as thing
use Rattle.name_scope.specs.declared.scope.Scope.{Scope}
use Rattle.name_scope.specs.Scopes.{lookup}
use Rattle.elab_meaning.specs.declared.fault.Cause.TheVariants.{WrongType}
use Rattle.elab_meaning.specs.declared.fault.Notes.{Notes}
use Rattle.elab_meaning.specs.declared.typed.Asked.{Asked}
use Rattle.elab_meaning.specs.declared.typed.Context.{Context}
use Rattle.elab_meaning.specs.declared.typed.Scale.{Scale}
use Rattle.elab_meaning.specs.declared.typed.Surrounding.{Surrounding}
use Rattle.elab_meaning.specs.declared.typed.Surrounding.TheVariants as surrounding
use Rattle.elab_meaning.specs.declared.typed.Typed.{Typed}
use Rattle.elab_meaning.specs.Kinds.{as_kind, unary_kind, open_logical, open_equality, open_shift, open_concat, open_kind, binary_kind, is_vector, is_joined, same_kind}
use Rattle.elab_meaning.specs.Notes.{noted, text_of}
use Rattle.elab_meaning.specs.Literals.{in_range, integer_value, number_literal, rounded, ticks_at, truncated, time_literal, with_element, scale_of, scaled_at, time_at, number_at, char_literal, bits_literal, vector_literal, content_literal}
use Rattle.elab_meaning.specs.Names.{now_at, constant, named, function_at, vector_at, element_at, element_of_name, indexed, applied, call_with, call_at, event_at, no_event, event_in, dot, dot_at, reference_at, threshold, above, above_at, ramp_at}
use Rattle.elab_meaning.specs.Expressions.{prefixed, unary_at, joined, binary_at, parenthesized}
use Rattle.reading_laws.proofs.Closing.{IsClosed, reading_keeps}
use Rattle.choice_laws.specs.Choices.{CountsLiterals, CountsOf}
use Rattle.kind_laws.specs.Kinds.{ThingCounts, KindsAreCounted}

module _ (types : List Enumeration) (sizes : List ℕ) where
  abbrev Counts : Kind → Type 0
  Counts k = CountsLiterals types sizes k

  abbrev Right : Typed → Type 0
  Right t = CountsOf types sizes t

  abbrev OfValue : Val → Type 0
  OfValue v = CountsLiterals types sizes (Of (type_of v))

  -- ---- tables of operators: no result is of an enumeration type

  abbrev Fine : Option ValueType → Type 0
  Fine o = IfSome (as_kind o) Counts

  logical_fine : (s t : ValueType) → Fine (logical_type s t)
  logical_fine Boolean Boolean = tt
  logical_fine Bit Bit = tt
  logical_fine (BitVector m) (BitVector n) = go (nat_eq m n)
    where
      go : (b : Bool) → Fine (if b then Some (BitVector m) else None)
      go true = tt
      go false = tt
  logical_fine _ _ = tt

  order_fine : (s t : ValueType) → Fine (order_type s t)
  order_fine Boolean Boolean = tt
  order_fine Bit Bit = tt
  order_fine Integer Integer = tt
  order_fine Real Real = tt
  order_fine Time Time = tt
  order_fine (EnumerationType m) (EnumerationType n) = go (nat_eq m n)
    where
      go : (b : Bool) → Fine (if b then Some Boolean else None)
      go true = tt
      go false = tt
  order_fine _ _ = tt

  equality_fine : (s t : ValueType) → Fine (equality_type s t)
  equality_fine (BitVector m) (BitVector n) = tt
  equality_fine s t = order_fine s t

  vector_fine : (n : ℕ) → Fine (vector_type n)
  vector_fine n = go (nat_le n most_elements)
    where
      go : (b : Bool) → Fine (if b then Some (BitVector n) else None)
      go true = tt
      go false = tt

  concat_fine : (s t : ValueType) → Fine (concat_type s t)
  concat_fine Bit Bit = tt
  concat_fine Bit (BitVector n) = vector_fine (1 + n)
  concat_fine (BitVector m) Bit = vector_fine (m + 1)
  concat_fine (BitVector m) (BitVector n) = vector_fine (m + n)
  concat_fine _ _ = tt

  shift_fine : (s t : ValueType) → Fine (shift_type s t)
  shift_fine (BitVector n) Integer = tt
  shift_fine _ _ = tt

  sum_fine : (s t : ValueType) → Fine (sum_type s t)
  sum_fine Integer Integer = tt
  sum_fine Real Real = tt
  sum_fine Time Time = tt
  sum_fine _ _ = tt

  product_fine : (s t : ValueType) → Fine (product_type s t)
  product_fine Integer Integer = tt
  product_fine Real Real = tt
  product_fine Time Integer = tt
  product_fine Time Real = tt
  product_fine Integer Time = tt
  product_fine Real Time = tt
  product_fine _ _ = tt

  quotient_fine : (s t : ValueType) → Fine (quotient_type s t)
  quotient_fine Integer Integer = tt
  quotient_fine Real Real = tt
  quotient_fine Time Integer = tt
  quotient_fine Time Real = tt
  quotient_fine Time Time = tt
  quotient_fine _ _ = tt

  remainder_fine : (s t : ValueType) → Fine (remainder_type s t)
  remainder_fine Integer Integer = tt
  remainder_fine _ _ = tt

  power_fine : (s t : ValueType) → Fine (power_type s t)
  power_fine Integer Integer = tt
  power_fine Real Integer = tt
  power_fine _ _ = tt

  table_fine : (op : BinaryOperator) (s t : ValueType) → Fine (binary_type op s t)
  table_fine op2.And s t = logical_fine s t
  table_fine op2.Or s t = logical_fine s t
  table_fine op2.Nand s t = logical_fine s t
  table_fine op2.Nor s t = logical_fine s t
  table_fine op2.Xor s t = logical_fine s t
  table_fine op2.Xnor s t = logical_fine s t
  table_fine op2.Equal s t = equality_fine s t
  table_fine op2.NotEqual s t = equality_fine s t
  table_fine op2.Less s t = order_fine s t
  table_fine op2.LessEqual s t = order_fine s t
  table_fine op2.Greater s t = order_fine s t
  table_fine op2.GreaterEqual s t = order_fine s t
  table_fine op2.Sll s t = shift_fine s t
  table_fine op2.Srl s t = shift_fine s t
  table_fine op2.Sla s t = shift_fine s t
  table_fine op2.Sra s t = shift_fine s t
  table_fine op2.Rol s t = shift_fine s t
  table_fine op2.Ror s t = shift_fine s t
  table_fine op2.Add s t = sum_fine s t
  table_fine op2.Subtract s t = sum_fine s t
  table_fine op2.Concat s t = concat_fine s t
  table_fine op2.Multiply s t = product_fine s t
  table_fine op2.Divide s t = quotient_fine s t
  table_fine op2.Mod s t = remainder_fine s t
  table_fine op2.Rem s t = remainder_fine s t
  table_fine op2.Power s t = power_fine s t

  open_logical_fine : (s u : Kind) → IfSome (open_logical s u) Counts
  open_logical_fine Vector (Of (BitVector n)) = tt
  open_logical_fine (Of (BitVector n)) Vector = tt
  open_logical_fine Vector Vector = tt
  open_logical_fine _ _ = tt

  open_equality_fine : (s u : Kind) → IfSome (open_equality s u) Counts
  open_equality_fine s u = go (is_vector s && is_vector u)
    where
      go : (b : Bool) → IfSome (if b then Some (Of Boolean) else None) Counts
      go true = tt
      go false = tt

  open_shift_fine : (s u : Kind) → IfSome (open_shift s u) Counts
  open_shift_fine Vector (Of Integer) = tt
  open_shift_fine _ _ = tt

  open_concat_fine : (s u : Kind) → IfSome (open_concat s u) Counts
  open_concat_fine s u = go (is_joined s && is_joined u)
    where
      go : (b : Bool) → IfSome (if b then Some Vector else None) Counts
      go true = tt
      go false = tt

  open_fine : (op : BinaryOperator) (s u : Kind) → IfSome (open_kind op s u) Counts
  open_fine op2.And s u = open_logical_fine s u
  open_fine op2.Or s u = open_logical_fine s u
  open_fine op2.Nand s u = open_logical_fine s u
  open_fine op2.Nor s u = open_logical_fine s u
  open_fine op2.Xor s u = open_logical_fine s u
  open_fine op2.Xnor s u = open_logical_fine s u
  open_fine op2.Equal s u = open_equality_fine s u
  open_fine op2.NotEqual s u = open_equality_fine s u
  open_fine op2.Sll s u = open_shift_fine s u
  open_fine op2.Srl s u = open_shift_fine s u
  open_fine op2.Sla s u = open_shift_fine s u
  open_fine op2.Sra s u = open_shift_fine s u
  open_fine op2.Rol s u = open_shift_fine s u
  open_fine op2.Ror s u = open_shift_fine s u
  open_fine op2.Concat s u = open_concat_fine s u
  open_fine _ s u = tt

  binary_fine : (op : BinaryOperator) (s u : Kind) → IfSome (binary_kind op s u) Counts
  binary_fine op (Of s) (Of u) = table_fine op s u
  binary_fine op Vector u = open_fine op Vector u
  binary_fine op (Of s) Vector = open_fine op (Of s) Vector

  number_type_fine : (k : ValueType) → Fine (number_type k)
  number_type_fine Integer = tt
  number_type_fine Real = tt
  number_type_fine Time = tt
  number_type_fine _ = tt

  truth_type_fine : (k : ValueType) → Fine (truth_type k)
  truth_type_fine Boolean = tt
  truth_type_fine Bit = tt
  truth_type_fine (BitVector n) = tt
  truth_type_fine _ = tt

  unary_table : (op : UnaryOperator) (k : ValueType) → Fine (unary_type op k)
  unary_table op1.Plus k = number_type_fine k
  unary_table op1.Minus k = number_type_fine k
  unary_table op1.Abs k = number_type_fine k
  unary_table op1.Not k = truth_type_fine k

  unary_fine : (op : UnaryOperator) (k : Kind) → IfSome (unary_kind op k) Counts
  unary_fine op (Of k) = unary_table op k
  unary_fine op1.Not Vector = tt
  unary_fine _ Vector = tt

  -- ---- literals

  range_right : (place : Place) (o : Option Val) (n : Notes) → IfSome o OfValue → IfSome (in_range place o n).1 Right
  range_right place (Some v) n h = h
  range_right place None n h = tt

  unless : (b : Bool) (o : Option Val) → IfSome o OfValue → IfSome (if b then o else None) OfValue
  unless true o h = h
  unless false o h = tt

  rounded_fine : (r : Result ℤ NumFault) → IfSome (rounded r) OfValue
  rounded_fine (Ok r) = tt
  rounded_fine (Err f) = tt

  number_fine : (x : NumberValue) → IfSome (number_literal x) OfValue
  number_fine (written.Int x) = unless (nat_le (integer_value x) most_integer) (Some (val.Int (pos (integer_value x)))) tt
  number_fine (written.Real x) = unless (nat_lt x.digits (10 ^ 32)) (rounded (decimal_of x.digits x.power)) (rounded_fine (decimal_of x.digits x.power))

  ticks_fine : (m : ℕ) (p : ℤ) → IfSome (ticks_at m p) OfValue
  ticks_fine m p = unless (nat_le (truncated m p) most_ticks) (Some (val.Time (pos (truncated m p)))) tt

  time_fine : (x : NumberValue) (s : Scale) → IfSome (time_literal x s) OfValue
  time_fine (written.Int x) s = unless (nat_le (integer_value x) most_integer) (ticks_at (integer_value x * s.factor) s.power) (ticks_fine (integer_value x * s.factor) s.power)
  time_fine (written.Real x) s = unless (nat_lt x.digits (10 ^ 32)) (ticks_at (x.digits * s.factor) (x.power +ℤ s.power)) (ticks_fine (x.digits * s.factor) (x.power +ℤ s.power))

  char_fine : (c : ℕ) → IfSome (char_literal c) OfValue
  char_fine c = go (nat_lt c 48) (nat_lt c 50)
    where
      go : (a b : Bool) → IfSome (if a then None else (if b then Some (val.Bit (nat_lt 48 c)) else None)) OfValue
      go true b = tt
      go false true = tt
      go false false = tt

  bits_fine : (n : ℕ) (o : Option ℕ) → IfSome (bits_literal n o) OfValue
  bits_fine n (Some a) = tt
  bits_fine n None = tt

  vector_literal_fine : (text : List ℕ) → IfSome (vector_literal text) OfValue
  vector_literal_fine text = unless (nat_le (length text) most_elements) (bits_literal (length text) (fold with_element (Some 0) text)) (bits_fine (length text) (fold with_element (Some 0) text))

  content_fine : (texts : List (List ℕ)) (x : LiteralValue) → IfSome (content_literal texts x) OfValue
  content_fine texts (content.Char c) = char_fine c
  content_fine texts (content.Str x) = vector_literal_fine (text_of texts x)
  content_fine texts (content.Bits x) = vector_literal_fine (text_of texts x)

  scaled_right : (place : Place) (x : NumberValue) (unit : Name) (found : Option Thing) (s : Option Scale) (n : Notes) → IfSome (scaled_at place x unit found s n).1 Right
  scaled_right place x unit found (Some s) n = range_right place (time_literal x s) n (time_fine x s)
  scaled_right place x unit None None n = tt
  scaled_right place x unit (Some t) None n = tt

  time_right : (place : Place) (x : NumberValue) (v : Option Val) (unit : Name) (found : Option Thing) (s : Option Scale) (n : Notes) → IfSome (time_at place x v unit found s n).1 Right
  time_right place x (Some v) unit found s n = scaled_right place x unit found s n
  time_right place x None unit found s n = tt

  number_right : (texts : List (List ℕ)) (things : ℕ → Option Thing) (place : Place) (x : NumberValue) (unit : Option Name) (n : Notes) → IfSome (number_at texts things place x unit n).1 Right
  number_right texts things place x None n = range_right place (number_literal x) n (number_fine x)
  number_right texts things place x (Some unit) n = time_right place x (number_literal x) unit (things unit.number) (scale_of (text_of texts unit.number)) n

  -- ---- names

  constant_right : (place : Place) (k : Kind) (v : Option Val) (n : Notes) → Counts k → IfSome (constant place k v n).1 Right
  constant_right place k (Some v) n h = h
  constant_right place k None n h = h

  now_right : (c : Context) (s : Surrounding) (place : Place) (n : Notes) → IfSome (now_at c s place n).1 Right
  now_right c surrounding.Declaration place n = tt
  now_right c surrounding.Process place n = tt
  now_right c surrounding.Equation place n = tt
  now_right c surrounding.Condition place n = tt

  named_of : (c : Context) (x : Name) (t : Thing) (n : Notes) → Counts (Of (EnumerationType 0)) → ThingCounts types sizes t → IfSome (named c x (Some t) n).1 Right
  named_of c x (thing.Constant s v) n d h = constant_right x.place s.kind v n h
  named_of c x (thing.Literal v) n d h = h
  named_of c x (thing.Signal i s a) n d h = h
  named_of c x (thing.Variable i s) n d h = h
  named_of c x thing.Domain n d h = d
  named_of c x thing.Now n d h = now_right c c.surrounding x.place n
  named_of c x _ n d h = tt

  named_right : (c : Context) (x : Name) (found : Option Thing) (n : Notes) → Counts (Of (EnumerationType 0)) → IfSome found (ThingCounts types sizes) → IfSome (named c x found n).1 Right
  named_right c x (Some t) n d h = named_of c x t n d h
  named_right c x None n d h = tt

  -- ---- calls and elements

  element_right : (place : Place) (s : Subtype) (i : Typed) (v : Option Typed) (n : Notes) → IfSome (element_at place s i v n).1 Right
  element_right place s i (Some v) n = tt
  element_right place s i None n = tt

  indexed_right : (c : Context) (x : Name) (t : Thing) (s : Option Subtype) (i : Typed) (n : Notes) → IfSome (indexed c x t s i n).1 Right
  indexed_right c x t None i n = tt
  indexed_right c x t (Some s) i n = go (is_vector s.kind && same_kind i.kind (Of Integer))
    where
      go : (b : Bool) → IfSome (if b then element_of_name c x s i t n else (noted x.place WrongType n, None)).1 Right
      go true = element_right x.place s i (named c x (Some t) n).1 (named c x (Some t) n).0
      go false = tt

  called_fine : (f : Function) → Counts (Of (kind_of_call f))
  called_fine function.Integer = tt
  called_fine _ = tt

  applied_right : (c : Context) (x : Name) (t : Thing) (f : Option Function) (a : Typed) (n : Notes) → IfSome (applied c x t f a n).1 Right
  applied_right c x t (Some f) a n = called_fine f
  applied_right c x t None a n = indexed_right c x t (vector_at t) a n

  call_with_right : (c : Context) (x : Name) (t : Thing) (all : List Typed) (n : Notes) → IfSome (call_with c x t all n).1 Right
  call_with_right c x t [] n = tt
  call_with_right c x t (a ∷ []) n = applied_right c x t (function_at t a.kind) a n
  call_with_right c x t (a ∷ b ∷ more) n = tt

  call_of : (c : Context) (x : Name) (t : Thing) (all : Option (List Typed)) (n : Notes) → IfSome (call_at c x (Some t) all n).1 Right
  call_of c x thing.Faulty all n = tt
  call_of c x t None n = tt
  call_of c x t (Some all) n = call_with_right c x t all n

  call_right : (c : Context) (x : Name) (found : Option Thing) (all : Option (List Typed)) (n : Notes) → IfSome (call_at c x found all n).1 Right
  call_right c x (Some t) all n = call_of c x t all n
  call_right c x None all n = tt

  -- ---- attributes

  event_of : (c : Context) (x : Name) (t : Thing) (n : Notes) → IfSome (event_at c x (Some t) n).1 Right
  event_of c x (thing.Signal i s a) n = tt
  event_of c x thing.Domain n = tt
  event_of c x thing.Faulty n = tt
  event_of c x _ n = tt

  event_at_right : (c : Context) (x : Name) (found : Option Thing) (n : Notes) → IfSome (event_at c x found n).1 Right
  event_at_right c x (Some t) n = event_of c x t n
  event_at_right c x None n = tt

  no_event_right : (x : Name) (found : Option Thing) (n : Notes) → IfSome (no_event x found n).1 Right
  no_event_right x None n = tt
  no_event_right x (Some thing.Faulty) n = tt
  no_event_right x (Some _) n = tt

  event_right : (c : Context) (s : Surrounding) (x : Name) (found : Option Thing) (n : Notes) → IfSome (event_in c s x found n).1 Right
  event_right c surrounding.Condition x found n = no_event_right x found n
  event_right c surrounding.Declaration x found n = event_at_right c x found n
  event_right c surrounding.Process x found n = event_at_right c x found n
  event_right c surrounding.Equation x found n = event_at_right c x found n

  dot_of : (c : Context) (x : Name) (q : ℕ) (n : Notes) → IfSome (dot c x q n).1 Right
  unfolding dot
  dot_of c x q n = tt

  dot_some : (c : Context) (x : Name) (t : Thing) (n : Notes) → IfSome (dot_at c x (Some t) n).1 Right
  dot_some c x (thing.Quantity q k) n = dot_of c x q n
  dot_some c x thing.Faulty n = tt
  dot_some c x _ n = tt

  dot_right : (c : Context) (x : Name) (found : Option Thing) (n : Notes) → IfSome (dot_at c x found n).1 Right
  dot_right c x (Some t) n = dot_some c x t n
  dot_right c x None n = tt

  reference_some : (c : Context) (x : Name) (t : Thing) (n : Notes) → IfSome (reference_at c x (Some t) n).1 Right
  reference_some c x (thing.Terminal (terminal.Node i) m) n = tt
  reference_some c x (thing.Terminal terminal.Reference m) n = tt
  reference_some c x thing.Faulty n = tt
  reference_some c x _ n = tt

  reference_right : (c : Context) (x : Name) (found : Option Thing) (n : Notes) → IfSome (reference_at c x found n).1 Right
  reference_right c x (Some t) n = reference_some c x t n
  reference_right c x None n = tt

  above_of : (place : Place) (h : Threshold) (n : Notes) → IfSome (above place h n).1 Right
  unfolding above
  above_of place h n = tt

  level_right : (b : Bool) (place : Place) (h : Threshold) (n : Notes) → IfSome (if b then above place h n else (noted place WrongType n, None)).1 Right
  level_right true place h n = above_of place h n
  level_right false place h n = tt

  above_some : (x : Name) (t : Thing) (level : Asked) (n : Notes) → IfSome (above_at x (Some t) (Some level) n).1 Right
  above_some x (thing.Quantity q k) level n = level_right (same_kind level.kind (Of Real)) x.place (threshold q level) n
  above_some x thing.Faulty level n = tt
  above_some x _ level n = tt

  above_none : (x : Name) (t : Thing) (n : Notes) → IfSome (above_at x (Some t) None n).1 Right
  above_none x thing.Faulty n = tt
  above_none x _ n = tt

  above_right : (x : Name) (found : Option Thing) (level : Option Asked) (n : Notes) → IfSome (above_at x found level n).1 Right
  above_right x None level n = tt
  above_right x (Some t) (Some level) n = above_some x t level n
  above_right x (Some t) None n = above_none x t n

  ramp_some : (x : Name) (t : Thing) (fine : Bool) (n : Notes) → IfSome (ramp_at x (Some t) fine n).1 Right
  ramp_some x thing.Faulty fine n = tt
  ramp_some x _ true n = tt
  ramp_some x _ false n = tt

  ramp_right : (x : Name) (found : Option Thing) (fine : Bool) (n : Notes) → IfSome (ramp_at x found fine n).1 Right
  ramp_right x (Some t) fine n = ramp_some x t fine n
  ramp_right x None fine n = tt

  -- ---- operators

  prefixed_right : (op : UnaryOperator) (place : Place) (a : Typed) (k : Option Kind) (n : Notes) → IfSome k Counts → IfSome (prefixed op place a k n).1 Right
  prefixed_right op place a (Some k) n h = h
  prefixed_right op place a None n h = tt

  unary_right : (op : UnaryOperator) (place : Place) (a : Option Typed) (n : Notes) → IfSome (unary_at op place a n).1 Right
  unary_right op place (Some a) n = prefixed_right op place a (unary_kind op a.kind) n (unary_fine op a.kind)
  unary_right op place None n = tt

  joined_right : (op : BinaryOperator) (a b : Typed) (k : Option Kind) (n : Notes) → IfSome k Counts → IfSome (joined op a b k n).1 Right
  joined_right op a b (Some k) n h = h
  joined_right op a b None n h = tt

  binary_right : (op : BinaryOperator) (a b : Option Typed) (n : Notes) → IfSome (binary_at op a b n).1 Right
  binary_right op (Some a) (Some b) n = joined_right op a b (binary_kind op a.kind b.kind) n (binary_fine op a.kind b.kind)
  binary_right op (Some a) None n = tt
  binary_right op None b n = tt

  paren_right : (place : Place) (a : Option Typed) (n : Notes) → IfSome a Right → IfSome (parenthesized place a n).1 Right
  paren_right place (Some a) n h = h
  paren_right place None n h = tt

  kinds_closed : (texts : List (List ℕ)) (scope : Scope) → Counts (Of (EnumerationType 0)) → ((name : ℕ) → IfSome (lookup scope name) (ThingCounts types sizes)) → IsClosed texts scope (λ (n : Notes). Unit {0}) Right
  kinds_closed texts scope d h =
      record {
        down = λ a b g k. tt;
        number = λ x unit n. number_right texts (lookup scope) x.place x.value unit n;
        literal = λ x n. range_right x.place (content_literal texts x.value) n (content_fine texts x.value);
        name = λ c x n. named_right c x (lookup scope x.number) n d (h x.number);
        call = λ c x all n k. call_right c x (lookup scope x.number) all n;
        event = λ c x n. event_right c c.surrounding x (lookup scope x.number) n;
        dot = λ c x n k. dot_right c x (lookup scope x.number) n;
        reference = λ c x n. reference_right c x (lookup scope x.number) n;
        above = λ x level n k. above_right x (lookup scope x.number) level n;
        ramp = λ x fine n. ramp_right x (lookup scope x.number) fine n;
        paren = λ place a n k. paren_right place a n k;
        unary = λ op place a n k. unary_right op place a n;
        binary = λ op a b n k l. binary_right op a b n;
      }

pub kinds_are_counted : KindsAreCounted
kinds_are_counted types sizes texts scope x c n d h =
    (reading_keeps texts scope (λ (n : Notes). Unit {0}) (CountsOf types sizes) (kinds_closed types sizes texts scope d h) x c n).right tt
