-- Reading an expression: which rules it breaks, and the expression with numbers for its names (IEEE 1076, 9).
use Rattle.std.specs.Prelude.{ℕ, Bool, true, false, ◌&&◌, List, [], ◌∷◌, ◌++◌, Option, Some, None, is_some}
use Rattle.ams_token.specs.declared.token.Place.{Place}
use Rattle.ams_tree.specs.declared.expression.Name.{Name}
use Rattle.ams_tree.specs.declared.expression.UnaryOperator.{UnaryOperator as Unary}
use Rattle.ams_tree.specs.declared.expression.UnaryOperator.TheVariants as unary
use Rattle.ams_tree.specs.declared.expression.BinaryOperator.{BinaryOperator as Binary}
use Rattle.ams_tree.specs.declared.expression.BinaryOperator.TheVariants as binary
use Rattle.ams_tree.specs.declared.expression.Attribute.{Attribute}
use Rattle.ams_tree.specs.declared.expression.Expr.{Expr}
use Rattle.ams_tree.specs.declared.expression.Attribute.TheOpen.{Expr-F, Attribute-F}
use Rattle.ams_tree.specs.declared.expression.Attribute.TheFolds.{fold-Expr, fold-Attribute}
use Rattle.ams_value.specs.declared.op.UnaryOperator.{UnaryOperator}
use Rattle.ams_value.specs.declared.op.UnaryOperator.TheVariants as op1
use Rattle.ams_value.specs.declared.op.BinaryOperator.{BinaryOperator}
use Rattle.ams_value.specs.declared.op.BinaryOperator.TheVariants as op2
use Rattle.flat_expr.specs.declared.expr.FlatExpr.TheVariants as e
use Rattle.name_scope.specs.declared.thing.Kind.{Kind}
use Rattle.name_scope.specs.declared.scope.Scope.{Scope}
use Rattle.name_scope.specs.declared.thing.Thing.{Thing}
use Rattle.name_scope.specs.Scopes.{lookup}
use Rattle.elab_meaning.specs.declared.fault.Cause.TheVariants.{WrongType}
use Rattle.elab_meaning.specs.declared.fault.Notes.{Notes}
use Rattle.elab_meaning.specs.declared.typed.Asked.{Asked}
use Rattle.elab_meaning.specs.declared.typed.Context.{Context}
use Rattle.elab_meaning.specs.declared.typed.StaticValue.{StaticValue}
use Rattle.elab_meaning.specs.declared.typed.StaticValue.TheVariants as known
use Rattle.elab_meaning.specs.declared.typed.Typed.{Typed}
use Rattle.elab_meaning.specs.Kinds.{unary_kind, binary_kind, value_type}
use Rattle.elab_meaning.specs.Notes.{Found, noted, wrong, changing}
use Rattle.elab_meaning.specs.Values.{unary_value, joined_value}
use Rattle.elab_meaning.specs.Literals.{number_at, literal_at}
use Rattle.elab_meaning.specs.Names.{named, missing, call_at, event_in, dot_at, reference_at, above_at, ramp_at}

-- ---- operators

abbrev pub prefix : Unary → UnaryOperator
prefix unary.Plus = op1.Plus
prefix unary.Minus = op1.Minus
prefix unary.Abs = op1.Abs
prefix unary.Not = op1.Not

abbrev pub infix_of : Binary → BinaryOperator
infix_of binary.And = op2.And
infix_of binary.Or = op2.Or
infix_of binary.Xor = op2.Xor
infix_of binary.Xnor = op2.Xnor
infix_of binary.Nand = op2.Nand
infix_of binary.Nor = op2.Nor
infix_of binary.Equal = op2.Equal
infix_of binary.NotEqual = op2.NotEqual
infix_of binary.Less = op2.Less
infix_of binary.LessEqual = op2.LessEqual
infix_of binary.Greater = op2.Greater
infix_of binary.GreaterEqual = op2.GreaterEqual
infix_of binary.ShiftLeftLogical = op2.Sll
infix_of binary.ShiftRightLogical = op2.Srl
infix_of binary.ShiftLeftArithmetic = op2.Sla
infix_of binary.ShiftRightArithmetic = op2.Sra
infix_of binary.RotateLeft = op2.Rol
infix_of binary.RotateRight = op2.Ror
infix_of binary.Add = op2.Add
infix_of binary.Subtract = op2.Subtract
infix_of binary.Concat = op2.Concat
infix_of binary.Multiply = op2.Multiply
infix_of binary.Divide = op2.Divide
infix_of binary.Mod = op2.Mod
infix_of binary.Rem = op2.Rem
infix_of binary.Power = op2.Power

abbrev pub prefixed : UnaryOperator → Place → Typed → Option Kind → Notes → Found
prefixed op place a None n = wrong place n
prefixed op place a (Some k) n = (n, Some (record { place = place; kind = k; expr = e.Unary op (value_type k) a.expr; value = unary_value op a.value }))

abbrev pub unary_at : UnaryOperator → Place → Option Typed → Notes → Found
unary_at op place None n = (n, None)
unary_at op place (Some a) n = prefixed op place a (unary_kind op a.kind) n

abbrev pub joined : BinaryOperator → Typed → Typed → Option Kind → Notes → Found
joined op a b None n = wrong a.place n
joined op a b (Some k) n =
    (n, Some (record { place = a.place; kind = k; expr = e.Binary op (value_type k) a.expr b.expr; value = joined_value op a.kind b.kind a.value b.value }))

-- where an operand breaks a rule, nothing is said of the whole
abbrev pub binary_at : BinaryOperator → Option Typed → Option Typed → Notes → Found
binary_at op None b n = (n, None)
binary_at op (Some a) None n = (n, None)
binary_at op (Some a) (Some b) n = joined op a b (binary_kind op a.kind b.kind) n

abbrev pub parenthesized : Place → Option Typed → Notes → Found
parenthesized place None n = (n, None)
parenthesized place (Some a) n = (n, Some (record { place = place; kind = a.kind; expr = a.expr; value = a.value }))

-- ---- values that are asked before the run

-- a fault of its evaluation is one of the expression
abbrev pub asked_value : Place → Kind → StaticValue → Notes → Notes × Option Asked
asked_value place k (known.Known v) n = (n, Some (record { kind = k; value = Some v }))
asked_value place k known.Faulty n = (noted place WrongType n, None)
asked_value place k known.Later n = (n, Some (record { kind = k; value = None }))
asked_value place k known.Changing n = (n, Some (record { kind = k; value = None }))

abbrev pub asked : Option Typed → Notes → Notes × Option Asked
asked None n = (n, None)
asked (Some t) n = asked_value t.place t.kind t.value n

abbrev pub static_in : Context → Context
static_in c = record { surrounding = c.surrounding; is_static = true }

-- ---- the whole

-- a reading of an expression in a context, from the notes so far
abbrev pub Reading : Type 0
Reading = Context → Notes → Found

-- one more argument; none where one of them breaks a rule
abbrev pub put : Option (List Typed) → Option Typed → Option (List Typed)
put (Some all) (Some a) = Some (all ++ a ∷ [])
put _ _ = None

-- expressions from the left, behind those that are read
abbrev pub arguments : Context → Option (List Typed) → List Reading → Notes → Notes × Option (List Typed)
arguments c all [] n = (n, all)
arguments c all (r ∷ more) n =
    let found = r c n in
    arguments c (put all found.1) more found.0

abbrev pub is_fine : Option Typed → Notes → Notes × Bool
is_fine found n =
    let a = asked found n in
    (a.0, is_some a.1)

-- a time of a ramp, and whether it keeps the rules
abbrev pub time_of : Context → Option Reading → Notes → Notes × Bool
time_of c None n = (n, true)
time_of c (Some r) n =
    let found = r (static_in c) n in
    is_fine found.1 found.0

-- behind the level of 'above
abbrev pub above_found : Context → Name → Option Thing → Option Typed → Notes → Found
above_found c x thing found n =
    let level = asked found n in
    above_at x thing level.1 (changing c x.place level.0)

-- one level of an attribute, behind its name
abbrev pub attribute_step : Scope → Attribute-F (Name → Reading) Reading → Name → Reading
attribute_step scope Attribute-F.Event x c n = event_in c c.surrounding x (lookup scope x.number) n
attribute_step scope Attribute-F.Dot x c n = dot_at c x (lookup scope x.number) n
attribute_step scope Attribute-F.Reference x c n = reference_at c x (lookup scope x.number) n
attribute_step scope (Attribute-F.Above r) x c n =
    let found = r (static_in c) n in
    above_found c x (lookup scope x.number) found.1 found.0
attribute_step scope (Attribute-F.Ramp rise fall) x c n =
    let a = time_of c rise n in
    let b = time_of c fall a.0 in
    ramp_at x (lookup scope x.number) (a.1 && b.1) (changing c x.place b.0)

-- one level of an expression
abbrev pub expr_step : List (List ℕ) → Scope → Expr-F (Name → Reading) Reading → Reading
expr_step texts scope (Expr-F.Number x unit) c n = number_at texts (lookup scope) x.place x.value unit n
expr_step texts scope (Expr-F.Literal x) c n = literal_at texts x.place x.value n
expr_step texts scope (Expr-F.Name x) c n = named c x (lookup scope x.number) n
expr_step texts scope (Expr-F.Call x all) c n =
    let read = arguments c (Some []) all (missing x (lookup scope x.number) n) in
    call_at c x (lookup scope x.number) read.1 read.0
expr_step texts scope (Expr-F.Attribute x a) c n = a x c n
expr_step texts scope (Expr-F.Paren place a) c n =
    let inner = a c n in
    parenthesized place inner.1 inner.0
expr_step texts scope (Expr-F.Unary op place a) c n =
    let operand = a c n in
    unary_at (prefix op) place operand.1 operand.0
expr_step texts scope (Expr-F.Binary op a b) c n =
    let left = a c n in
    let right = b c left.0 in
    binary_at (infix_of op) left.1 right.1 right.0

-- what an expression is found to be
abbrev pub expression : List (List ℕ) → Scope → Expr → Reading
expression texts scope = fold-Expr (Name → Reading) Reading (attribute_step scope) (expr_step texts scope)

abbrev pub attribute : List (List ℕ) → Scope → Attribute → Name → Reading
attribute texts scope = fold-Attribute (Name → Reading) Reading (attribute_step scope) (expr_step texts scope)

-- an expression whose value is asked before the run
abbrev pub static : List (List ℕ) → Scope → Expr → Context → Notes → Notes × Option Asked
static texts scope x c n =
    let found = expression texts scope x (static_in c) n in
    asked found.1 found.0
