-- The signals that a well-typed expression reads are signals of the design.
use Rattle.std.proofs.Common.{◌≡◌, zero, suc, arith, List, [], ◌∷◌, ◌++◌, Option, Some, None, refl, sym, ◌∙◌, subst}
use Rattle.std.specs.List.{All}
use Rattle.std.proofs.lemmas.List.Elements.{All-append, All-nil}
use Rattle.ams_value.specs.declared.op.UnaryOperator.{UnaryOperator}
use Rattle.ams_value.specs.declared.op.BinaryOperator.{BinaryOperator}
use Rattle.ams_value.specs.declared.value_type.ValueType.{ValueType}
use Rattle.ams_value.specs.declared.value_type.ValueType.TheVariants.{Integer, BitVector}
use Rattle.flat_expr.specs.declared.expr.Function.{Function}
use Rattle.flat_expr.specs.declared.expr.Function.TheVariants as function
use Rattle.flat_expr.specs.declared.expr.SignalName.{SignalName}
use Rattle.flat_expr.specs.declared.expr.FlatExpr.{FlatExpr}
use Rattle.flat_expr.specs.declared.expr.FlatExpr.TheViews.{roll-FlatExpr}
use Rattle.flat_expr.specs.declared.expr.FlatExpr.TheOpen.{FlatExpr-F}
use Rattle.flat_expr.specs.declared.expr.FlatExpr.TheFolds.{map-FlatExpr, fold-roll-FlatExpr, ind-FlatExpr}
use Rattle.unit_meaning.specs.Bare.{signals_at, signals_in}
use Rattle.design_meaning.specs.Typed as flat
use Rattle.design_meaning.specs.Typed.{HasType, typed, type_at, agreed, signal_type, event_type, unary_result, binary_result, call_type, element_type}

-- ---- what has a type has operands with types

abbrev Has : Option ValueType → Type 0
Has o = (t : ValueType) × (o ≡ Some t)

pub agreed_has : (k j : ValueType) (o : Option ValueType) → agreed k o ≡ Some j → Has o
agreed_has k j (Some t) h = (t, refl)
agreed_has k j None h = absurd (cc)

event_has : (j : ValueType) (o : Option ValueType) → event_type o ≡ Some j → Has o
event_has j (Some t) h = (t, refl)
event_has j None h = absurd (cc)

unary_has : (op : UnaryOperator) (j : ValueType) (o : Option ValueType) → unary_result op o ≡ Some j → Has o
unary_has op j (Some t) h = (t, refl)
unary_has op j None h = absurd (cc)

binary_has : (op : BinaryOperator) (j : ValueType) (a b : Option ValueType) → binary_result op a b ≡ Some j → Has a × Has b
binary_has op j (Some s) (Some t) h = ((s, refl), (t, refl))
binary_has op j (Some s) None h = absurd (cc)
binary_has op j None b h = absurd (cc)

call_none : (f : Function) (k : ValueType) → call_type f None ≡ Some k → ⊥
call_none function.Real k h = absurd (cc)
call_none function.Integer k h = absurd (cc)
call_none function.Exp k h = absurd (cc)
call_none function.Sin k h = absurd (cc)
call_none function.Cos k h = absurd (cc)
call_none function.Sqrt k h = absurd (cc)

call_has : (f : Function) (j : ValueType) (o : Option ValueType) → call_type f o ≡ Some j → Has o
call_has f j (Some t) h = (t, refl)
call_has f j None h = absurd (call_none f j h)

element_has : (j : ValueType) (a b : Option ValueType) → element_type a b ≡ Some j → Has a × Has b
element_has j (Some (BitVector n)) (Some Integer) h = ((BitVector n, refl), (Integer, refl))
element_has j _ _ h = absurd (cc)

-- ---- the induction

module _ (scope : flat.Scope) where
  -- a signal, a threshold or DOMAIN of the design
  abbrev pub Named : SignalName → Type 0
  Named s = (k : ValueType) × (signal_type scope s ≡ Some k)

  pub one_named : (s : SignalName) → Named s → All Named (s ∷ [])
  one_named s h = one s h
    where
      one : (s : SignalName) → Named s → All Named (s ∷ [])
      one s h zero d lt = h
      one s h (suc i) d lt = absurd (omega arith)

  abbrev Gives : FlatExpr → Type 0
  Gives e = (k : ValueType) → typed scope e ≡ Some k → All Named (signals_in e)

  abbrev Part : Type 0
  Part = (e : FlatExpr) × Gives e

  lift : (x : FlatExpr-F FlatExpr) (t : Option ValueType) (l : List SignalName) → typed scope (roll-FlatExpr x) ≡ t → signals_in (roll-FlatExpr x) ≡ l
      → ((k : ValueType) → t ≡ Some k → All Named l) → Gives (roll-FlatExpr x)
  lift x t l et el h k is = subst (λ (z : List SignalName). All Named z) (sym el) (h k (sym et ∙ is))

  types : (x : FlatExpr-F FlatExpr) → typed scope (roll-FlatExpr x) ≡ type_at scope (map-FlatExpr FlatExpr (Option ValueType) (typed scope) x)
  types x = fold-roll-FlatExpr (Option ValueType) (type_at scope) x

  reads : (x : FlatExpr-F FlatExpr) → signals_in (roll-FlatExpr x) ≡ signals_at (map-FlatExpr FlatExpr (List SignalName) signals_in x)
  reads x = fold-roll-FlatExpr (List SignalName) signals_at x

  two : (a b : Part) → Has (typed scope a.0) × Has (typed scope b.0) → All Named (signals_in a.0 ++ signals_in b.0)
  two a b h = All-append Named (signals_in a.0) (signals_in b.0) (a.1 h.0.0 h.0.1) (b.1 h.1.0 h.1.1)

  step : (y : FlatExpr-F Part) → Gives (roll-FlatExpr (map-FlatExpr Part FlatExpr (λ p. p.0) y))
  step (FlatExpr-F.Literal v) = lift (FlatExpr-F.Literal v) (type_at scope (FlatExpr-F.Literal v)) [] (types (FlatExpr-F.Literal v)) (reads (FlatExpr-F.Literal v)) (λ k h. All-nil Named)
  step (FlatExpr-F.Signal s t) =
      lift (FlatExpr-F.Signal s t) (agreed t (signal_type scope s)) (s ∷ []) (types (FlatExpr-F.Signal s t)) (reads (FlatExpr-F.Signal s t))
      (λ k h. one_named s (agreed_has t k (signal_type scope s) h))
  step (FlatExpr-F.Event s) =
      lift (FlatExpr-F.Event s) (event_type (signal_type scope s)) (s ∷ []) (types (FlatExpr-F.Event s)) (reads (FlatExpr-F.Event s)) (λ k h. one_named s (event_has k (signal_type scope s) h))
  step (FlatExpr-F.Unknown u) = lift (FlatExpr-F.Unknown u) (type_at scope (FlatExpr-F.Unknown u)) [] (types (FlatExpr-F.Unknown u)) (reads (FlatExpr-F.Unknown u)) (λ k h. All-nil Named)
  step (FlatExpr-F.Variable i t) =
      lift (FlatExpr-F.Variable i t) (type_at scope (FlatExpr-F.Variable i t)) [] (types (FlatExpr-F.Variable i t)) (reads (FlatExpr-F.Variable i t)) (λ k h. All-nil Named)
  step FlatExpr-F.NowTime = lift FlatExpr-F.NowTime (type_at scope FlatExpr-F.NowTime) [] (types FlatExpr-F.NowTime) (reads FlatExpr-F.NowTime) (λ k h. All-nil Named)
  step FlatExpr-F.NowReal = lift FlatExpr-F.NowReal (type_at scope FlatExpr-F.NowReal) [] (types FlatExpr-F.NowReal) (reads FlatExpr-F.NowReal) (λ k h. All-nil Named)
  step (FlatExpr-F.Unary op t a) =
      lift (FlatExpr-F.Unary op t a.0) (agreed t (unary_result op (typed scope a.0))) (signals_in a.0) (types (FlatExpr-F.Unary op t a.0)) (reads (FlatExpr-F.Unary op t a.0))
      (λ k h.
      let result = agreed_has t k (unary_result op (typed scope a.0)) h in
      let operand = unary_has op result.0 (typed scope a.0) result.1 in
      a.1 operand.0 operand.1)
  step (FlatExpr-F.Binary op t a b) =
      lift (FlatExpr-F.Binary op t a.0 b.0) (agreed t (binary_result op (typed scope a.0) (typed scope b.0))) (signals_in a.0 ++ signals_in b.0) (types (FlatExpr-F.Binary op t a.0 b.0))
      (reads (FlatExpr-F.Binary op t a.0 b.0))
      (λ k h.
      let result = agreed_has t k (binary_result op (typed scope a.0) (typed scope b.0)) h in
      two a b (binary_has op result.0 (typed scope a.0) (typed scope b.0) result.1))
  step (FlatExpr-F.Call f a) =
      lift (FlatExpr-F.Call f a.0) (call_type f (typed scope a.0)) (signals_in a.0) (types (FlatExpr-F.Call f a.0)) (reads (FlatExpr-F.Call f a.0))
      (λ k h.
      let operand = call_has f k (typed scope a.0) h in
      a.1 operand.0 operand.1)
  step (FlatExpr-F.Index a i range) =
      lift (FlatExpr-F.Index a.0 i.0 range) (element_type (typed scope a.0) (typed scope i.0)) (signals_in a.0 ++ signals_in i.0) (types (FlatExpr-F.Index a.0 i.0 range))
      (reads (FlatExpr-F.Index a.0 i.0 range)) (λ k h. two a i (element_has k (typed scope a.0) (typed scope i.0) h))

  pub signals_are_named : (e : FlatExpr) → Gives e
  signals_are_named = ind-FlatExpr Gives (λ x y is. subst (λ (z : FlatExpr-F FlatExpr). Gives (roll-FlatExpr z)) is (step y))
