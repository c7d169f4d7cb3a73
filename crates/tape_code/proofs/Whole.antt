-- The last instruction gives the value and the slope of the expression.
use Rattle.std.proofs.Common.{◌≡◌, ◌<◌, ◌+◌, ◌-◌, ℕ, List, [], ◌∷◌, ◌++◌, length, Some, None, refl, sym, ◌∙◌, ap, subst, arith}
use Rattle.std.proofs.lemmas.List.{append-nil}
use Rattle.flat_expr.specs.declared.expr.Unknown.{Unknown}
use Rattle.flat_expr.specs.declared.expr.Unknown.TheVariants.{Quantity}
use Rattle.flat_expr.specs.declared.expr.FlatExpr.{FlatExpr}
use Rattle.flat_expr.specs.declared.expr.FlatExpr.TheViews.{roll-FlatExpr}
use Rattle.flat_expr.specs.declared.expr.FlatExpr.TheOpen.{FlatExpr-F}
use Rattle.flat_expr.specs.declared.expr.FlatExpr.TheFolds.{map-FlatExpr, fold-roll-FlatExpr, ind-FlatExpr}
use Rattle.design_meaning.specs.Readings.{Readings}
use Rattle.design_meaning.specs.Value.{Meaning, meaning_at, meaning_of}
use Rattle.tape_code.specs.declared.instruction.Instruction.{Instruction}
use Rattle.tape_code.specs.Code.{Compiled, compiled_at, compiled, code_of}
use Rattle.tape_code.specs.Laws.{LastIsTheValue, LastIsTheSlope}
use Rattle.tape_code.proofs.Sound.{Agrees}
use Rattle.tape_code.proofs.Nodes.{literal_agrees, signal_agrees, unknown_agrees, now_agrees, other_agrees, unary_agrees, binary_agrees, call_agrees}

abbrev AgreesAt : Readings → Unknown → FlatExpr → Type 0
AgreesAt r u e = Agrees r u (compiled e) (meaning_of e)

abbrev Part : Readings → Unknown → Type 0
Part r u = (e : FlatExpr) × AgreesAt r u e

lift : (r : Readings) (u : Unknown) (x : FlatExpr-F FlatExpr) → Agrees r u (compiled_at (map-FlatExpr FlatExpr Compiled compiled x)) (meaning_at (map-FlatExpr FlatExpr Meaning meaning_of x)) → AgreesAt r u (roll-FlatExpr x)
lift r u x h =
    subst (λ (c : Compiled). Agrees r u c (meaning_of (roll-FlatExpr x))) (sym (fold-roll-FlatExpr Compiled compiled_at x))
    (subst (λ (m : Meaning). Agrees r u (compiled_at (map-FlatExpr FlatExpr Compiled compiled x)) m) (sym (fold-roll-FlatExpr Meaning meaning_at x)) h)

step : (r : Readings) (u : Unknown) (y : FlatExpr-F (Part r u)) → AgreesAt r u (roll-FlatExpr (map-FlatExpr (Part r u) FlatExpr (λ p. p.0) y))
step r u (FlatExpr-F.Literal v) = lift r u (FlatExpr-F.Literal v) (literal_agrees r u v)
step r u (FlatExpr-F.Signal s k) = lift r u (FlatExpr-F.Signal s k) (signal_agrees r u s k)
step r u (FlatExpr-F.Event s) = lift r u (FlatExpr-F.Event s) (other_agrees r u (meaning_at (FlatExpr-F.Event s)))
step r u (FlatExpr-F.Unknown v) = lift r u (FlatExpr-F.Unknown v) (unknown_agrees r u v)
step r u (FlatExpr-F.Variable n k) = lift r u (FlatExpr-F.Variable n k) (other_agrees r u (meaning_at (FlatExpr-F.Variable n k)))
step r u FlatExpr-F.NowTime = lift r u FlatExpr-F.NowTime (other_agrees r u (meaning_at FlatExpr-F.NowTime))
step r u FlatExpr-F.NowReal = lift r u FlatExpr-F.NowReal (now_agrees r u)
step r u (FlatExpr-F.Unary op k a) = lift r u (FlatExpr-F.Unary op k a.0) (unary_agrees r u op k (compiled a.0) (meaning_of a.0) a.1)
step r u (FlatExpr-F.Binary op k a b) = lift r u (FlatExpr-F.Binary op k a.0 b.0) (binary_agrees r u op k (compiled a.0) (compiled b.0) (meaning_of a.0) (meaning_of b.0) a.1 b.1)
step r u (FlatExpr-F.Call f a) = lift r u (FlatExpr-F.Call f a.0) (call_agrees r u f (compiled a.0) (meaning_of a.0) a.1)
step r u (FlatExpr-F.Index a b range) = lift r u (FlatExpr-F.Index a.0 b.0 range) (other_agrees r u (meaning_at (FlatExpr-F.Index (meaning_of a.0) (meaning_of b.0) range)))

agrees : (r : Readings) (u : Unknown) (e : FlatExpr) → AgreesAt r u e
agrees r u = ind-FlatExpr (AgreesAt r u) (λ x y is. subst (λ (z : FlatExpr-F FlatExpr). AgreesAt r u (roll-FlatExpr z)) is (step r u y))

whole_stands : (code : List Instruction) → code ≡ [] ++ code ++ []
whole_stands code = sym (append-nil code)

pub last_is_the_value : LastIsTheValue
last_is_the_value e r numbers has =
    let part = agrees r (Quantity 0) e in
    part.value (code_of e) [] [] numbers (length (code_of e)) (length (code_of e) - 1) (whole_stands (code_of e)) (let s = part.some in omega arith) (let s = part.some in omega arith) has

pub last_is_the_slope : LastIsTheSlope
last_is_the_slope e r u numbers slopes has rises =
    let part = agrees r u e in
    part.slope (code_of e) [] [] numbers slopes (length (code_of e)) (length (code_of e) - 1) (whole_stands (code_of e)) (let s = part.some in omega arith) (let s = part.some in omega arith) has rises
