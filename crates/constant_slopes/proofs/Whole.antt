-- A constant slope is the slope, by induction on the expression.
use Rattle.std.proofs.Common.{◌≡◌, pos, Some, None, Ok, refl, sym, ◌∙◌, ap, subst}
use Rattle.std.specs.Prelude.{if◌then◌else◌}
use Rattle.fix_core.specs.Units.{one}
use Rattle.flat_expr.specs.declared.expr.Unknown.{Unknown}
use Rattle.flat_expr.specs.declared.expr.FlatExpr.{FlatExpr}
use Rattle.flat_expr.specs.declared.expr.FlatExpr.TheViews.{roll-FlatExpr}
use Rattle.flat_expr.specs.declared.expr.FlatExpr.TheOpen.{FlatExpr-F}
use Rattle.flat_expr.specs.declared.expr.FlatExpr.TheFolds.{map-FlatExpr, fold-roll-FlatExpr, ind-FlatExpr}
use Rattle.design_meaning.specs.Readings.{Readings}
use Rattle.design_meaning.specs.Value.{Meaning, meaning_at, meaning_of, same_unknown}
use Rattle.constant_slopes.specs.declared.known.Known.{Known}
use Rattle.constant_slopes.specs.Constant.{known_at, known_of}
use Rattle.constant_slopes.specs.Laws.{ConstantIsTheSlope}
use Rattle.constant_slopes.proofs.Holds.{Holds, literal_holds, alone_holds, unary_holds, call_holds}
use Rattle.constant_slopes.proofs.Binary.{binary_holds}

abbrev HoldsAt : Readings → Unknown → FlatExpr → Type 0
HoldsAt r u e = Holds r u (known_of u e) (meaning_of e)

abbrev Part : Readings → Unknown → Type 0
Part r u = (e : FlatExpr) × HoldsAt r u e

lift : (r : Readings) (u : Unknown) (x : FlatExpr-F FlatExpr) → Holds r u (known_at u (map-FlatExpr FlatExpr Known (known_of u) x)) (meaning_at (map-FlatExpr FlatExpr Meaning meaning_of x)) → HoldsAt r u (roll-FlatExpr x)
lift r u x h =
    subst (λ (k : Known). Holds r u k (meaning_of (roll-FlatExpr x))) (sym (fold-roll-FlatExpr Known (known_at u) x))
    (subst (λ (m : Meaning). Holds r u (known_at u (map-FlatExpr FlatExpr Known (known_of u) x)) m) (sym (fold-roll-FlatExpr Meaning meaning_at x)) h)

step : (r : Readings) (u : Unknown) (y : FlatExpr-F (Part r u)) → HoldsAt r u (roll-FlatExpr (map-FlatExpr (Part r u) FlatExpr (λ p. p.0) y))
step r u (FlatExpr-F.Literal v) = lift r u (FlatExpr-F.Literal v) (literal_holds r u v)
step r u (FlatExpr-F.Signal s k) = lift r u (FlatExpr-F.Signal s k) (alone_holds r u (pos 0) (meaning_at (FlatExpr-F.Signal s k)) refl)
step r u (FlatExpr-F.Event s) = lift r u (FlatExpr-F.Event s) (alone_holds r u (pos 0) (meaning_at (FlatExpr-F.Event s)) refl)
step r u (FlatExpr-F.Unknown v) = lift r u (FlatExpr-F.Unknown v) (alone_holds r u (if same_unknown v u then one else pos 0) (meaning_at (FlatExpr-F.Unknown v)) refl)
step r u (FlatExpr-F.Variable n k) = lift r u (FlatExpr-F.Variable n k) (alone_holds r u (pos 0) (meaning_at (FlatExpr-F.Variable n k)) refl)
step r u FlatExpr-F.NowTime = lift r u FlatExpr-F.NowTime (alone_holds r u (pos 0) (meaning_at FlatExpr-F.NowTime) refl)
step r u FlatExpr-F.NowReal = lift r u FlatExpr-F.NowReal (alone_holds r u (pos 0) (meaning_at FlatExpr-F.NowReal) refl)
step r u (FlatExpr-F.Unary op k a) = lift r u (FlatExpr-F.Unary op k a.0) (unary_holds r u op k (known_of u a.0) (meaning_of a.0) a.1)
step r u (FlatExpr-F.Binary op k a b) = lift r u (FlatExpr-F.Binary op k a.0 b.0) (binary_holds r u op k (known_of u a.0) (known_of u b.0) (meaning_of a.0) (meaning_of b.0) a.1 b.1)
step r u (FlatExpr-F.Call f a) = lift r u (FlatExpr-F.Call f a.0) (call_holds r u f (known_of u a.0) (meaning_of a.0) a.1)
step r u (FlatExpr-F.Index a b range) =
    lift r u (FlatExpr-F.Index a.0 b.0 range) (alone_holds r u (pos 0) (meaning_at (FlatExpr-F.Index (meaning_of a.0) (meaning_of b.0) range)) refl)

holds : (r : Readings) (u : Unknown) (e : FlatExpr) → HoldsAt r u e
holds r u = ind-FlatExpr (HoldsAt r u) (λ x y is. subst (λ (z : FlatExpr-F FlatExpr). HoldsAt r u (roll-FlatExpr z)) is (step r u y))

pub constant_is_the_slope : ConstantIsTheSlope
constant_is_the_slope e u r v z is known = (holds r u e).slope v z is known
