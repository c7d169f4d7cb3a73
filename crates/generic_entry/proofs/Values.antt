-- The value of a suitable actual is one of the generic's type.
use Rattle.std.proofs.Common.{◌≡◌, true, Option, Some, None, IfSome, refl, sym, subst, arith}
use Rattle.std.proofs.lemmas.Bool.Decides.{nat_tests}
use Rattle.ams_value.specs.declared.val.Val.{Val}
use Rattle.ams_value.specs.declared.value_type.ValueType.{ValueType}
use Rattle.ams_value.specs.declared.value_type.ValueType.TheVariants as t
use Rattle.name_scope.specs.declared.thing.Kind.{Kind}
use Rattle.name_scope.specs.declared.thing.Kind.TheVariants.{Of, Vector}
use Rattle.name_scope.specs.declared.thing.Subtype.{Subtype}
use Rattle.elab_meaning.specs.Kinds.{same_type, same_kind}
use Rattle.elab_meaning.specs.Declarations.{constant_value}
use Rattle.expr_types.specs.Known.{IsKind}
use Rattle.subtype_types.specs.Sound.{IsSoundValued}

same_is : (s u : ValueType) → same_type s u ≡ true → s ≡ u
same_is t.Boolean t.Boolean e = refl
same_is t.Bit t.Bit e = refl
same_is t.Integer t.Integer e = refl
same_is t.Real t.Real e = refl
same_is t.Time t.Time e = refl
same_is (t.Enumeration m) (t.Enumeration n) e = grind (arith, nat_tests)
same_is (t.BitVector m) (t.BitVector n) e = grind (arith, nat_tests)
same_is _ _ e = cc

known_sound : (k a : Kind) (v : Option Val) → same_kind k a ≡ true → IfSome v (IsKind a) → IfSome (constant_value k v) (IsKind k)
known_sound (Of s) (Of u) None e h = tt
known_sound (Of s) (Of u) (Some v) e h = subst (λ x. IsKind (Of x) v) (sym (same_is s u e)) h
known_sound (Of s) Vector None e h = tt
known_sound (Of s) Vector (Some v) e h = absurd h
known_sound Vector a v e h = tt

pub given_sound : (s : Subtype) (a : Kind) (v : Option Val) → same_kind s.kind a ≡ true → IfSome v (IsKind a) → IsSoundValued (record { subtype = s; value = v })
given_sound s a v e h = known_sound s.kind a v e h
