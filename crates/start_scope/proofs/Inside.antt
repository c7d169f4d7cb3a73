-- A new region inside a scope changes what no name stands for.
use Rattle.std.proofs.Common.{◌≡◌, ℕ, List, [], ◌∷◌, ◌++◌, Option, Some, None, IfSome, refl, sym, ap, ◌∙◌, subst}
use Rattle.name_scope.specs.declared.thing.Thing.{Thing}
use Rattle.name_scope.specs.declared.scope.Scope.{Scope}
use Rattle.name_scope.specs.Scopes.{Region, declared_in, visible, or_in, among, lookup, inside}
use Rattle.expr_types.specs.Known.{IsSoundThing, IsSoundScope}

nothing_outside : (o : Option Thing) → or_in None o ≡ o
nothing_outside (Some t) = refl
nothing_outside None = refl

grouped : (a b c : Option Thing) → or_in (or_in a b) c ≡ or_in a (or_in b c)
grouped (Some t) b c = refl
grouped None b c = nothing_outside _ ∙ refl

nothing_inside : (o : Option Thing) → or_in o None ≡ o
nothing_inside (Some t) = refl
nothing_inside None = refl

innermost : (outer : List Region) (r : Region) (q : ℕ) → among (outer ++ r ∷ []) q ≡ or_in (visible (declared_in r q)) (among outer q)
innermost [] r q = nothing_outside _ ∙ sym (nothing_inside _)
innermost (o ∷ outer) r q = ap (λ x. or_in x (visible (declared_in o q))) (innermost outer r q) ∙ grouped (visible (declared_in r q)) (among outer q) (visible (declared_in o q))

pub same_inside : (s : Scope) (q : ℕ) → lookup (inside s) q ≡ lookup s q
same_inside s q = nothing_outside _ ∙ innermost s.outer s.inner q

pub inside_sound : (s : Scope) → IsSoundScope s → IsSoundScope (inside s)
inside_sound s h q = subst (λ o. IfSome o IsSoundThing) (sym (same_inside s q)) (h q)
