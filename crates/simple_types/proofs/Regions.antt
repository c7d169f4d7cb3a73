-- The region of a loop's parameter.
use Rattle.std.proofs.Common.{◌≡◌, ℕ, nat_eq, Bool, true, false, cond, List, [], ◌∷◌, ◌++◌, Option, Some, None, IfSome, refl, sym, ap, ◌∙◌, subst}
use Rattle.name_scope.specs.declared.thing.Thing.{Thing}
use Rattle.name_scope.specs.declared.thing.Thing.TheVariants.{Parameter}
use Rattle.name_scope.specs.declared.scope.Scope.{Scope}
use Rattle.name_scope.specs.Scopes.{Region, declared_in, visible, or_in, among, lookup, with_name, inside}
use Rattle.expr_types.specs.Known.{IsSoundThing, IsSoundScope}

or_none : (v : Option Thing) → v ≡ or_in v None
or_none (Some t) = refl
or_none None = refl

or_or : (v o w : Option Thing) → or_in (or_in v o) w ≡ or_in v (or_in o w)
or_or (Some t) o w = refl
or_or None o w = refl

-- the innermost of the regions round a place
innermost : (outer : List Region) (inner : Region) (q : ℕ) → among (outer ++ inner ∷ []) q ≡ or_in (visible (declared_in inner q)) (among outer q)
innermost [] inner q = or_none (visible (declared_in inner q))
innermost (r ∷ outer) inner q =
    ap (λ v. or_in v (visible (declared_in r q))) (innermost outer inner q)
    ∙ or_or (visible (declared_in inner q)) (among outer q) (visible (declared_in r q))

pub parameter_sound : (s : Scope) (name p : ℕ) → IsSoundScope s → IsSoundScope (with_name (inside s) name (Parameter p))
parameter_sound s name p h q = go (nat_eq q name)
  where
    go : (b : Bool) → IfSome (or_in (visible (cond b (Some (Parameter p)) None)) (among (s.outer ++ s.inner ∷ []) q)) IsSoundThing
    go true = tt
    go false = subst (λ o. IfSome o IsSoundThing) (sym (innermost s.outer s.inner q)) (h q)
