-- What a rule of things says of the names of a scope.
use Rattle.std.proofs.Common.{◌≡◌, ℕ, Bool, true, false, cond, List, [], ◌∷◌, ◌++◌, Option, Some, None, IfSome, refl, ap, sym, subst, ◌∙◌}
use Rattle.std.specs.Prelude.{nat_eq}
use Rattle.name_scope.specs.declared.thing.Thing.{Thing}
use Rattle.name_scope.specs.declared.thing.Thing.TheVariants as thing
use Rattle.name_scope.specs.declared.scope.Scope.{Scope}
use Rattle.name_scope.specs.Scopes.{Region, declared_in, unless_there, with_thing, visible, or_in, among, lookup, with_name, inside}

-- ---- one more name

module _ (P : Option Thing → Type 0) where
  behind : (region : Region) (name : ℕ) (t : Thing) (x : ℕ) → P (declared_in region x) → (P None → P (Some t)) → P (declared_in (region ++ (name, t) ∷ []) x)
  behind [] name t x h more = go (nat_eq x name)
    where
      go : (b : Bool) → P (cond b (Some t) None)
      go true = more h
      go false = h
  behind (e ∷ region) name t x h more = go (nat_eq x e.0) h (λ k. behind region name t x k more)
    where
      go : (b : Bool) → P (cond b (Some e.1) (declared_in region x)) → (P (declared_in region x) → P (declared_in (region ++ (name, t) ∷ []) x))
          → P (cond b (Some e.1) (declared_in (region ++ (name, t) ∷ []) x))
      go true k rest = k
      go false k rest = rest k

  pub with_one : (region : Region) (name : ℕ) (t : Thing) (x : ℕ) → P (declared_in region x) → (P None → P (Some t)) → P (declared_in (with_thing region name t) x)
  with_one region name t x h more = go (declared_in region name)
    where
      go : (o : Option Thing) → P (declared_in (unless_there o region name t) x)
      go (Some y) = h
      go None = behind region name t x h more

module _ (R : Thing → Type 0) where
  abbrev Sees : Option Thing → Option Thing → Type 0
  Sees outer found = IfSome (or_in (visible found) outer) R

  newly : (outer : Option Thing) (t : Thing) → R t → Sees outer None → Sees outer (Some t)
  newly outer thing.Label h k = k
  newly outer _ h k = h

  -- a scope with one more name
  pub named_holds : (scope : Scope) (name : ℕ) (t : Thing) → ((x : ℕ) → IfSome (lookup scope x) R) → R t → (x : ℕ) → IfSome (lookup (with_name scope name t) x) R
  named_holds scope name t h g x = with_one (Sees (among scope.outer x)) scope.inner name t x (h x) (newly (among scope.outer x) t g)

-- ---- regions inside one another

or_inner : (a b c : Option Thing) → or_in (or_in a b) c ≡ or_in a (or_in b c)
or_inner (Some x) b c = refl
or_inner None b c = refl

or_none : (a : Option Thing) → or_in a None ≡ a
or_none (Some x) = refl
or_none None = refl

among_inner : (regions : List Region) (region : Region) (x : ℕ) → among (regions ++ region ∷ []) x ≡ or_in (visible (declared_in region x)) (among regions x)
among_inner [] region x = sym (or_none (visible (declared_in region x)))
among_inner (r ∷ regions) region x =
    ap (λ (o : Option Thing). or_in o (visible (declared_in r x))) (among_inner regions region x)
    ∙ or_inner (visible (declared_in region x)) (among regions x) (visible (declared_in r x))

-- in a region inside the names stand for what they stood for
pub inside_same : (scope : Scope) (x : ℕ) → lookup (inside scope) x ≡ lookup scope x
inside_same scope x = among_inner scope.outer scope.inner x

pub inside_holds : (R : Thing → Type 0) (scope : Scope) → ((x : ℕ) → IfSome (lookup scope x) R) → (x : ℕ) → IfSome (lookup (inside scope) x) R
inside_holds R scope h x = subst (λ (o : Option Thing). IfSome o R) (sym (inside_same scope x)) (h x)
