-- A declared name leaves the values of constants values of their types.
use Rattle.std.proofs.Common.{ℕ, nat_eq, Bool, true, false, cond, List, [], ◌∷◌, ◌++◌, Option, Some, None, IfSome}
use Rattle.std.specs.Map.{lookup as entry_of}
use Rattle.name_scope.specs.declared.thing.Thing.{Thing}
use Rattle.name_scope.specs.declared.thing.Thing.TheVariants as thing
use Rattle.name_scope.specs.declared.scope.Scope.{Scope}
use Rattle.name_scope.specs.Scopes.{declared_in, visible, unless_there, or_in, among, with_name}
use Rattle.expr_types.specs.Known.{IsSoundThing, IsSoundScope}

-- a label hides nothing
seen : (t : Thing) (outer : Option Thing) → IsSoundThing t → IfSome outer IsSoundThing → IfSome (or_in (visible (Some t)) outer) IsSoundThing
seen (thing.Type s f) outer h g = h
seen thing.BitVector outer h g = h
seen (thing.Constant s v) outer h g = h
seen (thing.Literal v) outer h g = h
seen (thing.Signal i s a) outer h g = h
seen thing.Domain outer h g = h
seen (thing.Quantity i c) outer h g = h
seen (thing.Terminal e m) outer h g = h
seen (thing.Variable i s) outer h g = h
seen (thing.Parameter i) outer h g = h
seen (thing.Nature m) outer h g = h
seen (thing.Function f) outer h g = h
seen thing.Now outer h g = h
seen thing.Label outer h g = g
seen thing.Faulty outer h g = h

-- what an expression finds, where a region has one more entry: the entry's thing, or what it found before
behind : (P : Option Thing → Type 0) (t : Thing) (name q : ℕ) (outer : Option Thing) → (P outer → P (or_in (visible (Some t)) outer)) → (region : List (ℕ × Thing)) → P (or_in (visible (entry_of (nat_eq q) region)) outer)
    → P (or_in (visible (entry_of (nat_eq q) (region ++ (name, t) ∷ []))) outer)
behind P t name q outer h [] g = go (nat_eq q name)
  where
    go : (b : Bool) → P (or_in (visible (cond b (Some t) None)) outer)
    go true = h g
    go false = g
behind P t name q outer h (e ∷ region) g = go (nat_eq q e.0) g (behind P t name q outer h region)
  where
    go : (b : Bool) → P (or_in (visible (cond b (Some e.1) (entry_of (nat_eq q) region))) outer) → (P (or_in (visible (entry_of (nat_eq q) region)) outer) → P (or_in (visible (entry_of (nat_eq q) (region ++ (name, t) ∷ []))) outer))
        → P (or_in (visible (cond b (Some e.1) (entry_of (nat_eq q) (region ++ (name, t) ∷ [])))) outer)
    go true g more = g
    go false g more = more g

-- a name more whose thing is sound leaves the scope sound
pub still_sound : (s : Scope) (name : ℕ) (t : Thing) → IsSoundScope s → IsSoundThing t → IsSoundScope (with_name s name t)
still_sound s name t h g q = go (declared_in s.inner name)
  where
    go : (o : Option Thing) → IfSome (or_in (visible (declared_in (unless_there o s.inner name t) q)) (among s.outer q)) IsSoundThing
    go (Some x) = h q
    go None = behind (λ o. IfSome o IsSoundThing) t name q (among s.outer q) (λ k. seen t (among s.outer q) g k) s.inner (h q)
