-- What keeps a scope right.
use Rattle.std.proofs.Common.{◌≡◌, ℕ, inl, inr, true, List, [], ◌++◌, append_assoc, append-nil, Option, Some, None, IfSome, ap, sym, ◌∙◌}
use Rattle.std.specs.Prelude.{nat_eq}
use Rattle.std.specs.List.{list_any}
use Rattle.ams_value.specs.declared.val.Val.{Val}
use Rattle.ams_value.specs.declared.value_type.ValueType.TheVariants as t
use Rattle.flat_design.specs.declared.objects.Variable.{Variable}
use Rattle.flat_design.specs.declared.objects.Process.{Process}
use Rattle.flat_design.specs.declared.objects.Signal.{Signal}
use Rattle.flat_design.specs.declared.objects.Quantity.{Quantity}
use Rattle.flat_design.specs.declared.objects.Node.{Node}
use Rattle.flat_design.specs.declared.objects.Enumeration.{Enumeration}
use Rattle.flat_design.specs.declared.objects.Objects.{Objects}
use Rattle.flat_design.specs.declared.objects.Terminal.{Terminal}
use Rattle.flat_design.specs.declared.objects.Terminal.TheVariants as terminal
use Rattle.name_scope.specs.declared.thing.Kind.{Kind}
use Rattle.name_scope.specs.declared.thing.Kind.TheVariants.{Of, Vector}
use Rattle.name_scope.specs.declared.thing.Thing.{Thing}
use Rattle.name_scope.specs.declared.thing.Thing.TheVariants as thing
use Rattle.name_scope.specs.declared.scope.Scope.{Scope}
use Rattle.name_scope.specs.Scopes.{lookup, with_name, inside}
use Rattle.unit_meaning.specs.Units.{start_of}
use Rattle.design_meaning.specs.Typed as flat
use Rattle.design_rules.specs.Types.{sizes_of, equation_scope, process_scope, IsVisible}
use Rattle.reading_laws.specs.Growing.{Extends}
use Rattle.typed_laws.specs.Fitting.{FitsValue, FitsKind, FitsTerminal, FitsThing}
use Rattle.scope_laws.specs.Holds.{AlsoFits, ScopeHolds}
use Rattle.scope_laws.specs.Laws.{ThingHolds, ScopesHold}
use Rattle.scope_laws.proofs.Names.{named_holds, inside_holds}
use Rattle.scope_laws.proofs.Start.{start_holds}

some_as : (A : Type 0) (R S : A → Type 0) → ((a : A) → R a → S a) → (o : Option A) → IfSome o R → IfSome o S
some_as A R S h (Some a) k = h a k
some_as A R S h None k = tt

-- ---- both rules together

module _ (objects : flat.Scope) (variables : List Variable) (parameters : List ℕ) where
  abbrev Holds : Thing → Type 0
  Holds = ThingHolds objects variables parameters

  -- what a scope's names stand for
  pub each_thing : (scope : Scope) → ScopeHolds objects variables parameters scope → (x : ℕ) → IfSome (lookup scope x) Holds
  each_thing scope h x = go (lookup scope x) (h.fits x) (h.also x)
    where
      go : (o : Option Thing) → IfSome o (FitsThing objects (IsVisible variables parameters)) → IfSome o (AlsoFits objects.enumerations variables) → IfSome o Holds
      go (Some t) f a = record { fits = f; also = a }
      go None f a = tt

  pub from_each : (scope : Scope) → ((x : ℕ) → IfSome (lookup scope x) Holds) → ScopeHolds objects variables parameters scope
  from_each scope h =
      record {
        fits = λ x. some_as Thing Holds (FitsThing objects (IsVisible variables parameters)) (λ t k. k.fits) (lookup scope x) (h x);
        also = λ x. some_as Thing Holds (AlsoFits objects.enumerations variables) (λ t k. k.also) (lookup scope x) (h x);
      }

  pub with_name_holds : (scope : Scope) (x : ℕ) (t : Thing) → ScopeHolds objects variables parameters scope → Holds t → ScopeHolds objects variables parameters (with_name scope x t)
  with_name_holds scope x t h g = from_each (with_name scope x t) (named_holds Holds scope x t (each_thing scope h) g)

  pub inner_holds : (scope : Scope) → ScopeHolds objects variables parameters scope → ScopeHolds objects variables parameters (inside scope)
  inner_holds scope h = from_each (inside scope) (inside_holds Holds scope (each_thing scope h))

-- ---- processes

module _ (objects : Objects) (p : Process) (parameters : List ℕ) where
  value_on : (k : Kind) (v : Option Val) → FitsValue (equation_scope objects) k v → FitsValue (process_scope objects p) k v
  value_on (Of k) (Some v) h = h
  value_on (Of k) None h = h
  value_on Vector v h = h

  terminal_on : (end : Terminal) → FitsTerminal (equation_scope objects) end → FitsTerminal (process_scope objects p) end
  terminal_on (terminal.Node i) h = h
  terminal_on terminal.Reference h = h

  no_variable : (k : Kind) → FitsKind None k → ⊥
  no_variable (Of k) h = absurd (cc)
  no_variable Vector h = h

  fits_on : (t : Thing) → FitsThing (equation_scope objects) (IsVisible [] []) t → FitsThing (process_scope objects p) (IsVisible p.variables parameters) t
  fits_on (thing.Constant s v) h = value_on s.kind v h
  fits_on (thing.Terminal end m) h = terminal_on end h
  fits_on (thing.Variable i s) h = absurd (no_variable s.kind h.0)
  fits_on (thing.Parameter i) h = absurd (no_parameter h.0)
    where
      no_parameter : None ≡ Some t.Integer → ⊥
      no_parameter is = cc
  fits_on (thing.Literal v) h = h
  fits_on (thing.Signal i s a) h = h
  fits_on (thing.Quantity i c) h = h
  fits_on (thing.Function f) h = h
  fits_on _ h = tt

  also_on : (t : Thing) → FitsThing (equation_scope objects) (IsVisible [] []) t → AlsoFits (sizes_of objects) [] t → AlsoFits (sizes_of objects) p.variables t
  also_on (thing.Variable i s) f h = absurd (no_variable s.kind f.0)
  also_on (thing.Type s f) g h = h
  also_on (thing.Constant s v) f h = h
  also_on (thing.Signal i s a) f h = h
  also_on _ f h = tt

  pub process_holds : (scope : Scope) → ScopeHolds (equation_scope objects) [] [] scope → ScopeHolds (process_scope objects p) p.variables parameters scope
  process_holds scope h =
      from_each (process_scope objects p) p.variables parameters scope
      (λ x. some_as Thing (ThingHolds (equation_scope objects) [] []) (ThingHolds (process_scope objects p) p.variables parameters)
      (λ t k. record { fits = fits_on t k.fits; also = also_on t k.fits k.also }) (lookup scope x) (each_thing (equation_scope objects) [] [] scope h x))

-- ---- loops

sees_more : (objects : flat.Scope) (S U : ℕ → Type 0) → ((i : ℕ) → S i → U i) → (t : Thing) → FitsThing objects S t → FitsThing objects U t
sees_more objects S U h (thing.Variable i s) k = (k.0, h i k.1)
sees_more objects S U h (thing.Parameter i) k = (k.0, h i k.1)
sees_more objects S U h (thing.Constant s v) k = k
sees_more objects S U h (thing.Literal v) k = k
sees_more objects S U h (thing.Signal i s a) k = k
sees_more objects S U h (thing.Quantity i c) k = k
sees_more objects S U h (thing.Terminal end m) k = k
sees_more objects S U h (thing.Function f) k = k
sees_more objects S U h _ k = tt

more_visible : (variables : List Variable) (parameters more : List ℕ) → ((i : ℕ) → list_any (nat_eq i) parameters ≡ true → list_any (nat_eq i) more ≡ true)
    → (i : ℕ) → IsVisible variables parameters i → IsVisible variables more i
more_visible variables parameters more h i (inl d) = inl d
more_visible variables parameters more h i (inr p) = inr (h i p)

-- ---- fronts

extends_same : (A : Type 0) (xs : List A) → Extends A xs xs
extends_same A xs = record { more = []; whole = sym (append-nil xs) }

extends_on : (A : Type 0) (xs ys zs : List A) → Extends A xs ys → Extends A ys zs → Extends A xs zs
extends_on A xs ys zs p q =
    record { more = p.more ++ q.more; whole = q.whole ∙ (ap (λ (l : List A). l ++ q.more) p.whole ∙ append_assoc xs p.more q.more) }

pub scopes_hold : ScopesHold
scopes_hold = record {
  named = with_name_holds;
  inner = inner_holds;
  start = λ objects texts domain. from_each (equation_scope objects) [] [] (start_of texts) (start_holds objects domain texts);
  in_process = process_holds;
  in_loop = λ objects variables parameters more scope h k. record {
    fits = λ x.
        some_as Thing (FitsThing objects (IsVisible variables parameters)) (FitsThing objects (IsVisible variables more))
        (sees_more objects (IsVisible variables parameters) (IsVisible variables more) (more_visible variables parameters more h)) (lookup scope x) (k.fits x);
    also = k.also;
  };
  same = λ o. record {
    enumerations = extends_same Enumeration o.enumerations;
    signals = extends_same Signal o.signals;
    quantities = extends_same Quantity o.quantities;
    nodes = extends_same Node o.nodes;
  };
  on = λ a b c p q. record {
    enumerations = extends_on Enumeration a.enumerations b.enumerations c.enumerations p.enumerations q.enumerations;
    signals = extends_on Signal a.signals b.signals c.signals p.signals q.signals;
    quantities = extends_on Quantity a.quantities b.quantities c.quantities p.quantities q.quantities;
    nodes = extends_on Node a.nodes b.nodes c.nodes p.nodes q.nodes;
  };
}
