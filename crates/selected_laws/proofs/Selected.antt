-- From what each statement makes to the equations of the design.
use Rattle.std.proofs.Common.{◌≡◌, ◌<◌, ◌⊎◌, inl, inr, ⊎_elim, ℕ, zero, suc, Bool, true, false, List, [], ◌∷◌, ◌++◌, length, get_or, Option, Some, None, IfSome, refl, sym, subst, arith}
use Rattle.std.specs.Prelude.{◌||◌, nat_eq}
use Rattle.std.specs.List.{All, slice_get, list_any, flat_map}
use Rattle.std.proofs.lemmas.List.Elements.{All-head, All-tail}
use Rattle.ams_tree.specs.declared.concurrent.Concurrent.{Concurrent}
use Rattle.ams_tree.specs.declared.concurrent.ConcurrentStatement.{ConcurrentStatement}
use Rattle.ams_tree.specs.declared.concurrent.ConcurrentStatement.TheVariants as conc
use Rattle.flat_expr.specs.declared.expr.Unknown.TheVariants.{Dot}
use Rattle.flat_design.specs.declared.objects.Objects.{Objects}
use Rattle.flat_design.specs.declared.objects.Pair.{Pair}
use Rattle.name_scope.specs.declared.thing.QuantityClass.{QuantityClass}
use Rattle.name_scope.specs.declared.thing.Thing.{Thing}
use Rattle.name_scope.specs.declared.thing.Thing.TheVariants as thing
use Rattle.name_scope.specs.declared.scope.Scope.{Scope}
use Rattle.name_scope.specs.Scopes.{lookup}
use Rattle.unit_meaning.specs.declared.draft.Made.{Made}
use Rattle.unit_meaning.specs.declared.draft.Made.TheVariants as made
use Rattle.unit_meaning.specs.Settings.{Setting}
use Rattle.unit_meaning.specs.Concurrent.{concurrent}
use Rattle.unit_meaning.specs.Simultaneous.{dots_in_equations, equations_in, selectors_of}
use Rattle.design_rules.specs.Equations.{pairs_in, stands_in, IsSelector}
use Rattle.reading_laws.specs.Growing.{Extends}
use Rattle.allowed_laws.specs.Simple.{IsSelectorAt}
use Rattle.walk_laws.specs.Steps.{IsNoInstance}
use Rattle.site_invariant_laws.specs.Sites.{IsAmong, MadeIn, IsMadeIn}
use Rattle.selected_laws.specs.Selected.{HasItsDot, DotsAreMade, StatementsMakeDots, SelectorsAreMade}

-- ---- lists

other_way : {A : Type 0} (b : Bool) → b ≡ true → b ≡ false → A
other_way true h k = absurd (cc)
other_way false h k = absurd (cc)

split_or : {B : Type 0} (b m l : Bool) → (m ≡ true → (l ≡ true) ⊎ B) → (b || m) ≡ true → ((b || l) ≡ true) ⊎ B
split_or true m l rest k = inl refl
split_or false m l rest k = rest k

more_or : (b m l : Bool) → (m ≡ true → l ≡ true) → (b || m) ≡ true → (b || l) ≡ true
more_or true m l rest k = refl
more_or false m l rest k = rest k

or_true : (b m : Bool) → m ≡ true → (b || m) ≡ true
or_true true m h = refl
or_true false m h = h

module _ {A : Type 0} (test : A → Bool) where
  -- in one of the two lists
  split_any : (xs ys : List A) → list_any test (xs ++ ys) ≡ true → (list_any test xs ≡ true) ⊎ (list_any test ys ≡ true)
  split_any [] ys h = inr h
  split_any (x ∷ xs) ys h = split_or (test x) (list_any test (xs ++ ys)) (list_any test xs) (split_any xs ys) h

  left_any : (xs ys : List A) → list_any test xs ≡ true → list_any test (xs ++ ys) ≡ true
  left_any [] ys h = absurd (cc)
  left_any (x ∷ xs) ys h = more_or (test x) (list_any test xs) (list_any test (xs ++ ys)) (left_any xs ys) h

  right_any : (xs ys : List A) → list_any test ys ≡ true → list_any test (xs ++ ys) ≡ true
  right_any [] ys h = h
  right_any (x ∷ xs) ys h = or_true (test x) (list_any test (xs ++ ys)) (right_any xs ys h)

  -- a list that one of many gives
  flat_at : {B : Type 0} (f : B → List A) (all : List B) (k : ℕ) (y : B) → k < length all → get_or all k y ≡ y → list_any test (f y) ≡ true → list_any test (flat_map f all) ≡ true
  flat_at f [] k y lt is h = absurd (omega arith)
  flat_at f (b ∷ more) zero y lt is h = left_any (f b) (flat_map f more) (subst (λ z. list_any test (f z) ≡ true) (sym is) h)
  flat_at f (b ∷ more) (suc k) y lt is h = right_any (f b) (flat_map f more) (flat_at f more k y (omega arith) is h)

front_at : (xs ys : List ℕ) (i q : ℕ) → slice_get xs i ≡ Some q → slice_get (xs ++ ys) i ≡ Some q
front_at [] ys i q h = absurd (cc)
front_at (x ∷ xs) ys zero q h = h
front_at (x ∷ xs) ys (suc i) q h = front_at xs ys i q h

-- ---- a statement

module _ (final : Objects) (w : Setting) (scope : Scope) (x i : ℕ) (c : QuantityClass) (is : lookup scope x ≡ Some (thing.Quantity i c)) where
  -- the equation that is made stands in the design
  is_selector : (dots : List ℕ) (s : ConcurrentStatement) (m : Made) → Extends ℕ dots final.dots → IsAmong final m → DotsAreMade scope dots s m
      → list_any (nat_eq x) (dots_in_equations (equations_in s)) ≡ true → IsSelector final i
  is_selector dots s (made.Equation q) front among found h =
      let d : HasItsDot (pairs_in q) dots i = found x i c h is in
      record {
        dot = d.0;
        dot_is = subst (λ (l : List ℕ). slice_get l d.0 ≡ Some i) (sym front.whole) (front_at dots front.more d.0 i d.1);
        used =
            flat_at (λ (p : Pair). stands_in (Dot d.0) p.left || stands_in (Dot d.0) p.right) pairs_in final.equations among.0 q among.1 among.2 d.2;
      }
  is_selector dots s (made.Process p) front among found h = other_way (list_any (nat_eq x) (dots_in_equations (equations_in s))) h (found x)
  is_selector dots s made.Nothing front among found h = other_way (list_any (nat_eq x) (dots_in_equations (equations_in s))) h (found x)

  no_instance : (s : ConcurrentStatement) → list_any (nat_eq x) (dots_in_equations (equations_in s)) ≡ true → IsNoInstance s
  no_instance (conc.Instance j) h = absurd (cc)
  no_instance (conc.Process p) h = tt
  no_instance (conc.Assign y d all last when) h = tt
  no_instance (conc.Assert a) h = tt
  no_instance (conc.Break p all names when) h = tt
  no_instance (conc.Equation q) h = tt
  no_instance (conc.If p all last) h = tt
  no_instance (conc.Case p y all) h = tt

  module _ (makes : StatementsMakeDots w scope) where
    one : (s : Concurrent) → IsMadeIn final w scope s → list_any (nat_eq x) (dots_in_equations (equations_in s.statement)) ≡ true → IsSelector final i
    one s h k =
        let m : MadeIn final w scope s = h (no_instance s.statement k) in
        let found = concurrent w scope s.label s.statement m.before in
        is_selector found.0.dots s.statement found.1 m.dots m.among (makes s.label s.statement m.before m.fine m.dot_limit) k

    each : (all : List Concurrent) → All (IsMadeIn final w scope) all → list_any (nat_eq x) (selectors_of all) ≡ true → IsSelector final i
    each [] h k = absurd (cc)
    each (s ∷ more) h k =
        ⊎_elim (λ here. one s (All-head (IsMadeIn final w scope) s more h) here) (λ later. each more (All-tail (IsMadeIn final w scope) s more h) later)
        (split_any (nat_eq x) (dots_in_equations (equations_in s.statement)) (selectors_of more) k)

-- ---- the scope

module _ (final : Objects) (w : Setting) (scope : Scope) (all : List Concurrent) (makes : StatementsMakeDots w scope) (h : All (IsMadeIn final w scope) all) where
  at_thing : (x : ℕ) → list_any (nat_eq x) (selectors_of all) ≡ true → (o : Option Thing) → lookup scope x ≡ o → IfSome o (IsSelectorAt final)
  at_thing x k (Some (thing.Quantity i c)) is = each final w scope x i c is makes all h k
  at_thing x k (Some t) is = tt
  at_thing x k None is = tt

pub selectors_are_made : SelectorsAreMade
selectors_are_made final w scope all makes same h x k =
    at_thing final w scope all makes h x (subst (λ (l : List ℕ). list_any (nat_eq x) l ≡ true) same k) (lookup scope x) refl
