-- Scopes that stay alike.
use Rattle.std.proofs.Common.{◌≡◌, ◌<◌, ◌+◌, ℕ, arith, Bool, true, false, cond, if◌then◌else◌, List, [], ◌∷◌, ◌++◌, length, Option, Some, None, refl, sym, subst, ap, ◌∙◌}
use Rattle.std.specs.Prelude.{nat_eq}
use Rattle.std.proofs.lemmas.Bool.Decides.{nat_tests}
use Rattle.std.proofs.lemmas.List.{get_or_append_left, length-append}
use Rattle.name_scope.specs.declared.thing.Thing.{Thing}
use Rattle.name_scope.specs.declared.thing.Thing.TheVariants as thing
use Rattle.name_scope.specs.declared.scope.Scope.{Scope}
use Rattle.name_scope.specs.Scopes.{Region, declared_in, unless_there, with_thing, visible, or_in, among, lookup, with_name, inside}
use Rattle.alike_laws.specs.Alike.{is_label, own_nature, terminal_nature, IsNumbered, SameNature, AlikeThing, AlikeFound, AlikeScopes}

-- ---- one more name

abbrev new_found : Option Thing → Bool → Thing → Option Thing
new_found (Some y) b t = Some y
new_found None true t = Some t
new_found None false t = None

behind_is : (region : Region) (name : ℕ) (t : Thing) (x : ℕ) → declared_in (region ++ (name, t) ∷ []) x ≡ new_found (declared_in region x) (nat_eq x name) t
behind_is [] name t x = go (nat_eq x name)
  where
    go : (b : Bool) → cond b (Some t) None ≡ new_found None b t
    go true = refl
    go false = refl
behind_is (e ∷ region) name t x = go (nat_eq x e.0) (behind_is region name t x)
  where
    go : (b : Bool) → declared_in (region ++ (name, t) ∷ []) x ≡ new_found (declared_in region x) (nat_eq x name) t
        → cond b (Some e.1) (declared_in (region ++ (name, t) ∷ []) x) ≡ new_found (cond b (Some e.1) (declared_in region x)) (nat_eq x name) t
    go true h = refl
    go false h = h

same_number : (a b : ℕ) → nat_eq a b ≡ true → a ≡ b
same_number a b h = grind (arith, nat_tests)

with_is : (region : Region) (name : ℕ) (t : Thing) (x : ℕ) → declared_in (with_thing region name t) x ≡ new_found (declared_in region x) (nat_eq x name) t
with_is region name t x = go (declared_in region name) refl
  where
    there : (y : Thing) (o : Option Thing) (b : Bool) → declared_in region name ≡ Some y → declared_in region x ≡ o → nat_eq x name ≡ b → o ≡ new_found o b t
    there y (Some z) b h k e = refl
    there y None false h k e = refl
    there y None true h k e = sym k ∙ ap (declared_in region) (same_number x name e) ∙ absurd (none y (sym h ∙ sym (ap (declared_in region) (same_number x name e)) ∙ k))
      where
        none : (z : Thing) → Some z ≡ None → ⊥
        none z is = cc

    go : (o : Option Thing) → declared_in region name ≡ o → declared_in (unless_there o region name t) x ≡ new_found (declared_in region x) (nat_eq x name) t
    go (Some y) h = there y (declared_in region x) (nat_eq x name) h refl refl
    go None h = behind_is region name t x

pub with_each : (P : Option Thing → Type 0) (region : Region) (name : ℕ) (t : Thing) (x : ℕ) → P (declared_in region x) → P (Some t) → P (declared_in (with_thing region name t) x)
with_each P region name t x h k = subst P (sym (with_is region name t x)) (go (declared_in region x) (nat_eq x name) h)
  where
    go : (o : Option Thing) (b : Bool) → P o → P (new_found o b t)
    go (Some y) b h = h
    go None true h = k
    go None false h = h

pub visible_is : (t : Thing) → visible (Some t) ≡ (if is_label t then None else Some t)
visible_is thing.Label = refl
visible_is _ = refl

module _ (natures : List ℕ) where
  abbrev Found : Option Thing → Option Thing → Type 0
  Found = AlikeFound natures

  inner_more : (c i : Option Thing) (b : Bool) (s t : Thing) → Found c i → AlikeThing natures s t → Found (new_found c b s) (new_found i b t)
  inner_more (Some c) (Some i) b s t h k = h
  inner_more None None true s t h k = k
  inner_more None None false s t h k = tt
  inner_more (Some c) None b s t h k = absurd h
  inner_more None (Some i) b s t h k = absurd h

  seen_new : (s t : Thing) (c i : Option Thing) → AlikeThing natures s t → Found c i → Found (or_in (visible (Some s)) c) (or_in (visible (Some t)) i)
  seen_new s t c i k h =
      subst (λ (o : Option Thing). Found (or_in o c) (or_in (visible (Some t)) i)) (sym (visible_is s))
      (subst (λ (o : Option Thing). Found (or_in (if is_label s then None else Some s) c) (or_in o i)) (sym (visible_is t)) (go (is_label s) (is_label t) k.label))
    where
      go : (a b : Bool) → b ≡ a → Found (or_in (if a then None else Some s) c) (or_in (if b then None else Some t) i)
      go true true e = h
      go false false e = k
      go true false e = absurd (cc)
      go false true e = absurd (cc)

  seen_more : (c i d j : Option Thing) (b : Bool) (s t : Thing) → Found c i → Found (or_in (visible c) d) (or_in (visible i) j) → AlikeThing natures s t
      → Found (or_in (visible (new_found c b s)) d) (or_in (visible (new_found i b t)) j)
  seen_more (Some c) (Some i) d j b s t g h k = h
  seen_more None None d j true s t g h k = seen_new s t d j k h
  seen_more None None d j false s t g h k = h
  seen_more (Some c) None d j b s t g h k = absurd g
  seen_more None (Some i) d j b s t g h k = absurd g

  pub named_alike : (a b : Scope) (x : ℕ) (s t : Thing) → AlikeScopes natures a b → AlikeThing natures s t → AlikeScopes natures (with_name a x s) (with_name b x t)
  named_alike a b x s t h k =
      record {
        seen = λ y.
            subst (λ (o : Option Thing). Found (or_in (visible o) (among a.outer y)) (or_in (visible (declared_in (with_thing b.inner x t) y)) (among b.outer y))) (sym (with_is a.inner x s y))
            (subst (λ (o : Option Thing). Found (or_in (visible (new_found (declared_in a.inner y) (nat_eq y x) s)) (among a.outer y)) (or_in (visible o) (among b.outer y))) (sym (with_is b.inner x t y))
            (seen_more (declared_in a.inner y) (declared_in b.inner y) (among a.outer y) (among b.outer y) (nat_eq y x) s t (h.inner y) (h.seen y) k));
        inner = λ y.
            subst (λ (o : Option Thing). Found o (declared_in (with_thing b.inner x t) y)) (sym (with_is a.inner x s y))
            (subst (λ (o : Option Thing). Found (new_found (declared_in a.inner y) (nat_eq y x) s) o) (sym (with_is b.inner x t y))
            (inner_more (declared_in a.inner y) (declared_in b.inner y) (nat_eq y x) s t (h.inner y) k));
        outside = h.outside;
      }

-- ---- regions inside one another

or_inner : (a b c : Option Thing) → or_in (or_in a b) c ≡ or_in a (or_in b c)
or_inner (Some x) b c = refl
or_inner None b c = refl

or_none : (a : Option Thing) → or_in a None ≡ a
or_none (Some x) = refl
or_none None = refl

among_inner : (regions : List Region) (region : Region) (x : ℕ) → among (regions ++ region ∷ []) x ≡ or_in (visible (declared_in region x)) (among regions x)
among_inner [] region x = sym (or_none (visible (declared_in region x)))
among_inner (r ∷ regions) region x =
    ap (λ (o : Option Thing). or_in o (visible (declared_in r x))) (among_inner regions region x)
    ∙ or_inner (visible (declared_in region x)) (among regions x) (visible (declared_in r x))

inside_same : (scope : Scope) (x : ℕ) → lookup (inside scope) x ≡ lookup scope x
inside_same scope x = among_inner scope.outer scope.inner x

pub inside_alike : (natures : List ℕ) (a b : Scope) → AlikeScopes natures a b → AlikeScopes natures (inside a) (inside b)
inside_alike natures a b h =
    record {
      seen = λ x.
          subst (λ (o : Option Thing). AlikeFound natures o (lookup (inside b) x)) (sym (inside_same a x))
          (subst (λ (o : Option Thing). AlikeFound natures (lookup a x) o) (sym (inside_same b x)) (h.seen x));
      inner = λ x. tt;
      outside = h.outside;
    }

-- ---- one more nature

module _ (natures : List ℕ) (number : ℕ) where
  abbrev more : List ℕ
  more = natures ++ number ∷ []

  numbered_more : (o : Option ℕ) → IsNumbered natures o → IsNumbered more o
  numbered_more (Some m) h = longer
    where
      longer : m < length more
      longer = subst (λ (n : ℕ). m < n) (sym (length-append natures (number ∷ []))) (further (length natures) h)
        where
          further : (n : ℕ) → m < n → m < n + 1
          further n h = omega arith
  numbered_more None h = tt

  same_more : (o p : Option ℕ) → IsNumbered natures o → SameNature natures o p → SameNature more o p
  same_more (Some m) (Some n) h k = k ∙ sym (get_or_append_left natures (number ∷ []) 0 m h)
  same_more (Some m) None h k = tt
  same_more None None h k = tt
  same_more None (Some n) h k = absurd k

  pub thing_more : (c i : Thing) → AlikeThing natures c i → AlikeThing more c i
  thing_more c i h =
      record {
        whole = h.whole;
        label = h.label;
        changing = h.changing;
        terminal_known = numbered_more (terminal_nature c) h.terminal_known;
        terminal = same_more (terminal_nature c) (terminal_nature i) h.terminal_known h.terminal;
        nature_known = numbered_more (own_nature c) h.nature_known;
        nature = same_more (own_nature c) (own_nature i) h.nature_known h.nature;
      }

  found_more : (c i : Option Thing) → AlikeFound natures c i → AlikeFound more c i
  found_more (Some c) (Some i) h = thing_more c i h
  found_more None None h = tt
  found_more (Some c) None h = absurd h
  found_more None (Some i) h = absurd h

  -- where the check has a nature at all
  pub scopes_more : (a b : Scope) → AlikeScopes natures a b → 0 < length natures → AlikeScopes more a b
  scopes_more a b h some =
      record {
        seen = λ x. found_more (lookup a x) (lookup b x) (h.seen x);
        inner = λ x. found_more (declared_in a.inner x) (declared_in b.inner x) (h.inner x);
        outside = get_or_append_left natures (number ∷ []) 0 0 some ∙ h.outside;
      }
