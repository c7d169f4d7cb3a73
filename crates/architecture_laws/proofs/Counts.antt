-- Counts of literals, as far as types are declared.
use Rattle.std.proofs.Common.{◌≡◌, ◌<◌, ℕ, zero, suc, true, List, [], ◌∷◌, ◌++◌, length, map, Option, Some, None, IfSome, refl, sym, ap, ◌∙◌, arith}
use Rattle.std.specs.Prelude.{nat_eq, nat_lt, get_or}
use Rattle.std.specs.List.{slice_get}
use Rattle.std.proofs.lemmas.Bool.Decides.{nat_tests}
use Rattle.ams_value.specs.declared.value_type.ValueType.TheVariants as t
use Rattle.ams_value.specs.Types.{type_of}
use Rattle.flat_design.specs.declared.objects.Enumeration.{Enumeration}
use Rattle.flat_design.specs.declared.objects.Objects.{Objects}
use Rattle.name_scope.specs.declared.thing.Kind.{Kind}
use Rattle.name_scope.specs.declared.thing.Kind.TheVariants.{Of, Vector}
use Rattle.name_scope.specs.declared.thing.Thing.{Thing}
use Rattle.name_scope.specs.declared.thing.Thing.TheVariants as thing
use Rattle.name_scope.specs.declared.scope.Scope.{Scope}
use Rattle.name_scope.specs.Scopes.{lookup}
use Rattle.unit_meaning.specs.Cases.{literal_count}
use Rattle.design_rules.specs.Types.{sizes_of}
use Rattle.reading_laws.specs.Growing.{Extends}
use Rattle.choice_laws.specs.Choices.{CountsLiterals}
use Rattle.kind_laws.specs.Kinds.{ThingCounts}
use Rattle.body_laws.specs.Bodies.{Keeps}
use Rattle.declared_type_laws.specs.Types.{is_declared, has_declared, NamesHaveDeclared}
use Rattle.architecture_laws.specs.Counts.{is_counted, has_counted}

same_is : (a b : ℕ) → nat_eq a b ≡ true → a ≡ b
same_is a b h = grind (arith, nat_tests)

is_same : (a b : ℕ) → a ≡ b → nat_eq a b ≡ true
is_same a b h = grind (arith, nat_tests)

is_less : (a b : ℕ) → nat_lt a b ≡ true → a < b
is_less a b h = grind (arith, nat_tests)

-- ---- what is counted counts

module _ (types : List Enumeration) (sizes : List ℕ) where
  pub kind_counts : (k : Kind) → is_counted types sizes k ≡ true → CountsLiterals types sizes k
  kind_counts (Of (t.Enumeration m)) h = same_is (literal_count (slice_get types m)) (get_or sizes m 0) h
  kind_counts (Of t.Boolean) h = tt
  kind_counts (Of t.Bit) h = tt
  kind_counts (Of t.Integer) h = tt
  kind_counts (Of t.Real) h = tt
  kind_counts (Of t.Time) h = tt
  kind_counts (Of (t.BitVector n)) h = tt
  kind_counts Vector h = tt

  thing_counts : (x : Thing) → has_counted types sizes x ≡ true → ThingCounts types sizes x
  thing_counts (thing.Constant s v) h = kind_counts s.kind h
  thing_counts (thing.Literal v) h = kind_counts (Of (type_of v)) h
  thing_counts (thing.Signal i s a) h = kind_counts s.kind h
  thing_counts (thing.Variable i s) h = kind_counts s.kind h
  thing_counts _ h = tt

  pub names_count : (scope : Scope) → ((x : ℕ) → IfSome (lookup scope x) (Keeps (has_counted types sizes))) → (x : ℕ) → IfSome (lookup scope x) (ThingCounts types sizes)
  names_count scope h x = on (lookup scope x) (h x)
    where
      on : (o : Option Thing) → IfSome o (Keeps (has_counted types sizes)) → IfSome o (ThingCounts types sizes)
      on (Some y) g = thing_counts y g
      on None g = tt

-- ---- what is declared is counted

abbrev size_of : Enumeration → ℕ
size_of x = length x.literals

in_front : (types more : List Enumeration) (m : ℕ) → m < length types → literal_count (slice_get types m) ≡ get_or (map size_of (types ++ more)) m 0
in_front [] more m h = absurd (omega arith)
in_front (x ∷ types) more zero h = refl
in_front (x ∷ types) more (suc m) h = in_front types more m (omega arith)

module _ (final : Objects) (types : List Enumeration) (e : Extends Enumeration types final.enumerations) where
  count_is : (m : ℕ) → m < length types → literal_count (slice_get types m) ≡ get_or (sizes_of final) m 0
  count_is m h = in_front types e.more m h ∙ ap (λ (l : List Enumeration). get_or (map size_of l) m 0) (sym e.whole)

  kind_counted : (k : Kind) → is_declared (length types) k ≡ true → is_counted types (sizes_of final) k ≡ true
  kind_counted (Of (t.Enumeration m)) h = is_same (literal_count (slice_get types m)) (get_or (sizes_of final) m 0) (count_is m (is_less m (length types) h))
  kind_counted (Of t.Boolean) h = refl
  kind_counted (Of t.Bit) h = refl
  kind_counted (Of t.Integer) h = refl
  kind_counted (Of t.Real) h = refl
  kind_counted (Of t.Time) h = refl
  kind_counted (Of (t.BitVector n)) h = refl
  kind_counted Vector h = refl

  thing_counted : (x : Thing) → has_declared (length types) x ≡ true → has_counted types (sizes_of final) x ≡ true
  thing_counted (thing.Type s f) h = kind_counted s.kind h
  thing_counted (thing.Constant s v) h = kind_counted s.kind h
  thing_counted (thing.Literal v) h = kind_counted (Of (type_of v)) h
  thing_counted (thing.Signal i s a) h = kind_counted s.kind h
  thing_counted (thing.Variable i s) h = kind_counted s.kind h
  thing_counted _ h = refl

  pub names_counted : (scope : Scope) → NamesHaveDeclared (length types) scope → (x : ℕ) → IfSome (lookup scope x) (Keeps (has_counted types (sizes_of final)))
  names_counted scope h x = on (lookup scope x) (h x)
    where
      on : (o : Option Thing) → IfSome o (λ y. has_declared (length types) y ≡ true) → IfSome o (Keeps (has_counted types (sizes_of final)))
      on (Some y) g = thing_counted y g
      on None g = tt
