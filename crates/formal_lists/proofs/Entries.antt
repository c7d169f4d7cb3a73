-- Names beside what belongs to them.
use Rattle.std.proofs.Common.{◌≡◌, ℕ, nat_eq, List, [], ◌∷◌, map, Option, Some, None, position, slice_get, refl, sym, ap, ◌∙◌}
use Rattle.std.specs.Option.{option_map}
use Rattle.std.specs.Map.{keys_of, lookup}
use Rattle.std.proofs.lemmas.Option.{slice_get-map}
use Rattle.indexmap.proofs.MapLemmas.{Found-position, Missing-position}
use Rattle.formal_lists.specs.Pairs.{second, second_at}

second_is : {A : Type 0} (o : Option (ℕ × A)) → option_map (λ (e : ℕ × A). e.1) o ≡ second o
second_is (Some e) = refl
second_is None = refl

module _ {E A : Type 0} (pair : E → ℕ × A) where
  keys_are : (es : List E) → keys_of (map pair es) ≡ map (λ e. (pair e).0) es
  keys_are [] = refl
  keys_are (e ∷ es) = ap (λ ks. (pair e).0 ∷ ks) (keys_are es)

  pub found_by_name : (x : ℕ) (names : List ℕ) (es : List E) (i : ℕ) → names ≡ map (λ e. (pair e).0) es → position (nat_eq x) names ≡ Some i → lookup (nat_eq x) (map pair es) ≡ second_at (map pair es) i
  found_by_name x names es i k f =
      (Found-position (nat_eq x) (map pair es) i (ap (position (nat_eq x)) (keys_are es ∙ sym k) ∙ f)).value
      ∙ (slice_get-map (λ (e : ℕ × A). e.1) (map pair es) i ∙ second_is (slice_get (map pair es) i))

  pub not_there : (x : ℕ) (names : List ℕ) (es : List E) → names ≡ map (λ e. (pair e).0) es → position (nat_eq x) names ≡ None → lookup (nat_eq x) (map pair es) ≡ None
  not_there x names es k f = (Missing-position (nat_eq x) (map pair es) (ap (position (nat_eq x)) (keys_are es ∙ sym k) ∙ f)).value

  -- what stands at a place
  pub stands_at : (es : List E) (j : ℕ) (o : Option E) → o ≡ slice_get es j → second_at (map pair es) j ≡ second (option_map pair o)
  stands_at es j o h = ap second (slice_get-map pair es j) ∙ ap (λ p. second (option_map pair p)) (sym h)
