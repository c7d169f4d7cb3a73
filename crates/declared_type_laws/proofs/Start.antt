-- The predefined names.
use Rattle.std.proofs.Common.{◌≡◌, ◌<◌, ℕ, true, List, [], ◌∷◌, Option, Some, None, IfSome, refl, arith}
use Rattle.std.specs.Prelude.{nat_lt, position}
use Rattle.std.specs.List.{fold}
use Rattle.std.specs.Str.{bytes_eq}
use Rattle.std.proofs.lemmas.Bool.Decides.{nat_tests}
use Rattle.name_scope.specs.declared.thing.Thing.{Thing}
use Rattle.name_scope.specs.declared.thing.Thing.TheVariants as thing
use Rattle.name_scope.specs.Scopes.{Region, declared_in, visible, lookup}
use Rattle.unit_meaning.specs.Units.{predefined, with_numbered, with_predefined, start_of}
use Rattle.scope_laws.proofs.Names.{with_one}
use Rattle.declared_type_laws.specs.Types.{has_declared, NamesHaveDeclared}

module _ (R : Thing → Type 0) where
  abbrev EachHolds : Region → Type 0
  EachHolds region = (x : ℕ) → IfSome (declared_in region x) R

  abbrev Every : List (List ℕ × Thing) → Type 0
  Every [] = Unit {0}
  Every (p ∷ more) = R p.1 × Every more

  with_number : (o : Option ℕ) (t : Thing) (region : Region) → EachHolds region → R t → EachHolds (with_numbered o t region)
  with_number (Some name) t region h g x = with_one (λ (found : Option Thing). IfSome found R) region name t x (h x) (λ k. g)
  with_number None t region h g x = h x

  with_all : (texts : List (List ℕ)) (all : List (List ℕ × Thing)) (region : Region) → EachHolds region → Every all → EachHolds (fold (with_predefined texts) region all)
  with_all texts [] region h g = h
  with_all texts (p ∷ more) region h g = with_all texts more (with_predefined texts region p) (with_number (position (bytes_eq p.0) texts) p.1 region h g.0) g.1

  seen : (o : Option Thing) → IfSome o R → IfSome (visible o) R
  seen None h = tt
  seen (Some thing.Label) h = tt
  seen (Some _) h = h

  start_each : (texts : List (List ℕ)) → Every predefined → (x : ℕ) → IfSome (lookup (start_of texts) x) R
  start_each texts h x = seen (declared_in (fold (with_predefined texts) [] predefined) x) (with_all texts predefined [] (λ y. tt) h x)

module _ (n : ℕ) (some : 0 < n) where
  abbrev Fine : Thing → Type 0
  Fine t = has_declared n t ≡ true

  domain : nat_lt 0 n ≡ true
  domain = grind (arith, nat_tests)

  each : Every Fine predefined
  each = (refl, (refl, (refl, (refl, (refl, (refl, (refl, (refl, (refl, (domain, (refl, (refl, (refl, (refl, (refl, (refl, (refl, (refl, (refl, (refl, (refl, (refl, (refl, (domain, (domain, (domain, tt))))))))))))))))))))))))))

  pub start_declared : (texts : List (List ℕ)) → NamesHaveDeclared n (start_of texts)
  start_declared texts = start_each Fine texts each
