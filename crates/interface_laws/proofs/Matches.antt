-- Associations by their formals.
use Rattle.std.proofs.Common.{◌+◌, ℕ, Bool, true, false, cond, if◌then◌else◌, List, [], ◌∷◌, ◌++◌, Option, Some, None, IfSome}
use Rattle.std.specs.Prelude.{nat_eq}
use Rattle.std.specs.List.{All}
use Rattle.std.specs.Map.{lookup as entry_of}
use Rattle.std.proofs.lemmas.List.Elements.{All-nil, All-head, All-tail, All-push}
use Rattle.unit_meaning.specs.declared.request.Actual.{Actual}
use Rattle.unit_meaning.specs.declared.request.Actual.TheVariants as actual
use Rattle.unit_meaning.specs.declared.request.Assigned.{Assigned}
use Rattle.unit_meaning.specs.Walk.{formal_place, is_taken, with_match, matched_from, matched, closed_actual, actual_at, if_some}

pub then_some : (A B : Type 0) (P : A → Type 0) (Q : B → Type 0) (f : A → Option B) (o : Option A) → IfSome o P → ((a : A) → P a → IfSome (f a) Q) → IfSome (if_some f o) Q
then_some A B P Q f (Some a) h g = g a h
then_some A B P Q f None h g = tt

module _ (P : Assigned → Type 0) where
  abbrev pub Given : ℕ × Assigned → Type 0
  Given entry = P entry.1

  match_each : (rest : List (ℕ × Assigned) → Option (List (ℕ × Assigned))) → ((all : List (ℕ × Assigned)) → All Given all → IfSome (rest all) (All Given))
      → (so_far : List (ℕ × Assigned)) (a : Assigned) (o : Option ℕ) → All Given so_far → P a → IfSome (with_match rest so_far a o) (All Given)
  match_each rest h so_far a None g p = tt
  match_each rest h so_far a (Some i) g p = go (is_taken i so_far)
    where
      go : (b : Bool) → IfSome (if b then None else rest (so_far ++ (i, a) ∷ [])) (All Given)
      go true = tt
      go false = h (so_far ++ (i, a) ∷ []) (All-push Given so_far (i, a) g p)

  from_each : (names : List ℕ) (j : ℕ) (all : List Assigned) (so_far : List (ℕ × Assigned)) → All P all → All Given so_far → IfSome (matched_from names j all so_far) (All Given)
  from_each names j [] so_far h g = g
  from_each names j (a ∷ more) so_far h g =
      match_each (matched_from names (j + 1) more) (λ behind k. from_each names (j + 1) more behind (All-tail P a more h) k) so_far a (formal_place names j a.formal) g (All-head P a more h)

  -- what holds of each association holds of those that are matched
  pub matched_each : (names : List ℕ) (all : List Assigned) → All P all → IfSome (matched names all) (All Given)
  matched_each names all h = from_each names 0 all [] h (All-nil Given)

  closed_is : (o : Option Assigned) → IfSome o P → IfSome (closed_actual o) P
  closed_is None h = tt
  closed_is (Some a) h = go a.actual
    where
      go : (x : Actual) → IfSome (elim x as (λ y. Option Assigned) [ actual.Open ↦ None | actual.Object z t ↦ Some a | actual.Value k v ↦ Some a ]) P
      go actual.Open = tt
      go (actual.Object z t) = h
      go (actual.Value k v) = h

  entry_is : (given : List (ℕ × Assigned)) (i : ℕ) → All Given given → IfSome (entry_of (nat_eq i) given) P
  entry_is [] i h = tt
  entry_is (e ∷ more) i h = go (nat_eq i e.0) (entry_is more i (All-tail Given e more h))
    where
      go : (b : Bool) → IfSome (entry_of (nat_eq i) more) P → IfSome (cond b (Some e.1) (entry_of (nat_eq i) more)) P
      go true k = All-head Given e more h
      go false k = k

  pub actual_is : (given : List (ℕ × Assigned)) (i : ℕ) → All Given given → IfSome (actual_at given i) P
  actual_is given i h = closed_is (entry_of (nat_eq i) given) (entry_is given i h)
