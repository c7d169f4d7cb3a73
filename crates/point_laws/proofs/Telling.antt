-- What events tell, one list behind another, and the branches before a point.
use Rattle.std.proofs.Common.{◌≡◌, refl, sym, ap, ◌∙◌, subst, ℕ, zero, suc, ◌+◌, ◌==◌, true, false, List, [], ◌∷◌, ◌++◌, length, append_assoc, arith}
use Rattle.std.specs.Prelude.{ℤ, map, replicate, Option, Some, None}
use Rattle.std.specs.List.{slice_set}
use Rattle.std.proofs.lemmas.Bool.Decides.{eqb_tells}
use Rattle.std.proofs.lemmas.List.{set_at, length_push}
use Rattle.step_data.specs.declared.event.Event.{Event}
use Rattle.step_data.specs.declared.event.Event.TheVariants as event
use Rattle.lockstep_model.specs.Lockstep.{branch_event, branch_events, point_events}
use Rattle.point_laws.specs.Told.{Told, told_after, told_over, EachPoint}

pub over_append : (told : Told) (xs ys : List Event) → told_over told (xs ++ ys) ≡ told_over (told_over told xs) ys
over_append told [] ys = refl
over_append told (x ∷ xs) ys = over_append (told_after told x) xs ys

pub each_append : (P : Told → ℕ → List ℤ → Type 0) (told : Told) (xs ys : List Event) → EachPoint P told xs → EachPoint P (told_over told xs) ys → EachPoint P told (xs ++ ys)
each_append P told [] ys a b = b
each_append P told (event.Solved t n x ∷ xs) ys a b = (a.0, each_append P told xs ys a.1 b)
each_append P told (event.Domain t n ∷ xs) ys a b = each_append P (told_after told (event.Domain t n)) xs ys a b
each_append P told (event.Cross t n k on ∷ xs) ys a b = each_append P (told_after told (event.Cross t n k on)) xs ys a b
each_append P told (event.Signal t n i value ∷ xs) ys a b = each_append P (told_after told (event.Signal t n i value)) xs ys a b
each_append P told (event.Broke t n elements ∷ xs) ys a b = each_append P (told_after told (event.Broke t n elements)) xs ys a b
each_append P told (event.Report t n severity text ∷ xs) ys a b = each_append P (told_after told (event.Report t n severity text)) xs ys a b
each_append P told (event.Branch t n k c ∷ xs) ys a b = each_append P (told_after told (event.Branch t n k c)) xs ys a b

-- the point behind some events
pub each_at : (P : Told → ℕ → List ℤ → Type 0) (told : Told) (front behind : List Event) (t n : ℕ) (x : List ℤ) → EachPoint P told (front ++ event.Solved t n x ∷ behind) → P (told_over told front) t x
each_at P told [] ys t n x a = a.0
each_at P told (event.Solved u m y ∷ xs) ys t n x a = each_at P told xs ys t n x a.1
each_at P told (event.Domain u m ∷ xs) ys t n x a = each_at P (told_after told (event.Domain u m)) xs ys t n x a
each_at P told (event.Cross u m k on ∷ xs) ys t n x a = each_at P (told_after told (event.Cross u m k on)) xs ys t n x a
each_at P told (event.Signal u m i value ∷ xs) ys t n x a = each_at P (told_after told (event.Signal u m i value)) xs ys t n x a
each_at P told (event.Broke u m elements ∷ xs) ys t n x a = each_at P (told_after told (event.Broke u m elements)) xs ys t n x a
each_at P told (event.Report u m severity text ∷ xs) ys t n x a = each_at P (told_after told (event.Report u m severity text)) xs ys t n x a
each_at P told (event.Branch u m k c ∷ xs) ys t n x a = each_at P (told_after told (event.Branch u m k c)) xs ys t n x a

-- what follows from one fact of each point
pub each_map : (P Q : Told → ℕ → List ℤ → Type 0) → ((told : Told) (t : ℕ) (x : List ℤ) → P told t x → Q told t x) → (told : Told) (events : List Event) → EachPoint P told events → EachPoint Q told events
each_map P Q f told [] a = tt
each_map P Q f told (event.Solved t n x ∷ xs) a = (f told t x a.0, each_map P Q f told xs a.1)
each_map P Q f told (event.Domain t n ∷ xs) a = each_map P Q f (told_after told (event.Domain t n)) xs a
each_map P Q f told (event.Cross t n k on ∷ xs) a = each_map P Q f (told_after told (event.Cross t n k on)) xs a
each_map P Q f told (event.Signal t n i value ∷ xs) a = each_map P Q f (told_after told (event.Signal t n i value)) xs a
each_map P Q f told (event.Broke t n elements ∷ xs) a = each_map P Q f (told_after told (event.Broke t n elements)) xs a
each_map P Q f told (event.Report t n severity text ∷ xs) a = each_map P Q f (told_after told (event.Report t n severity text)) xs a
each_map P Q f told (event.Branch t n k c ∷ xs) a = each_map P Q f (told_after told (event.Branch t n k c)) xs a

-- ---- the branches before a point

-- of so many choices the branches that were named, in order
abbrev pub named : ℕ → List ℕ → List (Option ℕ)
named zero olds = []
named (suc n) [] = None ∷ named n []
named (suc n) (b ∷ olds) = Some b ∷ named n olds

pub none_named : (n : ℕ) → named n [] ≡ replicate n None
none_named zero = refl
none_named (suc n) = ap (λ xs. None ∷ xs) (none_named n)

pub all_named : (bs : List ℕ) → named (length bs) bs ≡ map Some bs
all_named [] = refl
all_named (b ∷ bs) = ap (λ xs. Some b ∷ xs) (all_named bs)

pub branches_no_points : (P : Told → ℕ → List ℤ → Type 0) (told : Told) (t n k : ℕ) (bs olds : List ℕ) → EachPoint P told (branch_events t n k bs olds)
unfolding branch_events
branches_no_points P told t n k [] olds = tt
branches_no_points P told t n k (b ∷ bs) [] = branches_no_points P (told_after told (event.Branch t n k b)) t n (k + 1) bs []
branches_no_points P told t n k (b ∷ bs) (old ∷ olds) =
    elim (b == old) as (λ c. EachPoint P told (branch_event c t n k b ++ branch_events t n (k + 1) bs olds)) [
      | true ↦ branches_no_points P told t n (k + 1) bs olds
      | false ↦ branches_no_points P (told_after told (event.Branch t n k b)) t n (k + 1) bs olds
    ]

abbrev with_branches : Told → List (Option ℕ) → Told
with_branches told branches = record told { branches = branches }

moved : (front : List (Option ℕ)) (b : ℕ) (rest : List (Option ℕ)) → (front ++ Some b ∷ []) ++ rest ≡ front ++ Some b ∷ rest
moved front b rest = append_assoc front (Some b ∷ []) rest

same : (a b : ℕ) → (a == b) ≡ true → a ≡ b
same a b e = grind (arith, eqb_tells)

branches_from : (told : Told) (t n k : ℕ) (bs olds : List ℕ) (front : List (Option ℕ)) → length front ≡ k → told.branches ≡ front ++ named (length bs) olds
    → told_over told (branch_events t n k bs olds) ≡ with_branches told (front ++ map Some bs)
unfolding branch_events
branches_from told t n k [] olds front e h = ap (with_branches told) h
branches_from told t n k (b ∷ bs) [] front e h =
    let now : slice_set told.branches k (Some b) ≡ front ++ Some b ∷ named (length bs) [] = ap (λ xs. slice_set xs k (Some b)) h ∙ set_at front None (named (length bs) []) (Some b) k e in
    branches_from (told_after told (event.Branch t n k b)) t n (k + 1) bs [] (front ++ Some b ∷ []) (length_push front (Some b) ∙ ap (λ m. m + 1) e) (now ∙ sym (moved front b (named (length bs) [])))
    ∙ ap (with_branches told) (moved front b (map Some bs))
branches_from told t n k (b ∷ bs) (old ∷ olds) front e h =
    elim (b == old) as (λ c. (b == old) ≡ c → told_over told (branch_event c t n k b ++ branch_events t n (k + 1) bs olds) ≡ with_branches told (front ++ Some b ∷ map Some bs)) [
      | true ↦ λ stays.
          let here : Some old ≡ Some b = ap (λ (a : ℕ). Some a) (sym (same b old stays)) in
          branches_from told t n (k + 1) bs olds (front ++ Some b ∷ []) (length_push front (Some b) ∙ ap (λ m. m + 1) e)
          (h ∙ ap (λ (a : Option ℕ). front ++ a ∷ named (length bs) olds) here ∙ sym (moved front b (named (length bs) olds)))
          ∙ ap (with_branches told) (moved front b (map Some bs))
      | false ↦ λ changes.
          let now : slice_set told.branches k (Some b) ≡ front ++ Some b ∷ named (length bs) olds = ap (λ xs. slice_set xs k (Some b)) h ∙ set_at front (Some old) (named (length bs) olds) (Some b) k e in
          branches_from (told_after told (event.Branch t n k b)) t n (k + 1) bs olds (front ++ Some b ∷ []) (length_push front (Some b) ∙ ap (λ m. m + 1) e) (now ∙ sym (moved front b (named (length bs) olds)))
          ∙ ap (with_branches told) (moved front b (map Some bs))
    ] refl

-- behind them every choice is named
pub branches_told : (told : Told) (t n : ℕ) (bs olds : List ℕ) → told.branches ≡ named (length bs) olds → told_over told (branch_events t n 0 bs olds) ≡ record told { branches = map Some bs }
branches_told told t n bs olds h = branches_from told t n 0 bs olds [] refl h

-- and behind the point
pub point_told : (told : Told) (t n : ℕ) (x : List ℤ) (bs olds : List ℕ) → told.branches ≡ named (length bs) olds → told_over told (point_events t n x bs olds) ≡ record told { branches = map Some bs }
point_told told t n x bs olds h = over_append told (branch_events t n 0 bs olds) (event.Solved t n x ∷ []) ∙ branches_told told t n bs olds h

-- what holds of the point, with every choice named
pub point_holds : (P : Told → ℕ → List ℤ → Type 0) (told : Told) (t n : ℕ) (x : List ℤ) (bs olds : List ℕ) → told.branches ≡ named (length bs) olds → P (record told { branches = map Some bs }) t x
    → EachPoint P told (point_events t n x bs olds)
point_holds P told t n x bs olds h at =
    each_append P told (branch_events t n 0 bs olds) (event.Solved t n x ∷ []) (branches_no_points P told t n 0 bs olds)
    (subst (λ (now : Told). P now t x) (sym (branches_told told t n bs olds h)) at, tt)
