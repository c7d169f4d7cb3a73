-- One item more of a list that is read.
use Rattle.std.proofs.Common.{◌≡◌, ℕ, suc, ◌+◌, ◌<◌, List, [], ◌∷◌, length, get_or, drop, map, Option, sym, ap, ◌∙◌, subst, add-one}
use Rattle.std.proofs.Math.Seq.{drop-cons}
use Rattle.flat_expr.specs.declared.statement.Branch.{Branch}
use Rattle.flat_expr.specs.declared.statement.Alternative.{Alternative}
use Rattle.name_scope.specs.declared.scope.Scope.{Scope}
use Rattle.name_scope.specs.declared.thing.Kind.{Kind}
use Rattle.elab_meaning.specs.declared.part.Part.{Part}
use Rattle.elab_meaning.specs.Parts.{both}
use Rattle.unit_meaning.specs.declared.draft.Draft.{Draft}
use Rattle.unit_meaning.specs.declared.draft.Seen.{Seen}
use Rattle.unit_meaning.specs.declared.draft.Spot.{Spot}
use Rattle.unit_meaning.specs.Settings.{ahead}
use Rattle.unit_meaning.specs.Sequential.{BranchReads, CaseReads, branches, alternatives, way_to}
use Rattle.statement_parts.specs.Lists.{behind, joined}
use Rattle.statement_parts.proofs.Puts.{put_ahead}

left : {X : Type 0} (xs : List X) (k : ℕ) (x : X) → k < length xs → x ≡ get_or xs k x → drop k xs ≡ x ∷ drop (k + 1) xs
left xs k x h is = drop-cons xs k x h ∙ (ap (λ y. y ∷ drop (suc k) xs) (sym is) ∙ ap (λ j. x ∷ drop j xs) (sym (add-one k)))

-- a part more, of what is read from the left
told_more : {A : Type 0} (all more : Part (List A)) (one found : Part A) (rest last : Part (List A))
    → more ≡ both behind all one → one ≡ found → rest ≡ last → both joined more rest ≡ both joined all (both ahead found last)
told_more all more one found rest last is answer same =
    ap (λ p. both joined p rest) is
    ∙ (ap (λ p. both joined (both behind all p) rest) answer ∙ (ap (λ r. both joined (both behind all found) r) same ∙ put_ahead all found last))

-- a branch more
pub branches_step : {X : Type 0} (f : X → BranchReads) (xs : List X) (k : ℕ) (x : X) (scope now first : Scope) (spot way : Spot) (i b after : ℕ) (d m whole : Draft)
    → (all more told : Part (List Branch)) (one : Part Branch)
    → k < length xs → x ≡ get_or xs k x
    → way ≡ way_to spot i b → m ≡ (f x scope way d).0 → one ≡ (f x scope way d).1 → now ≡ scope → more ≡ both behind all one → after ≡ b + 1
    → (branches (map f (drop k xs)) scope spot i b d).0 ≡ whole
    → both joined all (branches (map f (drop k xs)) scope spot i b d).1 ≡ told
    → scope ≡ first
    → ((branches (map f (drop (k + 1) xs)) now spot i after m).0 ≡ whole) × ((both joined more (branches (map f (drop (k + 1) xs)) now spot i after m).1 ≡ told) × (now ≡ first))
branches_step f xs k x scope now first spot way i b after d m whole all more told one h is ew em eo en ea en2 p q r =
    let e = left xs k x h is in
    let rest = branches (map f (drop (k + 1) xs)) in
    let p2 = subst (λ ys. (branches (map f ys) scope spot i b d).0 ≡ whole) e p in
    let q2 = subst (λ ys. both joined all (branches (map f ys) scope spot i b d).1 ≡ told) e q in
    let one_draft : m ≡ (f x scope (way_to spot i b) d).0 = em ∙ ap (λ v. (f x scope v d).0) ew in
    let one_told : one ≡ (f x scope (way_to spot i b) d).1 = eo ∙ ap (λ v. (f x scope v d).1) ew in
    let same : rest now spot i after m ≡ rest scope spot i (b + 1) (f x scope (way_to spot i b) d).0 =
    ap (λ s. rest s spot i after m) en ∙ (ap (λ j. rest scope spot i j m) en2 ∙ ap (λ v. rest scope spot i (b + 1) v) one_draft) in (
      ap (λ (z : Draft × Part (List Branch)). z.0) same ∙ p2,
      (told_more all more one (f x scope (way_to spot i b) d).1 (rest now spot i after m).1 (rest scope spot i (b + 1) (f x scope (way_to spot i b) d).0).1 ea one_told (ap (λ (z : Draft × Part (List Branch)). z.1) same) ∙ q2, en ∙ r),
    )

-- an alternative more
pub alternatives_step : {X : Type 0} (f : X → CaseReads) (xs : List X) (k : ℕ) (x : X) (scope now first : Scope) (spot way : Spot) (i b after : ℕ) (kind : Option Kind)
    → (seen next last : Seen) (d m whole : Draft) (all more told : Part (List Alternative)) (one : Part Alternative)
    → k < length xs → x ≡ get_or xs k x
    → way ≡ way_to spot i b → m ≡ (f x scope way kind seen d).0 → next ≡ (f x scope way kind seen d).1.0 → one ≡ (f x scope way kind seen d).1.1
    → now ≡ scope → more ≡ both behind all one → after ≡ b + 1
    → (alternatives (map f (drop k xs)) scope spot i b kind seen d).0 ≡ whole
    → (alternatives (map f (drop k xs)) scope spot i b kind seen d).1.0 ≡ last
    → both joined all (alternatives (map f (drop k xs)) scope spot i b kind seen d).1.1 ≡ told
    → scope ≡ first
    → ((alternatives (map f (drop (k + 1) xs)) now spot i after kind next m).0 ≡ whole)
    × (((alternatives (map f (drop (k + 1) xs)) now spot i after kind next m).1.0 ≡ last)
    × ((both joined more (alternatives (map f (drop (k + 1) xs)) now spot i after kind next m).1.1 ≡ told) × (now ≡ first)))
alternatives_step f xs k x scope now first spot way i b after kind seen next last d m whole all more told one h is ew em es eo en ea en2 p s q r =
    let e = left xs k x h is in
    let rest = alternatives (map f (drop (k + 1) xs)) in
    let found = f x scope (way_to spot i b) kind seen d in
    let p2 = subst (λ ys. (alternatives (map f ys) scope spot i b kind seen d).0 ≡ whole) e p in
    let s2 = subst (λ ys. (alternatives (map f ys) scope spot i b kind seen d).1.0 ≡ last) e s in
    let q2 = subst (λ ys. both joined all (alternatives (map f ys) scope spot i b kind seen d).1.1 ≡ told) e q in
    let one_draft : m ≡ found.0 = em ∙ ap (λ v. (f x scope v kind seen d).0) ew in
    let one_seen : next ≡ found.1.0 = es ∙ ap (λ v. (f x scope v kind seen d).1.0) ew in
    let one_told : one ≡ found.1.1 = eo ∙ ap (λ v. (f x scope v kind seen d).1.1) ew in
    let same : rest now spot i after kind next m ≡ rest scope spot i (b + 1) kind found.1.0 found.0 =
    ap (λ s. rest s spot i after kind next m) en
    ∙ (ap (λ j. rest scope spot i j kind next m) en2 ∙ (ap (λ u. rest scope spot i (b + 1) kind u m) one_seen ∙ ap (λ v. rest scope spot i (b + 1) kind found.1.0 v) one_draft)) in (
      ap (λ (z : Draft × (Seen × Part (List Alternative))). z.0) same ∙ p2,
      (
        ap (λ (z : Draft × (Seen × Part (List Alternative))). z.1.0) same ∙ s2,
        (told_more all more one found.1.1 (rest now spot i after kind next m).1.1 (rest scope spot i (b + 1) kind found.1.0 found.0).1.1 ea one_told (ap (λ (z : Draft × (Seen × Part (List Alternative))). z.1.1) same) ∙ q2, en ∙ r),
      ),
    )
