-- Lists with more behind them, and numbers in lists.
use Rattle.std.proofs.Common.{◌≡◌, ◌<◌, ◌+◌, ℕ, zero, suc, arith, ◌⊎◌, inl, inr, ⊎_elim, Bool, true, false, List, [], ◌∷◌, ◌++◌, length, length-append, Some, refl, ap, sym, subst}
use Rattle.std.specs.Prelude.{nat_eq, ◌||◌}
use Rattle.std.specs.List.{slice_get, list_any}
use Rattle.std.proofs.lemmas.Bool.Decides.{nat_tests}
use Rattle.reading_laws.specs.Growing.{Extends}

pub same_number : (i : ℕ) → nat_eq i i ≡ true
same_number i = grind (arith, nat_tests)

pub is_number : (i j : ℕ) → nat_eq i j ≡ true → i ≡ j
is_number i j h = grind (arith, nat_tests)

pub not_both : (b : Bool) → b ≡ true → b ≡ false → ⊥
not_both true h k = absurd (cc)
not_both false h k = absurd (cc)

pub false_unless : (b : Bool) → (b ≡ true → ⊥) → b ≡ false
false_unless true h = absurd (h refl)
false_unless false h = refl

pub truth_or : (a b : Bool) → (a || b) ≡ true → (a ≡ true) ⊎ (b ≡ true)
truth_or true b h = inl refl
truth_or false b h = inr h

or_left : (a b : Bool) → a ≡ true → (a || b) ≡ true
or_left true b h = refl
or_left false b h = absurd (cc)

or_right : (a b : Bool) → b ≡ true → (a || b) ≡ true
or_right true b h = refl
or_right false b h = h

-- ---- members by their places

module _ (A : Type 0) where
  pub at_end : (xs : List A) (x : A) (more : List A) → slice_get ((xs ++ x ∷ []) ++ more) (length xs) ≡ Some x
  at_end [] x more = refl
  at_end (y ∷ xs) x more = at_end xs x more

  still_there : (xs more : List A) (i : ℕ) (x : A) → slice_get xs i ≡ Some x → slice_get (xs ++ more) i ≡ Some x
  still_there [] more zero x h = absurd (cc)
  still_there [] more (suc i) x h = absurd (cc)
  still_there (y ∷ xs) more zero x h = h
  still_there (y ∷ xs) more (suc i) x h = still_there xs more i x h

  pub front_at : (xs ys : List A) → Extends A xs ys → (i : ℕ) (x : A) → slice_get xs i ≡ Some x → slice_get ys i ≡ Some x
  front_at xs ys e i x h = subst (λ (l : List A). slice_get l i ≡ Some x) (sym e.whole) (still_there xs e.more i x h)

  pub end_at : (xs ys : List A) (x : A) → Extends A (xs ++ x ∷ []) ys → slice_get ys (length xs) ≡ Some x
  end_at xs ys x e = subst (λ (l : List A). slice_get l (length xs) ≡ Some x) (sym e.whole) (at_end xs x e.more)

  pub none_at_end : (xs : List A) (x : A) → slice_get xs (length xs) ≡ Some x → ⊥
  none_at_end [] x h = absurd (cc)
  none_at_end (y ∷ xs) x h = none_at_end xs x h

  pub end_below : (xs ys : List A) (x : A) → Extends A (xs ++ x ∷ []) ys → length xs < length ys
  end_below xs ys x e =
      let whole : length ys ≡ length ((xs ++ x ∷ []) ++ e.more) = ap length e.whole in
      let parts : length ((xs ++ x ∷ []) ++ e.more) ≡ length (xs ++ x ∷ []) + length e.more = length-append (xs ++ x ∷ []) e.more in
      let last : length (xs ++ x ∷ []) ≡ length xs + 1 = length-append xs (x ∷ []) in
      omega arith

-- ---- numbers in lists

any_front : (i : ℕ) (xs more : List ℕ) → list_any (nat_eq i) xs ≡ true → list_any (nat_eq i) (xs ++ more) ≡ true
any_front i [] more h = absurd (cc)
any_front i (x ∷ xs) more h =
    ⊎_elim (λ here. or_left (nat_eq i x) (list_any (nat_eq i) (xs ++ more)) here) (λ there. or_right (nat_eq i x) (list_any (nat_eq i) (xs ++ more)) (any_front i xs more there))
    (truth_or (nat_eq i x) (list_any (nat_eq i) xs) h)

pub any_on : (i : ℕ) (xs ys : List ℕ) → Extends ℕ xs ys → list_any (nat_eq i) xs ≡ true → list_any (nat_eq i) ys ≡ true
any_on i xs ys e h = subst (λ (l : List ℕ). list_any (nat_eq i) l ≡ true) (sym e.whole) (any_front i xs e.more h)

pub any_end : (i : ℕ) (xs : List ℕ) → list_any (nat_eq i) (xs ++ i ∷ []) ≡ true
any_end i [] = or_left (nat_eq i i) (list_any (nat_eq i) []) (same_number i)
any_end i (x ∷ xs) = or_right (nat_eq i x) (list_any (nat_eq i) (xs ++ i ∷ [])) (any_end i xs)

pub any_more : (i : ℕ) (xs : List ℕ) (x : ℕ) → list_any (nat_eq i) xs ≡ true → list_any (nat_eq i) (xs ++ x ∷ []) ≡ true
any_more i xs x h = any_front i xs (x ∷ []) h

pub any_split : (i : ℕ) (xs : List ℕ) (x : ℕ) → list_any (nat_eq i) (xs ++ x ∷ []) ≡ true → (list_any (nat_eq i) xs ≡ true) ⊎ (i ≡ x)
any_split i [] x h = ⊎_elim (λ here. inr (is_number i x here)) (λ there. absurd (nothing i there)) (truth_or (nat_eq i x) (list_any (nat_eq i) []) h)
  where
    nothing : (i : ℕ) → list_any (nat_eq i) [] ≡ true → ⊥
    nothing i h = absurd (cc)
any_split i (y ∷ xs) x h =
    ⊎_elim
    (λ here. inl (or_left (nat_eq i y) (list_any (nat_eq i) xs) here))
    (λ there. ⊎_elim (λ old. inl (or_right (nat_eq i y) (list_any (nat_eq i) xs) old)) (λ last. inr last) (any_split i xs x there))
    (truth_or (nat_eq i y) (list_any (nat_eq i) (xs ++ x ∷ [])) h)
