-- Sets of kinds of token.
use Rattle.std.proofs.Common.{◌≡◌, ◌⊎◌, ℕ, zero, suc, ◌+◌, ◌≤◌, ◌<◌, Bool, true, false, ◌&&◌, ◌||◌, not, nat_eq, List, [], ◌∷◌, ◌++◌, length, Option, Some, None, is_some, refl, sym, ◌∙◌, ap, subst, inl, inr, arith, append_assoc, true≢false}
use Rattle.ams_token.specs.declared.token.Token.{Token}
use Rattle.ams_token.specs.Classes.{class}

abbrev pub has : List ℕ → ℕ → Bool
has [] c = false
has (x ∷ xs) c = nat_eq c x || has xs c

-- a text begins with a token of the set
abbrev pub starts : List ℕ → List Token → Bool
starts F [] = false
starts F (t ∷ ts) = has F (class t)

abbrev pub apart : List ℕ → List ℕ → Bool
apart [] ys = true
apart (x ∷ xs) ys = not (has ys x) && apart xs ys

abbrev pub when : Bool → List ℕ → List ℕ
when true xs = xs
when false xs = []

pub true_or_false : (b : Bool) → (b ≡ true) ⊎ (b ≡ false)
true_or_false true = inl refl
true_or_false false = inr refl

or_cases : (a b : Bool) → (a || b) ≡ true → (a ≡ true) ⊎ (b ≡ true)
or_cases true b h = inl refl
or_cases false b h = inr h

or_right : (a b : Bool) → b ≡ true → (a || b) ≡ true
or_right true b h = refl
or_right false b h = h

or_left : (a b : Bool) → a ≡ true → (a || b) ≡ true
or_left true b h = refl
or_left false b h = cc

or_false : (a b : Bool) → (a || b) ≡ false → (a ≡ false) × (b ≡ false)
or_false true b h = cc
or_false false b h = (refl, h)

and_cases : (a b : Bool) → (a && b) ≡ true → (a ≡ true) × (b ≡ true)
and_cases true b h = (refl, h)
and_cases false b h = cc

pub and_both : (a b : Bool) → a ≡ true → b ≡ true → (a && b) ≡ true
and_both true b h k = k
and_both false b h k = cc

pub and_parts : (a b : Bool) → (a && b) ≡ true → (a ≡ true) × (b ≡ true)
and_parts a b h = and_cases a b h

pub has-left : (xs ys : List ℕ) (c : ℕ) → has xs c ≡ true → has (xs ++ ys) c ≡ true
has-left [] ys c h = cc
has-left (x ∷ xs) ys c h =
    ⊎_elim' (or_cases (nat_eq c x) (has xs c) h) (λ a. or_left _ _ a) (λ b. or_right _ _ (has-left xs ys c b))
  where
    ⊎_elim' : {A B C : Type 0} → A ⊎ B → (A → C) → (B → C) → C
    ⊎_elim' (inl a) f g = f a
    ⊎_elim' (inr b) f g = g b

pub has-right : (xs ys : List ℕ) (c : ℕ) → has ys c ≡ true → has (xs ++ ys) c ≡ true
has-right [] ys c h = h
has-right (x ∷ xs) ys c h = or_right _ _ (has-right xs ys c h)

-- in the first, or else in the second
pub has_either : (xs ys : List ℕ) (c : ℕ) → has (xs ++ ys) c ≡ true → (has xs c ≡ true) ⊎ ((has xs c ≡ false) × (has ys c ≡ true))
has_either xs ys c h = go (has xs c) refl
  where
    other : (xs : List ℕ) → has (xs ++ ys) c ≡ true → has xs c ≡ false → has ys c ≡ true
    other [] h e = h
    other (x ∷ xs) h e =
        let parts = or_false (nat_eq c x) (has xs c) e in
        other xs (rest (nat_eq c x) (has (xs ++ ys) c) parts.0 h) parts.1
      where
        rest : (a b : Bool) → a ≡ false → (a || b) ≡ true → b ≡ true
        rest true b e h = cc
        rest false b e h = h

    go : (b : Bool) → has xs c ≡ b → (has xs c ≡ true) ⊎ ((has xs c ≡ false) × (has ys c ≡ true))
    go true e = inl e
    go false e = inr (e, other xs h e)

pub has_when : (b : Bool) (xs : List ℕ) (c : ℕ) → has (when b xs) c ≡ true → (b ≡ true) × (has xs c ≡ true)
has_when true xs c h = (refl, h)
has_when false xs c h = cc

pub has-when : (b : Bool) (xs : List ℕ) (c : ℕ) → b ≡ true → has xs c ≡ true → has (when b xs) c ≡ true
has-when true xs c e h = h
has-when false xs c e h = cc

-- what is in neither
pub has_neither : (xs ys : List ℕ) (c : ℕ) → has (xs ++ ys) c ≡ false → (has xs c ≡ false) × (has ys c ≡ false)
has_neither [] ys c h = (refl, h)
has_neither (x ∷ xs) ys c h =
    let parts = or_false (nat_eq c x) (has (xs ++ ys) c) h in
    let more = has_neither xs ys c parts.1 in
    (both (nat_eq c x) (has xs c) parts.0 more.0, more.1)
  where
    both : (a b : Bool) → a ≡ false → b ≡ false → (a || b) ≡ false
    both true b e h = cc
    both false b e h = h

nat_eq_is : (a b : ℕ) → nat_eq a b ≡ true → a ≡ b
nat_eq_is a b h = search Rattle.std.proofs.Common.rules

-- no kind is in two sets that are apart
pub apart_no : (xs ys : List ℕ) (c : ℕ) → apart xs ys ≡ true → has xs c ≡ true → has ys c ≡ true → ⊥
apart_no [] ys c a h k = true≢false (sym h)
apart_no (x ∷ xs) ys c a h k =
    let parts = and_cases (not (has ys x)) (apart xs ys) a in
    go (or_cases (nat_eq c x) (has xs c) h) parts.0 (λ e. apart_no xs ys c parts.1 e k)
  where
    absent : (b : Bool) → not b ≡ true → b ≡ true → ⊥
    absent true e k = true≢false (sym e)
    absent false e k = true≢false (sym k)

    go : (nat_eq c x ≡ true) ⊎ (has xs c ≡ true) → not (has ys x) ≡ true → (has xs c ≡ true → ⊥) → ⊥
    go (inl e) n rest = absent (has ys x) n (ap (has ys) (sym (nat_eq_is c x e)) ∙ k)
    go (inr e) n rest = rest e

pub starts-left : (F G : List ℕ) (ts : List Token) → starts F ts ≡ true → starts (F ++ G) ts ≡ true
starts-left F G [] h = h
starts-left F G (t ∷ ts) h = has-left F G (class t) h

pub starts-right : (F G : List ℕ) (ts : List Token) → starts G ts ≡ true → starts (F ++ G) ts ≡ true
starts-right F G [] h = h
starts-right F G (t ∷ ts) h = has-right F G (class t) h

pub starts-when : (b : Bool) (F : List ℕ) (ts : List Token) → b ≡ true → starts F ts ≡ true → starts (when b F) ts ≡ true
starts-when b F [] e h = h
starts-when b F (t ∷ ts) e h = has-when b F (class t) e h

pub starts_neither : (F G : List ℕ) (ts : List Token) → starts (F ++ G) ts ≡ false → (starts F ts ≡ false) × (starts G ts ≡ false)
starts_neither F G [] h = (refl, refl)
starts_neither F G (t ∷ ts) h = has_neither F G (class t) h

abbrev pub within : List ℕ → List ℕ → Bool
within [] ys = true
within (x ∷ xs) ys = has ys x && within xs ys

pub has-within : (xs ys : List ℕ) (c : ℕ) → within xs ys ≡ true → has xs c ≡ true → has ys c ≡ true
has-within [] ys c w h = absurd (true≢false (sym h))
has-within (x ∷ xs) ys c w h =
    let parts = and_cases (has ys x) (within xs ys) w in
    go (or_cases (nat_eq c x) (has xs c) h) parts.0 (λ e. has-within xs ys c parts.1 e)
  where
    go : (nat_eq c x ≡ true) ⊎ (has xs c ≡ true) → has ys x ≡ true → (has xs c ≡ true → has ys c ≡ true) → has ys c ≡ true
    go (inl e) n rest = ap (has ys) (nat_eq_is c x e) ∙ n
    go (inr e) n rest = rest e

pub starts-within : (F G : List ℕ) (ts : List Token) → within F G ≡ true → starts F ts ≡ true → starts G ts ≡ true
starts-within F G [] w h = h
starts-within F G (t ∷ ts) w h = has-within F G (class t) w h

pub starts-without : (F G : List ℕ) (ts : List Token) → within F G ≡ true → starts G ts ≡ false → starts F ts ≡ false
starts-without F G ts w h = go (starts F ts) refl
  where
    go : (b : Bool) → starts F ts ≡ b → b ≡ false
    go true e = sym (starts-within F G ts w e) ∙ h
    go false e = refl
