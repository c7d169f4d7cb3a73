-- Pairs of a time and a source, and what the order of them says of the times.
use Rattle.std.proofs.Common.{◌≡◌, ℕ, zero, suc, ◌<◌, ◌≤◌, Bool, true, false, ◌||◌, ◌&&◌, List, [], ◌∷◌, length, get_or, set, Some, inl, inr, refl, sym, ap, subst, ◌∙◌, arith}
use Rattle.std.specs.Prelude.{nat_eq, not, cond, Option, None, IfSome, nat_lt, position}
use Rattle.std.specs.List.{All, list_any, position_or_len}
use Rattle.std.specs.BTreeSet.{BTreeSet, contains}
use Rattle.std.specs.Ordering.{nat_cmp, is_eq, is_gt}
use Rattle.std.specs.declared.cmp.Ordering.TheVariants.{Less, Equal, Greater}
use Rattle.std.specs.Cmp.{nat_cmp_is}
use Rattle.std.proofs.lemmas.Bool.{cases_lt, cases_eq}
use Rattle.std.proofs.lemmas.Bool.Decides.{nat_tests}
use Rattle.std.proofs.lemmas.List.Sums.{position_or_len_is}
use Rattle.std.proofs.lemmas.List.{get_or_default, get_or-set_same, get_or-set_other}
use Rattle.agenda.specs.Times.{pair_cmp, is_time, is_key, stands, IsLeast}

-- ---- comparisons

nat_yes : (x y : ℕ) → x ≡ y → nat_eq x y ≡ true
nat_yes x y e = grind (arith, nat_tests)

nat_no : (x y : ℕ) → (x ≡ y → ⊥) → nat_eq x y ≡ false
nat_no x y e = grind (arith, nat_tests)

nat_same : (x y : ℕ) → nat_eq x y ≡ true → x ≡ y
nat_same x y e = grind (arith, nat_tests)

nat_is_eq : (x y : ℕ) → is_eq (nat_cmp x y) ≡ nat_eq x y
nat_is_eq x y =
    elim (cases_lt x y) [
      | inl less ↦ rw (← nat_cmp_is x y Less less, nat_no x y (λ e. omega arith)) refl
      | inr more ↦ elim (cases_lt y x) [
        | inl greater ↦ rw (← nat_cmp_is x y Greater greater, nat_no x y (λ e. omega arith)) refl
        | inr le ↦ let same : x ≡ y = omega arith in rw (← nat_cmp_is x y Equal same, nat_yes x y same) refl
      ]
    ]

pair_is_eq : (a b c d : ℕ) → is_eq (pair_cmp (a, b) (c, d)) ≡ (nat_eq a c && nat_eq b d)
pair_is_eq a b c d =
    elim (cases_lt a c) [
      | inl less ↦ rw (← nat_cmp_is a c Less less, nat_no a c (λ e. omega arith)) refl
      | inr more ↦ elim (cases_lt c a) [
        | inl greater ↦ rw (← nat_cmp_is a c Greater greater, nat_no a c (λ e. omega arith)) refl
        | inr le ↦ let same : a ≡ c = omega arith in rw (← nat_cmp_is a c Equal same, nat_yes a c same) (nat_is_eq b d)
      ]
    ]

not_le : (a b c d : ℕ) → c < a → is_gt (pair_cmp (a, b) (c, d)) ≡ false → ⊥
not_le a b c d greater e = let f = rw (← nat_cmp_is a c Greater greater) at e in cc

pub pair_le : (a b c d : ℕ) → is_gt (pair_cmp (a, b) (c, d)) ≡ false → a ≤ c
pair_le a b c d e =
    elim (cases_lt c a) [ inl greater ↦ absurd (not_le a b c d greater e) | inr le ↦ le ]

-- ---- tests

or_is : (b o : Bool) → cond b true o ≡ (b || o)
or_is true o = refl
or_is false o = refl

and_not_is : (b o : Bool) → cond b false o ≡ (o && not b)
and_not_is true true = refl
and_not_is true false = refl
and_not_is false true = refl
and_not_is false false = refl

pub entered : (at : Option ℕ) (u v source t s : ℕ) (n o : Bool) → at ≡ Some u → v ≡ u → n ≡ cond (is_eq (pair_cmp (v, source) (t, s))) true o → n ≡ (is_key at source t s || o)
entered at u v source t s n o ea ev e = rw (ea, ← ev) (e ∙ or_is (is_eq (pair_cmp (v, source) (t, s))) o ∙ ap (λ (b : Bool). b || o) (pair_is_eq v source t s))

pub left : (at : Option ℕ) (u v source t s : ℕ) (n o : Bool) → at ≡ Some u → v ≡ u → n ≡ cond (is_eq (pair_cmp (v, source) (t, s))) false o → n ≡ (o && not (is_key at source t s))
left at u v source t s n o ea ev e = rw (ea, ← ev) (e ∙ and_not_is (is_eq (pair_cmp (v, source) (t, s))) o ∙ ap (λ (b : Bool). o && not b) (pair_is_eq v source t s))

replaced : (a b : Bool) → (a ≡ true → b ≡ true → ⊥) → ((a || b) && not b) ≡ a
replaced true true apart = absurd (apart refl refl)
replaced true false apart = refl
replaced false true apart = refl
replaced false false apart = refl

untouched : (o : Bool) → ((false || o) && not false) ≡ o
untouched true = refl
untouched false = refl

and_true : (b : Bool) → (b && true) ≡ b
and_true true = refl
and_true false = refl

and_false : (b : Bool) → (b && false) ≡ false
and_false true = refl
and_false false = refl

apart : (before at : Option ℕ) (t : ℕ) → (before ≡ at → ⊥) → is_time at t ≡ true → is_time before t ≡ true → ⊥
apart None at t other a b = cc
apart (Some u) None t other a b = cc
apart (Some u) (Some v) t other a b = other (ap Some (nat_same u t b ∙ sym (nat_same v t a)))

-- a source's time has moved from one to another
pub moved : (times : List (Option ℕ)) (source : ℕ) (before at : Option ℕ) (t s : ℕ) (o m n : Bool) → source < length times → before ≡ get_or times source None → (before ≡ at → ⊥) → o ≡ stands times t s → m ≡ (is_key at source t s || o) → n ≡ (m && not (is_key before source t s)) → n ≡ stands (set times source at) t s
moved times source before at t s o m n inside eb other eo em en =
    elim (cases_eq source s) [
      | inl same ↦
          let hit : nat_eq source s ≡ true = nat_yes source s same in
          let old : o ≡ is_time before t = eo ∙ ap (λ (x : Option ℕ). is_time x t) (ap (λ (k : ℕ). get_or times k None) (sym same) ∙ sym eb) in
          let new : stands (set times source at) t s ≡ is_time at t = ap (λ (k : ℕ). is_time (get_or (set times source at) k None) t) (sym same) ∙ ap (λ (x : Option ℕ). is_time x t) (get_or-set_same times source at None inside) in
          rw (en, em, old, hit, and_true (is_time at t), and_true (is_time before t), new) (replaced (is_time at t) (is_time before t) (apart before at t other))
      | inr differ ↦
          let miss : nat_eq source s ≡ false = nat_no source s differ in
          let new : stands (set times source at) t s ≡ stands times t s = ap (λ (x : Option ℕ). is_time x t) (get_or-set_other times source s at None (λ e. differ (sym e))) in
          rw (en, em, miss, and_false (is_time at t), and_false (is_time before t), new, ← eo) (untouched o)
    ]

-- ---- what the order says of the times

past : (times : List (Option ℕ)) (k : ℕ) → length times ≤ k → get_or times k None ≡ None
past [] k h = refl
past (x ∷ times) zero h = absurd (omega arith)
past (x ∷ times) (suc k) h = past times k (omega arith)

time_is : (time : Option ℕ) (t : ℕ) → is_time time t ≡ true → time ≡ Some t
time_is None t e = cc
time_is (Some u) t e = ap Some (nat_same u t e)

pub found : (times : List (Option ℕ)) (t s : ℕ) → stands times t s ≡ true → (s < length times) × (get_or times s None ≡ Some t)
found times t s e =
    elim (cases_lt s (length times)) [
      | inl inside ↦ (inside, time_is (get_or times s None) t e)
      | inr out ↦ let none : get_or times s None ≡ None = past times s out in let there : get_or times s None ≡ Some t = time_is (get_or times s None) t e in cc
    ]

none_of : (time : Option ℕ) → ((t : ℕ) → is_time time t ≡ false) → time ≡ None
none_of None none = refl
none_of (Some u) none = let no = none u in let yes : nat_eq u u ≡ true = nat_yes u u refl in cc

pub none_pending : (times : List (Option ℕ)) → ((t s : ℕ) → stands times t s ≡ false) → All (λ time. time ≡ None) times
none_pending times none = λ k d h. get_or_default times k d None h ∙ none_of (get_or times k None) (λ t. none t k)

bound : (t : ℕ) (time : Option ℕ) → ((u : ℕ) → time ≡ Some u → t ≤ u) → IfSome time (λ u. t ≤ u)
bound t None le = tt
bound t (Some u) le = le u refl

pub least_is : (times : List (Option ℕ)) (t s : ℕ) → stands times t s ≡ true → ((u r : ℕ) → stands times u r ≡ true → t ≤ u) → IsLeast t times
least_is times t s e least =
    let here = found times t s e in
    record {
      pending = (s, here.0, get_or_default times s (Some t) None here.0 ∙ here.1);
      least = λ k d h. bound t (get_or times k d) (λ u eq. least u k (ap (λ (x : Option ℕ). is_time x u) (get_or_default times k None d h ∙ eq) ∙ nat_yes u u refl));
    }

none_in : (test : ℕ × ℕ → Bool) (keys : List (ℕ × ℕ)) → (0 < length keys → ⊥) → list_any test keys ≡ false
none_in test [] none = refl
none_in test (k ∷ keys) none = absurd (none (omega arith))

pub none_contained : (order : BTreeSet (ℕ × ℕ)) (t s : ℕ) → (0 < length order.keys → ⊥) → contains pair_cmp order (t, s) ≡ false
none_contained order t s none = none_in (λ k. is_eq (pair_cmp (t, s) k)) order.keys none

-- ---- the first source with a time

same_then : (a b d : ℕ) → is_gt (pair_cmp (a, b) (a, d)) ≡ is_gt (nat_cmp b d)
same_then a b d = rw (← nat_cmp_is a a Equal refl) refl

cmp_le : (b d : ℕ) → is_gt (nat_cmp b d) ≡ false → b ≤ d
cmp_le b d e =
    elim (cases_lt d b) [
      | inl greater ↦ absurd (let f = rw (← nat_cmp_is b d Greater greater) at e in cc)
      | inr le ↦ le
    ]

pub source_le : (t s u r : ℕ) → t ≡ u → is_gt (pair_cmp (t, s) (u, r)) ≡ false → s ≤ r
source_le t s u r same e = cmp_le s r (sym (same_then t s r) ∙ subst (λ (x : ℕ). is_gt (pair_cmp (t, s) (x, r)) ≡ false) (sym same) e)

position_found : (times : List (Option ℕ)) (n s : ℕ) → n ≡ s → s < length times → cond (nat_lt n (length times)) (Some n) None ≡ Some s
position_found times n s e h = let t : nat_lt n (length times) ≡ true = grind (arith, nat_tests) in rw (t, e) refl

position_gone : (times : List (Option ℕ)) (n : ℕ) → n ≡ length times → cond (nat_lt n (length times)) (Some n) None ≡ None
position_gone times n e = let t : nat_lt n (length times) ≡ false = grind (arith, nat_tests) in rw t refl

not_at : (b : Bool) → (b ≡ true → ⊥) → b ≡ false
not_at true other = absurd (other refl)
not_at false other = refl

pub first_found : (times : List (Option ℕ)) (t s : ℕ) → stands times t s ≡ true → ((r : ℕ) → stands times t r ≡ true → s ≤ r) → position (λ time. is_time time t) times ≡ Some s
first_found times t s there first =
    let inside : s < length times = (found times t s there).0 in
    position_found times (position_or_len (λ time. is_time time t) times) s
    (position_or_len_is (λ time. is_time time t) times s None (omega arith)
    (λ k less. not_at (stands times t k) (λ e. let le : s ≤ k = first k e in omega arith)) (λ _. there)) inside

pub first_missing : (times : List (Option ℕ)) (t : ℕ) → ((r : ℕ) → stands times t r ≡ true → ⊥) → position (λ time. is_time time t) times ≡ None
first_missing times t none =
    position_gone times (position_or_len (λ time. is_time time t) times)
    (position_or_len_is (λ time. is_time time t) times (length times) None (omega arith)
    (λ k less. not_at (stands times t k) (none k)) (λ h. absurd (omega arith)))

time_le : (t : ℕ) (time : Option ℕ) (u : ℕ) → time ≡ Some u → IfSome time (λ v. t ≤ v) → t ≤ u
time_le t None u e h = cc
time_le t (Some v) u e h = let same : v ≡ u = cc in omega arith

pub from_time : (times : List (Option ℕ)) (t u s : ℕ) → All (λ time. IfSome time (λ v. t ≤ v)) times → stands times u s ≡ true → t ≤ u
from_time times t u s all there = let f = found times u s there in time_le t (get_or times s None) u f.1 (all s None f.0)
