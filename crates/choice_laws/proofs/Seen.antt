-- What is seen of the choices of a case.
use Rattle.std.proofs.Common.{◌≡◌, ◌≢◌, ◌≤◌, ◌+◌, ◌⊎◌, inl, inr, ℕ, Bool, true, false, cond, if◌then◌else◌, List, [], ◌∷◌, ◌++◌, length, drop, Option, Some, None, IfSome, IsTrue, append_assoc, append-nil, refl, sym, ap, ◌∙◌, subst, arith}
use Rattle.std.specs.Prelude.{◌&&◌, ◌||◌, not, nat_le, ◌^◌}
use Rattle.std.specs.List.{All, AllPairs, list_any, count_by, slice_get}
use Rattle.std.proofs.lemmas.Bool.Decides.{nat_tests}
use Rattle.std.proofs.lemmas.List.Elements.{All-nil, All-push}
use Rattle.std.proofs.lemmas.List.Quantifiers.{all_pairs_push}
use Rattle.std.proofs.lemmas.List.Sums.{sum_by-cons}
use Rattle.ams_tree.specs.declared.expression.Expr.{Expr}
use Rattle.ams_tree.specs.declared.sequential.Choice.{Choice}
use Rattle.ams_tree.specs.declared.sequential.Choice.TheVariants as choice
use Rattle.ams_value.specs.declared.val.Val.{Val}
use Rattle.ams_value.specs.declared.value_type.ValueType.{ValueType}
use Rattle.ams_value.specs.declared.value_type.ValueType.TheVariants.{Boolean, Bit, Integer, Real, Time, Enumeration as EnumerationType, BitVector}
use Rattle.ams_value.specs.Values.{equals}
use Rattle.flat_design.specs.declared.objects.Enumeration.{Enumeration}
use Rattle.name_scope.specs.declared.thing.Kind.{Kind}
use Rattle.name_scope.specs.declared.thing.Kind.TheVariants.{Of, Vector}
use Rattle.name_scope.specs.declared.scope.Scope.{Scope}
use Rattle.elab_meaning.specs.declared.fault.Notes.{Notes}
use Rattle.elab_meaning.specs.declared.part.Part.{Part}
use Rattle.elab_meaning.specs.declared.part.Part.TheVariants.{Kept, Wrong, Hidden}
use Rattle.elab_meaning.specs.declared.typed.Asked.{Asked}
use Rattle.elab_meaning.specs.declared.typed.Context.{Context}
use Rattle.elab_meaning.specs.Kinds.{same_kind}
use Rattle.elab_meaning.specs.Parts.{part_of, where_true, judged}
use Rattle.elab_meaning.specs.Expressions.{expression, static, static_in, asked}
use Rattle.unit_meaning.specs.declared.draft.Seen.{Seen}
use Rattle.unit_meaning.specs.Settings.{Setting}
use Rattle.unit_meaning.specs.Cases.{place_of, nothing_seen, with_value, choosing_value, one_choice, seen_or, choices, values_since, others_since, literal_count, all_stand, covers}
use Rattle.design_meaning.specs.Typed as flat
use Rattle.design_meaning.specs.Typed.{IsOfType}
use Rattle.design_rules.specs.Choices.{NamesAll, AreChoices}
use Rattle.reading_laws.specs.Growing.{Extends, Grows}
use Rattle.reading_laws.proofs.Growing.{grows_same, grows_on, grows_asked}
use Rattle.reading_laws.proofs.Reading.{reading_adds_notes}
use Rattle.typed_laws.specs.Fitting.{FitsValue}
use Rattle.part_laws.specs.Parts.{OnKept, KeepsPart}
use Rattle.part_laws.proofs.Parts.{same_type_is, judged_kept, where_kept, finished_keeps}
use Rattle.choice_laws.specs.Choices.{AsksValues, CountsLiterals}
use Rattle.choice_laws.proofs.Standing.{not_among, booleans_stand, bits_stand, literals_stand, vectors_stand}

-- ---- no fault before, where none is behind

abbrev pub NoFaults : Notes → Type 0
NoFaults n = n.faults ≡ []

front_empty : (A : Type 0) (xs ys : List A) → [] ≡ xs ++ ys → xs ≡ []
front_empty A [] ys h = refl
front_empty A (x ∷ xs) ys h = absurd (cc)

pub no_faults_before : (a b : Notes) → Grows a b → NoFaults b → NoFaults a
no_faults_before a b g h = front_empty _ a.faults g.faults.more (sym h ∙ g.faults.whole)

-- ---- what is seen

-- values of the type, none twice, each of them known
pub record SeenFits (sizes : List ℕ) (k : ValueType) (s : Seen) : Type 0 where
  pub kinds : All (IsOfType sizes k) s.values
  pub apart : AllPairs (λ a b. a ≢ b) s.values
  pub sure : s.unsure ≡ false

-- more is seen
pub record Further (sizes : List ℕ) (k : ValueType) (s t : Seen) : Type 0 where
  pub values : Extends Val s.values t.values
  pub others : s.others ≡ true → t.others ≡ true
  pub fits : SeenFits sizes k s → SeenFits sizes k t

module _ (sizes : List ℕ) (k : ValueType) where
  pub further_same : (s : Seen) → Further sizes k s s
  further_same s = record { values = record { more = []; whole = sym (append-nil s.values) }; others = λ h. h; fits = λ h. h }

  pub further_on : (s t u : Seen) → Further sizes k s t → Further sizes k t u → Further sizes k s u
  further_on s t u h g =
      record {
        values = record {
          more = h.values.more ++ g.values.more;
          whole = g.values.whole ∙ (ap (λ (l : List Val). l ++ g.values.more) h.values.whole ∙ append_assoc s.values h.values.more g.values.more);
        };
        others = λ e. g.others (h.others e);
        fits = λ e. g.fits (h.fits e);
      }

  new_value : (s : Seen) (v : Val) → IsOfType sizes k v → list_any (equals v) s.values ≡ false → Further sizes k s (record s { values = s.values ++ v ∷ [] })
  new_value s v of new =
      record {
        values = record { more = v ∷ []; whole = refl };
        others = λ h. h;
        fits = λ h. record {
          kinds = All-push (IsOfType sizes k) s.values v h.kinds of;
          apart = all_pairs_push (λ a b. a ≢ b) s.values v h.apart (λ j d less is. not_among v s.values new j d less (sym is));
          sure = h.sure;
        };
      }

  is_not : (b : Bool) → not b ≡ true → b ≡ false
  is_not false h = refl
  is_not true h = absurd (cc)

  value_further : (s : Seen) (v : Val) → IsOfType sizes k v → OnKept (Further sizes k s) (with_value (Some v) s)
  value_further s v of =
      where_kept Seen (Further sizes k s) (not (list_any (equals v) s.values)) (record s { values = s.values ++ v ∷ [] })
      (λ is. new_value s v of (is_not (list_any (equals v) s.values) is))

  others_further : (s : Seen) → OnKept (Further sizes k s) (where_true (not s.others) (record s { others = true }))
  others_further s =
      where_kept Seen (Further sizes k s) (not s.others) (record s { others = true })
      (λ is. record {
        values = record { more = []; whole = sym (append-nil s.values) };
        others = λ h. refl;
        fits = λ h. record { kinds = h.kinds; apart = h.apart; sure = h.sure };
      })

  or_further : (s : Seen) (p : Part Seen) → OnKept (Further sizes k s) p → Further sizes k s (seen_or s p)
  or_further s (Kept t) h = h
  or_further s Wrong h = further_same s
  or_further s Hidden h = further_same s

-- ---- choices that are read

module _ (objects : flat.Scope) (w : Setting) (scope : Scope) (asks : AsksValues objects w.texts scope) (c : Context) (k : ValueType) where
  abbrev Sizes : List ℕ
  Sizes = objects.enumerations

  abbrev Asks : Asked → Type 0
  Asks a = FitsValue objects a.kind a.value

  known_further : (s : Seen) (u : Kind) (v : Option Val) → FitsValue objects u v → same_kind u (Of k) ≡ true → OnKept (Further Sizes k s) (with_value v s)
  known_further s (Of u) (Some v) fits is = value_further Sizes k s v (subst (λ (z : ValueType). IsOfType Sizes z v) (same_type_is u k is) fits)
  known_further s (Of u) None fits is = absurd fits
  known_further s Vector v fits is = absurd fits

  chosen_further : (s : Seen) (a : Asked) → Asks a → OnKept (Further Sizes k s) (choosing_value (Some (Of k)) s a)
  chosen_further s a fits = go (same_kind a.kind (Of k)) refl
    where
      go : (b : Bool) → same_kind a.kind (Of k) ≡ b → OnKept (Further Sizes k s) (if b then with_value a.value s else Wrong)
      go true is = known_further s a.kind a.value fits is
      go false is = tt

  part_asks : (o : Option Asked) → IfSome o Asks → OnKept Asks (part_of o)
  part_asks (Some a) h = h
  part_asks None h = tt

  grows_static : (x : Expr) (n : Notes) → Grows n (static w.texts scope x c n).0
  grows_static x n =
      let found = expression w.texts scope x (static_in c) n in
      grows_on n found.0 (asked found.1 found.0).0 (reading_adds_notes w.texts scope x (static_in c) n) (grows_asked found.1 found.0)

  one_keeps : (s : Seen) (x : Choice) (n : Notes) → KeepsPart Seen NoFaults (Further Sizes k s) n (one_choice w scope c (Some (Of k)) s x n)
  one_keeps s (choice.Value x) n =
      let value = static w.texts scope x c n in
      finished_keeps NoFaults no_faults_before Seen (Further Sizes k s) (place_of x) n (value.0, judged (choosing_value (Some (Of k)) s) (part_of value.1))
      (record {
        grows = grows_static x n;
        right = λ fine. judged_kept Asked Seen Asks (Further Sizes k s) (choosing_value (Some (Of k)) s) (chosen_further s) (part_of value.1) (part_asks value.1 (asks x c n fine));
      })
  one_keeps s (choice.Others place) n =
      finished_keeps NoFaults no_faults_before Seen (Further Sizes k s) place n (n, where_true (not s.others) (record s { others = true }))
      (record { grows = grows_same n; right = λ fine. others_further Sizes k s })

  -- some choices
  pub record SeenBehind (s : Seen) (n : Notes) (found : Notes × (Seen × Part Bool)) : Type 0 where
    pub grows : Grows n found.0
    pub further : NoFaults found.0 → Further Sizes k s found.1.0

  pub choices_keep : (s : Seen) (all : List Choice) (n : Notes) → SeenBehind s n (choices w scope c (Some (Of k)) s all n)
  choices_keep s [] n = record { grows = grows_same n; further = λ fine. further_same Sizes k s }
  choices_keep s (x ∷ more) n =
      let one = one_choice w scope c (Some (Of k)) s x n in
      let first : KeepsPart Seen NoFaults (Further Sizes k s) n one = one_keeps s x n in
      let t = seen_or s one.1 in
      let rest = choices w scope c (Some (Of k)) t more one.0 in
      let behind : SeenBehind t one.0 rest = choices_keep t more one.0 in
      record {
        grows = grows_on n one.0 rest.0 first.grows behind.grows;
        further = λ fine. further_on Sizes k s t rest.1.0 (or_further Sizes k s one.1 (first.right (no_faults_before one.0 rest.0 behind.grows fine))) (behind.further fine);
      }

-- reading choices adds to the notes, whatever is asked of them
grows_value : (w : Setting) (scope : Scope) (c : Context) (x : Expr) (n : Notes) → Grows n (static w.texts scope x c n).0
grows_value w scope c x n =
    let found = expression w.texts scope x (static_in c) n in
    grows_on n found.0 (asked found.1 found.0).0 (reading_adds_notes w.texts scope x (static_in c) n) (grows_asked found.1 found.0)

any_seen : (p : Part Seen) → OnKept (λ (s : Seen). Unit {0}) p
any_seen (Kept s) = tt
any_seen Wrong = tt
any_seen Hidden = tt

abbrev Anything : Notes → Type 0
Anything n = Unit {0}

abbrev AnySeen : Seen → Type 0
AnySeen s = Unit {0}

grows_one : (w : Setting) (scope : Scope) (c : Context) (k : Option Kind) (s : Seen) (x : Choice) (n : Notes) → Grows n (one_choice w scope c k s x n).0
grows_one w scope c k s (choice.Value x) n =
    let value = static w.texts scope x c n in
    let part = judged (choosing_value k s) (part_of value.1) in
    (finished_keeps Anything (λ a b g h. tt) Seen AnySeen (place_of x) n (value.0, part) (record { grows = grows_value w scope c x n; right = λ h. any_seen part })).grows
grows_one w scope c k s (choice.Others place) n =
    let part = where_true (not s.others) (record s { others = true }) in
    (finished_keeps Anything (λ a b g h. tt) Seen AnySeen place n (n, part) (record { grows = grows_same n; right = λ h. any_seen part })).grows

pub grows_choices : (w : Setting) (scope : Scope) (c : Context) (k : Option Kind) (s : Seen) (all : List Choice) (n : Notes) → Grows n (choices w scope c k s all n).0
grows_choices w scope c k s [] n = grows_same n
grows_choices w scope c k s (x ∷ more) n =
    let one = one_choice w scope c k s x n in
    let rest = choices w scope c k (seen_or s one.1) more one.0 in
    grows_on n one.0 rest.0 (grows_one w scope c k s x n) (grows_choices w scope c k (seen_or s one.1) more one.0)

-- ---- choices of several alternatives

abbrev pub one_if : Bool → ℕ
one_if b = cond b 1 0

abbrev pub yes : Bool → Bool
yes b = b

-- between two times these values and others were seen
pub record Listed (s t : Seen) (vs : List Val) (os : List Bool) : Type 0 where
  pub values : t.values ≡ s.values ++ vs
  pub others : t.others ≡ (s.others || list_any (λ b. b) os)
  pub once : count_by (λ b. b) os + one_if s.others ≤ 1

pub listed_none : (s : Seen) → Listed s s [] []
listed_none s = record { values = sym (append-nil s.values); others = or_false s.others; once = at_most s.others }
  where
    or_false : (b : Bool) → b ≡ (b || false)
    or_false true = refl
    or_false false = refl

    at_most : (b : Bool) → 0 + one_if b ≤ 1
    at_most true = omega arith
    at_most false = omega arith

drop_front : (A : Type 0) (xs ys : List A) → drop (length xs) (xs ++ ys) ≡ ys
drop_front A [] ys = refl
drop_front A (x ∷ xs) ys = drop_front A xs ys

others_follow : (s t : Bool) (o : Bool) → (s ≡ true → t ≡ true) → (t || o) ≡ (s || ((t && not s) || o))
others_follow true true o h = refl
others_follow true false o h = absurd (let e = h refl in cc)
others_follow false true o h = refl
others_follow false false o h = refl

once_follow : (s t : Bool) (n : ℕ) → (s ≡ true → t ≡ true) → n + one_if t ≤ 1 → (one_if (t && not s) + n) + one_if s ≤ 1
once_follow true true n h g = omega arith
once_follow true false n h g = absurd (let e = h refl in cc)
once_follow false true n h g = omega arith
once_follow false false n h g = omega arith

pub listed_more : (sizes : List ℕ) (k : ValueType) (s t u : Seen) (vs : List Val) (os : List Bool) → Further sizes k s t → Listed t u vs os
    → Listed s u (values_since s t ++ vs) (others_since s t ∷ os)
listed_more sizes k s t u vs os h g =
    let new : values_since s t ≡ h.values.more =
    subst (λ (l : List Val). drop (length s.values) l ≡ h.values.more) (sym h.values.whole) (drop_front Val s.values h.values.more) in
    record {
      values = g.values ∙ (ap (λ (l : List Val). l ++ vs) h.values.whole ∙ (append_assoc s.values h.values.more vs ∙ ap (λ (l : List Val). s.values ++ (l ++ vs)) (sym new)));
      others = g.others ∙ others_follow s.others t.others (list_any (λ b. b) os) h.others;
      once =
          subst (λ (z : ℕ). z + one_if s.others ≤ 1) (sym (sum_by-cons (λ (x : Bool). cond x 1 0) (others_since s t) os))
          (once_follow s.others t.others (count_by (λ b. b) os) h.others g.once);
    }

-- ---- whether all values stand

le_of : (a b : ℕ) → nat_le a b ≡ true → a ≤ b
le_of a b h = grind (arith, nat_tests)

pub all_named : (types : List Enumeration) (sizes : List ℕ) (k : ValueType) (xs : List Val) → CountsLiterals types sizes (Of k) → All (IsOfType sizes k) xs
    → AllPairs (λ a b. a ≢ b) xs → all_stand types (Of k) (length xs) ≡ true → NamesAll sizes k xs
all_named types sizes Boolean xs counts each apart long = booleans_stand sizes xs each apart (le_of 2 (length xs) long)
all_named types sizes Bit xs counts each apart long = bits_stand sizes xs each apart (le_of 2 (length xs) long)
all_named types sizes (EnumerationType m) xs counts each apart long =
    literals_stand sizes m xs each apart (subst (λ (z : ℕ). z ≤ length xs) counts (le_of (literal_count (slice_get types m)) (length xs) long))
all_named types sizes (BitVector m) xs counts each apart long = vectors_stand sizes m xs each apart (le_of (2 ^ m) (length xs) long)
all_named types sizes Integer xs counts each apart long = absurd (cc)
all_named types sizes Real xs counts each apart long = absurd (cc)
all_named types sizes Time xs counts each apart long = absurd (cc)

pub nothing_fits : (sizes : List ℕ) (k : ValueType) → SeenFits sizes k nothing_seen
nothing_fits sizes k = record { kinds = All-nil (IsOfType sizes k); apart = λ i j d less within. absurd (omega arith); sure = refl }

-- from the beginning to the end of a case that covers the type
pub choices_are : (types : List Enumeration) (sizes : List ℕ) (k : ValueType) (t : Seen) (vs : List Val) (os : List Bool) → CountsLiterals types sizes (Of k)
    → SeenFits sizes k t → Listed nothing_seen t vs os → covers types (Of k) t ≡ true → AreChoices sizes k vs os
choices_are types sizes k t vs os counts fits h covered =
    let same : t.values ≡ vs = h.values in
    record {
      kinds = subst (All (IsOfType sizes k)) same fits.kinds;
      none_twice = subst (AllPairs (λ a b. a ≢ b)) same fits.apart;
      others_once = omega (arith, h.once);
      covers = go t.others t.unsure h.others fits.sure covered;
    }
  where
    go : (o u : Bool) → o ≡ (false || list_any (λ b. b) os) → u ≡ false → (o || (u || all_stand types (Of k) (length t.values))) ≡ true
        → IsTrue (list_any (λ b. b) os) ⊎ NamesAll sizes k vs
    go true u is sure e = inl (sym is)
    go false true is sure e = absurd (cc)
    go false false is sure e = inr (subst (NamesAll sizes k) h.values (all_named types sizes k t.values counts fits.kinds fits.apart e))
