-- A process that is put into lists.
use Rattle.std.proofs.Common.{◌≡◌, ◌⊎◌, inl, inr, refl, ap, sym, ◌∙◌, subst, ℕ, zero, suc, ◌+◌, ◌-◌, ◌<◌, ◌≤◌, Bool, true, false, ◌||◌, nat_eq, List, [], ◌∷◌, ◌++◌, length, get_or, set, arith, length-set}
use Rattle.std.specs.List.{slice_index_or, range_with_len, All, Contains}
use Rattle.std.proofs.lemmas.Bool.{cases_lt, cases_eq}
use Rattle.std.specs.Global.{Vec}
use Rattle.std.proofs.lemmas.List.{get_or-set_same, get_or-set_other, map-set}
use Rattle.std.proofs.lemmas.List.FromFn.{length-range_with_len, get_or-range_with_len}
use Rattle.std.proofs.lemmas.List.Elements.{All-push, All-set, All-get_or, Contains-append_cases}
use Rattle.flat_expr.specs.declared.expr.SignalName.{SignalName}
use Rattle.flat_expr.specs.declared.expr.SignalName.TheVariants as name
use Rattle.resumption_calls.specs.Calls.{is_called}
use Rattle.std.proofs.lemmas.Bool.Decides.{nat_tests}
use Rattle.resumption_calls.proofs.Members.{member_at}
use Rattle.process_callers.specs.Callers.{Lists, items_of, callers_of, AreWithin}
use Rattle.process_callers.specs.Growing.{IsPut, IsPutAt, Grows, at_place}

-- ---- one list

by_or : (a b c : Bool) → (b ≡ true → c ≡ true) → (a || b) ≡ true → (a || c) ≡ true
by_or true b c f h = refl
by_or false b c f h = f h

or_left : (a b : Bool) → a ≡ true → (a || b) ≡ true
or_left true b h = refl
or_left false b h = absurd (cc)

or_right : (a b : Bool) → b ≡ true → (a || b) ≡ true
or_right true b h = refl
or_right false b h = h

is_same : (j x : ℕ) → j ≡ x → nat_eq j x ≡ true
is_same j x h = grind (arith, nat_tests)

pub called_left : (xs ys : List ℕ) (j : ℕ) → is_called xs j ≡ true → is_called (xs ++ ys) j ≡ true
called_left [] ys j h = absurd (cc)
called_left (x ∷ xs) ys j h = by_or (nat_eq j x) (is_called xs j) (is_called (xs ++ ys) j) (called_left xs ys j) h

pub called_right : (xs ys : List ℕ) (j : ℕ) → is_called ys j ≡ true → is_called (xs ++ ys) j ≡ true
called_right [] ys j h = h
called_right (x ∷ xs) ys j h = or_right (nat_eq j x) (is_called (xs ++ ys) j) (called_right xs ys j h)

pub called_one : (k : ℕ) → is_called (k ∷ []) k ≡ true
called_one k = or_left (nat_eq k k) false (is_same k k refl)

-- it stands at the end
pub put_there : (k : ℕ) (list : List ℕ) → 0 < length list → k ≡ get_or list (length list - 1) k → IsPut k list list
put_there k list some is = record {
  keeps = λ j h. h;
  calls = member_at k list (length list - 1) (omega arith) (get_default ∙ sym is);
  within = λ count lt all. all;
}
  where
    at_any : (xs : List ℕ) (i a b : ℕ) → i < length xs → get_or xs i a ≡ get_or xs i b
    at_any [] i a b h = absurd (omega arith)
    at_any (x ∷ xs) zero a b h = refl
    at_any (x ∷ xs) (suc i) a b h = at_any xs i a b (omega arith)

    get_default : get_or list (length list - 1) 0 ≡ get_or list (length list - 1) k
    get_default = at_any list (length list - 1) 0 k (omega arith)

-- it comes to the end
pub put_behind : (k : ℕ) (list : List ℕ) → IsPut k list (list ++ k ∷ [])
put_behind k list = record {
  keeps = λ j h. called_left list (k ∷ []) j h;
  calls = called_right list (k ∷ []) k (called_one k);
  within = λ count lt all. All-push (λ (j : ℕ). j < count) list k all lt;
}

-- ---- the list of a place

everybody : (count k : ℕ) → k < count → is_called (range_with_len 0 count) k ≡ true
everybody count k h =
    member_at k (range_with_len 0 count) k (let e = length-range_with_len 0 count in omega (arith, e, h)) (get_or-range_with_len 0 count k 0 h ∙ plain k)
  where
    plain : (m : ℕ) → 0 + m ≡ m
    plain m = omega arith

beyond : {A : Type 0} (xs : List A) (i : ℕ) (d : A) → length xs ≤ i → get_or xs i d ≡ d
beyond [] i d h = refl
beyond (x ∷ xs) zero d h = absurd (omega arith)
beyond (x ∷ xs) (suc i) d h = beyond xs i d (omega arith)

pub put_nowhere : (count k place : ℕ) (lists : List (List ℕ)) → k < count → length lists ≤ place → IsPutAt count k place lists lists
put_nowhere count k place lists lt past = record {
  keeps = λ i j h. h;
  calls = ap (λ (l : List ℕ). is_called l k) (beyond lists place (range_with_len 0 count) past) ∙ everybody count k lt;
  within = λ all. all;
  count_is = refl;
}

pub put_at_place : (count k place : ℕ) (lists : List (List ℕ)) (now : List ℕ) → k < count → place < length lists → IsPut k (get_or lists place []) now → IsPutAt count k place lists (set lists place now)
put_at_place count k place lists now lt there put = record {
  keeps = λ i j h. elim (cases_eq i place) [
    | inl same ↦ subst (λ (m : ℕ). is_called (at_place count (set lists place now) m) j ≡ true) (sym same)
        (ap (λ (l : List ℕ). is_called l j) (get_or-set_same lists place now (range_with_len 0 count) there)
        ∙ put.keeps j (ap (λ (l : List ℕ). is_called l j) (any_default lists place [] (range_with_len 0 count) there ∙ ap (λ (m : ℕ). get_or lists m (range_with_len 0 count)) (sym same)) ∙ h))
    | inr other ↦ ap (λ (l : List ℕ). is_called l j) (get_or-set_other lists place i now (range_with_len 0 count) other) ∙ h
  ];
  calls = ap (λ (l : List ℕ). is_called l k) (get_or-set_same lists place now (range_with_len 0 count) there) ∙ put.calls;
  within = λ all. All-set (λ (list : List ℕ). All (λ (j : ℕ). j < count) list) lists place now (put.within count lt (All-get_or (λ (list : List ℕ). All (λ (j : ℕ). j < count) list) lists place [] there all)) all;
  count_is = length-set lists place now;
}
  where
    any_default : {A : Type 0} (xs : List A) (i : ℕ) (a b : A) → i < length xs → get_or xs i a ≡ get_or xs i b
    any_default [] i a b h = absurd (omega arith)
    any_default (x ∷ xs) zero a b h = refl
    any_default (x ∷ xs) (suc i) a b h = any_default xs i a b (omega arith)

-- ---- all lists

only : (P : SignalName → Type 0) (n i : SignalName) → P n → Contains (n ∷ []) i → P i
only P n i p c = subst P (at c) p
  where
    at : Contains (n ∷ []) i → n ≡ i
    at c = elim (cases_eq c.0 0) [
      | inl first ↦ ap (λ (m : ℕ). get_or (n ∷ []) m i) (sym first) ∙ c.2
      | inr later ↦ absurd (let h : c.0 < 1 = c.1 in omega (arith, h, later))
    ]

pub grows_signal : (count k i : ℕ) (old : Lists) (now : List (List ℕ)) → k < count → IsPutAt count k i old.signals now → Grows count k (name.Signal i ∷ []) old (record old { signals = now })
grows_signal count k i old now lt put = record {
  keeps = keep;
  calls = λ n c. only (λ (m : SignalName). is_called (callers_of count (record old { signals = now }) m) k ≡ true) (name.Signal i) n put.calls c;
  within = λ w. record { signals = put.within w.signals; thresholds = w.thresholds; domain = w.domain };
  signals = put.count_is;
  thresholds = refl;
}
  where
    keep : (n : SignalName) (j : ℕ) → is_called (callers_of count old n) j ≡ true → is_called (callers_of count (record old { signals = now }) n) j ≡ true
    keep (name.Signal m) j h = put.keeps m j h
    keep (name.Threshold m) j h = h
    keep name.Domain j h = h

pub grows_threshold : (count k i : ℕ) (old : Lists) (now : List (List ℕ)) → k < count → IsPutAt count k i old.thresholds now → Grows count k (name.Threshold i ∷ []) old (record old { thresholds = now })
grows_threshold count k i old now lt put = record {
  keeps = keep;
  calls = λ n c. only (λ (m : SignalName). is_called (callers_of count (record old { thresholds = now }) m) k ≡ true) (name.Threshold i) n put.calls c;
  within = λ w. record { signals = w.signals; thresholds = put.within w.thresholds; domain = w.domain };
  signals = refl;
  thresholds = put.count_is;
}
  where
    keep : (n : SignalName) (j : ℕ) → is_called (callers_of count old n) j ≡ true → is_called (callers_of count (record old { thresholds = now }) n) j ≡ true
    keep (name.Signal m) j h = h
    keep (name.Threshold m) j h = put.keeps m j h
    keep name.Domain j h = h

pub grows_domain : (count k : ℕ) (old : Lists) (now : List ℕ) → k < count → IsPut k old.domain now → Grows count k (name.Domain ∷ []) old (record old { domain = now })
grows_domain count k old now lt put = record {
  keeps = keep;
  calls = λ n c. only (λ (m : SignalName). is_called (callers_of count (record old { domain = now }) m) k ≡ true) name.Domain n put.calls c;
  within = λ w. record { signals = w.signals; thresholds = w.thresholds; domain = put.within count lt w.domain };
  signals = refl;
  thresholds = refl;
}
  where
    keep : (n : SignalName) (j : ℕ) → is_called (callers_of count old n) j ≡ true → is_called (callers_of count (record old { domain = now }) n) j ≡ true
    keep (name.Signal m) j h = h
    keep (name.Threshold m) j h = h
    keep name.Domain j h = put.keeps j h

pub grows_none : (count k : ℕ) (c : Lists) → Grows count k [] c c
grows_none count k c = record {
  keeps = λ i j h. h;
  calls = λ i h. absurd (let none : h.0 < 0 = h.1 in omega (arith, none));
  within = λ w. w;
  signals = refl;
  thresholds = refl;
}

pub grows_more : (count k : ℕ) (xs ys : List SignalName) (a b c : Lists) → Grows count k xs a b → Grows count k ys b c → Grows count k (xs ++ ys) a c
grows_more count k xs ys a b c first second = record {
  keeps = λ i j h. second.keeps i j (first.keeps i j h);
  calls = λ i h. elim (Contains-append_cases xs ys i h) [
    | inl before ↦ second.keeps i k (first.calls i before)
    | inr behind ↦ second.calls i behind
  ];
  within = λ w. second.within (first.within w);
  signals = second.signals ∙ first.signals;
  thresholds = second.thresholds ∙ first.thresholds;
}

-- the lists as they stand in the code
pub length_items : (lists : List (Vec ℕ)) → length (items_of lists) ≡ length lists
length_items [] = refl
length_items (x ∷ lists) = ap suc (length_items lists)

pub put_in_items : (count k place : ℕ) (lists : List (Vec ℕ)) (list now : Vec ℕ) → k < count → place < length lists → list ≡ get_or lists place list → IsPut k list.items now.items
    → IsPutAt count k place (items_of lists) (items_of (set lists place now))
put_in_items count k place lists list now lt there is put =
    subst (λ (l : List (List ℕ)). IsPutAt count k place (items_of lists) l) (sym (map-set (λ (v : Vec ℕ). v.items) lists place now))
    (put_at_place count k place (items_of lists) now.items lt (there_too lists there)
    (subst (λ (l : List ℕ). IsPut k l now.items) (item lists place list there is) put))
  where
    there_too : (lists : List (Vec ℕ)) → place < length lists → place < length (items_of lists)
    there_too lists h = subst (λ (n : ℕ). place < n) (sym (length_items lists)) h

    item : (lists : List (Vec ℕ)) (i : ℕ) (v : Vec ℕ) → i < length lists → v ≡ get_or lists i v → v.items ≡ get_or (items_of lists) i []
    item [] i v h is = absurd (omega arith)
    item (x ∷ lists) zero v h is = ap (λ (w : Vec ℕ). w.items) is
    item (x ∷ lists) (suc i) v h is = item lists i v (omega arith) is
