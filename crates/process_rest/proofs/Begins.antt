-- The parameters that begin again.
use Rattle.std.proofs.Common.{◌≡◌, refl, ap, sym, ◌∙◌, subst, ℕ, zero, suc, ◌+◌, ◌<◌, ◌≤◌, Bool, true, false, not, ◌&&◌, if◌then◌else◌, nat_eq, List, [], ◌∷◌, map, length, Option, Some, None, slice_set, length-set, arith}
use Rattle.std.specs.Prelude.{IsTrue}
use Rattle.std.specs.List.{slice_get, list_any, All}
use Rattle.std.proofs.lemmas.Bool.Decides.{nat_tests}
use Rattle.std.proofs.lemmas.List.Elements.{All-nil, All-cons, All-head, All-tail}
use Rattle.std.proofs.lemmas.Option.{slice_get_within}
use Rattle.ams_value.specs.declared.val.Val.{Val}
use Rattle.ams_value.specs.Types.{type_of, is_in_range}
use Rattle.flat_design.specs.declared.objects.Variable.{Variable}
use Rattle.flat_design.specs.declared.objects.Objects.{Objects}
use Rattle.design_rules.specs.Types.{sizes_of}
use Rattle.design_rules.specs.Design.{IsVariable}
use Rattle.process_laws.specs.Held.{begun, begun_again}
use Rattle.process_laws.proofs.HeldMoves.{get_set_same, get_set_other}

-- ---- a place of the list

abbrev some_value : Val → Option Val → Val
some_value d None = d
some_value d (Some v) = v

abbrev some_variable : Variable → Option Variable → Variable
some_variable d None = d
some_variable d (Some x) = x

get_begun : (xs : List Variable) (ps : List ℕ) (i : ℕ) (vs : List Val) (j : ℕ) (x : Variable) (v : Val)
    → slice_get xs j ≡ Some x → slice_get vs j ≡ Some v → slice_get (begun_again xs ps i vs) j ≡ Some (begun x ps (i + j) v)
get_begun [] ps i vs j x v hx hv = absurd (grind arith)
get_begun (y ∷ xs) ps i [] j x v hx hv = absurd (grind arith)
get_begun (y ∷ xs) ps i (u ∷ vs) zero x v hx hv =
    ap (λ (z : Variable). Some (begun z ps i u)) (ap (some_variable y) hx)
    ∙ (ap (λ (z : Val). Some (begun x ps i z)) (ap (some_value u) hv) ∙ ap (λ (n : ℕ). Some (begun x ps n v)) (omega arith))
get_begun (y ∷ xs) ps i (u ∷ vs) (suc j) x v hx hv =
    get_begun xs ps (i + 1) vs j x v hx hv ∙ ap (λ (n : ℕ). Some (begun x ps n v)) (omega arith)

length-begun_again : (xs : List Variable) (ps : List ℕ) (i : ℕ) (vs : List Val) → length vs ≡ length xs → length (begun_again xs ps i vs) ≡ length xs
length-begun_again [] ps i vs h = refl
length-begun_again (x ∷ xs) ps i [] h = absurd (omega (arith, h))
length-begun_again (x ∷ xs) ps i (v ∷ vs) h = ap suc (length-begun_again xs ps (i + 1) vs (omega (arith, h)))

same_gets : (vs us : List Val) → length vs ≡ length us → ((i : ℕ) → i < length vs → slice_get vs i ≡ slice_get us i) → vs ≡ us
same_gets [] [] len f = refl
same_gets [] (u ∷ us) len f = absurd (omega (arith, len))
same_gets (v ∷ vs) [] len f = absurd (omega (arith, len))
same_gets (v ∷ vs) (u ∷ us) len f =
    let one : Some v ≡ Some u = f 0 (omega arith) in
    ap (λ (z : Val). z ∷ vs) (ap (some_value v) one)
    ∙ ap (λ (z : List Val). u ∷ z) (same_gets vs us (omega (arith, len)) (λ i h. f (suc i) (omega (arith, h))))

there : {X : Type 0} (xs : List X) (i : ℕ) → i < length xs → (x : X) × (slice_get xs i ≡ Some x)
there [] i h = absurd (omega (arith, h))
there (x ∷ xs) zero h = (x, refl)
there (x ∷ xs) (suc i) h = there xs i (omega (arith, h))

-- ---- variable by variable

-- those below a number have begun again
pub record HaveBegun (xs : List Variable) (ps : List ℕ) (n : ℕ) (old now : List Val) : Type 0 where
  pub size : length now ≡ length xs
  pub below : (j : ℕ) (x : Variable) (v : Val) → j < n → slice_get xs j ≡ Some x → slice_get old j ≡ Some v → slice_get now j ≡ Some (begun x ps j v)
  pub above : (j : ℕ) → n ≤ j → slice_get now j ≡ slice_get old j

pub none_begun : (xs : List Variable) (ps : List ℕ) (vs : List Val) → length vs ≡ length xs → HaveBegun xs ps 0 vs vs
none_begun xs ps vs h = record { size = h; below = λ j x v lt _ _. absurd (omega arith); above = λ j _. refl }

apart : (i j : ℕ) → j < i → nat_eq i j ≡ false
apart i j h = grind (arith, nat_tests)

apart_above : (i j : ℕ) → suc i ≤ j → nat_eq i j ≡ false
apart_above i j h = grind (arith, nat_tests)

below_or_at : (i j : ℕ) (C : Type 0) → j < suc i → (j < i → C) → (j ≡ i → C) → C
below_or_at i j C h a b = by_test (nat_eq j i) refl
  where
    by_test : (t : Bool) → nat_eq j i ≡ t → C
    by_test true e = b (grind (arith, nat_tests))
    by_test false e = a (grind (arith, nat_tests))

-- a parameter begins again
pub one_begins : (xs : List Variable) (ps : List ℕ) (n : ℕ) (old now : List Val) (x : Variable) → slice_get xs n ≡ Some x → (x.is_parameter && not (list_any (nat_eq n) ps)) ≡ true
    → HaveBegun xs ps n old now → HaveBegun xs ps (suc n) old (slice_set now n x.initial)
one_begins xs ps n old now x x_is begins h =
    let within : n < length now = subst (λ m. n < m) (sym h.size) (slice_get_within xs n x x_is) in
    record {
      size = length-set now n x.initial ∙ h.size;
      below = λ j y v lt y_is v_is. below_or_at n j (slice_get (slice_set now n x.initial) j ≡ Some (begun y ps j v)) lt
          (λ earlier. get_set_other now n j x.initial (apart n j earlier) ∙ h.below j y v earlier y_is v_is)
          (λ same.
          let same_variable : Some y ≡ Some x = sym y_is ∙ (ap (slice_get xs) same ∙ x_is) in
          let y_now : y ≡ x = cc in
          ap (slice_get (slice_set now n x.initial)) same
          ∙ (get_set_same now n x.initial within
          ∙ (ap (λ (t : Bool). Some (if t then x.initial else v)) (sym begins)
          ∙ (ap (λ (i : ℕ). Some (begun x ps i v)) (sym same) ∙ ap (λ (z : Variable). Some (begun z ps j v)) (sym y_now)))));
      above = λ j le. get_set_other now n j x.initial (apart_above n j le) ∙ h.above j (omega arith);
    }

-- another variable stays
pub one_stays : (xs : List Variable) (ps : List ℕ) (n : ℕ) (old now : List Val) (x : Variable) → slice_get xs n ≡ Some x → (x.is_parameter && not (list_any (nat_eq n) ps)) ≡ false
    → HaveBegun xs ps n old now → HaveBegun xs ps (suc n) old now
one_stays xs ps n old now x x_is stays h =
    record {
      size = h.size;
      below = λ j y v lt y_is v_is. below_or_at n j (slice_get now j ≡ Some (begun y ps j v)) lt
          (λ earlier. h.below j y v earlier y_is v_is)
          (λ same.
          let same_variable : Some y ≡ Some x = sym y_is ∙ (ap (slice_get xs) same ∙ x_is) in
          let y_now : y ≡ x = cc in
          let start : n ≤ j = omega arith in
          h.above j start
          ∙ (v_is
          ∙ (ap (λ (t : Bool). Some (if t then x.initial else v)) (sym stays)
          ∙ (ap (λ (i : ℕ). Some (begun x ps i v)) (sym same) ∙ ap (λ (z : Variable). Some (begun z ps j v)) (sym y_now)))));
      above = λ j le. h.above j (omega arith);
    }

pub all_begun : (xs : List Variable) (ps : List ℕ) (n : ℕ) (old now : List Val) → length old ≡ length xs → length xs ≤ n → HaveBegun xs ps n old now → now ≡ begun_again xs ps 0 old
all_begun xs ps n old now len all h =
    same_gets now (begun_again xs ps 0 old) (h.size ∙ sym (length-begun_again xs ps 0 old len))
    (λ j lt.
    let inside_it : j < length xs = subst (λ m. j < m) h.size lt in
    let x = there xs j inside_it in
    let v = there old j (subst (λ m. j < m) (sym len) inside_it) in
    let early : j < n = omega arith in
    h.below j x.0 v.0 early x.1 v.1 ∙ (ap (λ (i : ℕ). Some (begun x.0 ps i v.0)) (omega arith) ∙ sym (get_begun xs ps 0 old j x.0 v.0 x.1 v.1)))

-- ---- what stays

seen_stays : (a b : Bool) (first v : Val) → b ≡ true → (if a && not b then first else v) ≡ v
seen_stays true true first v h = refl
seen_stays false true first v h = refl
seen_stays a false first v h = absurd cc

-- the parameters of the loops round the wait
pub seen_same : (xs : List Variable) (ps : List ℕ) (i : ℕ) (vs : List Val) (j : ℕ) → length vs ≡ length xs → list_any (nat_eq (i + j)) ps ≡ true → slice_get (begun_again xs ps i vs) j ≡ slice_get vs j
seen_same [] ps i [] j len h = refl
seen_same [] ps i (v ∷ vs) j len h = absurd (omega (arith, len))
seen_same (x ∷ xs) ps i [] j len h = absurd (omega (arith, len))
seen_same (x ∷ xs) ps i (v ∷ vs) zero len h =
    let here : list_any (nat_eq i) ps ≡ true = ap (λ (n : ℕ). list_any (nat_eq n) ps) (omega arith) ∙ h in
    ap (λ (z : Val). Some z) (seen_stays x.is_parameter (list_any (nat_eq i) ps) x.initial v here)
seen_same (x ∷ xs) ps i (v ∷ vs) (suc j) len h =
    seen_same xs ps (i + 1) vs j (omega (arith, len)) (ap (λ (n : ℕ). list_any (nat_eq n) ps) (omega arith) ∙ h)

-- ---- types

one_of : (P : Val → Type 0) (t : Bool) (a b : Val) → P a → P b → P (if t then a else b)
one_of P true a b x y = x
one_of P false a b x y = y

begun_has : (P : Val → Type 0) (x : Variable) (ps : List ℕ) (i : ℕ) (v : Val) → P x.initial → P v → P (begun x ps i v)
begun_has P x ps i v a b = one_of P (x.is_parameter && not (list_any (nat_eq i) ps)) x.initial v a b

pub kinds_begun : (objects : Objects) (xs : List Variable) (ps : List ℕ) (i : ℕ) (vs : List Val) → All (IsVariable objects) xs → map type_of vs ≡ map (λ (x : Variable). x.kind) xs
    → map type_of (begun_again xs ps i vs) ≡ map (λ (x : Variable). x.kind) xs
kinds_begun objects [] ps i vs all h = refl
kinds_begun objects (x ∷ xs) ps i [] all h = absurd cc
kinds_begun objects (x ∷ xs) ps i (v ∷ vs) all h =
    let first : type_of v ≡ x.kind = cc in
    let rest : map type_of vs ≡ map (λ (y : Variable). y.kind) xs = cc in
    let one : type_of (begun x ps i v) ≡ x.kind = begun_has (λ w. type_of w ≡ x.kind) x ps i v (All-head (IsVariable objects) x xs all).declared.initial_is.kind_is first in
    let more : map type_of (begun_again xs ps (i + 1) vs) ≡ map (λ (y : Variable). y.kind) xs = kinds_begun objects xs ps (i + 1) vs (All-tail (IsVariable objects) x xs all) rest in
    cc

pub ranges_begun : (objects : Objects) (xs : List Variable) (ps : List ℕ) (i : ℕ) (vs : List Val) → All (IsVariable objects) xs → All (λ w. IsTrue (is_in_range (sizes_of objects) w)) vs
    → All (λ w. IsTrue (is_in_range (sizes_of objects) w)) (begun_again xs ps i vs)
ranges_begun objects [] ps i vs all h = All-nil (λ w. IsTrue (is_in_range (sizes_of objects) w))
ranges_begun objects (x ∷ xs) ps i [] all h = All-nil (λ w. IsTrue (is_in_range (sizes_of objects) w))
ranges_begun objects (x ∷ xs) ps i (v ∷ vs) all h =
    All-cons (λ w. IsTrue (is_in_range (sizes_of objects) w)) (begun x ps i v) (begun_again xs ps (i + 1) vs)
    (begun_has (λ w. IsTrue (is_in_range (sizes_of objects) w)) x ps i v (All-head (IsVariable objects) x xs all).declared.initial_is.range (All-head (λ w. IsTrue (is_in_range (sizes_of objects) w)) v vs h))
    (ranges_begun objects xs ps (i + 1) vs (All-tail (IsVariable objects) x xs all) (All-tail (λ w. IsTrue (is_in_range (sizes_of objects) w)) v vs h))

-- the initial values
pub kinds_initial : (objects : Objects) (xs : List Variable) → All (IsVariable objects) xs → map type_of (map (λ (x : Variable). x.initial) xs) ≡ map (λ (x : Variable). x.kind) xs
kinds_initial objects [] all = refl
kinds_initial objects (x ∷ xs) all =
    let one : type_of x.initial ≡ x.kind = (All-head (IsVariable objects) x xs all).declared.initial_is.kind_is in
    let more : map type_of (map (λ (y : Variable). y.initial) xs) ≡ map (λ (y : Variable). y.kind) xs = kinds_initial objects xs (All-tail (IsVariable objects) x xs all) in
    cc

pub ranges_initial : (objects : Objects) (xs : List Variable) → All (IsVariable objects) xs → All (λ w. IsTrue (is_in_range (sizes_of objects) w)) (map (λ (x : Variable). x.initial) xs)
ranges_initial objects [] all = All-nil (λ w. IsTrue (is_in_range (sizes_of objects) w))
ranges_initial objects (x ∷ xs) all =
    All-cons (λ w. IsTrue (is_in_range (sizes_of objects) w)) x.initial (map (λ (y : Variable). y.initial) xs)
    (All-head (IsVariable objects) x xs all).declared.initial_is.range (ranges_initial objects xs (All-tail (IsVariable objects) x xs all))
