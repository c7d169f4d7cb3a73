-- As many different values of a type as it has are all of them.
use Rattle.std.proofs.Common.{◌≡◌, ◌≢◌, ◌≤◌, ◌<◌, ◌^◌, ℕ, zero, suc, Bool, true, false, List, [], ◌∷◌, length, map, get_or, IsTrue, refl, sym, ap, ◌∙◌, subst, arith}
use Rattle.std.specs.Prelude.{◌||◌, ◌&&◌, nat_eq, nat_le, nat_lt, eqb}
use Rattle.std.specs.List.{All, AllPairs, AllByRecursion, IsDistinct, list_any}
use Rattle.std.proofs.lemmas.Bool.Decides.{nat_tests}
use Rattle.std.proofs.lemmas.List.Elements.{All-head, All-tail, All-cons}
use Rattle.std.proofs.lemmas.Map.Steps.{length-le_from_distinct_below}
use Rattle.ams_value.specs.declared.val.Val.{Val}
use Rattle.ams_value.specs.declared.val.Val.TheVariants as val
use Rattle.ams_value.specs.declared.value_type.ValueType.{ValueType}
use Rattle.ams_value.specs.declared.value_type.ValueType.TheVariants.{Boolean, Bit, Enumeration, BitVector}
use Rattle.ams_value.specs.Values.{equals}
use Rattle.ams_value.specs.Types.{type_of, is_in_range}
use Rattle.ams_value.specs.Laws.{values_decide}
use Rattle.design_meaning.specs.Typed.{IsOfType}

-- ---- values that stand in a list

pub not_among : (v : Val) (xs : List Val) → list_any (equals v) xs ≡ false → (k : ℕ) (d : Val) → k < length xs → v ≢ get_or xs k d
not_among v [] h k d less is = absurd (omega arith)
not_among v (x ∷ xs) h zero d less is =
    let same : equals v x ≡ true = (values_decide v x).1 is in
    absurd (none_true (equals v x) (list_any (equals v) xs) same h)
  where
    none_true : (a b : Bool) → a ≡ true → (a || b) ≡ false → ⊥
    none_true true b e g = grind arith
    none_true false b e g = grind arith
not_among v (x ∷ xs) h (suc k) d less is = not_among v xs (rest_false (equals v x) (list_any (equals v) xs) h) k d (omega arith) is
  where
    rest_false : (a b : Bool) → (a || b) ≡ false → b ≡ false
    rest_false true b g = absurd (grind arith)
    rest_false false b g = g

cons_apart : (v : Val) (xs : List Val) → list_any (equals v) xs ≡ false → AllPairs (λ a b. a ≢ b) xs → AllPairs (λ a b. a ≢ b) (v ∷ xs)
cons_apart v xs is apart zero zero d less within = absurd (omega arith)
cons_apart v xs is apart zero (suc j) d less within = not_among v xs is j d (omega arith)
cons_apart v xs is apart (suc i) zero d less within = absurd (omega arith)
cons_apart v xs is apart (suc i) (suc j) d less within = apart i j d (omega arith) (omega arith)

-- ---- by a number for each value

module _ (P : Val → Type 0) (code : Val → ℕ) (n : ℕ) (below : (v : Val) → P v → code v < n) (one : (a b : Val) → P a → P b → code a ≡ code b → a ≡ b) where
  other_code : (a b : Val) → P a → P b → a ≢ b → eqb (code a) (code b) ≡ false
  other_code a b h g apart = go (eqb (code a) (code b)) refl
    where
      go : (t : Bool) → eqb (code a) (code b) ≡ t → eqb (code a) (code b) ≡ false
      go true is = absurd (apart (one a b h g (grind (arith, nat_tests))))
      go false is = is

  apart_from : (x : Val) (xs : List Val) → P x → All P xs → ((k : ℕ) (d : Val) → k < length xs → x ≢ get_or xs k d) → AllByRecursion (λ y. eqb (code x) y ≡ false) (map code xs)
  apart_from x [] h g apart = tt
  apart_from x (y ∷ ys) h g apart = (other_code x y h (All-head P y ys g) (apart 0 y (omega arith)), apart_from x ys h (All-tail P y ys g) (λ k d less. apart (suc k) d (omega arith)))

  codes_differ : (xs : List Val) → All P xs → AllPairs (λ a b. a ≢ b) xs → IsDistinct eqb (map code xs)
  unfolding IsDistinct
  codes_differ [] h g = tt
  codes_differ (x ∷ xs) h g = (
    apart_from x xs (All-head P x xs h) (All-tail P x xs h) (λ k d less. g 0 (suc k) d (omega arith) (omega arith)),
    codes_differ xs (All-tail P x xs h) (λ i j d less within. g (suc i) (suc j) d (omega arith) (omega arith)),
  )

  below_one : (x : Val) (xs : List Val) (q : ℕ) → P x → (list_any (eqb q) (map code xs) ≡ true → q < n) → list_any (eqb q) (map code (x ∷ xs)) ≡ true → q < n
  below_one x xs q h rest is = go (eqb q (code x)) refl is
    where
      go : (t : Bool) → eqb q (code x) ≡ t → (t || list_any (eqb q) (map code xs)) ≡ true → q < n
      go true here e = let less : code x < n = below x h in let same : q ≡ code x = grind (arith, nat_tests) in omega arith
      go false here e = rest e

  codes_below : (xs : List Val) → All P xs → (q : ℕ) → list_any (eqb q) (map code xs) ≡ true → q < n
  codes_below [] h q is = absurd (grind arith)
  codes_below (x ∷ xs) h q is = below_one x xs q (All-head P x xs h) (codes_below xs (All-tail P x xs h) q) is

  map_length : (xs : List Val) → length (map code xs) ≡ length xs
  map_length [] = refl
  map_length (x ∷ xs) = ap suc (map_length xs)

  pub all_there : (xs : List Val) → All P xs → AllPairs (λ a b. a ≢ b) xs → n ≤ length xs → (v : Val) → P v → IsTrue (list_any (equals v) xs)
  all_there xs each apart long v h = go (list_any (equals v) xs) refl
    where
      go : (t : Bool) → list_any (equals v) xs ≡ t → list_any (equals v) xs ≡ true
      go true is = is
      go false is =
          let pairs : AllPairs (λ a b. a ≢ b) (v ∷ xs) = cons_apart v xs is apart in
          let few : length (map code (v ∷ xs)) ≤ n = length-le_from_distinct_below (map code (v ∷ xs)) n (codes_differ (v ∷ xs) (All-cons P v xs h each) pairs) (codes_below (v ∷ xs) (All-cons P v xs h each)) in
          let same : length (map code (v ∷ xs)) ≡ length (v ∷ xs) = map_length (v ∷ xs) in
          absurd (omega arith)

-- ---- the types that have so many values

abbrev pub number : Bool → ℕ
number true = 1
number false = 0

abbrev pub code_of : Val → ℕ
code_of (val.Bool b) = number b
code_of (val.Bit b) = number b
code_of (val.Enum n p) = p
code_of (val.Bits n c) = c
code_of _ = 0

-- a value of the type is that of its number
module _ (sizes : List ℕ) (k : ValueType) (made : ℕ → Val) (n : ℕ) (less : (v : Val) → IsOfType sizes k v → code_of v < n) (back : (v : Val) → IsOfType sizes k v → v ≡ made (code_of v)) where
  same_code : (a b : Val) → IsOfType sizes k a → IsOfType sizes k b → code_of a ≡ code_of b → a ≡ b
  same_code a b h g is = back a h ∙ (ap made is ∙ sym (back b g))

  pub each_stands : (xs : List Val) → All (IsOfType sizes k) xs → AllPairs (λ a b. a ≢ b) xs → n ≤ length xs → (v : Val) → IsOfType sizes k v → IsTrue (list_any (equals v) xs)
  each_stands = all_there (IsOfType sizes k) code_of n less same_code

abbrev pub bool_of : ℕ → Val
bool_of n = val.Bool (nat_eq n 1)

abbrev pub bit_of : ℕ → Val
bit_of n = val.Bit (nat_eq n 1)

module _ (sizes : List ℕ) where
  bool_less : (v : Val) → type_of v ≡ Boolean → code_of v < 2
  bool_less (val.Bool true) h = omega arith
  bool_less (val.Bool false) h = omega arith
  bool_less _ h = absurd (cc)

  bool_back : (v : Val) → type_of v ≡ Boolean → v ≡ bool_of (code_of v)
  bool_back (val.Bool true) h = refl
  bool_back (val.Bool false) h = refl
  bool_back _ h = absurd (cc)

  bit_less : (v : Val) → type_of v ≡ Bit → code_of v < 2
  bit_less (val.Bit true) h = omega arith
  bit_less (val.Bit false) h = omega arith
  bit_less _ h = absurd (cc)

  bit_back : (v : Val) → type_of v ≡ Bit → v ≡ bit_of (code_of v)
  bit_back (val.Bit true) h = refl
  bit_back (val.Bit false) h = refl
  bit_back _ h = absurd (cc)

  enum_less : (m : ℕ) (v : Val) → type_of v ≡ Enumeration m → IsTrue (is_in_range sizes v) → code_of v < get_or sizes m 0
  enum_less m (val.Enum n p) h r =
      let same : n ≡ m = enumeration_is h in
      subst (λ (z : ℕ). p < get_or sizes z 0) same (in_list (get_or sizes n 0) p r)
    where
      enumeration_is : {a b : ℕ} → Enumeration a ≡ Enumeration b → a ≡ b
      enumeration_is e = cc

      in_list : (a b : ℕ) → IsTrue (nat_lt b a) → b < a
      in_list a b e = grind (arith, nat_tests)
  enum_less m _ h r = absurd (cc)

  enum_back : (m : ℕ) (v : Val) → type_of v ≡ Enumeration m → v ≡ val.Enum m (code_of v)
  enum_back m (val.Enum n p) h = ap (λ (z : ℕ). val.Enum z p) (enumeration_is h)
    where
      enumeration_is : {a b : ℕ} → Enumeration a ≡ Enumeration b → a ≡ b
      enumeration_is e = cc
  enum_back m _ h = absurd (cc)

  bits_less : (m : ℕ) (v : Val) → type_of v ≡ BitVector m → IsTrue (is_in_range sizes v) → code_of v < 2 ^ m
  bits_less m (val.Bits n c) h r = subst (λ (z : ℕ). c < 2 ^ z) (vector_is h) (in_content (nat_le n _) (2 ^ n) c r)
    where
      vector_is : {a b : ℕ} → BitVector a ≡ BitVector b → a ≡ b
      vector_is e = cc

      in_content : (t : Bool) (a b : ℕ) → IsTrue (t && nat_lt b a) → b < a
      in_content true a b e = grind (arith, nat_tests)
      in_content false a b e = absurd (grind arith)
  bits_less m _ h r = absurd (cc)

  bits_back : (m : ℕ) (v : Val) → type_of v ≡ BitVector m → v ≡ val.Bits m (code_of v)
  bits_back m (val.Bits n c) h = ap (λ (z : ℕ). val.Bits z c) (vector_is h)
    where
      vector_is : {a b : ℕ} → BitVector a ≡ BitVector b → a ≡ b
      vector_is e = cc
  bits_back m _ h = absurd (cc)

  abbrev Stand : ValueType → List Val → Type 0
  Stand k xs = (v : Val) → IsOfType sizes k v → IsTrue (list_any (equals v) xs)

  abbrev AreOf : ValueType → List Val → Type 0
  AreOf k xs = All (IsOfType sizes k) xs

  abbrev Apart : List Val → Type 0
  Apart xs = AllPairs (λ a b. a ≢ b) xs

  pub booleans_stand : (xs : List Val) → AreOf Boolean xs → Apart xs → 2 ≤ length xs → Stand Boolean xs
  booleans_stand = each_stands sizes Boolean bool_of 2 (λ v h. bool_less v h.kind_is) (λ v h. bool_back v h.kind_is)

  pub bits_stand : (xs : List Val) → AreOf Bit xs → Apart xs → 2 ≤ length xs → Stand Bit xs
  bits_stand = each_stands sizes Bit bit_of 2 (λ v h. bit_less v h.kind_is) (λ v h. bit_back v h.kind_is)

  pub literals_stand : (m : ℕ) (xs : List Val) → AreOf (Enumeration m) xs → Apart xs → get_or sizes m 0 ≤ length xs → Stand (Enumeration m) xs
  literals_stand m = each_stands sizes (Enumeration m) (val.Enum m) (get_or sizes m 0) (λ v h. enum_less m v h.kind_is h.range) (λ v h. enum_back m v h.kind_is)

  pub vectors_stand : (m : ℕ) (xs : List Val) → AreOf (BitVector m) xs → Apart xs → 2 ^ m ≤ length xs → Stand (BitVector m) xs
  vectors_stand m = each_stands sizes (BitVector m) (val.Bits m) (2 ^ m) (λ v h. bits_less m v h.kind_is h.range) (λ v h. bits_back m v h.kind_is)
