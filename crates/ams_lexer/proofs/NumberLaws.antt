-- Reading a number from the left gives the number that the bytes spell, and none where they spell none.
use Rattle.std.proofs.Common.{◌≡◌, ℕ, zero, suc, ◌+◌, ◌≤◌, Bool, true, false, cond, not, ◌&&◌, eqb, leb, List, [], ◌∷◌, ◌++◌, length, take, drop, Option, Some, None, refl, sym, ap, subst, ◌∙◌, arith, inl, inr, ◌⊎◌, append_assoc}
use Rattle.std.specs.Prelude.{pos, ◌-ℤ◌}
use Rattle.std.proofs.lemmas.Bool.{le-ltb, ne_eqb, or_cases, or_from, or_left, or_right, and_parts, and_from, and_left, cases_Bool, false_from_ne_true, eqb-true, leb-true, le-leb, not-true, not_from_false}
use Rattle.std.proofs.lemmas.List.{take_all, take_at, drop_at, take-append-drop, length-append, length-take-le}
use Rattle.std.specs.Char.{is_ascii_alphabetic}
use Rattle.ams_lexer.specs.Runs.{begins, goes_on, run_length}
use Rattle.ams_lexer.specs.declared.numbers.Number.{Number}
use Rattle.ams_lexer.specs.declared.numbers.Number.TheVariants.{Int, Real}
use Rattle.ams_lexer.specs.Numbers.{integer_of, decimal_of, IsInteger, IsReal, IsBased, IsNumber, integer, real, based, integer_at, real_at, real_from, based_from, based_at, based_digits_at, number_from, number_at, digit, IsDigits, value_after, value_of, digit_count, is_marker, is_sign, sign_length, unsigned, IsExponent, magnitude, signed_exponent, follows, Closes, is_empty, exponent_length, closes}
use Rattle.ams_lexer.proofs.RunLaws.{takes_run, run_length-append, run_length-bound}

-- ---- single bytes

pub test_at : (p : ℕ → Bool) (b n : ℕ) → eqb b n ≡ true → p n ≡ false → p b ≡ false
test_at p b n e h = ap p (eqb-true b n e) ∙ h

-- the letter of an exponent is none of what a test refuses at both of its cases
pub marker_fails : (p : ℕ → Bool) (b : ℕ) → is_marker b ≡ true → p 69 ≡ false → p 101 ≡ false → p b ≡ false
marker_fails p b h upper lower =
    elim (or_cases (eqb b 69) (eqb b 101) h) [ inl e ↦ test_at p b 69 e upper | inr e ↦ test_at p b 101 e lower ]

marker_letter : (b : ℕ) → is_marker b ≡ true → is_ascii_alphabetic b ≡ true
marker_letter b h =
    elim (or_cases (eqb b 69) (eqb b 101) h) [ inl e ↦ ap is_ascii_alphabetic (eqb-true b 69 e) | inr e ↦ ap is_ascii_alphabetic (eqb-true b 101 e) ]

-- what may not follow contains each of these
pub follows-false : (closed : Bool) (p : ℕ → Bool) (rest : List ℕ) → begins (follows closed) rest ≡ false → ((b : ℕ) → p b ≡ true → follows closed b ≡ true) → begins p rest ≡ false
follows-false closed p [] h within = refl
follows-false closed p (b ∷ rest) h within = false_from_ne_true (p b) (λ e. absurd (let t : true ≡ false = sym (within b e) ∙ h in cc))

follows_marker : (closed : Bool) (b : ℕ) → is_marker b ≡ true → follows closed b ≡ true
follows_marker closed b h = or_left _ _ (or_left _ _ (marker_letter b h))

follows_point : (closed : Bool) (b : ℕ) → eqb b 46 ≡ true → follows closed b ≡ true
follows_point closed b h = or_left _ _ (or_right (is_ascii_alphabetic b) _ (or_right (eqb b 95) _ (or_left (eqb b 46) _ h)))

follows_hash : (closed : Bool) (b : ℕ) → eqb b 35 ≡ true → follows closed b ≡ true
follows_hash closed b h = or_left _ _ (or_right (is_ascii_alphabetic b) _ (or_right (eqb b 95) _ (or_right (eqb b 46) _ h)))

follows_underscore : (closed : Bool) (b : ℕ) → eqb b 95 ≡ true → follows closed b ≡ true
follows_underscore closed b h = or_left _ _ (or_right (is_ascii_alphabetic b) _ (or_left (eqb b 95) _ h))

follows_digit : (b : ℕ) → digit 10 b ≡ true → follows false b ≡ true
follows_digit b h = or_right _ (digit 10 b) h

pub goes_on-false : (rest : List ℕ) → begins (follows false) rest ≡ false → goes_on (digit 10) rest ≡ false
goes_on-false [] h = refl
goes_on-false (b ∷ rest) h =
    or_from (digit 10 b) _ (follows-false false (digit 10) (b ∷ rest) h follows_digit) (and_left (eqb b 95) _ (follows-false false (λ b. eqb b 95) (b ∷ rest) h (follows_underscore false)))

-- ---- exponents

-- the sign stays the sign when only the run after it is taken
unsigned-sign : (signed : Bool) (bs : List ℕ) (n : ℕ) (s : Bool) → begins (is_sign signed) bs ≡ s → s ≡ true → unsigned signed (take (suc n) bs) ≡ take n (drop 1 bs)
unsigned-sign signed [] n s h e = absurd (let t : false ≡ true = h ∙ e in cc)
unsigned-sign signed (b ∷ bs) n s h e = let t : is_sign signed b ≡ true = h ∙ e in rw t refl

unsigned-none : (signed : Bool) (bs : List ℕ) (n : ℕ) → begins (is_sign signed) bs ≡ false → unsigned signed (take n bs) ≡ take n bs
unsigned-none signed bs zero h = refl
unsigned-none signed [] (suc n) h = refl
unsigned-none signed (b ∷ bs) (suc n) h = let t : is_sign signed b ≡ false = h in rw t refl

pub unsigned-take : (signed : Bool) (bs : List ℕ) (n : ℕ) → unsigned signed (take (sign_length signed bs + n) bs) ≡ take n (unsigned signed bs)
unsigned-take signed bs n =
    elim (cases_Bool (begins (is_sign signed) bs)) [
      | inl h ↦ let k : 1 + n ≡ suc n = omega arith in rw (h, k) (unsigned-sign signed bs n true h refl)
      | inr h ↦ let k : 0 + n ≡ n = omega arith in rw (h, k) (unsigned-none signed bs n h)
    ]

begins-run : (p : ℕ → Bool) (bs : List ℕ) → begins p bs ≡ true → begins p (take (run_length p bs) bs) ≡ true
begins-run p [] h = h
begins-run p (b ∷ bs) h =
    let on : goes_on p (b ∷ bs) ≡ true = or_left (p b) (eqb b 95 && begins p bs) h in
    rw on h

pub takes_digits : (base : ℕ) (bs : List ℕ) → begins (digit base) bs ≡ true → IsDigits base (take (run_length (digit base) bs) bs)
takes_digits base bs h = (begins-run (digit base) bs h, (takes_run (digit base) bs).run)

exponent_takes_if : (signed : Bool) (b : ℕ) (bs : List ℕ) (t : Bool) → (is_marker b && begins (digit 10) (unsigned signed bs)) ≡ t → IsExponent signed (take (cond t (suc (sign_length signed bs + run_length (digit 10) (unsigned signed bs))) 0) (b ∷ bs))
exponent_takes_if signed b bs false h = tt
exponent_takes_if signed b bs true h =
    let parts = and_parts (is_marker b) (begins (digit 10) (unsigned signed bs)) h in
    (parts.0, rw (unsigned-take signed bs (run_length (digit 10) (unsigned signed bs))) (takes_digits 10 (unsigned signed bs) parts.1))

pub exponent_takes : (signed : Bool) (bs : List ℕ) → IsExponent signed (take (exponent_length signed bs) bs)
exponent_takes signed [] = tt
exponent_takes signed (b ∷ bs) = exponent_takes_if signed b bs _ refl

-- what an exponent's digits look like once its text goes on
unsigned-append : (signed : Bool) (w rest : List ℕ) → IsDigits 10 (unsigned signed w) → unsigned signed (w ++ rest) ≡ unsigned signed w ++ rest
unsigned-append signed [] rest h = absurd (let t : false ≡ true = h.0 in cc)
unsigned-append signed (b ∷ w) rest h =
    elim (cases_Bool (is_sign signed b)) [ inl t ↦ rw t refl | inr t ↦ rw t refl ]

sign_length-append : (signed : Bool) (w rest : List ℕ) → IsDigits 10 (unsigned signed w) → sign_length signed (w ++ rest) ≡ sign_length signed w
sign_length-append signed [] rest h = absurd (let t : false ≡ true = h.0 in cc)
sign_length-append signed (b ∷ w) rest h = refl

sign_length-unsigned : (signed : Bool) (w : List ℕ) → IsDigits 10 (unsigned signed w) → sign_length signed w + length (unsigned signed w) ≡ length w
sign_length-unsigned signed [] h = absurd (let t : false ≡ true = h.0 in cc)
sign_length-unsigned signed (b ∷ w) h =
    elim (cases_Bool (is_sign signed b)) [ inl t ↦ rw t (omega arith) | inr t ↦ rw t (omega arith) ]

begins-append : (p : ℕ → Bool) (w rest : List ℕ) → begins p w ≡ true → begins p (w ++ rest) ≡ true
begins-append p [] rest h = absurd cc
begins-append p (b ∷ w) rest h = h

exponent_length-none : (signed closed : Bool) (rest : List ℕ) → begins (follows closed) rest ≡ false → exponent_length signed rest ≡ 0
exponent_length-none signed closed [] h = refl
exponent_length-none signed closed (b ∷ rest) h =
    let none : is_marker b ≡ false = follows-false closed is_marker (b ∷ rest) h (follows_marker closed) in
    rw none refl

pub exponent_length-append : (signed closed : Bool) (w rest : List ℕ) → IsExponent signed w → begins (follows closed) rest ≡ false → (closed ≡ is_empty w) ⊎ (closed ≡ false) → exponent_length signed (w ++ rest) ≡ length w
exponent_length-append signed closed [] rest is stop last = exponent_length-none signed closed rest stop
exponent_length-append signed closed (b ∷ w) rest is stop last =
    let none : closed ≡ false = elim last [ inl e ↦ e | inr e ↦ e ] in
    let stops : goes_on (digit 10) rest ≡ false = goes_on-false rest (subst (λ (c : Bool). begins (follows c) rest ≡ false) none stop) in
    let whole = unsigned-append signed w rest is.1 in
    let first : (is_marker b && begins (digit 10) (unsigned signed (w ++ rest))) ≡ true = and_from _ _ is.0 (rw whole (begins-append (digit 10) (unsigned signed w) rest is.1.0)) in
    let count : run_length (digit 10) (unsigned signed (w ++ rest)) ≡ length (unsigned signed w) = rw whole (run_length-append (digit 10) (unsigned signed w) rest is.1.1 stops) in
    rw first (ap suc (let s = sign_length-append signed w rest is.1 in let t = sign_length-unsigned signed w is.1 in omega (arith, s, t, count)))

unsigned-length : (signed : Bool) (bs : List ℕ) → sign_length signed bs + length (unsigned signed bs) ≡ length bs
unsigned-length signed [] = refl
unsigned-length signed (b ∷ bs) =
    elim (cases_Bool (is_sign signed b)) [ inl t ↦ rw t (omega arith) | inr t ↦ rw t (omega arith) ]

exponent_bound_if : (signed : Bool) (b : ℕ) (bs : List ℕ) (t : Bool) → cond t (suc (sign_length signed bs + run_length (digit 10) (unsigned signed bs))) 0 ≤ suc (length bs)
exponent_bound_if signed b bs false = omega arith
exponent_bound_if signed b bs true = omega (arith, unsigned-length signed bs, run_length-bound (digit 10) (unsigned signed bs))

pub exponent_length-bound : (signed : Bool) (bs : List ℕ) → exponent_length signed bs ≤ length bs
exponent_length-bound signed [] = omega arith
exponent_length-bound signed (b ∷ bs) = exponent_bound_if signed b bs _

-- ---- what reading finds is there

-- a number at the front, and how many bytes it takes
pub record Finds (bs : List ℕ) (found : Number × ℕ) : Type 0 where
  pub w : List ℕ
  pub rest : List ℕ
  pub text : bs ≡ w ++ rest
  pub size : length w ≡ found.1
  pub number : IsNumber found.0 w rest

if_some : {A : Type 0} (b : Bool) (x y : A) → cond b (Some x) None ≡ Some y → (b ≡ true) × (x ≡ y)
if_some true x y e = (refl, cc)
if_some false x y e = absurd cc

if_some_else : {A : Type 0} (b : Bool) (o : Option A) (y : A) → cond b o None ≡ Some y → (b ≡ true) × (o ≡ Some y)
if_some_else true o y e = (refl, e)
if_some_else false o y e = absurd cc

closes_is : (size : ℕ) (closed : Bool) (exponent rest : List ℕ) → closes size closed exponent rest ≡ true → Closes size closed exponent rest
closes_is size closed exponent rest h =
    let outer = and_parts (leb size 32 && not (begins (follows closed) rest)) (leb (magnitude exponent) 40) h in
    let inner = and_parts (leb size 32) (not (begins (follows closed) rest)) outer.0 in
    record { within = leb-true size 32 inner.0; limit = leb-true (magnitude exponent) 40 outer.1; stops = not-true (begins (follows closed) rest) inner.1 }

closes_from : (size : ℕ) (closed : Bool) (exponent rest : List ℕ) → Closes size closed exponent rest → closes size closed exponent rest ≡ true
closes_from size closed exponent rest h = and_from _ _ (and_from _ _ (le-leb size 32 h.within) (not_from_false (begins (follows closed) rest) h.stops)) (le-leb (magnitude exponent) 40 h.limit)

closes_at : (size more : ℕ) (closed : Bool) (exponent rest : List ℕ) → size ≡ more → Closes size closed exponent rest → Closes more closed exponent rest
closes_at size more closed exponent rest e h = subst (λ (n : ℕ). Closes n closed exponent rest) e h

pub finds_integer : (whole after : List ℕ) (found : Number × ℕ) → IsDigits 10 whole → integer_at whole after ≡ Some found → Finds (whole ++ after) found
unfolding integer_at
finds_integer whole after found digits h =
    let e = exponent_length false after in
    let exponent = take e after in
    let size = length whole + e in
    let made : Number × ℕ = (Int (integer_of (value_of 10 whole) 10 (magnitude exponent)), size) in
    let test = if_some (closes size false exponent (drop e after)) made found h in
    let long : length (whole ++ exponent) ≡ size = let a = length-append whole exponent in let b = length-take-le e after (exponent_length-bound false after) in omega (arith, a, b) in
    let is : IsInteger made.0 (whole ++ exponent) (drop e after) = record {
      whole = whole;
      exponent = exponent;
      text = refl;
      is_whole = digits;
      is_exponent = exponent_takes false after;
      closes = closes_at _ _ false exponent (drop e after) (sym long) (closes_is size false exponent (drop e after) test.0);
      value = refl;
    } in
    subst (λ (f : Number × ℕ). Finds (whole ++ after) f) test.1 (record {
      w = whole ++ exponent;
      rest = drop e after;
      text = ap (λ (t : List ℕ). whole ++ t) (sym (take-append-drop e after)) ∙ sym (append_assoc whole exponent (drop e after));
      size = long;
      number = integer is;
    })

begins_cons : (n : ℕ) (bs : List ℕ) → begins (λ b. eqb b n) bs ≡ true → bs ≡ n ∷ drop 1 bs
begins_cons n [] h = absurd cc
begins_cons n (b ∷ bs) h = ap (λ (c : ℕ). c ∷ bs) (eqb-true b n h)

finds_real_from : (whole fraction tail : List ℕ) (found : Number × ℕ) → IsDigits 10 whole → IsDigits 10 fraction → real_from whole fraction tail ≡ Some found → Finds (whole ++ 46 ∷ (fraction ++ tail)) found
unfolding real_from
finds_real_from whole fraction tail found digits is_fraction h =
    let e = exponent_length true tail in
    let exponent = take e tail in
    let size = length whole + 1 + length fraction + e in
    let made : Number × ℕ = (Real (decimal_of (value_after 10 (value_of 10 whole) fraction) (signed_exponent exponent -ℤ pos (digit_count fraction))), size) in
    let test = if_some (closes size false exponent (drop e tail)) made found h in
    let w = whole ++ 46 ∷ (fraction ++ exponent) in
    let long : length w ≡ size =
    let a = length-append whole (46 ∷ (fraction ++ exponent)) in
    let b = length-append fraction exponent in
    let d = length-take-le e tail (exponent_length-bound true tail) in
    omega (arith, a, b, d)
    in
    let is : IsReal made.0 w (drop e tail) = record {
      whole = whole;
      fraction = fraction;
      exponent = exponent;
      text = refl;
      is_whole = digits;
      is_fraction = is_fraction;
      is_exponent = exponent_takes true tail;
      closes = closes_at _ _ false exponent (drop e tail) (sym long) (closes_is size false exponent (drop e tail) test.0);
      value = refl;
    } in
    let parts : fraction ++ tail ≡ (fraction ++ exponent) ++ drop e tail =
    ap (λ (t : List ℕ). fraction ++ t) (sym (take-append-drop e tail)) ∙ sym (append_assoc fraction exponent (drop e tail))
    in
    subst (λ (x : Number × ℕ). Finds (whole ++ 46 ∷ (fraction ++ tail)) x) test.1 (record {
      w = w;
      rest = drop e tail;
      text = ap (λ (t : List ℕ). whole ++ 46 ∷ t) parts ∙ sym (append_assoc whole (46 ∷ (fraction ++ exponent)) (drop e tail));
      size = long;
      number = real is;
    })

finds_real : (whole after : List ℕ) (found : Number × ℕ) → IsDigits 10 whole → begins (digit 10) after ≡ true → real_at whole after ≡ Some found → Finds (whole ++ 46 ∷ after) found
unfolding real_at
finds_real whole after found digits first h =
    let f = run_length (digit 10) after in
    let test = if_some_else (leb f 32) (real_from whole (take f after) (drop f after)) found h in
    subst (λ (t : List ℕ). Finds (whole ++ 46 ∷ t) found) (take-append-drop f after) (finds_real_from whole (take f after) (drop f after) found digits (takes_digits 10 after first) test.1)

is_empty-take : (e : ℕ) (tail : List ℕ) → e ≤ length tail → eqb e 0 ≡ is_empty (take e tail)
is_empty-take zero tail h = refl
is_empty-take (suc e) [] h = absurd (omega arith)
is_empty-take (suc e) (b ∷ tail) h = ne_eqb (suc e) 0 (λ x. omega arith)

finds_based_from : (base digits tail : List ℕ) (value : ℕ) (found : Number × ℕ) → IsDigits 10 base → IsDigits value digits → value_of 10 base ≡ value → 2 ≤ value → value ≤ 16 → based_from (length base) value digits tail ≡ Some found → Finds (base ++ 35 ∷ (digits ++ 35 ∷ tail)) found
unfolding based_from
finds_based_from base digits tail value found is_base is_digits value_is least greatest h =
    let e = exponent_length false tail in
    let exponent = take e tail in
    let rest = drop e tail in
    let size = length base + 1 + length digits + 1 + e in
    let made : Number × ℕ = (Int (integer_of (value_of value digits) value (magnitude exponent)), size) in
    let test = if_some (closes size (eqb e 0) exponent rest) made found h in
    let w = base ++ 35 ∷ (digits ++ 35 ∷ exponent) in
    let short : e ≤ length tail = exponent_length-bound false tail in
    let long : length w ≡ size =
    let a = length-append base (35 ∷ (digits ++ 35 ∷ exponent)) in
    let b = length-append digits (35 ∷ exponent) in
    let g = length-take-le e tail short in
    omega (arith, a, b, g)
    in
    let closing : Closes size (is_empty exponent) exponent rest = subst (λ (c : Bool). Closes size c exponent rest) (is_empty-take e tail short) (closes_is size (eqb e 0) exponent rest test.0) in
    let is : IsBased made.0 w rest = record {
      base = base;
      digits = digits;
      exponent = exponent;
      text = refl;
      is_base = is_base;
      least = rw value_is least;
      greatest = rw value_is greatest;
      is_digits = rw value_is is_digits;
      is_exponent = exponent_takes false tail;
      closes = closes_at _ _ (is_empty exponent) exponent rest (sym long) closing;
      value = rw value_is refl;
    } in
    let parts : digits ++ 35 ∷ tail ≡ (digits ++ 35 ∷ exponent) ++ rest =
    ap (λ (t : List ℕ). digits ++ 35 ∷ t) (sym (take-append-drop e tail)) ∙ sym (append_assoc digits (35 ∷ exponent) rest)
    in
    subst (λ (x : Number × ℕ). Finds (base ++ 35 ∷ (digits ++ 35 ∷ tail)) x) test.1 (record {
      w = w;
      rest = rest;
      text = ap (λ (t : List ℕ). base ++ 35 ∷ t) parts ∙ sym (append_assoc base (35 ∷ (digits ++ 35 ∷ exponent)) rest);
      size = long;
      number = based is;
    })

finds_based_digits : (base after : List ℕ) (value : ℕ) (found : Number × ℕ) → IsDigits 10 base → value_of 10 base ≡ value → 2 ≤ value → value ≤ 16 → based_digits_at (length base) value after ≡ Some found → Finds (base ++ 35 ∷ after) found
unfolding based_digits_at
finds_based_digits base after value found is_base value_is least greatest h =
    let d = run_length (digit value) after in
    let tail = drop 1 (drop d after) in
    let test = if_some_else (begins (λ b. eqb b 35) (drop d after) && (begins (digit value) after && leb d 32)) (based_from (length base) value (take d after) tail) found h in
    let parts = and_parts (begins (λ b. eqb b 35) (drop d after)) (begins (digit value) after && leb d 32) test.0 in
    let first = and_parts (begins (digit value) after) (leb d 32) parts.1 in
    let hash : drop d after ≡ 35 ∷ tail = begins_cons 35 (drop d after) parts.0 in
    let whole : take d after ++ 35 ∷ tail ≡ after = ap (λ (t : List ℕ). take d after ++ t) (sym hash) ∙ take-append-drop d after in
    subst (λ (t : List ℕ). Finds (base ++ 35 ∷ t) found) whole (finds_based_from base (take d after) tail value found is_base (takes_digits value after first.0) value_is least greatest test.1)

finds_based : (base after : List ℕ) (found : Number × ℕ) → IsDigits 10 base → based_at base after ≡ Some found → Finds (base ++ 35 ∷ after) found
unfolding based_at
finds_based base after found is_base h =
    let test = if_some_else (leb 2 (value_of 10 base) && leb (value_of 10 base) 16) (based_digits_at (length base) (value_of 10 base) after) found h in
    let inner = and_parts (leb 2 (value_of 10 base)) (leb (value_of 10 base) 16) test.0 in
    finds_based_digits base after (value_of 10 base) found is_base refl (leb-true 2 (value_of 10 base) inner.0) (leb-true (value_of 10 base) 16 inner.1) test.1

finds_from : (whole after : List ℕ) (found : Number × ℕ) → IsDigits 10 whole → number_from whole after ≡ Some found → Finds (whole ++ after) found
unfolding number_from
finds_from whole after found digits h =
    elim (cases_Bool (begins (λ b. eqb b 35) after)) [
      | inl hash ↦
          let k : based_at whole (drop 1 after) ≡ Some found = rw hash at h in
          rw (begins_cons 35 after hash) (finds_based whole (drop 1 after) found digits k)
      | inr no_hash ↦
          elim (cases_Bool (begins (λ b. eqb b 46) after && begins (digit 10) (drop 1 after))) [
            | inl point ↦
                let k : real_at whole (drop 1 after) ≡ Some found = rw (no_hash, point) at h in
                let parts = and_parts (begins (λ b. eqb b 46) after) (begins (digit 10) (drop 1 after)) point in
                rw (begins_cons 46 after parts.0) (finds_real whole (drop 1 after) found digits parts.1 k)
            | inr no_point ↦
                let k : integer_at whole after ≡ Some found = rw (no_hash, no_point) at h in
                finds_integer whole after found digits k
          ]
    ]

pub finds_number : (bs : List ℕ) (found : Number × ℕ) → begins (digit 10) bs ≡ true → number_at bs ≡ Some found → Finds bs found
unfolding number_at
finds_number bs found first h =
    let r = run_length (digit 10) bs in
    let test = if_some_else (leb r 32) (number_from (take r bs) (drop r bs)) found h in
    subst (λ (t : List ℕ). Finds t found) (take-append-drop r bs) (finds_from (take r bs) (drop r bs) found (takes_digits 10 bs first) test.1)

-- ---- what is there is found

number_at-split : (whole more : List ℕ) → length whole ≤ 32 → IsDigits 10 whole → goes_on (digit 10) more ≡ false → number_at (whole ++ more) ≡ number_from whole more
unfolding number_at
number_at-split whole more short digits stop =
    let r = run_length-append (digit 10) whole more digits.1 stop in
    let fits = le-leb (length whole) 32 short in
    rw (r, fits, take_at whole more (length whole) refl, drop_at whole more (length whole) refl) refl

-- what begins with an exponent, or with what may follow, passes no test that both fail
tail_fails : (signed : Bool) (p : ℕ → Bool) (tail rest : List ℕ) → IsExponent signed tail → begins (follows false) rest ≡ false → p 69 ≡ false → p 101 ≡ false → ((b : ℕ) → p b ≡ true → follows false b ≡ true) → begins p (tail ++ rest) ≡ false
tail_fails signed p [] rest is stop upper lower within = follows-false false p rest stop within
tail_fails signed p (b ∷ tail) rest is stop upper lower within = marker_fails p b is.0 upper lower

tail_stops : (signed : Bool) (tail rest : List ℕ) → IsExponent signed tail → begins (follows false) rest ≡ false → goes_on (digit 10) (tail ++ rest) ≡ false
tail_stops signed [] rest is stop = goes_on-false rest stop
tail_stops signed (b ∷ tail) rest is stop = or_from (digit 10 b) _ (marker_fails (digit 10) b is.0 refl refl) (and_left (eqb b 95) _ (marker_fails (λ b. eqb b 95) b is.0 refl refl))

integer_again : (number : Number) (w rest : List ℕ) → IsInteger number w rest → number_at (w ++ rest) ≡ Some (number, length w)
unfolding number_at number_from integer_at
integer_again number w rest is =
    let whole = is.whole in
    let tail = is.exponent in
    let stop = is.closes.stops in
    let split : w ++ rest ≡ whole ++ (tail ++ rest) = ap (λ (t : List ℕ). t ++ rest) is.text ∙ append_assoc whole tail rest in
    let e = exponent_length-append false false tail rest is.is_exponent stop (inr refl) in
    let no_hash = tail_fails false (λ b. eqb b 35) tail rest is.is_exponent stop refl refl (follows_hash false) in
    let no_point = and_left _ (begins (digit 10) (drop 1 (tail ++ rest))) (tail_fails false (λ b. eqb b 46) tail rest is.is_exponent stop refl refl (follows_point false)) in
    let long : length w ≡ length whole + length tail = ap length is.text ∙ length-append whole tail in
    let closing = closes_from (length whole + length tail) false tail rest (closes_at _ _ false tail rest long is.closes) in
    let found : integer_at whole (tail ++ rest) ≡ Some (number, length w) =
    rw (e, take_at tail rest (length tail) refl, drop_at tail rest (length tail) refl, closing) (ap Some (rw (is.value, long) refl))
    in
    ap number_at split ∙ number_at-split whole (tail ++ rest) (let within = is.closes.within in omega (arith, long, within)) is.is_whole (tail_stops false tail rest is.is_exponent stop) ∙ rw (no_hash, no_point) found

real_again : (number : Number) (w rest : List ℕ) → IsReal number w rest → number_at (w ++ rest) ≡ Some (number, length w)
unfolding number_at number_from real_at real_from
real_again number w rest is =
    let whole = is.whole in
    let fraction = is.fraction in
    let tail = is.exponent in
    let stop = is.closes.stops in
    let inner : (fraction ++ tail) ++ rest ≡ fraction ++ (tail ++ rest) = append_assoc fraction tail rest in
    let split : w ++ rest ≡ whole ++ 46 ∷ (fraction ++ (tail ++ rest)) = ap (λ (t : List ℕ). t ++ rest) is.text ∙ append_assoc whole (46 ∷ (fraction ++ tail)) rest ∙ ap (λ (t : List ℕ). whole ++ 46 ∷ t) inner in
    let f : run_length (digit 10) (fraction ++ (tail ++ rest)) ≡ length fraction = run_length-append (digit 10) fraction (tail ++ rest) is.is_fraction.1 (tail_stops true tail rest is.is_exponent stop) in
    let e = exponent_length-append true false tail rest is.is_exponent stop (inr refl) in
    let first : begins (digit 10) (fraction ++ (tail ++ rest)) ≡ true = begins-append (digit 10) fraction (tail ++ rest) is.is_fraction.0 in
    let long : length w ≡ length whole + 1 + length fraction + length tail = ap length is.text ∙ (let a = length-append whole (46 ∷ (fraction ++ tail)) in let b = length-append fraction tail in omega (arith, a, b)) in
    let closing = closes_from (length whole + 1 + length fraction + length tail) false tail rest (closes_at _ _ false tail rest long is.closes) in
    let short : leb (length fraction) 32 ≡ true = let within = is.closes.within in le-leb (length fraction) 32 (omega (arith, long, within)) in
    let found : real_at whole (fraction ++ (tail ++ rest)) ≡ Some (number, length w) =
    rw (f, short, take_at fraction (tail ++ rest) (length fraction) refl, drop_at fraction (tail ++ rest) (length fraction) refl, e, take_at tail rest (length tail) refl, drop_at tail rest (length tail) refl, closing) (ap Some (rw (is.value, long) refl))
    in
    ap number_at split ∙ number_at-split whole (46 ∷ (fraction ++ (tail ++ rest))) (let within = is.closes.within in omega (arith, long, within)) is.is_whole refl ∙ rw first found

based_again : (number : Number) (w rest : List ℕ) → IsBased number w rest → number_at (w ++ rest) ≡ Some (number, length w)
unfolding number_at number_from based_at based_digits_at based_from
based_again number w rest is =
    let base = is.base in
    let value = value_of 10 base in
    let digits = is.digits in
    let tail = is.exponent in
    let stop = is.closes.stops in
    let inner : (digits ++ 35 ∷ tail) ++ rest ≡ digits ++ 35 ∷ (tail ++ rest) = append_assoc digits (35 ∷ tail) rest in
    let split : w ++ rest ≡ base ++ 35 ∷ (digits ++ 35 ∷ (tail ++ rest)) = ap (λ (t : List ℕ). t ++ rest) is.text ∙ append_assoc base (35 ∷ (digits ++ 35 ∷ tail)) rest ∙ ap (λ (t : List ℕ). base ++ 35 ∷ t) inner in
    let hash_ends : goes_on (digit value) (35 ∷ (tail ++ rest)) ≡ false = or_from (digit value 35) false (le-ltb 36 value (let g = is.greatest in omega arith)) refl in
    let d : run_length (digit value) (digits ++ 35 ∷ (tail ++ rest)) ≡ length digits = run_length-append (digit value) digits (35 ∷ (tail ++ rest)) is.is_digits.1 hash_ends in
    let e = exponent_length-append false (is_empty tail) tail rest is.is_exponent stop (inl refl) in
    let first : begins (digit value) (digits ++ 35 ∷ (tail ++ rest)) ≡ true = begins-append (digit value) digits (35 ∷ (tail ++ rest)) is.is_digits.0 in
    let behind : drop (length digits) (digits ++ 35 ∷ (tail ++ rest)) ≡ 35 ∷ (tail ++ rest) = drop_at digits (35 ∷ (tail ++ rest)) (length digits) refl in
    let empty : eqb (length tail) 0 ≡ is_empty tail = is_empty-take (length tail) tail (omega arith) ∙ ap is_empty (take_all (length tail) tail (omega arith)) in
    let long : length w ≡ length base + 1 + length digits + 1 + length tail = ap length is.text ∙ (let a = length-append base (35 ∷ (digits ++ 35 ∷ tail)) in let b = length-append digits (35 ∷ tail) in omega (arith, a, b)) in
    let closing = closes_from (length base + 1 + length digits + 1 + length tail) (is_empty tail) tail rest (closes_at _ _ (is_empty tail) tail rest long is.closes) in
    let found : based_digits_at (length base) value (digits ++ 35 ∷ (tail ++ rest)) ≡ Some (number, length w) =
    let short : leb (length digits) 32 ≡ true = let within = is.closes.within in le-leb (length digits) 32 (omega (arith, long, within)) in
    rw (d, short, take_at digits (35 ∷ (tail ++ rest)) (length digits) refl, behind, e, take_at tail rest (length tail) refl, drop_at tail rest (length tail) refl, empty, closing, first) (ap Some (rw (is.value, long) refl))
    in
    let allowed : (leb 2 value && leb value 16) ≡ true = and_from _ _ (le-leb 2 value is.least) (le-leb value 16 is.greatest) in
    ap number_at split ∙ number_at-split base (35 ∷ (digits ++ 35 ∷ (tail ++ rest))) (let within = is.closes.within in omega (arith, long, within)) is.is_base refl ∙ rw allowed found

pub number_again : (number : Number) (w rest : List ℕ) → IsNumber number w rest → number_at (w ++ rest) ≡ Some (number, length w)
number_again number w rest (integer is) = integer_again number w rest is
number_again number w rest (real is) = real_again number w rest is
number_again number w rest (based is) = based_again number w rest is
