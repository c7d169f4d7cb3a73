-- A row that is asked for slopes at some places alone has those of all unknowns.
use Rattle.std.proofs.Common.{◌≡◌, ◌<◌, ◌+◌, ℕ, zero, suc, Bool, true, false, ℤ, pos, List, [], ◌∷◌, ◌++◌, length, replicate, set, get_or, Result, Ok, Err, IfOk, refl, sym, ap, subst, ◌∙◌, arith, append_assoc}
use Rattle.std.specs.Prelude.{◌||◌, not, if◌then◌else◌}
use Rattle.std.proofs.Common.{add-zero, zero-add, length-append}
use Rattle.std.proofs.lemmas.List.{append-nil}
use Rattle.fix_core.specs.Passes.{and_then, each, joined, ◌>>=◌}
use Rattle.fix_core.specs.Laws.{joined-joined, joined_none}
use Rattle.flat_expr.specs.declared.expr.Unknown.{Unknown}
use Rattle.design_meaning.specs.declared.fault.EvalFault.{EvalFault}
use Rattle.read_unknowns.specs.Asked.{asked_from}
use Rattle.read_unknowns.specs.Unread.{AreAlike}
use Rattle.explicit_rows.specs.Writing.{with_slopes}

-- the slopes by unknowns that aren't read are alike
abbrev pub AlikeUnread : (Unknown → Bool) → (Unknown → Result ℤ EvalFault) → Type 0
AlikeUnread stands slope = (u v : Unknown) → stands u ≡ false → stands v ≡ false → AreAlike (slope u) (slope v)

-- one of them was found, and has a slope
abbrev Found : (Unknown → Bool) → (Unknown → Result ℤ EvalFault) → Bool → Type 0
Found stands slope found = found ≡ true → (v : Unknown) × (z : ℤ) × (stands v ≡ false) × (slope v ≡ Ok z)

set_behind : {A : Type 0} (done more : List A) (x y : A) → set (done ++ x ∷ more) (length done) y ≡ (done ++ y ∷ []) ++ more
set_behind [] more x y = refl
set_behind (d ∷ done) more x y = ap (λ l. d ∷ l) (set_behind done more x y)

-- places of a list behind others
get_behind : {A : Type 0} (done more : List A) (x d : A) → get_or (done ++ x ∷ more) (length done) d ≡ x
get_behind [] more x d = refl
get_behind (y ∷ done) more x d = get_behind done more x d

-- what is shown of the unknowns from a place on: the row has slopes up to it, and zeros behind
abbrev Filled : (Unknown → Bool) → (Unknown → Result ℤ EvalFault) → (ℕ → Result ℤ EvalFault) → List ℤ → List Unknown → Type 0
Filled stands slope at tail us =
    (found : Bool) → Found stands slope found → (done : List ℤ) (place : ℕ) → length done ≡ place → ((j : ℕ) (d : Unknown) → j < length us → at (place + j) ≡ slope (get_or us j d))
    → with_slopes at (asked_from stands found place us) (done ++ (replicate (length us) (pos 0) ++ tail)) ≡ and_then (λ slopes. Ok (slopes ++ tail)) (joined done (each slope us))

-- the slope at the next place is known
next_filled : (stands : Unknown → Bool) (slope : Unknown → Result ℤ EvalFault) (at : ℕ → Result ℤ EvalFault) (tail : List ℤ) (u : Unknown) (us : List Unknown) → Filled stands slope at tail us
    → (found : Bool) → Found stands slope found → (done : List ℤ) (place : ℕ) → length done ≡ place → ((j : ℕ) (d : Unknown) → j < length (u ∷ us) → at (place + j) ≡ slope (get_or (u ∷ us) j d))
    → (z : ℤ) → slope u ≡ Ok z
    → with_slopes at (asked_from stands found (place + 1) us) ((done ++ z ∷ []) ++ (replicate (length us) (pos 0) ++ tail)) ≡ and_then (λ slopes. Ok (slopes ++ tail)) (joined done (each slope (u ∷ us)))
unfolding each
next_filled stands slope at tail u us rest found known done place is agree z e =
    rest found known (done ++ z ∷ []) (place + 1) (length-append done (z ∷ []) ∙ ap (λ n. n + 1) is) (λ j d lt. ap at (next_place place j) ∙ agree (suc j) d (omega arith))
    ∙ ap (λ m. and_then (λ slopes. Ok (slopes ++ tail)) m) (sym (ap (λ m. joined done (and_then (λ b. and_then (λ bs. Ok (b ∷ bs)) (each slope us)) m)) e ∙ joined-joined done z (each slope us)))
  where
    next_place : (place j : ℕ) → (place + 1) + j ≡ place + suc j
    next_place place j = omega arith

-- a place that is asked
asked_filled : (stands : Unknown → Bool) (slope : Unknown → Result ℤ EvalFault) (at : ℕ → Result ℤ EvalFault) (tail : List ℤ) (u : Unknown) (us : List Unknown) → Filled stands slope at tail us
    → (found : Bool) → ((z : ℤ) → slope u ≡ Ok z → Found stands slope found) → (done : List ℤ) (place : ℕ) → length done ≡ place
    → ((j : ℕ) (d : Unknown) → j < length (u ∷ us) → at (place + j) ≡ slope (get_or (u ∷ us) j d)) → (s : Result ℤ EvalFault) → slope u ≡ s
    → with_slopes at (place ∷ asked_from stands found (place + 1) us) (done ++ (replicate (length (u ∷ us)) (pos 0) ++ tail)) ≡ and_then (λ slopes. Ok (slopes ++ tail)) (joined done (each slope (u ∷ us)))
unfolding with_slopes each
asked_filled stands slope at tail u us rest found known done place is agree (Ok z) e =
    let here : at place ≡ Ok z = ap at (sym (add-zero place)) ∙ agree 0 u (omega arith) ∙ e in
    ap (λ m. m >>= (λ w. with_slopes at (asked_from stands found (place + 1) us) (set (done ++ pos 0 ∷ (replicate (length us) (pos 0) ++ tail)) place w))) here
    ∙ ap (λ n. with_slopes at (asked_from stands found (place + 1) us) (set (done ++ pos 0 ∷ (replicate (length us) (pos 0) ++ tail)) n z)) (sym is)
    ∙ ap (λ l. with_slopes at (asked_from stands found (place + 1) us) l) (set_behind done (replicate (length us) (pos 0) ++ tail) (pos 0) z)
    ∙ next_filled stands slope at tail u us rest found (known z e) done place is agree z e
asked_filled stands slope at tail u us rest found known done place is agree (Err f) e =
    let here : at place ≡ Err f = ap at (sym (add-zero place)) ∙ agree 0 u (omega arith) ∙ e in
    ap (λ m. m >>= (λ w. with_slopes at (asked_from stands found (place + 1) us) (set (done ++ pos 0 ∷ (replicate (length us) (pos 0) ++ tail)) place w))) here
    ∙ sym (ap (λ m. and_then (λ slopes. Ok (slopes ++ tail)) (joined done (and_then (λ b. and_then (λ bs. Ok (b ∷ bs)) (each slope us)) m))) e)

-- a place that isn't asked has the slope 0
unasked_slope : (stands : Unknown → Bool) (slope : Unknown → Result ℤ EvalFault) → AlikeUnread stands slope → (u v : Unknown) (z : ℤ) → stands u ≡ false → stands v ≡ false → slope v ≡ Ok z → slope u ≡ Ok (pos 0)
unasked_slope stands slope alike u v z off over e =
    let both = alike u v off over in
    let is : slope u ≡ Ok z = both.same ∙ e in
    is ∙ ap Ok (subst (λ m. IfOk m (λ w. w ≡ pos 0)) is both.none)

filled_from : (stands : Unknown → Bool) (slope : Unknown → Result ℤ EvalFault) (at : ℕ → Result ℤ EvalFault) → AlikeUnread stands slope → (tail : List ℤ) (us : List Unknown) → Filled stands slope at tail us
unfolding asked_from with_slopes each
filled_from stands slope at alike tail [] found known done place is agree = ap (λ l. Ok (l ++ tail)) (sym (append-nil done))
filled_from stands slope at alike tail (u ∷ us) found known done place is agree = cases (filled_from stands slope at alike tail us) (stands u) found refl known
  where
    cases : Filled stands slope at tail us → (b f : Bool) → stands u ≡ b → Found stands slope f
        → with_slopes at ((if b || not f then place ∷ [] else []) ++ asked_from stands (f || not b) (place + 1) us) (done ++ (replicate (length (u ∷ us)) (pos 0) ++ tail))
        ≡ and_then (λ slopes. Ok (slopes ++ tail)) (joined done (each slope (u ∷ us)))
    cases rest true true e k = asked_filled stands slope at tail u us rest true (λ z s. k) done place is agree (slope u) refl
    cases rest true false e k = asked_filled stands slope at tail u us rest false (λ z s q. absurd (cc)) done place is agree (slope u) refl
    cases rest false false e k = asked_filled stands slope at tail u us rest true (λ z s q. (u, z, e, s)) done place is agree (slope u) refl
    cases rest false true e k =
        let witness = k refl in
        let zero_here = unasked_slope stands slope alike u witness.0 witness.1 e witness.2 witness.3 in
        ap (λ l. with_slopes at (asked_from stands true (place + 1) us) l) (sym (append_assoc done (pos 0 ∷ []) (replicate (length us) (pos 0) ++ tail)))
        ∙ next_filled stands slope at tail u us rest true k done place is agree (pos 0) zero_here

replicate_end : {A : Type 0} (n : ℕ) (x : A) → replicate (n + 1) x ≡ replicate n x ++ x ∷ []
replicate_end zero x = refl
replicate_end (suc n) x = let e : suc n + 1 ≡ suc (n + 1) = omega arith in ap (λ k. replicate k x) e ∙ ap (λ l. x ∷ l) (replicate_end n x)

-- the slopes of a row of zeros
pub row_filled : (stands : Unknown → Bool) (slope : Unknown → Result ℤ EvalFault) (at : ℕ → Result ℤ EvalFault) (us : List Unknown) → AlikeUnread stands slope
    → ((j : ℕ) (d : Unknown) → j < length us → at j ≡ slope (get_or us j d))
    → with_slopes at (asked_from stands false 0 us) (replicate (length us + 1) (pos 0)) ≡ and_then (λ slopes. Ok (slopes ++ pos 0 ∷ [])) (each slope us)
row_filled stands slope at us alike agree =
    ap (with_slopes at (asked_from stands false 0 us)) (replicate_end (length us) (pos 0))
    ∙ filled_from stands slope at alike (pos 0 ∷ []) us false (λ q. absurd (cc)) [] 0 refl (λ j d lt. ap at (zero-add j) ∙ agree j d lt)
    ∙ ap (λ m. and_then (λ slopes. Ok (slopes ++ pos 0 ∷ [])) m) (joined_none (each slope us))
