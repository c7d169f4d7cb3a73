-- Reading a string from the left finds its content, and nothing else.
use Rattle.std.proofs.Common.{◌≡◌, ℕ, suc, ◌+◌, ◌≤◌, ◌<◌, ◌⊎◌, Bool, true, false, cond, not, ◌&&◌, eqb, if◌then◌else◌, List, [], ◌∷◌, ◌++◌, length, take, drop, get_or, refl, sym, ap, subst, ◌∙◌, arith, inl, inr, append_assoc}
use Rattle.std.proofs.lemmas.Bool.{or_parts, or_from, and_parts, and_from, and_left, and_cases, cases_Bool, eqb-true, eq-eqb, ne_eqb, not-true, not-false, not_from_false, cases_eq}
use Rattle.std.proofs.lemmas.List.{drop_more}
use Rattle.std.specs.List.{list_all}
use Rattle.ams_lexer.specs.Runs.{begins}
use Rattle.ams_lexer.specs.Strings.{doubled, spelled, ends, is_in_line, body_length, undoubled, front_length}

-- ---- bytes from the front on that pass

pub record TakesFront (p : ℕ → Bool) (bs : List ℕ) (n : ℕ) : Type 0 where
  pub passes : list_all p (take n bs) ≡ true
  pub stops : begins p (drop n bs) ≡ false
  pub bound : n ≤ length bs

front_more : (p : ℕ → Bool) (b : ℕ) (bs : List ℕ) (t : Bool) → p b ≡ t → TakesFront p bs (front_length p bs) → TakesFront p (b ∷ bs) (cond t (suc (front_length p bs)) 0)
front_more p b bs true h more = record { passes = and_from (p b) _ h more.passes; stops = more.stops; bound = let m = more.bound in omega arith }
front_more p b bs false h more = record { passes = refl; stops = h; bound = omega arith }

pub takes_front : (p : ℕ → Bool) (bs : List ℕ) → TakesFront p bs (front_length p bs)
takes_front p [] = record { passes = refl; stops = refl; bound = omega arith }
takes_front p (b ∷ bs) = front_more p b bs (p b) refl (takes_front p bs)

front_length-stop : (p : ℕ → Bool) (bs : List ℕ) → begins p bs ≡ false → front_length p bs ≡ 0
front_length-stop p [] h = refl
front_length-stop p (b ∷ bs) h = rw h refl

pub front_length-append : (p : ℕ → Bool) (w rest : List ℕ) → list_all p w ≡ true → begins p rest ≡ false → front_length p (w ++ rest) ≡ length w
front_length-append p [] rest h stop = front_length-stop p rest stop
front_length-append p (b ∷ w) rest h stop =
    let parts = and_parts (p b) (list_all p w) h in
    rw parts.0 (ap suc (front_length-append p w rest parts.1 stop))

front_length-next : (p : ℕ → Bool) (bs : List ℕ) → begins p bs ≡ true → front_length p bs ≡ suc (front_length p (drop 1 bs))
front_length-next p [] h = absurd cc
front_length-next p (b ∷ bs) h = rw h refl

pub front_length-more : (p : ℕ → Bool) (bs : List ℕ) (i : ℕ) → i < length bs → p (get_or bs i 0) ≡ true → front_length p (drop i bs) ≡ suc (front_length p (drop (i + 1) bs))
front_length-more p bs i within h =
    let e = drop_more bs i 0 within in
    rw e (rw h refl)

-- all pass exactly where as many pass as there are
pub front_length-all : (p : ℕ → Bool) (w : List ℕ) → front_length p w ≡ length w → list_all p w ≡ true
front_length-all p [] h = refl
front_length-all p (b ∷ w) h =
    elim (cases_Bool (p b)) [
      | inl t ↦ let k : suc (front_length p w) ≡ suc (length w) = rw t at h in and_from (p b) _ t (front_length-all p w (omega arith))
      | inr f ↦ absurd (let k : 0 ≡ suc (length w) = rw f at h in omega arith)
    ]

pub front_length-whole : (p : ℕ → Bool) (w : List ℕ) → list_all p w ≡ true → front_length p w ≡ length w
front_length-whole p [] h = refl
front_length-whole p (b ∷ w) h =
    let parts = and_parts (p b) (list_all p w) h in
    rw parts.0 (ap suc (front_length-whole p w parts.1))

-- ---- a string's content

pub spelled-cons : (b : ℕ) (c : List ℕ) → spelled (b ∷ c) ≡ doubled b ++ spelled c
spelled-cons b c = refl

-- content, and what ends it
pub record TakesBody (bs : List ℕ) (n : ℕ) : Type 0 where
  pub content : spelled (undoubled false (take n bs)) ≡ take n bs
  pub lines : list_all is_in_line (undoubled false (take n bs)) ≡ true
  pub stops : ends (drop n bs) ≡ true
  pub bound : n ≤ length bs

takes_nothing : (bs : List ℕ) → ends bs ≡ true → TakesBody bs 0
takes_nothing bs h = record { content = refl; lines = refl; stops = h; bound = omega arith }

-- one more byte that is no mark
takes_plain : (b : ℕ) (bs : List ℕ) (n : ℕ) → eqb b 10 ≡ false → eqb b 34 ≡ false → TakesBody bs n → TakesBody (b ∷ bs) (suc n)
takes_plain b bs n line mark more = record {
  content = rw mark (ap (λ (t : List ℕ). b ∷ t) more.content);
  lines = rw mark (and_from (not (eqb b 10)) _ (not_from_false (eqb b 10) line) more.lines);
  stops = more.stops;
  bound = let m = more.bound in omega arith;
}

takes_pair : (bs : List ℕ) (n : ℕ) → TakesBody bs n → TakesBody (34 ∷ 34 ∷ bs) (suc (suc n))
takes_pair bs n more = record {
  content = ap (λ (t : List ℕ). 34 ∷ 34 ∷ t) more.content;
  lines = more.lines;
  stops = more.stops;
  bound = let m = more.bound in omega arith;
}

ends_false : (b : ℕ) (bs : List ℕ) → ends (b ∷ bs) ≡ false → (eqb b 10 ≡ false) × ((eqb b 34 ≡ false) ⊎ (begins (λ c. eqb c 34) bs ≡ true))
ends_false b bs h =
    let parts = or_parts (eqb b 10) (eqb b 34 && not (begins (λ c. eqb c 34) bs)) h in
    (parts.0, elim (and_cases (eqb b 34) (not (begins (λ c. eqb c 34) bs)) parts.1) [ inl e ↦ inl e | inr e ↦ inr (not-false _ e) ])

takes_body_last : (b : ℕ) (t : Bool) → ends (b ∷ []) ≡ t → TakesBody (b ∷ []) (cond t 0 (suc 0))
takes_body_last b true h = takes_nothing (b ∷ []) h
takes_body_last b false h =
    let e = ends_false b [] h in
    takes_plain b [] 0 e.0 (elim e.1 [ inl m ↦ m | inr m ↦ absurd (let k : false ≡ true = m in cc) ]) (takes_nothing [] refl)

takes_body_pair : (b c : ℕ) (bs : List ℕ) → eqb b 34 ≡ true → eqb c 34 ≡ true → TakesBody bs (body_length false bs) → TakesBody (b ∷ c ∷ bs) (suc (body_length (eqb b 34) (c ∷ bs)))
takes_body_pair b c bs first second more =
    let pair : (34 ∷ 34 ∷ bs) ≡ (b ∷ c ∷ bs) = rw (eqb-true b 34 first, eqb-true c 34 second) refl in
    rw first (subst (λ (t : List ℕ). TakesBody t (suc (suc (body_length false bs)))) pair (takes_pair bs (body_length false bs) more))

takes_body_if : (b c : ℕ) (bs : List ℕ) (t : Bool) → ends (b ∷ c ∷ bs) ≡ t → TakesBody (c ∷ bs) (body_length false (c ∷ bs)) → TakesBody bs (body_length false bs) → TakesBody (b ∷ c ∷ bs) (cond t 0 (suc (body_length (eqb b 34) (c ∷ bs))))
takes_body_if b c bs true h next after = takes_nothing (b ∷ c ∷ bs) h
takes_body_if b c bs false h next after =
    let e = ends_false b (c ∷ bs) h in
    elim (cases_Bool (eqb b 34)) [
      | inl mark ↦ takes_body_pair b c bs mark (elim e.1 [ inl m ↦ absurd (let k : true ≡ false = sym mark ∙ m in cc) | inr m ↦ m ]) after
      | inr other ↦ rw other (takes_plain b (c ∷ bs) (body_length false (c ∷ bs)) e.0 other next)
    ]

pub takes_body : (bs : List ℕ) → TakesBody bs (body_length false bs)
takes_body [] = takes_nothing [] refl
takes_body (b ∷ []) = takes_body_last b (ends (b ∷ [])) refl
takes_body (b ∷ c ∷ bs) = takes_body_if b c bs (ends (b ∷ c ∷ bs)) refl (takes_body (c ∷ bs)) (takes_body bs)

-- ---- the content is found again

pub undoubled-spelled : (c : List ℕ) → undoubled false (spelled c) ≡ c
undoubled-spelled [] = refl
undoubled-spelled (b ∷ c) =
    elim (cases_eq b 34) [
      | inl e ↦ let t = eq-eqb b 34 e in rw t (ap (λ (s : List ℕ). 34 ∷ s) (undoubled-spelled c) ∙ ap (λ (n : ℕ). n ∷ c) (sym e))
      | inr none ↦ let t = ne_eqb b 34 none in rw (t, t) (ap (λ (s : List ℕ). b ∷ s) (undoubled-spelled c))
    ]

body_length-stop : (bs : List ℕ) → ends bs ≡ true → body_length false bs ≡ 0
body_length-stop [] h = refl
body_length-stop (b ∷ bs) h = rw h refl

pub body_length-spelled : (c rest : List ℕ) → list_all is_in_line c ≡ true → ends rest ≡ true → body_length false (spelled c ++ rest) ≡ length (spelled c)
body_length-spelled [] rest lines stop = body_length-stop rest stop
body_length-spelled (b ∷ c) rest lines stop =
    let parts = and_parts (is_in_line b) (list_all is_in_line c) lines in
    let line : eqb b 10 ≡ false = not-true (eqb b 10) parts.0 in
    let more = body_length-spelled c rest parts.1 stop in
    elim (cases_Bool (eqb b 34)) [
      | inl t ↦ rw t (ap (λ (n : ℕ). suc (suc n)) more)
      | inr f ↦
          let on : ends (b ∷ (spelled c ++ rest)) ≡ false = or_from (eqb b 10) _ line (and_left (eqb b 34) _ f) in
          rw f (rw (on, f) (ap suc more))
    ]

-- ---- the loops

body_length-next : (second : Bool) (b : ℕ) (bs : List ℕ) → (second ≡ false → ends (b ∷ bs) ≡ false) → body_length second (b ∷ bs) ≡ suc (body_length (not second && eqb b 34) bs)
body_length-next true b bs on = refl
body_length-next false b bs on = let e = on refl in rw e refl

pub body_length-more : (second : Bool) (bs : List ℕ) (i : ℕ) → i < length bs → (second ≡ false → ends (drop i bs) ≡ false) → body_length second (drop i bs) ≡ suc (body_length (not second && eqb (get_or bs i 0) 34) (drop (i + 1) bs))
body_length-more second bs i within on =
    let e = drop_more bs i 0 within in
    ap (body_length second) e ∙ body_length-next second (get_or bs i 0) (drop (i + 1) bs) (λ h. ap ends (sym e) ∙ on h)

pub body_length-last : (bs : List ℕ) (i : ℕ) → ends (drop i bs) ≡ true → body_length false (drop i bs) ≡ 0
body_length-last bs i h = body_length-stop (drop i bs) h

undoubled-next : (skip : Bool) (b : ℕ) (bs front : List ℕ) → front ++ undoubled skip (b ∷ bs) ≡ (if skip then front else front ++ b ∷ []) ++ undoubled (not skip && eqb b 34) bs
undoubled-next true b bs front = refl
undoubled-next false b bs front = sym (append_assoc front (b ∷ []) (undoubled (eqb b 34) bs))

pub undoubled-more : (skip : Bool) (bs front : List ℕ) (i : ℕ) → i < length bs → front ++ undoubled skip (drop i bs) ≡ (if skip then front else front ++ get_or bs i 0 ∷ []) ++ undoubled (not skip && eqb (get_or bs i 0) 34) (drop (i + 1) bs)
undoubled-more skip bs front i within =
    ap (λ (t : List ℕ). front ++ undoubled skip t) (drop_more bs i 0 within) ∙ undoubled-next skip (get_or bs i 0) (drop (i + 1) bs) front
