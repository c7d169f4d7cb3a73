-- The lists of the first processes, and of all.
use Rattle.std.proofs.Common.{◌≡◌, ◌⊎◌, inl, inr, refl, ap, sym, ◌∙◌, subst, ℕ, zero, suc, ◌+◌, ◌<◌, ◌≤◌, Bool, true, List, [], ◌∷◌, ◌++◌, length, get_or, take, map, replicate, arith}
use Rattle.std.specs.Prelude.{Option, Some, None}
use Rattle.std.specs.List.{slice_get, flat_map, All, Contains}
use Rattle.std.proofs.lemmas.Bool.{cases_lt}
use Rattle.std.proofs.lemmas.Grind.{flat_map-append}
use Rattle.std.proofs.lemmas.List.{take_more, take_all, map-append, length-replicate}
use Rattle.std.proofs.lemmas.Option.{slice_get-get_or}
use Rattle.std.proofs.lemmas.List.Elements.{All-nil, All-replicate, Contains-append_left, Contains-append_right}
use Rattle.flat_expr.specs.declared.expr.SignalName.{SignalName}
use Rattle.flat_expr.specs.declared.statement.Statement.{Statement}
use Rattle.flat_design.specs.declared.objects.WaitPlace.{WaitPlace}
use Rattle.flat_design.specs.declared.objects.Process.{Process}
use Rattle.cycle_meaning.specs.Cycles.{Waiting, waiting_at}
use Rattle.resumption.specs.Sleeps.{waits_of, waiting_or_none}
use Rattle.resumption_calls.specs.Calls.{is_called, HaveCallers}
use Rattle.process_callers.specs.Callers.{Lists, callers_of, names_of, AreWithin}
use Rattle.process_callers.specs.Growing.{Grows}
use Rattle.process_callers.proofs.Putting.{grows_more}

-- ---- the names of waits

append_nothing : {A : Type 0} (xs : List A) → xs ++ [] ≡ xs
append_nothing [] = refl
append_nothing (x ∷ xs) = ap (λ l. x ∷ l) (append_nothing xs)

pub names_last : (waits : List Waiting) (w : Waiting) → names_of (waits ++ w ∷ []) ≡ names_of waits ++ w.0
names_last waits w = flat_map-append (λ (z : Waiting). z.0) waits (w ∷ []) ∙ ap (λ l. names_of waits ++ l) (append_nothing w.0)

-- one wait more
pub grows_next : (count k : ℕ) (f : WaitPlace → Waiting) (places : List WaitPlace) (i : ℕ) (place : WaitPlace) (names : List SignalName) (a b c : Lists) → i < length places → place ≡ get_or places i place → names ≡ (f place).0
    → Grows count k (names_of (map f (take i places))) a b → Grows count k names b c → Grows count k (names_of (map f (take (i + 1) places))) a c
grows_next count k f places i place names a b c h is named first second =
    subst (λ (l : List SignalName). Grows count k l a c) (sym whole) (grows_more count k (names_of (map f (take i places))) names a b c first second)
  where
    whole : names_of (map f (take (i + 1) places)) ≡ names_of (map f (take i places)) ++ names
    whole =
        ap (λ l. names_of (map f l)) (take_more places i place h ∙ ap (λ (p : WaitPlace). take i places ++ p ∷ []) (sym is))
        ∙ ap names_of (map-append f (take i places) (place ∷ [])) ∙ names_last (map f (take i places)) (f place) ∙ ap (λ l. names_of (map f (take i places)) ++ l) (sym named)

in_names : (row : List Waiting) (n : ℕ) (i : SignalName) → Contains (waiting_or_none (slice_get row n)).0 i → Contains (names_of row) i
in_names [] zero i h = h
in_names [] (suc n) i h = h
in_names (w ∷ row) zero i h = Contains-append_left w.0 (names_of row) i h
in_names (w ∷ row) (suc n) i h = Contains-append_right w.0 (names_of row) i (in_names row n i h)

-- ---- the processes

-- the first so many processes stand in the list of each name that some wait of them has
pub record IsBuilt (count : ℕ) (ps : List Process) (n signals thresholds : ℕ) (c : Lists) : Type 0 where
  pub have : (j : ℕ) (p : Process) (i : SignalName) → j < n → slice_get ps j ≡ Some p → Contains (names_of (waits_of p)) i → is_called (callers_of count c i) j ≡ true
  pub within : AreWithin count c
  pub signals_are : length c.signals ≡ signals
  pub thresholds_are : length c.thresholds ≡ thresholds

pub built_none : (count : ℕ) (ps : List Process) (a b : ℕ) (c : Lists) → c.signals ≡ replicate a [] → c.thresholds ≡ replicate b [] → c.domain ≡ [] → IsBuilt count ps 0 a b c
built_none count ps a b c es et ed = record {
  have = λ j p i h is k. absurd (omega (arith, h));
  within = record {
    signals = subst (λ (l : List (List ℕ)). All (λ (list : List ℕ). All (λ (m : ℕ). m < count) list) l) (sym es) (All-replicate (λ (list : List ℕ). All (λ (m : ℕ). m < count) list) a [] (All-nil (λ (m : ℕ). m < count)));
    thresholds = subst (λ (l : List (List ℕ)). All (λ (list : List ℕ). All (λ (m : ℕ). m < count) list) l) (sym et) (All-replicate (λ (list : List ℕ). All (λ (m : ℕ). m < count) list) b [] (All-nil (λ (m : ℕ). m < count)));
    domain = subst (λ (l : List ℕ). All (λ (m : ℕ). m < count) l) (sym ed) (All-nil (λ (m : ℕ). m < count));
  };
  signals_are = ap length es ∙ length-replicate a [];
  thresholds_are = ap length et ∙ length-replicate b [];
}

same_process : (p q : Process) (o : Option Process) → o ≡ Some p → o ≡ Some q → p ≡ q
same_process p q o e f = cc

pub built_more : (count : ℕ) (ps : List Process) (n signals thresholds : ℕ) (p : Process) (c now : Lists) → slice_get ps n ≡ Some p
    → IsBuilt count ps n signals thresholds c → Grows count n (names_of (waits_of p)) c now → IsBuilt count ps (n + 1) signals thresholds now
built_more count ps n signals thresholds p c now is built grows = record {
  have = λ j q i h at k. elim (cases_lt j n) [
    | inl before ↦ grows.keeps i j (built.have j q i before at k)
    | inr past ↦
        let same : j ≡ n = omega (arith, h, past) in
        let is_q : p ≡ q = same_process p q (slice_get ps n) is (ap (slice_get ps) (sym same) ∙ at) in
        subst (λ (m : ℕ). is_called (callers_of count now i) m ≡ true) (sym same) (grows.calls i (subst (λ (r : Process). Contains (names_of (waits_of r)) i) (sym is_q) k))
  ];
  within = grows.within built.within;
  signals_are = grows.signals ∙ built.signals_are;
  thresholds_are = grows.thresholds ∙ built.thresholds_are;
}

no_row : (ps : List Process) (k : ℕ) → length ps ≤ k → get_or (map waits_of ps) k [] ≡ []
no_row [] k h = refl
no_row (p ∷ ps) zero h = absurd (omega arith)
no_row (p ∷ ps) (suc k) h = no_row ps k (omega arith)

-- a row is that of its process
row_at : (ps : List Process) (k : ℕ) → k < length ps → (p : Process) × (slice_get ps k ≡ Some p) × (get_or (map waits_of ps) k [] ≡ waits_of p)
row_at [] k h = absurd (omega arith)
row_at (p ∷ ps) zero h = (p, refl, refl)
row_at (p ∷ ps) (suc k) h = row_at ps k (omega arith)

nothing : (n : ℕ) (i : SignalName) → Contains (waiting_or_none (slice_get [] n)).0 i → ⊥
nothing zero i h = let none : h.0 < 0 = h.1 in omega (arith, none)
nothing (suc n) i h = let none : h.0 < 0 = h.1 in omega (arith, none)

pub have_callers : (ps : List Process) (n signals thresholds : ℕ) (c : Lists) → length ps ≤ n → IsBuilt (length ps) ps n signals thresholds c → HaveCallers (callers_of (length ps) c) (map waits_of ps)
have_callers ps n signals thresholds c all built = λ k m i h. elim (cases_lt k (length ps)) [
  | inl there ↦
      let row = row_at ps k there in
      built.have k row.0 i (omega arith) row.1 (in_names (waits_of row.0) m i (subst (λ (w : List Waiting). Contains (waiting_or_none (slice_get w m)).0 i) row.2 h))
  | inr past ↦ absurd (nothing m i (subst (λ (w : List Waiting). Contains (waiting_or_none (slice_get w m)).0 i) (no_row ps k past) h))
]

-- all waits of a process
pub grows_whole : (count k : ℕ) (p : Process) (text : List Statement) (places : List WaitPlace) (n : ℕ) (a b : Lists) → text ≡ p.statements → places ≡ p.waits → length places ≤ n
    → Grows count k (names_of (map (λ (w : WaitPlace). waiting_at w.path text) (take n places))) a b → Grows count k (names_of (waits_of p)) a b
grows_whole count k p text places n a b et ep all h =
    subst (λ (l : List SignalName). Grows count k l a b)
    (ap (λ (l : List WaitPlace). names_of (map (λ (w : WaitPlace). waiting_at w.path text) l)) (take_all n places all ∙ ep) ∙ ap (λ (s : List Statement). names_of (map (λ (w : WaitPlace). waiting_at w.path s) p.waits)) et) h

pub process_at : (ps qs : List Process) (k : ℕ) (p : Process) → qs ≡ ps → k < length qs → p ≡ get_or qs k p → (slice_get ps k ≡ Some p) × (k < length ps)
process_at ps qs k p e h is =
    (ap (λ (l : List Process). slice_get l k) (sym e) ∙ slice_get-get_or qs k p h ∙ ap Some (sym is), let l = ap length e in omega (arith, l, h))
