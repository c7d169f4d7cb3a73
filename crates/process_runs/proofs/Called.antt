-- Between two processes that are called none is marked.
use Rattle.std.proofs.Common.{◌≡◌, ◌⊎◌, inl, inr, refl, ap, ◌∙◌, ℕ, zero, suc, ◌+◌, ◌-◌, ◌<◌, ◌≤◌, Bool, true, false, List, length, get_or, arith}
use Rattle.std.specs.List.{Contains}
use Rattle.std.specs.List.Sorted.{IsStrictlyIncreasing}
use Rattle.std.proofs.lemmas.Bool.{cases_lt, cases_eq}
use Rattle.std.proofs.lemmas.List.{get_or_default, get_or_past}
use Rattle.process_runs.specs.Called.{MarksAreCalled}

-- the number of the next process that is called; behind the last it is the count of all
abbrev pub next_called : List ℕ → ℕ → ℕ → ℕ
next_called called count i = get_or called i count

pub within_count : (count : ℕ) (called : List ℕ) (marks : List Bool) (i : ℕ) → MarksAreCalled count called marks → next_called called count i ≤ count
within_count count called marks i are =
    elim (cases_lt i (length called)) [
      | inl there ↦ let less : get_or called i count < count = are.within i count there in omega (arith, less)
      | inr past ↦ let all : get_or called i count ≡ count = get_or_past called i count past in omega (arith, all)
    ]

-- no process from one number up to another is marked
abbrev pub AreUnmarked : List Bool → ℕ → ℕ → Type 0
AreUnmarked marks from to = (k : ℕ) → from ≤ k → k < to → get_or marks k false ≡ false

rising : (xs : List ℕ) → IsStrictlyIncreasing xs → (a n : ℕ) → a + n + 1 < length xs → get_or xs a 0 < get_or xs (a + n + 1) 0
rising xs rises a zero h = let same : a + 0 + 1 ≡ a + 1 = omega arith in rw same (rises a (omega arith))
rising xs rises a (suc n) h =
    let more : get_or xs a 0 < get_or xs (a + n + 1) 0 = rising xs rises a n (omega arith) in
    let last : get_or xs (a + n + 1) 0 < get_or xs (a + n + 1 + 1) 0 = rises (a + n + 1) (omega arith) in
    let same : a + suc n + 1 ≡ a + n + 1 + 1 = omega arith in
    rw same (omega (arith, more, last))

in_order : (xs : List ℕ) → IsStrictlyIncreasing xs → (i p : ℕ) → i < p → p < length xs → get_or xs i 0 < get_or xs p 0
in_order xs rises i p lt h =
    let same : i + (p - (i + 1)) + 1 ≡ p = omega arith in
    let at : get_or xs i 0 < get_or xs (i + (p - (i + 1)) + 1) 0 = rising xs rises i (p - (i + 1)) (omega arith) in
    rw same at at

-- the next number isn't behind that of a later place
next_least : (count : ℕ) (called : List ℕ) → IsStrictlyIncreasing called → (i p : ℕ) → i ≤ p → p < length called → next_called called count i ≤ get_or called p 0
next_least count called rises i p le h =
    let same : get_or called i count ≡ get_or called i 0 = get_or_default called i count 0 (omega arith) in
    elim (cases_eq i p) [
      | inl here ↦ let at : get_or called i 0 ≡ get_or called p 0 = ap (λ n. get_or called n 0) here in omega (arith, same, at)
      | inr other ↦ let less : get_or called i 0 < get_or called p 0 = in_order called rises i p (omega (arith, other)) h in omega (arith, same, less)
    ]

either : (b : Bool) → (b ≡ true) ⊎ (b ≡ false)
either true = inl refl
either false = inr refl

pub none_first : (count : ℕ) (called : List ℕ) (marks : List Bool) → MarksAreCalled count called marks → AreUnmarked marks 0 (next_called called count 0)
none_first count called marks are k from to =
    elim (either (get_or marks k false)) [
      | inr not ↦ not
      | inl set ↦
          let in_list : Contains called k = are.marked k set in
          let at : get_or called in_list.0 0 ≡ k = get_or_default called in_list.0 0 k in_list.1 ∙ in_list.2 in
          let least : next_called called count 0 ≤ get_or called in_list.0 0 = next_least count called are.rises 0 in_list.0 (omega arith) in_list.1 in
          absurd (omega (arith, at, least, to))
    ]

-- the number of the next place is greater
pub next_behind : (count : ℕ) (called : List ℕ) (marks : List Bool) (i n : ℕ) → MarksAreCalled count called marks → i < length called → next_called called count i ≡ n → n + 1 ≤ next_called called count (i + 1)
next_behind count called marks i n are h number =
    elim (cases_lt (i + 1) (length called)) [
      | inl there ↦
          let less : get_or called i 0 < get_or called (i + 1) 0 = are.rises i there in
          let here : get_or called i count ≡ get_or called i 0 = get_or_default called i count 0 h in
          let next : get_or called (i + 1) count ≡ get_or called (i + 1) 0 = get_or_default called (i + 1) count 0 there in
          omega (arith, less, here, next, number)
      | inr past ↦
          let all : get_or called (i + 1) count ≡ count = get_or_past called (i + 1) count past in
          let within : get_or called i count < count = are.within i count h in
          omega (arith, all, within, number)
    ]

pub none_between : (count : ℕ) (called : List ℕ) (marks : List Bool) (i n : ℕ) → MarksAreCalled count called marks → i < length called → next_called called count i ≡ n → AreUnmarked marks (n + 1) (next_called called count (i + 1))
none_between count called marks i n are h number k from to =
    elim (either (get_or marks k false)) [
      | inr not ↦ not
      | inl set ↦
          let in_list : Contains called k = are.marked k set in
          let at : get_or called in_list.0 0 ≡ k = get_or_default called in_list.0 0 k in_list.1 ∙ in_list.2 in
          elim (cases_lt i in_list.0) [
            | inl later ↦
                let least : next_called called count (i + 1) ≤ get_or called in_list.0 0 = next_least count called are.rises (i + 1) in_list.0 (omega (arith, later)) in_list.1 in
                absurd (omega (arith, at, least, to))
            | inr before ↦
                let least : next_called called 0 in_list.0 ≤ get_or called i 0 = next_least 0 called are.rises in_list.0 i before h in
                let here : get_or called i count ≡ get_or called i 0 = get_or_default called i count 0 h in
                absurd (omega (arith, at, least, here, number, from))
          ]
    ]
