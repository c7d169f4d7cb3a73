-- The marks are taken away.
use Rattle.std.proofs.Common.{◌≡◌, ◌⊎◌, inl, inr, refl, ap, sym, ◌∙◌, subst, ℕ, ◌+◌, ◌<◌, ◌≤◌, Bool, true, false, List, length, replicate, get_or, slice_set, get_or-set_other, get_or-set_same, arith}
use Rattle.std.proofs.lemmas.Bool.{cases_eq}
use Rattle.std.proofs.lemmas.List.{get_or_default, get_or-replicate, length-replicate, same_lists}
use Rattle.process_runs.specs.Called.{MarksAreCalled}

pub marks_so : (count n : ℕ) (slice called : List ℕ) (bits marks : List Bool) → n ≡ count → slice ≡ called → bits ≡ marks → MarksAreCalled count called marks → MarksAreCalled n slice bits
marks_so count n slice called bits marks en es eb are =
    subst (λ (m : ℕ). MarksAreCalled m slice bits) (sym en) (subst (λ (l : List ℕ). MarksAreCalled count l bits) (sym es) (subst (λ (l : List Bool). MarksAreCalled count called l) (sym eb) are))

-- those are left from a place on
abbrev pub MarksLeft : List ℕ → ℕ → List Bool → Type 0
MarksLeft called i marks = (k : ℕ) → get_or marks k false ≡ true → (p : ℕ) × (i ≤ p) × (p < length called) × (get_or called p 0 ≡ k)

pub all_left : (count : ℕ) (called : List ℕ) (marks : List Bool) → MarksAreCalled count called marks → MarksLeft called 0 marks
all_left count called marks are k set =
    let there = are.marked k set in (there.0, omega arith, there.1, get_or_default called there.0 0 k there.1 ∙ there.2)

pub one_taken : (called : List ℕ) (i n : ℕ) (marks : List Bool) → n ≡ get_or called i 0 → n < length marks → MarksLeft called i marks → MarksLeft called (i + 1) (slice_set marks n false)
one_taken called i n marks number within left k set =
    elim (cases_eq k n) [
      | inl same ↦ let none : get_or (slice_set marks n false) k false ≡ false = rw same (get_or-set_same marks n false false within) in absurd (cc)
      | inr other ↦
          let before = left k (sym (get_or-set_other marks n k false false other) ∙ set) in
          elim (cases_eq i before.0) [
            | inl here ↦ absurd (other (sym before.3 ∙ ap (λ p. get_or called p 0) (sym here) ∙ sym number))
            | inr behind ↦ (before.0, omega (arith, before.1, behind), before.2, before.3)
          ]
    ]

either : (b : Bool) → (b ≡ true) ⊎ (b ≡ false)
either true = inl refl
either false = inr refl

pub none_left : (called : List ℕ) (i n : ℕ) (marks : List Bool) → length called ≤ i → length marks ≡ n → MarksLeft called i marks → marks ≡ replicate n false
none_left called i n marks whole count left =
    same_lists marks (replicate n false) (count ∙ sym (length-replicate n false)) (λ k d h. get_or_default marks k d false h ∙ unset k ∙ sym (get_or-replicate n k false d (omega (arith, count, h))))
  where
    unset : (k : ℕ) → get_or marks k false ≡ false
    unset k =
        elim (either (get_or marks k false)) [
          | inr not ↦ not
          | inl set ↦ let there = left k set in absurd (omega (arith, whole, there.1, there.2))
        ]
