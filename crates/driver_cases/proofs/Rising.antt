-- Times that rise one after another.
use Rattle.std.proofs.Common.{◌≡◌, ℕ, ◌+◌, ◌-◌, ◌<◌, ◌≤◌, List, length, get_or, inl, inr, sym, ◌∙◌, arith}
use Rattle.std.proofs.lemmas.Bool.{cases_lt}
use Rattle.std.proofs.lemmas.List.{get_or_default}
use Rattle.step_data.specs.declared.trans.Trans.{Trans}

abbrev pub RisesUpto : List Trans → ℕ → Type 0
RisesUpto list n = (j k : ℕ) (d : Trans) → j < k → k < n → k < length list → (get_or list j d).at < (get_or list k d).at

pub rises_more : (list : List Trans) (i : ℕ) (x y : Trans) → 1 ≤ i → i < length list → x ≡ get_or list (i - 1) x → y ≡ get_or list i y → x.at < y.at → RisesUpto list i → RisesUpto list (i + 1)
rises_more list i x y some inside ex ey less upto = λ j k d jk kn kl.
    let before : i - 1 < length list = omega arith in
    let px : get_or list (i - 1) d ≡ x = get_or_default list (i - 1) d x before ∙ sym ex in
    let py : get_or list i d ≡ y = get_or_default list i d y inside ∙ sym ey in
    elim (cases_lt k i) [
      | inl lower ↦ upto j k d jk lower kl
      | inr here ↦
          let same : k ≡ i = omega arith in
          let step : (get_or list (i - 1) d).at < (get_or list i d).at = rw (px, py) less in
          rw same (elim (cases_lt j (i - 1)) [
            | inl far ↦ let u : (get_or list j d).at < (get_or list (i - 1) d).at = upto j (i - 1) d far (omega arith) before in omega arith
            | inr near ↦ let last : j ≡ i - 1 = omega arith in rw last step
          ])
    ]
