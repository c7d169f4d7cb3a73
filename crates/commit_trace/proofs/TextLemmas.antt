-- Pieces that are added one behind the other.
use Rattle.std.proofs.Common.{◌≡◌, ℕ, ◌+◌, ◌<◌, List, [], ◌∷◌, ◌++◌, length, drop, set, append_assoc, ap, sym, ◌∙◌}
use Rattle.std.proofs.Math.Seq.{take-append_seam, drop-append_seam}
use Rattle.std.proofs.lemmas.List.{append-nil, drop-set}
use Rattle.std.proofs.lemmas.Grind.{flat_map-append}
use Rattle.commit_trace.specs.Added.{fields_text, IsFront}

pub ruleset text_rules = (append_assoc, flat_map-append, append-nil, drop-append_seam, take-append_seam)

-- what stands at the front still does after more is added
pub front_kept : (before now next more : List ℕ) → IsFront before now → next ≡ now ++ more → IsFront before next
front_kept before now next more front e =
    let rest = drop (length before) now in
    let whole : next ≡ before ++ (rest ++ more) = e ∙ ap (λ (l : List ℕ). l ++ more) front ∙ append_assoc before rest more in
    whole ∙ ap (λ (l : List ℕ). before ++ l) (sym (ap (drop (length before)) whole ∙ drop-append_seam before (rest ++ more)))

-- a space is put before digits
pub field_put : (old new : List ℕ) (start next end : ℕ) (digits : List ℕ) → start + 1 ≡ next → start < length new → drop next new ≡ digits ++ drop end old → drop start (set new start 32) ≡ fields_text (digits ∷ []) ++ drop end old
field_put old new start next end digits e within written =
    drop-set new start 32 within
    ∙ ap (λ (l : List ℕ). 32 ∷ l) (ap (λ k. drop k new) e ∙ written ∙ ap (λ (l : List ℕ). l ++ drop end old) (sym (append-nil digits)))
