-- The unknowns, one by one.
use Rattle.std.proofs.Common.{◌≡◌, ℕ, ◌+◌, ◌<◌, List, ◌∷◌, ◌++◌, drop, length, sym, ap, ◌∙◌}
use Rattle.std.specs.Prelude.{Some}
use Rattle.std.specs.List.{slice_get}
use Rattle.std.proofs.lemmas.List.{drop_more, append_assoc}
use Rattle.std.proofs.lemmas.Option.{get_or_from_slice_get}
use Rattle.flat_expr.specs.declared.expr.Unknown.{Unknown}
use Rattle.flat_design.specs.declared.objects.Objects.{Objects}
use Rattle.flat_design.specs.Order.{NumbersFindUnknowns, unknowns, unknown_at, unknown_count}
use Rattle.trace_text.specs.Trace.{numbered, unknown_line}

-- the unknown of a number, and those of the numbers behind it
unknown_next : NumbersFindUnknowns → (objects : Objects) (n : ℕ) → n < unknown_count objects → drop n (unknowns objects) ≡ unknown_at objects n ∷ drop (n + 1) (unknowns objects)
unknown_next law objects n h =
    let u = unknown_at objects n in
    let placed : slice_get (unknowns objects) n ≡ Some u =
    sym (ap (slice_get (unknowns objects)) (law.found objects n h)) ∙ law.placed objects u (law.known objects n h) in
    let within : n < length (unknowns objects) = rw (law.count objects) h in
    drop_more (unknowns objects) n u within ∙ ap (λ x. x ∷ drop (n + 1) (unknowns objects)) (get_or_from_slice_get (unknowns objects) n u u placed)

-- the next line and those of the rest
pub unknown_lines_next : NumbersFindUnknowns → (objects : Objects) (out new : List ℕ) (n : ℕ) (u : Unknown) → n < unknown_count objects → u ≡ unknown_at objects n →
    new ≡ out ++ unknown_line objects n u →
    new ++ numbered (unknown_line objects) (n + 1) (drop (n + 1) (unknowns objects)) ≡ out ++ numbered (unknown_line objects) n (drop n (unknowns objects))
unknown_lines_next law objects out new n u h is e =
    let rest = numbered (unknown_line objects) (n + 1) (drop (n + 1) (unknowns objects)) in
    ap (λ (l : List ℕ). l ++ rest) (e ∙ ap (λ v. out ++ unknown_line objects n v) is)
    ∙ append_assoc out (unknown_line objects n (unknown_at objects n)) rest
    ∙ sym (ap (λ us. out ++ numbered (unknown_line objects) n us) (unknown_next law objects n h))
