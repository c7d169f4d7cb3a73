-- Lines that are numbered, one by one.
use Rattle.std.proofs.Common.{◌≡◌, ℕ, ◌+◌, ◌<◌, ◌≤◌, List, [], ◌∷◌, drop, length, get_or, drop-cons, add-one, sym, ap, ◌∙◌}
use Rattle.std.specs.Prelude.{Some}
use Rattle.std.specs.List.{slice_get}
use Rattle.std.proofs.lemmas.List.{drop_more, drop_all}
use Rattle.std.proofs.lemmas.Option.{get_or_from_slice_get}
use Rattle.flat_expr.specs.declared.expr.Unknown.{Unknown}
use Rattle.flat_design.specs.declared.objects.Objects.{Objects}
use Rattle.flat_design.specs.Order.{NumbersFindUnknowns, unknowns, unknown_at, unknown_count, number_of}
use Rattle.flat_design.specs.declared.objects.Enumeration.{Enumeration}
use Rattle.step_data.specs.declared.event.Event.{Event}
use Rattle.trace_text.specs.Trace.{unknown_line, event_line}
use Rattle.trace_lines.specs.Lines.{numbered_lines, event_lines}

-- the unknown of a number, and those of the numbers behind it
unknown_next : NumbersFindUnknowns → (objects : Objects) (n : ℕ) → n < unknown_count objects → drop n (unknowns objects) ≡ unknown_at objects n ∷ drop (n + 1) (unknowns objects)
unknown_next law objects n h =
    let u = unknown_at objects n in
    let placed : slice_get (unknowns objects) n ≡ Some u =
    sym (ap (slice_get (unknowns objects)) (law.found objects n h)) ∙ law.placed objects u (law.known objects n h) in
    let within : n < length (unknowns objects) = rw (law.count objects) h in
    drop_more (unknowns objects) n u within ∙ ap (λ x. x ∷ drop (n + 1) (unknowns objects)) (get_or_from_slice_get (unknowns objects) n u u placed)

-- the line of the next unknown
pub unknown_ahead : NumbersFindUnknowns → (objects : Objects) (n : ℕ) → n < unknown_count objects →
    numbered_lines (unknown_line objects) n (drop n (unknowns objects)) ≡ unknown_line objects n (unknown_at objects n) ∷ numbered_lines (unknown_line objects) (n + 1) (drop (n + 1) (unknowns objects))
unknown_ahead law objects n h = ap (numbered_lines (unknown_line objects) n) (unknown_next law objects n h)

-- no unknown is left
pub unknowns_over : NumbersFindUnknowns → (objects : Objects) (n : ℕ) → unknown_count objects ≤ n → numbered_lines (unknown_line objects) n (drop n (unknowns objects)) ≡ []
unknowns_over law objects n h = ap (numbered_lines (unknown_line objects) n) (drop_all n (unknowns objects) (rw (law.count objects) h))

-- the next line of numbered ones
pub numbered_ahead : {A : Type 0} (line : ℕ → A → List ℕ) (xs : List A) (i : ℕ) (x : A) → i < length xs → x ≡ get_or xs i x →
    numbered_lines line i (drop i xs) ≡ line i x ∷ numbered_lines line (i + 1) (drop (i + 1) xs)
numbered_ahead line xs i x h e =
    ap (numbered_lines line i) (drop_more xs i x h)
    ∙ ap (λ y. line i y ∷ numbered_lines line (i + 1) (drop (i + 1) xs)) (sym e)

-- the line of the next event
pub event_ahead : (enums : List Enumeration) (events : List Event) (i : ℕ) (e : Event) → i < length events → e ≡ get_or events i e →
    event_lines enums (drop i events) ≡ event_line enums e ∷ event_lines enums (drop (i + 1) events)
event_ahead enums events i e h is =
    ap (event_lines enums) (drop_more events i e h) ∙ ap (λ x. event_line enums x ∷ event_lines enums (drop (i + 1) events)) (sym is)
