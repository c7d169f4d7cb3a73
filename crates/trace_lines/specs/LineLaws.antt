-- The lines one behind the other are the text of the trace.
use Rattle.std.proofs.Common.{◌≡◌, ℕ, ◌+◌, List, [], ◌∷◌, ◌++◌, map, flat_map, refl, sym, ap, ◌∙◌, append_assoc}
use Rattle.std.proofs.lemmas.List.{append-nil}
use Rattle.flat_design.specs.declared.objects.Enumeration.{Enumeration}
use Rattle.flat_design.specs.declared.objects.Objects.{Objects}
use Rattle.flat_design.specs.Order.{unknowns}
use Rattle.step_data.specs.declared.event.Event.{Event}
use Rattle.step_data.specs.declared.outcome.End.{End}
use Rattle.step_data.specs.declared.outcome.Options.{Options}
use Rattle.port_base.specs.Lines.{text_of_lines, text_append}
use Rattle.trace_text.specs.Trace.{numbered, unknown_line, signal_line, threshold_line, event_line, end_line, header, trace_text}
use Rattle.trace_lines.specs.Lines.{numbered_lines, options_line, name_lines, header_lines, event_lines, trace_lines, LinesAreTheTrace}

numbered_text : {A : Type 0} (line : ℕ → A → List ℕ) (i : ℕ) (xs : List A) → text_of_lines (numbered_lines line i xs) ≡ numbered line i xs
numbered_text line i [] = refl
numbered_text line i (x ∷ more) = ap (λ (l : List ℕ). line i x ++ l) (numbered_text line (i + 1) more)

events_text : (enums : List Enumeration) (events : List Event) → text_of_lines (event_lines enums events) ≡ flat_map (event_line enums) events
events_text enums [] = refl
events_text enums (e ∷ more) = ap (λ (l : List ℕ). event_line enums e ++ l) (events_text enums more)

header_text : (objects : Objects) (top : List ℕ) (options : Options) → text_of_lines (header_lines objects top options) ≡ header objects top options
unfolding header options_line
header_text objects top options =
    let first = options_line top options in
    let us = numbered_lines (unknown_line objects) 0 (unknowns objects) in
    let ss = numbered_lines signal_line 0 objects.signals in
    let ts = numbered_lines threshold_line 0 objects.thresholds in
    let u : List ℕ = numbered (unknown_line objects) 0 (unknowns objects) in
    let n : List ℕ = numbered signal_line 0 objects.signals in
    let v : List ℕ = numbered threshold_line 0 objects.thresholds in
    let named : text_of_lines (ss ++ ts) ≡ n ++ v =
    text_append ss ts ∙ ap (λ (l : List ℕ). l ++ text_of_lines ts) (numbered_text signal_line 0 objects.signals)
    ∙ ap (λ (l : List ℕ). n ++ l) (numbered_text threshold_line 0 objects.thresholds) in
    let all : text_of_lines (us ++ (ss ++ ts)) ≡ u ++ (n ++ v) =
    text_append us (ss ++ ts) ∙ ap (λ (l : List ℕ). l ++ text_of_lines (ss ++ ts)) (numbered_text (unknown_line objects) 0 (unknowns objects))
    ∙ ap (λ (l : List ℕ). u ++ l) named in
    ap (λ (l : List ℕ). first ++ l) all ∙ sym (append_assoc first u (n ++ v)) ∙ sym (append_assoc (first ++ u) n v)

pub lines_are_the_trace : LinesAreTheTrace
unfolding trace_text
lines_are_the_trace objects top options events last =
    let es = event_lines objects.enumerations events in
    let head : List ℕ = header objects top options in
    let e : List ℕ = flat_map (event_line objects.enumerations) events in
    let works : text_of_lines (es ++ end_line last ∷ []) ≡ e ++ end_line last =
    text_append es (end_line last ∷ []) ∙ ap (λ (l : List ℕ). l ++ text_of_lines (end_line last ∷ [])) (events_text objects.enumerations events)
    ∙ ap (λ (l : List ℕ). e ++ l) (append-nil (end_line last)) in
    text_append (header_lines objects top options) (es ++ end_line last ∷ [])
    ∙ ap (λ (l : List ℕ). l ++ text_of_lines (es ++ end_line last ∷ [])) (header_text objects top options)
    ∙ ap (λ (l : List ℕ). head ++ l) works
    ∙ sym (append_assoc head e (end_line last))
