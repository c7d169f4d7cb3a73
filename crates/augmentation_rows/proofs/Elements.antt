-- Rows in place of dots.
use Rattle.std.proofs.Common.{Result, Ok, Err, set, take, ◌≡◌, ◌<◌, ◌≤◌, ◌+◌, ℕ, Bool, true, false, List, [], ◌∷◌, length, drop, get_or, Option, Some, None, IsTrue, IfSome, refl, sym, ap, subst, ◌∙◌, arith}
use Rattle.std.specs.Prelude.{nat_eq, nat_lt}
use Rattle.std.specs.List.{All, list_any}
use Rattle.std.proofs.lemmas.Bool.{and_parts, lt-ltb}
use Rattle.std.proofs.lemmas.List.{drop_more, drop_all}
use Rattle.std.proofs.lemmas.List.Elements.{All-head, All-get_or}
use Rattle.fix_core.specs.Passes.{and_then, each, joined}
use Rattle.equation_values.proofs.Segments.{row_told, row_stopped, joined_more, joined_stops, joined_end}
use Rattle.flat_design.specs.declared.objects.Objects.{Objects}
use Rattle.step_data.specs.declared.breaks.Element.{Element}
use Rattle.design_meaning.specs.Equations.{Row, Augmentation as AugmentationSet, augmentation, replaced_by_break, element_of, augmentations_from}
use Rattle.design_rules.proofs.Counts.{All-tail}
use Rattle.system_model.specs.System.{is_element}
use Rattle.augmentation_rows.specs.declared.set.Augmentation.{Augmentation}
use Rattle.augmentation_rows.specs.declared.set.Augmentation.TheVariants as set
use Rattle.augmentation_rows.specs.Sets.{set_by, HasStep}
use Rattle.augmentation_rows.specs.Forms.{dot_row, IsShortRow, IsRowOf}

-- what is found is one of the elements
found_of : (P : Element → Type 0) (p : ℕ) (es : List Element) → All P es → IfSome (element_of p es) P
found_of P p [] h = tt
found_of P p (e ∷ more) h = at (element_of p more) refl (found_of P p more (All-tail P e more h)) (nat_eq e.selector p) refl
  where
    at : (o : Option Element) → element_of p more ≡ o → IfSome (element_of p more) P → (b : Bool) → nat_eq e.selector p ≡ b → IfSome (element_of p (e ∷ more)) P
    at (Some x) k ih b g = rw k (rw k at ih)
    at None k ih true g = rw (k, g) (All-head P e more h)
    at None k ih false g = rw (k, g) tt

-- ---- the rows of a set

known_set : (objects : Objects) (set : Augmentation) (d q : ℕ) → q < length objects.quantities → d < length objects.dots → IsRowOf objects (augmentation (set_by set) d q)
known_set objects set.Quiescent d q hq hd = lt-ltb d (length objects.dots) hd
known_set objects (set.Discontinuity before) d q hq hd = lt-ltb q (length objects.quantities) hq
known_set objects (set.TimeDomain tip true step) d q hq hd = (hq, hd)
known_set objects (set.TimeDomain tip false step) d q hq hd = (hq, hd)

short_set : (set : Augmentation) (d q : ℕ) → HasStep set → IsShortRow (augmentation (set_by set) d q)
short_set set.Quiescent d q h = tt
short_set (set.Discontinuity before) d q h = tt
short_set (set.TimeDomain tip true step) d q h = tt
short_set (set.TimeDomain tip false step) d q h = h

pub known_row : (objects : Objects) (set : Augmentation) (es : List Element) (d q : ℕ) → All (λ e. IsTrue (is_element objects e)) es → q < length objects.quantities → d < length objects.dots
    → (row : Row) → row ≡ dot_row (set_by set) es d q → IsRowOf objects row
known_row objects set es d q hs hq hd row is = subst (IsRowOf objects) (sym is) (at (element_of q es) (found_of (λ e. IsTrue (is_element objects e)) q es hs))
  where
    at : (o : Option Element) → IfSome o (λ e. IsTrue (is_element objects e)) → IsRowOf objects (replaced_by_break o (augmentation (set_by set) d q))
    at (Some e) h = (and_parts (list_any (nat_eq e.selector) objects.dots) (nat_lt e.quantity (length objects.quantities)) h).1
    at None h = known_set objects set d q hq hd

pub short_row : (set : Augmentation) (es : List Element) (d q : ℕ) → HasStep set → (row : Row) → row ≡ dot_row (set_by set) es d q → IsShortRow row
short_row set es d q h row is = subst IsShortRow (sym is) (at (element_of q es))
  where
    at : (o : Option Element) → IsShortRow (replaced_by_break o (augmentation (set_by set) d q))
    at (Some e) = tt
    at None = short_set set d q h

-- ---- the loop over the dots

pub dot_below : (objects : Objects) (i : ℕ) → All (λ q. q < length objects.quantities) objects.dots → i < length objects.dots → get_or objects.dots i 0 < length objects.quantities
dot_below objects i hs lt = All-get_or (λ q. q < length objects.quantities) objects.dots i 0 lt hs

pub next_dot : (set : AugmentationSet) (es : List Element) (dots : List ℕ) (i : ℕ) → i < length dots
    → augmentations_from set es i (drop i dots) ≡ dot_row set es i (get_or dots i 0) ∷ augmentations_from set es (i + 1) (drop (i + 1) dots)
next_dot set es dots i lt = ap (augmentations_from set es i) (drop_more dots i 0 lt)

pub last_dot : (set : AugmentationSet) (es : List Element) (dots : List ℕ) (i : ℕ) → length dots ≤ i → augmentations_from set es i (drop i dots) ≡ []
last_dot set es dots i h = ap (augmentations_from set es i) (drop_all i dots h)

next_place : (a b : ℕ) → (a + b) + 1 ≡ a + (b + 1)
next_place a b = omega arith

pub dots_more : {B E : Type 0} (f : Row → Result B E) (set_of : AugmentationSet) (es : List Element) (dots : List ℕ) (out : List B) (first i : ℕ) (row : Row) (y : B) → i < length dots → row ≡ dot_row set_of es i (get_or dots i 0)
    → first + length dots ≤ length out → f row ≡ Ok y
    → joined (take (first + i) out) (each f (augmentations_from set_of es i (drop i dots))) ≡ joined (take (first + (i + 1)) (set out (first + i) y)) (each f (augmentations_from set_of es (i + 1) (drop (i + 1) dots)))
dots_more f set_of es dots out first i row y lt is room e =
    let more = augmentations_from set_of es (i + 1) (drop (i + 1) dots) in
    let within : first + i < length out = omega (arith, lt, room) in
    ap (λ rs. joined (take (first + i) out) (each f rs)) (next_dot set_of es dots i lt ∙ ap (λ w. w ∷ more) (sym is))
    ∙ joined_more f row more out (first + i) y within e
    ∙ ap (λ k. joined (take k (set out (first + i) y)) (each f more)) (next_place first i)

pub dots_stop : {B E : Type 0} (f : Row → Result B E) (set_of : AugmentationSet) (es : List Element) (dots : List ℕ) (done : List B) (i : ℕ) (row : Row) (q : E) → i < length dots → row ≡ dot_row set_of es i (get_or dots i 0) → f row ≡ Err q
    → joined done (each f (augmentations_from set_of es i (drop i dots))) ≡ Err q
dots_stop f set_of es dots done i row q lt is e =
    let more = augmentations_from set_of es (i + 1) (drop (i + 1) dots) in
    ap (λ rs. joined done (each f rs)) (next_dot set_of es dots i lt ∙ ap (λ w. w ∷ more) (sym is)) ∙ joined_stops f row more done q e

pub rows_more : {B E : Type 0} (f : Row → Result B E) (set_of : AugmentationSet) (es : List Element) (dots : List ℕ) (rows after : List B) (first i : ℕ) (row : Row) → i < length dots → row ≡ dot_row set_of es i (get_or dots i 0)
    → first + length dots ≤ length rows → and_then (λ own. Ok (set rows (first + i) own)) (f row) ≡ Ok after
    → joined (take (first + i) rows) (each f (augmentations_from set_of es i (drop i dots))) ≡ joined (take (first + (i + 1)) after) (each f (augmentations_from set_of es (i + 1) (drop (i + 1) dots)))
rows_more f set_of es dots rows after first i row lt is room e =
    let more = augmentations_from set_of es (i + 1) (drop (i + 1) dots) in
    let within : first + i < length rows = omega (arith, lt, room) in
    ap (λ rs. joined (take (first + i) rows) (each f rs)) (next_dot set_of es dots i lt ∙ ap (λ w. w ∷ more) (sym is))
    ∙ row_told f row more rows after (first + i) within e
    ∙ ap (λ k. joined (take k after) (each f more)) (next_place first i)

pub rows_stop : {B E : Type 0} (f : Row → Result B E) (set_of : AugmentationSet) (es : List Element) (dots : List ℕ) (rows done : List B) (k i : ℕ) (row : Row) (q : E) → i < length dots → row ≡ dot_row set_of es i (get_or dots i 0)
    → and_then (λ own. Ok (set rows k own)) (f row) ≡ Err q → joined done (each f (augmentations_from set_of es i (drop i dots))) ≡ Err q
rows_stop f set_of es dots rows done k i row q lt is e =
    let more = augmentations_from set_of es (i + 1) (drop (i + 1) dots) in
    ap (λ rs. joined done (each f rs)) (next_dot set_of es dots i lt ∙ ap (λ w. w ∷ more) (sym is)) ∙ row_stopped f row more rows done k q e

pub dots_end : {B E : Type 0} (f : Row → Result B E) (set_of : AugmentationSet) (es : List Element) (dots : List ℕ) (out : List B) (first i n : ℕ) → n ≡ length dots → n ≤ i → i ≤ n
    → joined (take (first + i) out) (each f (augmentations_from set_of es i (drop i dots))) ≡ Ok (take (first + length dots) out)
dots_end f set_of es dots out first i n size low high =
    let last : i ≡ length dots = omega (arith, size, low, high) in
    ap (λ rs. joined (take (first + i) out) (each f rs)) (last_dot set_of es dots i (omega (arith, size, low)))
    ∙ joined_end f (take (first + i) out) ∙ ap (λ k. Ok (take (first + k) out)) last
