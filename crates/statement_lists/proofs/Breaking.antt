-- Break elements, one after the other.
use Rattle.std.proofs.Common.{◌≡◌, ℕ, ◌+◌, ◌<◌, ◌≤◌, List, [], ◌∷◌, ◌++◌, length, drop, get_or, refl, sym, append_assoc}
use Rattle.std.specs.Prelude.{◌||◌, Result, Ok, Err}
use Rattle.std.proofs.lemmas.List.{drop_all, append-nil}
use Rattle.std.proofs.lemmas.List.Folds.{list_any-append}
use Rattle.fix_core.specs.Passes.{◌>>=◌, joined}
use Rattle.fix_core.specs.Laws.{at_place, joined-joined, joined_none}
use Rattle.flat_expr.specs.declared.statement.BreakElement.{BreakElement}
use Rattle.step_data.specs.Selectors.{has_selector}
use Rattle.step_data.specs.declared.breaks.Element.{Element}
use Rattle.step_data.specs.declared.outcome.Refusal.{Refusal}
use Rattle.cycle_meaning.specs.World.{Context, Local, evaluated}
use Rattle.cycle_meaning.specs.Statements.{elements_of}
use Rattle.statement_lists.specs.Executed.{executed_of}

-- one of two lists has the selector
pub either_has : (selector : ℕ) (earlier made : List Element) → has_selector selector (earlier ++ made) ≡ (has_selector selector earlier || has_selector selector made)
either_has selector earlier made = list_any-append _ earlier made

-- the value, and what follows it
by_value : {A B C : Type 0} (value : Result A Refusal) (test : A → Result B Refusal) (later : B → Result C Refusal) →
    (value >>= (λ v. test v >>= later)) ≡ ((value >>= test) >>= later)
by_value (Ok v) test later = refl
by_value (Err r) test later = refl

first_and_more : (here : Context) (l : Local) (earlier : List Element) (e : BreakElement) (more : List BreakElement) →
    elements_of here l earlier (e ∷ more)
    ≡ (executed_of here l earlier e >>= (λ made. elements_of here l (earlier ++ made ∷ []) more >>= (λ later. Ok (made ∷ later))))
unfolding elements_of
first_and_more here l earlier e more = by_value (evaluated here l e.value) _ _

-- nothing is made yet
pub none_made : (here : Context) (l : Local) (earlier : List Element) (elements : List BreakElement) →
    elements_of here l earlier elements ≡ joined [] (elements_of here l (earlier ++ []) (drop 0 elements))
none_made here l earlier elements = rw append-nil (sym (joined_none (elements_of here l earlier elements)))

-- the next element is executed
pub one_made : (here : Context) (l : Local) (earlier found : List Element) (elements : List BreakElement) (i : ℕ) (e : BreakElement) (made : Element) →
    i < length elements → e ≡ get_or elements i e → executed_of here l (earlier ++ found) e ≡ Ok made →
    joined found (elements_of here l (earlier ++ found) (drop i elements))
    ≡ joined (found ++ made ∷ []) (elements_of here l (earlier ++ (found ++ made ∷ [])) (drop (i + 1) elements))
one_made here l earlier found elements i e made inside is answer =
    rw (at_place elements i e inside is, first_and_more here l (earlier ++ found) e (drop (i + 1) elements), answer, append_assoc earlier found (made ∷ []))
    (joined-joined found made (elements_of here l (earlier ++ (found ++ made ∷ [])) (drop (i + 1) elements)))

-- it is refused
pub one_refused : (here : Context) (l : Local) (earlier found : List Element) (elements : List BreakElement) (i : ℕ) (e : BreakElement) (r : Refusal) →
    i < length elements → e ≡ get_or elements i e → executed_of here l (earlier ++ found) e ≡ Err r →
    joined found (elements_of here l (earlier ++ found) (drop i elements)) ≡ Err r
one_refused here l earlier found elements i e r inside is answer =
    rw (at_place elements i e inside is, first_and_more here l (earlier ++ found) e (drop (i + 1) elements), answer) refl

-- all are executed
pub all_made : (here : Context) (l : Local) (earlier found : List Element) (elements : List BreakElement) (i : ℕ) →
    length elements ≤ i → joined found (elements_of here l (earlier ++ found) (drop i elements)) ≡ Ok found
unfolding elements_of
all_made here l earlier found elements i end = rw (drop_all i elements end, append-nil found) refl
