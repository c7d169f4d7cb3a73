-- Waveform elements, one after the other.
use Rattle.std.proofs.Common.{◌≡◌, ℕ, ◌+◌, ◌<◌, ◌≤◌, Bool, ℤ, List, [], ◌∷◌, ◌++◌, length, drop, get_or, refl, sym}
use Rattle.std.specs.Prelude.{Option, Some, None, Ok, Err}
use Rattle.std.proofs.lemmas.List.{drop_all, append-nil}
use Rattle.fix_core.specs.Passes.{joined}
use Rattle.fix_core.specs.Laws.{at_place, joined-joined, joined_none}
use Rattle.ams_value.specs.declared.val.Val.{Val}
use Rattle.flat_expr.specs.declared.statement.WaveElement.{WaveElement}
use Rattle.step_data.specs.declared.trans.Trans.{Trans}
use Rattle.step_data.specs.declared.outcome.Refusal.{Refusal}
use Rattle.cycle_meaning.specs.World.{Context, Local}
use Rattle.cycle_meaning.specs.Statements.{transactions}
use Rattle.statement_values.specs.declared.element.Timed.{Timed}
use Rattle.statement_values.specs.Parts.{transaction}
use Rattle.statement_values.proofs.PartLaws.{laws}

-- nothing is made yet
pub none_made : (here : Context) (l : Local) (fits : Val → Bool) (limit : Option ℤ) (elements : List WaveElement) →
    transactions here l fits limit None elements ≡ joined [] (transactions here l fits limit None (drop 0 elements))
none_made here l fits limit elements = sym (joined_none (transactions here l fits limit None elements))

-- the next transaction is made
pub one_made : (here : Context) (l : Local) (fits : Val → Bool) (limit before : Option ℤ) (elements : List WaveElement) (found : List Trans) (i : ℕ) (e : WaveElement) (made : Timed) →
    i < length elements → e ≡ get_or elements i e → transaction here l fits limit before e ≡ Ok made →
    joined found (transactions here l fits limit before (drop i elements))
    ≡ joined (found ++ made.transaction ∷ []) (transactions here l fits limit (Some made.delay) (drop (i + 1) elements))
one_made here l fits limit before elements found i e made inside is answer =
    rw (at_place elements i e inside is, laws.waveform here l fits limit before e (drop (i + 1) elements), answer)
    (joined-joined found made.transaction (transactions here l fits limit (Some made.delay) (drop (i + 1) elements)))

-- it is refused
pub one_refused : (here : Context) (l : Local) (fits : Val → Bool) (limit before : Option ℤ) (elements : List WaveElement) (found : List Trans) (i : ℕ) (e : WaveElement) (r : Refusal) →
    i < length elements → e ≡ get_or elements i e → transaction here l fits limit before e ≡ Err r →
    joined found (transactions here l fits limit before (drop i elements)) ≡ Err r
one_refused here l fits limit before elements found i e r inside is answer =
    rw (at_place elements i e inside is, laws.waveform here l fits limit before e (drop (i + 1) elements), answer) refl

-- all are made
pub all_made : (here : Context) (l : Local) (fits : Val → Bool) (limit before : Option ℤ) (elements : List WaveElement) (found : List Trans) (i : ℕ) →
    length elements ≤ i → joined found (transactions here l fits limit before (drop i elements)) ≡ Ok found
unfolding transactions
all_made here l fits limit before elements found i end = rw (drop_all i elements end, append-nil found) refl
