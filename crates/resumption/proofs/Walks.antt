-- The walk to a wait statement.
use Rattle.std.proofs.Common.{◌≡◌, refl, sym, ◌∙◌, ap, ℕ, ◌+◌, ◌<◌, true, false, List, [], ◌∷◌, length, drop, get_or, Some, None, drop-cons, add-one}
use Rattle.std.specs.List.{slice_get}
use Rattle.flat_expr.specs.declared.statement.Statement.{Statement, out-Statement}
use Rattle.flat_expr.specs.declared.statement.Statement.TheOpen.{Statement-F}
use Rattle.flat_design.specs.declared.objects.PathStep.{PathStep}
use Rattle.cycle_meaning.specs.Task.{Layer}
use Rattle.cycle_meaning.specs.Cycles.{Waiting, waiting_inside, waiting_in, waiting_at}
use Rattle.design_rules.specs.Ways.{inner_body}
use Rattle.resumption.specs.Waits.{is_wait, waiting_stated, waiting_found}

pub nowhere : (path : List PathStep) → waiting_at path [] ≡ ([], None)
unfolding waiting_at
nowhere [] = refl
nowhere (step ∷ path) = refl

pub inward : (b : ℕ) (path : List PathStep) (layer : Layer) → is_wait layer ≡ false → waiting_inside (waiting_at path) b layer ≡ waiting_at path (inner_body b layer)
inward b path (Statement-F.If branches last) h = refl
inward b path (Statement-F.Case e alternatives) h = refl
inward b path (Statement-F.Loop condition body) h = refl
inward b path (Statement-F.For p left direction right body) h = refl
inward b path (Statement-F.Wait number on condition timeout) h = absurd (cc)
inward b path (Statement-F.SignalAssignment x y z w) h = sym (nowhere path)
inward b path (Statement-F.VariableAssignment x y z) h = sym (nowhere path)
inward b path (Statement-F.Exit x) h = sym (nowhere path)
inward b path (Statement-F.Next x) h = sym (nowhere path)
inward b path (Statement-F.Assert x y z) h = sym (nowhere path)
inward b path (Statement-F.Report x y) h = sym (nowhere path)
inward b path (Statement-F.Break x y) h = sym (nowhere path)
inward b path Statement-F.Null h = sym (nowhere path)

pub stays : (b : ℕ) (inner : List Statement → Waiting) (layer : Layer) → is_wait layer ≡ true → waiting_inside inner b layer ≡ waiting_stated layer
stays b inner (Statement-F.Wait number on condition timeout) h = refl
stays b inner _ h = absurd (cc)

one_step : (path : List PathStep) (i : ℕ) (d : PathStep) (body : List Statement) → i < length path →
    waiting_at (drop i path) body ≡ waiting_in (waiting_at (drop (i + 1) path)) (get_or path i d).branch (slice_get body (get_or path i d).statement)
unfolding waiting_at
one_step path i d body h = rw (add-one, drop-cons path i d h) refl

-- a statement is there, and it is none that waits
pub goes_in : (path : List PathStep) (i : ℕ) (d : PathStep) (body : List Statement) (s : Statement) → i < length path → slice_get body (get_or path i d).statement ≡ Some s → is_wait (out-Statement s) ≡ false →
    waiting_at (drop (i + 1) path) (inner_body (get_or path i d).branch (out-Statement s)) ≡ waiting_at (drop i path) body
goes_in path i d body s h is other =
    sym (one_step path i d body h
    ∙ (ap (λ o. waiting_in (waiting_at (drop (i + 1) path)) (get_or path i d).branch o) is ∙ inward (get_or path i d).branch (drop (i + 1) path) (out-Statement s) other))

-- it waits
pub ends_at : (path : List PathStep) (i : ℕ) (d : PathStep) (body : List Statement) (s : Statement) → i < length path → slice_get body (get_or path i d).statement ≡ Some s → is_wait (out-Statement s) ≡ true →
    waiting_found (Some s) ≡ waiting_at (drop i path) body
ends_at path i d body s h is waits =
    sym (one_step path i d body h
    ∙ (ap (λ o. waiting_in (waiting_at (drop (i + 1) path)) (get_or path i d).branch o) is ∙ stays (get_or path i d).branch (waiting_at (drop (i + 1) path)) (out-Statement s) waits))

-- none is there
pub ends_nowhere : (path : List PathStep) (i : ℕ) (d : PathStep) (body : List Statement) → i < length path → slice_get body (get_or path i d).statement ≡ None →
    waiting_found None ≡ waiting_at (drop i path) body
ends_nowhere path i d body h is = sym (one_step path i d body h ∙ ap (λ o. waiting_in (waiting_at (drop (i + 1) path)) (get_or path i d).branch o) is)

-- the way ends
pub ends_short : (path : List PathStep) (i : ℕ) (body : List Statement) → length path ≡ i → waiting_found None ≡ waiting_at (drop i path) body
unfolding waiting_at
ends_short path i body h = rw (← h, drop_whole path) refl
  where
    drop_whole : (xs : List PathStep) → drop (length xs) xs ≡ []
    drop_whole [] = refl
    drop_whole (x ∷ xs) = drop_whole xs
