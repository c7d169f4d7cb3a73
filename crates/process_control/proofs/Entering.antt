-- A process goes into a statement.
use Rattle.std.proofs.Common.{◌≡◌, refl, ap, sym, ◌∙◌, subst, ℕ, ◌+◌, ℤ, pos, List, [], ◌∷◌, ◌++◌, Option, Some, None, Result, Ok, Err}
use Rattle.flat_expr.specs.declared.expr.FlatExpr.{FlatExpr}
use Rattle.flat_expr.specs.declared.expr.Direction.{Direction}
use Rattle.flat_expr.specs.declared.statement.Statement.{Statement}
use Rattle.flat_expr.specs.declared.statement.Statement.TheOpen.{Statement-F}
use Rattle.step_data.specs.declared.outcome.Refusal.{Refusal}
use Rattle.cycle_meaning.specs.Task.{Layer}
use Rattle.cycle_meaning.specs.World.{Local}
use Rattle.design_rules.specs.Ways.{layer_at}
use Rattle.process_laws.specs.Resumed.{Surroundings, outermost, inside, body_in, AreOf}
use Rattle.statement_lists.specs.declared.fault.ListFault.{ListFault}
use Rattle.statement_lists.specs.declared.fault.ListFault.TheVariants as fault
use Rattle.process_place.specs.ProcessPlace.{ProcessPlace, at, turning}
use Rattle.statement_values.specs.declared.range.LoopRange.{LoopRange}
use Rattle.process_place.specs.Moves.{Moved, goes_to, or_refused, ranged_at}
use Rattle.process_stack.specs.declared.stack.Frame.{Frame}
use Rattle.process_stack.specs.Stacks.{Stacked, layer_or_null, within, round_of, before_first, place_by, place_of}
use Rattle.process_stack.proofs.Rounds.{round_push}
use Rattle.process_control.specs.declared.control.Wait.{Wait}
use Rattle.process_control.specs.Performing.{Performs, IsBegun, HasLoop, IsEntered}

abbrev pub frame_in : ℕ → ℕ → ℤ → Frame
frame_in k b last = record { statement = k; branch = b; last = last }

-- the statements round a place inside the statement at which the stack stands
round_inside : (top : List Statement) (s : Stacked) (layer : Layer) (b : ℕ) (last : ℤ) → IsBegun top s layer →
    round_of top (s.frames ++ frame_in s.next b last ∷ []) ≡ inside (round_of top s.frames) s.next b layer last
round_inside top s layer b last begun =
    round_push top outermost s.frames (frame_in s.next b last)
    ∙ ap (λ (o : Option Layer). inside (round_of top s.frames) s.next b (layer_or_null o) last) begun.layer_is

pub or_ok : {A : Type 0} (l : Local) (go : A → Moved) (r : Result A Refusal) (a : A) → r ≡ Ok a → or_refused l go r ≡ go a
or_ok l go r a is = ap (or_refused l go) is

entered_place : (top : List Statement) (s now : Stacked) (layer : Layer) (b k n : ℕ) → IsBegun top s layer → k ≡ n
    → now ≡ record s { frames = s.frames ++ frame_in s.next b (pos 0) ∷ []; next = k } → at (inside (round_of top s.frames) s.next b layer (pos 0)) n ≡ place_of top now
entered_place top s now layer b k n begun same is =
    ap (at (inside (round_of top s.frames) s.next b layer (pos 0))) (sym same)
    ∙ (ap (λ c. at c k) (sym (round_inside top s layer b (pos 0) begun))
    ∙ (ap (λ o. place_by o (round_of top (s.frames ++ frame_in s.next b (pos 0) ∷ [])) k) (sym begun.first) ∙ ap (place_of top) (sym is)))

-- the stack is in a branch of it
pub entered : (top : List Statement) (l : Local) (s now : Stacked) (layer : Layer) (b k n : ℕ) (r : Result (Option Wait) ListFault) → IsBegun top s layer → k ≡ n
    → IsEntered s b k now r → Performs (goes_to (at (inside (round_of top s.frames) s.next b layer (pos 0)) n) l) top l l now r
entered top l s now layer b k n (Ok None) begun same is = ap (λ q. goes_to q l) (entered_place top s now layer b k n begun same is)
entered top l s now layer b k n (Ok (Some w)) begun same is = absurd is
entered top l s now layer b k n (Err (fault.Refused r)) begun same is = absurd is
entered top l s now layer b k n (Err fault.Memory) begun same is = refl

pub performs_same : (m other : Moved) (top : List Statement) (l : Local) (now : Stacked) (r : Result (Option Wait) ListFault) → m ≡ other → Performs other top l l now r → Performs m top l l now r
performs_same m other top l now r same h = subst (λ x. Performs x top l l now r) (sym same) h

-- it is before the first turn of it
pub before_turn : (top : List Statement) (l : Local) (s now : Stacked) (layer : Layer) (first last : ℤ) → IsBegun top s layer
    → now ≡ record { frames = s.frames ++ frame_in s.next 0 last ∷ []; next = 0; first = Some first } → goes_to (turning (round_of top s.frames) s.next layer first last) l ≡ goes_to (place_of top now) l
before_turn top l s now layer first last begun is =
    ap (λ q. goes_to q l) (ap (λ c. before_first c first 0) (sym (round_inside top s layer 0 last begun)) ∙ ap (place_of top) (sym is))

pub loop_there : (top : List Statement) (s now : Stacked) (p : ℕ) (left : FlatExpr) (direction : Direction) (right : FlatExpr) (body : List Statement) (first last : ℤ)
    → IsBegun top s (Statement-F.For p left direction right body)
    → now ≡ record { frames = s.frames ++ frame_in s.next 0 last ∷ []; next = 0; first = Some first } → HasLoop top now
loop_there top s now p left direction right body first last begun is from h =
    let layer : Layer = Statement-F.For p left direction right body in
    let round : round_of top now.frames ≡ inside (round_of top s.frames) s.next 0 layer last =
    ap (λ (z : Stacked). round_of top z.frames) is ∙ round_inside top s layer 0 last begun in
    subst (AreOf top) (sym round) (begun.of_text, begun.layer_is, refl)

-- what follows an answer is that the stack is in a branch of the statement
pub or_performs : {A : Type 0} (l : Local) (go : A → Moved) (r : Result A Refusal) (a : A) → r ≡ Ok a → (top : List Statement) (s now : Stacked) (layer : Layer) (b k : ℕ) (answer : Result (Option Wait) ListFault)
    → IsBegun top s layer → go a ≡ goes_to (at (inside (round_of top s.frames) s.next b layer (pos 0)) k) l → IsEntered s b k now answer → Performs (or_refused l go r) top l l now answer
or_performs l go r a is top s now layer b k answer begun leads into =
    performs_same (or_refused l go r) (goes_to (at (inside (round_of top s.frames) s.next b layer (pos 0)) k) l) top l now answer (or_ok l go r a is ∙ leads) (entered top l s now layer b k k answer begun refl into)

-- a for loop has a range
pub ranged_performs : (l : Local) (r : Result (Option LoopRange) Refusal) (range : LoopRange) → r ≡ Ok (Some range) → (top : List Statement) (s now : Stacked) (layer : Layer) (first last : ℤ)
    → IsBegun top s layer → first ≡ range.first → last ≡ range.last → now ≡ record { frames = s.frames ++ frame_in s.next 0 last ∷ []; next = 0; first = Some first }
    → or_refused l (λ (o : Option LoopRange). goes_to (ranged_at (round_of top s.frames) s.next layer o) l) r ≡ goes_to (place_of top now) l
ranged_performs l r range is top s now layer first last begun f g at_begin =
    or_ok l (λ (o : Option LoopRange). goes_to (ranged_at (round_of top s.frames) s.next layer o) l) r (Some range) is
    ∙ (ap (λ z. goes_to (turning (round_of top s.frames) s.next layer z range.last) l) (sym f)
    ∙ (ap (λ z. goes_to (turning (round_of top s.frames) s.next layer first z) l) (sym g) ∙ before_turn top l s now layer first last begun at_begin))
