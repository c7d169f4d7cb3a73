-- What comes behind the last statement of a list.
use Rattle.std.proofs.Common.{◌≡◌, refl, ap, sym, ◌∙◌, subst, ℕ, zero, suc, ◌+◌, ◌-◌, ◌<◌, Bool, true, false, ℤ, pos, List, [], ◌∷◌, take, length, Option, Some, None, Result, Ok, Err, if◌then◌else◌, arith}
use Rattle.std.specs.List.{slice_get, slice_index_or}
use Rattle.std.specs.Ordering.{int_eq}
use Rattle.std.proofs.lemmas.Int.{to_z-of_z}
use mir.Syntax.{w32}
use mir.Val.{SFits, of_z, to_z}
use Rattle.ams_value.specs.declared.val.Val.{Val}
use Rattle.ams_value.specs.declared.val.Val.TheVariants as val
use Rattle.flat_expr.specs.declared.expr.FlatExpr.{FlatExpr}
use Rattle.flat_expr.specs.declared.expr.Direction.{Direction}
use Rattle.flat_expr.specs.declared.statement.Statement.{Statement, out-Statement}
use Rattle.flat_expr.specs.declared.statement.Statement.TheVariants as s
use Rattle.flat_expr.specs.declared.statement.Statement.TheVariants.{rolls-For}
use Rattle.flat_expr.specs.declared.statement.Statement.TheViews.{out-roll-Statement}
use Rattle.flat_expr.specs.declared.statement.Statement.TheOpen.{Statement-F}
use Rattle.step_data.specs.declared.outcome.Refusal.{Refusal}
use Rattle.cycle_meaning.specs.Task.{Layer}
use Rattle.design_meaning.specs.Readings.{Readings, variable_of}
use Rattle.cycle_meaning.specs.World.{Context, Local, readings_at}
use Rattle.cycle_meaning.specs.Statements.{integer_of}
use Rattle.cycle_meaning.specs.Processes.{stepped, with_parameter, parameter_of}
use Rattle.design_rules.specs.Ways.{inner_body}
use Rattle.process_laws.specs.Resumed.{Surroundings, outermost, inside, body_in}
use Rattle.statement_values.specs.LoopRanges.{IsOnWay, further_value}
use Rattle.process_place.specs.ProcessPlace.{at}
use Rattle.process_place.specs.Moves.{Coming, begins_at, turns_to, starts_again, begun_or, past_end, coming_at}
use Rattle.process_ready.specs.Allowed.{LeadsOn}
use Rattle.process_ready.proofs.Ways.{parameter_there}
use Rattle.process_stack.specs.declared.stack.Frame.{Frame}
use Rattle.process_stack.specs.Stacks.{Stacked, round_of, place_by, place_of, IsInside}

pub begins_here : (here : Context) (l : Local) (top : List Statement) (c : Surroundings) (k : ℕ) (s : Statement) → slice_get (body_in top c) k ≡ Some s → coming_at here l top c k ≡ begins_at s c k
unfolding coming_at
begins_here here l top outermost k s is = ap (λ o. begun_or o outermost k starts_again) is
begins_here here l top (inside c j b layer last) k s is =
    ap (λ o. begun_or o (inside c j b layer last) k (past_end here l (inside c j b layer last) layer last (coming_at here l top c (j + 1)))) is

pub restarts_here : (here : Context) (l : Local) (top : List Statement) (k : ℕ) → slice_get top k ≡ None → coming_at here l top outermost k ≡ starts_again
unfolding coming_at
restarts_here here l top k is = ap (λ o. begun_or o outermost k starts_again) is

pub past_here : (here : Context) (l : Local) (top : List Statement) (c : Surroundings) (j b : ℕ) (layer : Layer) (last : ℤ) (k : ℕ) → slice_get (inner_body b layer) k ≡ None →
    coming_at here l top (inside c j b layer last) k ≡ past_end here l (inside c j b layer last) layer last (coming_at here l top c (j + 1))
unfolding coming_at
past_here here l top c j b layer last k is =
    ap (λ o. begun_or o (inside c j b layer last) k (past_end here l (inside c j b layer last) layer last (coming_at here l top c (j + 1)))) is

-- ---- a further turn of a for loop

turn_by : (l : Local) (c : Surroundings) (p : ℕ) (step : ℤ) (t : Bool) (others : Coming) (v : ℤ) → (if t then None else Some step) ≡ Some v →
    (if t then others else turns_to (at c 0) (with_parameter p step l)) ≡ turns_to (at c 0) (with_parameter p v l)
turn_by l c p step true others v is = absurd cc
turn_by l c p step false others v is = let same : step ≡ v = cc in ap (λ z. turns_to (at c 0) (with_parameter p z l)) same

none_by : (l : Local) (c : Surroundings) (p : ℕ) (step : ℤ) (t : Bool) (others : Coming) → (if t then None else Some step) ≡ None →
    (if t then others else turns_to (at c 0) (with_parameter p step l)) ≡ others
none_by l c p step true others is = refl
none_by l c p step false others is = absurd cc

pub value_there : (l : Local) (p : ℕ) (left : FlatExpr) (direction : Direction) (right : FlatExpr) (body : List Statement) (last : ℤ) (layer : Layer) → layer ≡ Statement-F.For p left direction right body
    → LeadsOn l.variables layer last → (i : ℤ) × (slice_get l.variables p ≡ Some (val.Int i)) × IsOnWay direction i last × (parameter_of l p ≡ i)
value_there l p left direction right body last layer is way =
    let there : LeadsOn l.variables (Statement-F.For p left direction right body) last = subst (λ z. LeadsOn l.variables z last) is way in
    (there.0, there.1, there.2, parameter_there l p there.0 there.1)

pub turns_further : (here : Context) (l : Local) (c : Surroundings) (p : ℕ) (left : FlatExpr) (direction : Direction) (right : FlatExpr) (body : List Statement) (last : ℤ) (layer : Layer) (others : Coming)
    → layer ≡ Statement-F.For p left direction right body → (v : ℤ) → further_value direction (parameter_of l p) last ≡ Some v → past_end here l c layer last others ≡ turns_to (at c 0) (with_parameter p v l)
turns_further here l c p left direction right body last layer others is v further =
    ap (λ z. past_end here l c z last others) is ∙ turn_by l c p (stepped direction (parameter_of l p)) (int_eq (parameter_of l p) last) others v further

pub turns_no_further : (here : Context) (l : Local) (c : Surroundings) (p : ℕ) (left : FlatExpr) (direction : Direction) (right : FlatExpr) (body : List Statement) (last : ℤ) (layer : Layer) (others : Coming)
    → layer ≡ Statement-F.For p left direction right body → further_value direction (parameter_of l p) last ≡ None → past_end here l c layer last others ≡ others
turns_no_further here l c p left direction right body last layer others is further =
    ap (λ z. past_end here l c z last others) is ∙ none_by l c p (stepped direction (parameter_of l p)) (int_eq (parameter_of l p) last) others further

-- ---- a for loop as its function finds it

pub out_for : (p : ℕ) (left : FlatExpr) (direction : Direction) (right : FlatExpr) (body : List Statement) → out-Statement (s.For p left direction right body) ≡ Statement-F.For p left direction right body
out_for p left direction right body = ap out-Statement (sym (rolls-For p left direction right body)) ∙ out-roll-Statement (Statement-F.For p left direction right body)

index_is : (vs : List Val) (p : ℕ) (d v : Val) → slice_get vs p ≡ Some v → slice_index_or vs p d ≡ v
index_is [] p d v h = absurd (grind arith)
index_is (x ∷ vs) zero d v h = let same : x ≡ v = cc in same
index_is (x ∷ vs) (suc p) d v h = index_is vs p d v h

pub read_parameter : (here : Context) (l : Local) (r : Readings) (p : ℕ) (i : ℤ) → readings_at here l ≡ r → slice_get l.variables p ≡ Some (val.Int i) → integer_of (variable_of r p) ≡ parameter_of l p
read_parameter here l r p i same is =
    ap (λ (z : Readings). integer_of (variable_of z p)) (sym same)
    ∙ (ap integer_of (index_is l.variables p (val.Bool false) (val.Int i) is) ∙ sym (parameter_there l p i is))

pub on_way_cast : (direction : Direction) (i j last : ℤ) → SFits w32 j → SFits w32 last → j ≡ i → IsOnWay direction i last → IsOnWay direction (to_z w32 (of_z w32 j)) (to_z w32 (of_z w32 last))
on_way_cast direction i j last f h same way =
    subst (λ x. IsOnWay direction x (to_z w32 (of_z w32 last))) (sym (to_z-of_z w32 j f))
    (subst (λ y. IsOnWay direction j y) (sym (to_z-of_z w32 last h)) (subst (λ x. IsOnWay direction x last) (sym same) way))

pub further_cast : (direction : Direction) (i j last : ℤ) (o : Option ℤ) → SFits w32 j → SFits w32 last → j ≡ i → o ≡ further_value direction (to_z w32 (of_z w32 j)) (to_z w32 (of_z w32 last)) → further_value direction i last ≡ o
further_cast direction i j last o f h same is =
    ap (λ x. further_value direction x last) (sym same)
    ∙ (ap (λ x. further_value direction x last) (sym (to_z-of_z w32 j f)) ∙ (ap (further_value direction (to_z w32 (of_z w32 j))) (sym (to_z-of_z w32 last h)) ∙ sym is))

pub turned_cast : (l : Local) (c : Surroundings) (p : ℕ) (v : ℤ) → SFits w32 v → turns_to (at c 0) (with_parameter p v l) ≡ turns_to (at c 0) (with_parameter p (to_z w32 (of_z w32 v)) l)
turned_cast l c p v f = ap (λ z. turns_to (at c 0) (with_parameter p z l)) (sym (to_z-of_z w32 v f))

-- ---- the statement that is found

pub found_here : (top : List Statement) (frames old : List Frame) (k n : ℕ) (body : List Statement) (o : Option Statement) → frames ≡ old → body ≡ body_in top (round_of top frames) → k ≡ n → o ≡ slice_get body k
    → slice_get (body_in top (round_of top old)) n ≡ o
found_here top frames old k n body o f b e v =
    sym (v ∙ (ap (λ z. slice_get z k) b ∙ (ap (λ z. slice_get (body_in top (round_of top z)) k) f ∙ ap (slice_get (body_in top (round_of top old))) e)))

-- behind the last statement inside the innermost statement
pub past_round : (here : Context) (l : Local) (top : List Statement) (frames : List Frame) (n : ℕ) (f : Frame) (layer : Layer) → IsInside top frames f layer → slice_get (body_in top (round_of top frames)) n ≡ None →
    coming_at here l top (round_of top frames) n
    ≡ past_end here l (round_of top frames) layer f.last (coming_at here l top (round_of top (take (length frames - 1) frames)) (f.statement + 1))
past_round here l top frames n f layer inner none =
    let c : Surroundings = round_of top (take (length frames - 1) frames) in
    let ended : slice_get (inner_body f.branch layer) n ≡ None = subst (λ (z : Surroundings). slice_get (body_in top z) n ≡ None) inner.round_is none in
    ap (λ (z : Surroundings). coming_at here l top z n) inner.round_is
    ∙ (past_here here l top c f.statement f.branch layer f.last n ended
    ∙ ap (λ (z : Surroundings). past_end here l z layer f.last (coming_at here l top c (f.statement + 1))) (sym inner.round_is))

pub last_cast : (here : Context) (l : Local) (c : Surroundings) (layer : Layer) (last : ℤ) (others : Coming) → SFits w32 last → past_end here l c layer last others ≡ past_end here l c layer (to_z w32 (of_z w32 last)) others
last_cast here l c layer last others f = ap (λ z. past_end here l c layer z others) (sym (to_z-of_z w32 last f))

pub turn_place : (top : List Statement) (s now : Stacked) → s.first ≡ None → now ≡ record s { next = 0 } → at (round_of top s.frames) 0 ≡ place_of top now
turn_place top s now none is = ap (λ o. place_by o (round_of top s.frames) 0) (sym none) ∙ ap (place_of top) (sym is)

pub left_there : (here : Context) (l : Local) (top : List Statement) (s now : Stacked) (k n : ℕ) → now ≡ record s { frames = take (length s.frames - 1) s.frames; next = n } → n ≡ k →
    coming_at here l top (round_of top (take (length s.frames - 1) s.frames)) k ≡ coming_at here l top (round_of top now.frames) now.next
left_there here l top s now k n is same =
    ap (coming_at here l top (round_of top (take (length s.frames - 1) s.frames))) (sym same) ∙ ap (λ (z : Stacked). coming_at here l top (round_of top z.frames) z.next) (sym is)

pub inside_old : (top : List Statement) (frames old : List Frame) (f : Frame) (layer : Layer) → frames ≡ old → IsInside top frames f layer → IsInside top old f layer
inside_old top frames old f layer same inner = subst (λ z. IsInside top z f layer) same inner

pub none_round : (here : Context) (l : Local) (top : List Statement) (frames old : List Frame) (n : ℕ) → frames ≡ old → frames ≡ [] → slice_get (body_in top (round_of top old)) n ≡ None → coming_at here l top (round_of top old) n ≡ starts_again
none_round here l top frames old n same empty none =
    let no_frames : old ≡ [] = sym same ∙ empty in
    ap (λ z. coming_at here l top (round_of top z) n) no_frames ∙ restarts_here here l top n (subst (λ z. slice_get (body_in top (round_of top z)) n ≡ None) no_frames none)
