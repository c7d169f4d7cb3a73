-- The statements round a place, one more or one less.
use Rattle.std.proofs.Common.{◌≡◌, refl, ap, sym, ◌∙◌, subst, ℕ, ◌+◌, ◌-◌, ◌<◌, ◌≤◌, Bool, true, false, ℤ, List, [], ◌∷◌, ◌++◌, length, take, drop, get_or, append_assoc, add-one, Option, Some, None, zero, suc, arith}
use Rattle.std.specs.List.{slice_get}
use Rattle.std.proofs.Math.Seq.{take-suc}
use Rattle.std.proofs.lemmas.List.{take_all}
use Rattle.std.proofs.lemmas.Option.{slice_get_within, slice_get_read, slice_get_past, get_or_from_slice_get}
use Rattle.flat_expr.specs.declared.statement.Branch.{Branch, out-Branch}
use Rattle.flat_expr.specs.declared.statement.Alternative.{Alternative, out-Alternative}
use Rattle.flat_expr.specs.declared.statement.Statement.{Statement, out-Statement}
use Rattle.flat_expr.specs.declared.statement.Statement.TheOpen.{Statement-F}
use Rattle.cycle_meaning.specs.Task.{Layer, branch_body, alternative_body}
use Rattle.design_rules.specs.Ways.{layer_of, layer_at, inner_body, IsBranch}
use Rattle.process_laws.specs.Resumed.{Surroundings, outermost, inside, body_in, AreOf}
use Rattle.process_place.specs.ProcessPlace.{ProcessPlace, at}
use Rattle.process_place.specs.Moves.{behind_loop_at, end_of_turn_at}
use Rattle.process_stack.specs.declared.stack.Frame.{Frame}
use Rattle.process_stack.specs.Stacks.{layer_or_null, within, body_inside, round_in, round_of, is_loop, IsInside}

-- ---- frames

pub round_push : (top : List Statement) (c : Surroundings) (xs : List Frame) (f : Frame) → round_in top c (xs ++ f ∷ []) ≡ within top (round_in top c xs) f
round_push top c [] f = refl
round_push top c (x ∷ xs) f = round_push top (within top c x) xs f

-- ---- the walk to a list

next_front : (frames : List Frame) (i : ℕ) (d : Frame) → i < length frames → take (i + 1) frames ≡ take i frames ++ get_or frames i d ∷ []
next_front frames i d h = ap (λ n. take n frames) (add-one i) ∙ take-suc frames i d h

pub walk_on : (top : List Statement) (frames : List Frame) (i : ℕ) (d : Frame) → i < length frames → (body : List Statement) → body ≡ body_in top (round_of top (take i frames)) →
    body_inside body (get_or frames i d) ≡ body_in top (round_of top (take (i + 1) frames))
walk_on top frames i d h body same =
    let f : Frame = get_or frames i d in
    ap (λ b. body_inside b f) same ∙ sym (ap (body_in top) (ap (round_of top) (next_front frames i d h) ∙ round_push top outermost (take i frames) f))

-- ---- bodies of branches

pub branch_there : (branches : List Branch) (last : List Statement) (k : ℕ) (b : Branch) → k < length branches → b ≡ get_or branches k b → (out-Branch b).body ≡ branch_body branches last k
branch_there [] last k b h is = absurd (omega (arith, h))
branch_there (x ∷ more) last zero b h is = ap (λ z. (out-Branch z).body) is
branch_there (x ∷ more) last (suc k) b h is = branch_there more last k b (omega (arith, h)) is

pub branch_last : (branches : List Branch) (last : List Statement) (k : ℕ) → length branches ≤ k → last ≡ branch_body branches last k
branch_last [] last k h = refl
branch_last (x ∷ more) last zero h = absurd (omega (arith, h))
branch_last (x ∷ more) last (suc k) h = branch_last more last k (omega (arith, h))

pub alternative_there : (alternatives : List Alternative) (k : ℕ) (a : Alternative) → k < length alternatives → a ≡ get_or alternatives k a → (out-Alternative a).body ≡ alternative_body alternatives k
alternative_there [] k a h is = absurd (omega (arith, h))
alternative_there (x ∷ more) zero a h is = ap (λ z. (out-Alternative z).body) is
alternative_there (x ∷ more) (suc k) a h is = alternative_there more k a (omega (arith, h)) is

pub alternative_none : (alternatives : List Alternative) (k : ℕ) → length alternatives ≤ k → [] ≡ alternative_body alternatives k
alternative_none [] k h = refl
alternative_none (x ∷ more) zero h = absurd (omega (arith, h))
alternative_none (x ∷ more) (suc k) h = alternative_none more k (omega (arith, h))

pub statement_there : (list : List Statement) (k : ℕ) (s : Statement) → k < length list → s ≡ get_or list k s → Some s ≡ slice_get list k
statement_there list k s h is = sym (slice_get_read list (length list) k s refl h is)

pub ruleset branches = (branch_there, branch_last)

pub ruleset alternatives = (alternative_there, alternative_none)

pub ruleset statements_there = (statement_there, slice_get_past)

-- the list inside a statement that is found
pub found_inside : (list : List Statement) (f : Frame) (s : Statement) → Some s ≡ slice_get list f.statement → inner_body f.branch (out-Statement s) ≡ body_inside list f
found_inside list f s is = ap (λ o. inner_body f.branch (layer_or_null (layer_of o))) is

pub none_inside : (list : List Statement) (f : Frame) → None ≡ slice_get list f.statement → [] ≡ body_inside list f
none_inside list f is = ap (λ o. inner_body f.branch (layer_or_null (layer_of o))) is

-- ---- loops

pub loop_left : (top : List Statement) (c : Surroundings) (k b : ℕ) (layer : Layer) (last : ℤ) → is_loop layer ≡ true → behind_loop_at top (inside c k b layer last) ≡ at c (k + 1)
loop_left top c k b (Statement-F.Loop condition body) last h = refl
loop_left top c k b (Statement-F.For p left direction right body) last h = refl
loop_left top c k b (Statement-F.SignalAssignment _ _ _ _) last h = absurd cc
loop_left top c k b (Statement-F.VariableAssignment _ _ _) last h = absurd cc
loop_left top c k b (Statement-F.If _ _) last h = absurd cc
loop_left top c k b (Statement-F.Case _ _) last h = absurd cc
loop_left top c k b (Statement-F.Exit _) last h = absurd cc
loop_left top c k b (Statement-F.Next _) last h = absurd cc
loop_left top c k b (Statement-F.Wait _ _ _ _) last h = absurd cc
loop_left top c k b (Statement-F.Assert _ _ _) last h = absurd cc
loop_left top c k b (Statement-F.Report _ _) last h = absurd cc
loop_left top c k b (Statement-F.Break _ _) last h = absurd cc
loop_left top c k b Statement-F.Null last h = absurd cc

pub no_loop_left : (top : List Statement) (c : Surroundings) (k b : ℕ) (layer : Layer) (last : ℤ) → is_loop layer ≡ false → behind_loop_at top (inside c k b layer last) ≡ behind_loop_at top c
no_loop_left top c k b (Statement-F.Loop condition body) last h = absurd cc
no_loop_left top c k b (Statement-F.For p left direction right body) last h = absurd cc
no_loop_left top c k b (Statement-F.SignalAssignment _ _ _ _) last h = refl
no_loop_left top c k b (Statement-F.VariableAssignment _ _ _) last h = refl
no_loop_left top c k b (Statement-F.If _ _) last h = refl
no_loop_left top c k b (Statement-F.Case _ _) last h = refl
no_loop_left top c k b (Statement-F.Exit _) last h = refl
no_loop_left top c k b (Statement-F.Next _) last h = refl
no_loop_left top c k b (Statement-F.Wait _ _ _ _) last h = refl
no_loop_left top c k b (Statement-F.Assert _ _ _) last h = refl
no_loop_left top c k b (Statement-F.Report _ _) last h = refl
no_loop_left top c k b (Statement-F.Break _ _) last h = refl
no_loop_left top c k b Statement-F.Null last h = refl

pub turn_ended : (top : List Statement) (c : Surroundings) (k b : ℕ) (layer : Layer) (last : ℤ) → is_loop layer ≡ true → end_of_turn_at top (inside c k b layer last) ≡ at (inside c k b layer last) (length (inner_body b layer))
turn_ended top c k b (Statement-F.Loop condition body) last h = refl
turn_ended top c k b (Statement-F.For p left direction right body) last h = refl
turn_ended top c k b (Statement-F.SignalAssignment _ _ _ _) last h = absurd cc
turn_ended top c k b (Statement-F.VariableAssignment _ _ _) last h = absurd cc
turn_ended top c k b (Statement-F.If _ _) last h = absurd cc
turn_ended top c k b (Statement-F.Case _ _) last h = absurd cc
turn_ended top c k b (Statement-F.Exit _) last h = absurd cc
turn_ended top c k b (Statement-F.Next _) last h = absurd cc
turn_ended top c k b (Statement-F.Wait _ _ _ _) last h = absurd cc
turn_ended top c k b (Statement-F.Assert _ _ _) last h = absurd cc
turn_ended top c k b (Statement-F.Report _ _) last h = absurd cc
turn_ended top c k b (Statement-F.Break _ _) last h = absurd cc
turn_ended top c k b Statement-F.Null last h = absurd cc

pub no_turn_ended : (top : List Statement) (c : Surroundings) (k b : ℕ) (layer : Layer) (last : ℤ) → is_loop layer ≡ false → end_of_turn_at top (inside c k b layer last) ≡ end_of_turn_at top c
no_turn_ended top c k b (Statement-F.Loop condition body) last h = absurd cc
no_turn_ended top c k b (Statement-F.For p left direction right body) last h = absurd cc
no_turn_ended top c k b (Statement-F.SignalAssignment _ _ _ _) last h = refl
no_turn_ended top c k b (Statement-F.VariableAssignment _ _ _) last h = refl
no_turn_ended top c k b (Statement-F.If _ _) last h = refl
no_turn_ended top c k b (Statement-F.Case _ _) last h = refl
no_turn_ended top c k b (Statement-F.Exit _) last h = refl
no_turn_ended top c k b (Statement-F.Next _) last h = refl
no_turn_ended top c k b (Statement-F.Wait _ _ _ _) last h = refl
no_turn_ended top c k b (Statement-F.Assert _ _ _) last h = refl
no_turn_ended top c k b (Statement-F.Report _ _) last h = refl
no_turn_ended top c k b (Statement-F.Break _ _) last h = refl
no_turn_ended top c k b Statement-F.Null last h = refl

-- ---- the innermost statement

front_and_last : (frames : List Frame) (f : Frame) → slice_get frames (length frames - 1) ≡ Some f → (0 < length frames) × (frames ≡ take (length frames - 1) frames ++ f ∷ [])
front_and_last frames f e =
    let there : length frames - 1 < length frames = slice_get_within frames (length frames - 1) f e in
    let one : length frames - 1 + 1 ≡ length frames = omega (arith, there) in
    let reflexive : length frames ≤ length frames = omega arith in (
      omega (arith, there),
      sym (take_all (length frames) frames reflexive) ∙ (ap (λ n. take n frames) (sym one) ∙ next_front frames (length frames - 1) f there ∙ ap (λ y. take (length frames - 1) frames ++ y ∷ []) (get_or_from_slice_get frames (length frames - 1) f f e)),
    )

round_last : (top : List Statement) (frames : List Frame) (f : Frame) → slice_get frames (length frames - 1) ≡ Some f → round_of top frames ≡ within top (round_of top (take (length frames - 1) frames)) f
round_last top frames f e = ap (round_of top) (front_and_last frames f e).1 ∙ round_push top outermost (take (length frames - 1) frames) f

pub innermost_is : (top : List Statement) (frames : List Frame) (f : Frame) (s : Statement) → AreOf top (round_of top frames) → slice_get frames (length frames - 1) ≡ Some f
    → Some s ≡ slice_get (body_in top (round_of top (take (length frames - 1) frames))) f.statement → IsInside top frames f (out-Statement s)
innermost_is top frames f s h e found =
    let c : Surroundings = round_of top (take (length frames - 1) frames) in
    let there : layer_or_null (layer_at f.statement (body_in top c)) ≡ out-Statement s = ap (λ o. layer_or_null (layer_of o)) (sym found) in
    let whole : round_of top frames ≡ inside c f.statement f.branch (out-Statement s) f.last = round_last top frames f e ∙ ap (λ z. inside c f.statement f.branch z f.last) there in
    record {
      some = (front_and_last frames f e).0;
      round_is = whole;
      of_text = subst (AreOf top) whole h;
    }

-- there is a statement
pub not_found : (top : List Statement) (frames : List Frame) (f : Frame) → AreOf top (round_of top frames) → slice_get frames (length frames - 1) ≡ Some f
    → None ≡ slice_get (body_in top (round_of top (take (length frames - 1) frames))) f.statement → ⊥
not_found top frames f h e none =
    let c : Surroundings = round_of top (take (length frames - 1) frames) in
    let of_text : AreOf top (within top c f) = subst (AreOf top) (round_last top frames f e) h in
    let no_layer : layer_at f.statement (body_in top c) ≡ None = ap layer_of (sym none) in
    none_some (layer_at f.statement (body_in top c)) _ of_text.1 no_layer
  where
    none_some : (o : Option Layer) (layer : Layer) → o ≡ Some layer → o ≡ None → ⊥
    none_some (Some x) layer a b = absurd cc
    none_some None layer a b = absurd cc
