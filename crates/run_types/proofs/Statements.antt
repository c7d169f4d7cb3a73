-- A statement leaves pending transactions of the types of their signals, and break elements of the design.
use Rattle.std.proofs.Common.{◌≡◌, ◌<◌, refl, ap, sym, ◌∙◌, subst, ℕ, zero, suc, ◌+◌, Bool, true, false, not, ◌&&◌, ◌||◌, nat_eq, ℤ, List, [], ◌∷◌, ◌++◌, length, Option, Some, None, Result, Ok, Err, slice_set, arith}
use Rattle.std.specs.Prelude.{IsTrue, nat_lt}
use Rattle.std.specs.List.{All, slice_get, list_any}
use Rattle.std.proofs.lemmas.Bool.Decides.{nat_tests}
use Rattle.std.proofs.lemmas.List.Elements.{All-nil, All-cons, All-head, All-tail, All-append, All-weaker}
use Rattle.message_codes.specs.Codes.{range, double_break}
use Rattle.fix_core.specs.Passes.{◌>>=◌}
use Rattle.ams_value.specs.declared.val.Val.{Val}
use Rattle.ams_value.specs.Values.{is_true, ticks_of}
use Rattle.ams_value.specs.declared.value_type.ValueType.{ValueType}
use Rattle.flat_expr.specs.declared.expr.FlatExpr.{FlatExpr}
use Rattle.flat_expr.specs.declared.subtype.Constraint.{Constraint}
use Rattle.flat_expr.specs.Subtype.{lies_in}
use Rattle.flat_expr.specs.declared.statement.BreakElement.{BreakElement}
use Rattle.flat_expr.specs.declared.statement.WaveElement.{WaveElement}
use Rattle.flat_expr.specs.declared.statement.DelayMechanism.{DelayMechanism}
use Rattle.flat_expr.specs.declared.statement.Severity.{Severity}
use Rattle.flat_expr.specs.declared.statement.Severity.TheVariants as severity
use Rattle.flat_expr.specs.declared.statement.Statement.TheOpen.{Statement-F}
use Rattle.flat_design.specs.declared.objects.Signal.{Signal}
use Rattle.flat_design.specs.declared.objects.Process.{Process}
use Rattle.flat_design.specs.declared.objects.Objects.{Objects}
use Rattle.step_data.specs.declared.trans.Trans.{Trans}
use Rattle.step_data.specs.declared.breaks.Element.{Element}
use Rattle.step_data.specs.Selectors.{has_selector}
use Rattle.step_data.specs.declared.outcome.Refusal.{Refusal}
use Rattle.waveform.specs.Projected.{projected}
use Rattle.design_meaning.specs.declared.fault.EvalFault.{EvalFault}
use Rattle.design_meaning.specs.Typed.{IsOfType}
use Rattle.design_meaning.specs.Value.{value_of}
use Rattle.value_types.proofs.Typing.{values_are_typed}
use Rattle.cycle_meaning.specs.Task.{Layer}
use Rattle.cycle_meaning.specs.World.{World, Context, Local, readings_at, evaluated, holds, of_fault, refusal, refused_where, time_after, pending_of}
use Rattle.cycle_meaning.specs.Statements.{signal_assignment, variable_assignment, limit_of, delay_of, bad_delay, transactions, assigned, delay_kind_of, rejection, constraint_of, break_by, executed_element, elements_of, with_elements, timeout_of}
use Rattle.design_rules.specs.Types.{sizes_of, process_scope, IsExpression}
use Rattle.design_rules.specs.Statements.{IsWaveElement, IsBreakElement, IsAllowed}
use Rattle.system_model.specs.System.{is_element}
use Rattle.statement_values.specs.LoopRanges.{loop_range}
use Rattle.statement_lists.specs.Branches.{branch_number}
use Rattle.process_laws.specs.Resumed.{Surroundings}
use Rattle.process_place.specs.ProcessPlace.{ProcessPlace, at}
use Rattle.process_place.specs.Moves.{Moved, goes_to, waits_at, is_refused, or_refused, reported_at, asserted_at, moved}
use Rattle.process_ready.specs.Ready.{IsReady}
use Rattle.run_changes.proofs.Waveforms.{by_steps, ok_is, where_is, projected_all}
use Rattle.run_laws.specs.Values.{IsOfSignal, IsQueueOf, QueuesFit, AreElements}
use Rattle.run_types.proofs.Queues.{pending_fits, set_fits}

-- what holds of the world
pub record Fits (objects : Objects) (w : World) : Type 0 where
  pub queues : QueuesFit objects w.queues
  pub elements : AreElements objects w.elements

-- ---- values

of_value : (here : Context) (r : Result Val EvalFault) (v : Val) → of_fault here r ≡ Ok v → r ≡ Ok v
of_value here (Ok a) v e = cc
of_value here (Err f) v e = absurd cc

typed_value : (here : Context) (p : Process) (l : Local) → IsReady here p l → (ps : List ℕ) (k : ValueType) (e : FlatExpr) → IsExpression here.objects p ps k e → (v : Val) → evaluated here l e ≡ Ok v
    → IsOfType (sizes_of here.objects) k v
typed_value here p l ready ps k e x v is =
    values_are_typed (process_scope here.objects p) (readings_at here l) e k v ready.reads x.typed (of_value here (value_of e (readings_at here l)) v is)

-- ---- transactions

abbrev AreTyped : Objects → ValueType → List Trans → Type 0
AreTyped objects k xs = All (λ (x : Trans). IsOfType (sizes_of objects) k x.value) xs

transactions_typed : (here : Context) (p : Process) (l : Local) → IsReady here p l → (ps : List ℕ) (k : ValueType) (fits : Val → Bool) (limit before : Option ℤ) (wave : List WaveElement)
    → All (IsWaveElement here.objects p ps k) wave → (new : List Trans) → transactions here l fits limit before wave ≡ Ok new → AreTyped here.objects k new
unfolding transactions
transactions_typed here p l ready ps k fits limit before [] all new e = subst (AreTyped here.objects k) (ok_is [] new e) (All-nil (λ (x : Trans). IsOfType (sizes_of here.objects) k x.value))
transactions_typed here p l ready ps k fits limit before (w ∷ more) all new e =
    by_steps (AreTyped here.objects k) (evaluated here l w.value) (λ v. delay_of here l w.delay >>= (λ d. tested v d))
    (λ v b v_is. by_steps (AreTyped here.objects k) (delay_of here l w.delay) (λ d. tested v d)
    (λ d b _. by_steps (AreTyped here.objects k) (refused_where (not (fits v)) (refusal here range) v) (λ u. delayed d u)
    (λ u b u_is. by_steps (AreTyped here.objects k) (refused_where (bad_delay limit before (ticks_of d)) (refusal here range) (ticks_of d)) (λ delay. timed d u delay)
    (λ delay b _. by_steps (AreTyped here.objects k) (time_after here d) (λ time. later time u delay)
    (λ time b _. by_steps (AreTyped here.objects k) (transactions here l fits limit (Some delay) more) (λ others. Ok (record { at = time; value = u } ∷ others))
    (λ others b others_are is. subst (AreTyped here.objects k) (ok_is (record { at = time; value = u } ∷ others) b is)
    (All-cons (λ (x : Trans). IsOfType (sizes_of here.objects) k x.value) (record { at = time; value = u }) others (typed v u v_is u_is)
    (transactions_typed here p l ready ps k fits limit (Some delay) more (All-tail (IsWaveElement here.objects p ps k) w more all) others others_are))) b) b) b) b) b) new e
  where
    later : ℕ → Val → ℤ → Result (List Trans) Refusal
    later time u delay = transactions here l fits limit (Some delay) more >>= (λ others. Ok (record { at = time; value = u } ∷ others))

    timed : Val → Val → ℤ → Result (List Trans) Refusal
    timed d u delay = time_after here d >>= (λ time. later time u delay)

    delayed : Val → Val → Result (List Trans) Refusal
    delayed d u = refused_where (bad_delay limit before (ticks_of d)) (refusal here range) (ticks_of d) >>= (λ delay. timed d u delay)

    tested : Val → Val → Result (List Trans) Refusal
    tested v d = refused_where (not (fits v)) (refusal here range) v >>= (λ u. delayed d u)

    typed : (v u : Val) → evaluated here l w.value ≡ Ok v → refused_where (not (fits v)) (refusal here range) v ≡ Ok u → IsOfType (sizes_of here.objects) k u
    typed v u v_is u_is =
        subst (IsOfType (sizes_of here.objects) k) (where_is (not (fits v)) (refusal here range) v u u_is)
        (typed_value here p l ready ps k w.value (All-head (IsWaveElement here.objects p ps k) w more all).value v v_is)

of_signal : (objects : Objects) (i : ℕ) (s : Signal) → slice_get objects.signals i ≡ Some s → (xs : List Trans) → AreTyped objects s.kind xs → IsQueueOf objects i xs
of_signal objects i s is xs all =
    All-weaker (λ (x : Trans). IsOfType (sizes_of objects) s.kind x.value) (λ (x : Trans). IsOfSignal objects i x.value) (λ x typed z z_is. known x typed z z_is) xs all
  where
    known : (x : Trans) → IsOfType (sizes_of objects) s.kind x.value → (z : Signal) → slice_get objects.signals i ≡ Some z → IsOfType (sizes_of objects) z.kind x.value
    known x typed z z_is = let same : s ≡ z = cc in subst (λ (y : Signal). IsOfType (sizes_of objects) y.kind x.value) same typed

assigned_fits : (here : Context) (p : Process) (l : Local) → IsReady here p l → (ps : List ℕ) (i : ℕ) (c : Constraint) (m : DelayMechanism) (wave : List WaveElement)
    → IsAllowed here.objects p ps (Statement-F.SignalAssignment i c m wave) → Fits here.objects l.world → (after : Local) → signal_assignment here l i c m wave ≡ Ok after → Fits here.objects after.world
assigned_fits here p l ready ps i c m wave allowed h =
    by_steps (λ (after : Local). Fits here.objects after.world) (limit_of here l m) (λ limit. transactions here l fits limit None wave >>= (λ new. Ok (assigned here i m limit new l)))
    (λ limit b _. by_steps (λ (after : Local). Fits here.objects after.world) (transactions here l fits limit None wave) (λ new. Ok (assigned here i m limit new l))
    (λ new after made e. subst (λ (after : Local). Fits here.objects after.world) (ok_is (assigned here i m limit new l) after e)
    (record {
      queues = set_fits here.objects i l.world.queues (projected (delay_kind_of m) (rejection here.t limit new) (pending_of here.objects l.world i) new) h.queues
          (projected_all (λ (x : Trans). IsOfSignal here.objects i x.value) (delay_kind_of m) (rejection here.t limit new) (pending_of here.objects l.world i) new
          (pending_fits here.objects i l.world.queues h.queues)
          (of_signal here.objects i allowed.signal allowed.signal_is new (transactions_typed here p l ready ps allowed.signal.kind fits limit None wave allowed.elements new made)));
      elements = h.elements;
    })) b)
  where
    fits : Val → Bool
    fits v = lies_in c v && lies_in (constraint_of (slice_get here.objects.signals i)) v

variable_fits : (here : Context) (l : Local) (i : ℕ) (c : Constraint) (e : FlatExpr) → Fits here.objects l.world → (after : Local) → variable_assignment here l i c e ≡ Ok after → Fits here.objects after.world
variable_fits here l i c e h =
    by_steps (λ (after : Local). Fits here.objects after.world) (evaluated here l e) (λ v. refused_where (not (lies_in c v)) (refusal here range) v >>= (λ tested. Ok (record l { variables = slice_set l.variables i tested })))
    (λ v b _. by_steps (λ (after : Local). Fits here.objects after.world) (refused_where (not (lies_in c v)) (refusal here range) v) (λ tested. Ok (record l { variables = slice_set l.variables i tested }))
    (λ tested after _ is. subst (λ (after : Local). Fits here.objects after.world) (ok_is (record l { variables = slice_set l.variables i tested }) after is) h) b)

-- ---- breaks

or_true : (a : Bool) → (a || true) ≡ true
or_true true = refl
or_true false = refl

itself : (n : ℕ) → nat_eq n n ≡ true
itself n = let e : n ≡ n = refl in grind (arith, nat_tests)

is_member : (xs : List ℕ) (k x : ℕ) → slice_get xs k ≡ Some x → list_any (nat_eq x) xs ≡ true
is_member [] k x h = absurd cc
is_member (y ∷ xs) zero x h = let same : x ≡ y = cc in ap (λ z. nat_eq x z || list_any (nat_eq x) xs) (sym same) ∙ ap (λ b. b || list_any (nat_eq x) xs) (itself x)
is_member (y ∷ xs) (suc k) x h = ap (λ b. nat_eq x y || b) (is_member xs k x h) ∙ or_true (nat_eq x y)

is_less : (a b : ℕ) → a < b → nat_lt a b ≡ true
is_less a b h = grind (arith, nat_tests)

both : (a b : Bool) → a ≡ true → b ≡ true → (a && b) ≡ true
both true b x y = y
both false b x y = absurd cc

element_is : (objects : Objects) (p : Process) (ps : List ℕ) (e : BreakElement) (v : Val) → IsBreakElement objects p ps e → IsTrue (is_element objects (executed_element e v))
element_is objects p ps e v x =
    both (list_any (nat_eq e.selector) objects.dots) (nat_lt e.quantity (length objects.quantities)) (is_member objects.dots x.selector.dot e.selector x.selector.dot_is) (is_less e.quantity (length objects.quantities) x.quantity)

elements_are : (here : Context) (p : Process) (l : Local) (ps : List ℕ) (earlier : List Element) (list : List BreakElement) → All (IsBreakElement here.objects p ps) list
    → (made : List Element) → elements_of here l earlier list ≡ Ok made → AreElements here.objects made
unfolding elements_of
elements_are here p l ps earlier [] all made e = subst (AreElements here.objects) (ok_is [] made e) (All-nil (λ (x : Element). IsTrue (is_element here.objects x)))
elements_are here p l ps earlier (x ∷ more) all made e =
    by_steps (AreElements here.objects) (evaluated here l x.value) made_of
    (λ v b _. by_steps (AreElements here.objects) (refused_where (has_selector x.selector earlier) (record { code = double_break; detail = Some x.selector }) (executed_element x v)) later
    (λ one b one_is. by_steps (AreElements here.objects) (elements_of here l (earlier ++ one ∷ []) more) (λ others. Ok (one ∷ others))
    (λ others b others_are is. subst (AreElements here.objects) (ok_is (one ∷ others) b is)
    (All-cons (λ (z : Element). IsTrue (is_element here.objects z)) one others
    (subst (λ (z : Element). IsTrue (is_element here.objects z)) (where_is (has_selector x.selector earlier) (record { code = double_break; detail = Some x.selector }) (executed_element x v) one one_is)
    (element_is here.objects p ps x v (All-head (IsBreakElement here.objects p ps) x more all)))
    (elements_are here p l ps (earlier ++ one ∷ []) more (All-tail (IsBreakElement here.objects p ps) x more all) others others_are))) b) b) made e
  where
    later : Element → Result (List Element) Refusal
    later one = elements_of here l (earlier ++ one ∷ []) more >>= (λ others. Ok (one ∷ others))

    made_of : Val → Result (List Element) Refusal
    made_of v = refused_where (has_selector x.selector earlier) (record { code = double_break; detail = Some x.selector }) (executed_element x v) >>= later

broken_fits : (here : Context) (p : Process) (l : Local) (ps : List ℕ) (elements : List BreakElement) (holding : Result Bool Refusal) → All (IsBreakElement here.objects p ps) elements → Fits here.objects l.world
    → (after : Local) → (holding >>= break_by here l elements) ≡ Ok after → Fits here.objects after.world
broken_fits here p l ps elements (Err r) all h after e = absurd cc
broken_fits here p l ps elements (Ok false) all h after e = subst (λ (after : Local). Fits here.objects after.world) (ok_is l after e) h
broken_fits here p l ps elements (Ok true) all h after e =
    by_steps (λ (after : Local). Fits here.objects after.world) (elements_of here l l.world.elements elements) (λ made. Ok (with_elements here made l))
    (λ made b made_are is. subst (λ (after : Local). Fits here.objects after.world) (ok_is (with_elements here made l) b is)
    (record {
      queues = h.queues;
      elements = All-append (λ (x : Element). IsTrue (is_element here.objects x)) l.world.elements made h.elements (elements_are here p l ps l.world.elements elements all made made_are);
    })) after e

-- ---- the statements by cases

abbrev pub MoveFits : Objects → Moved → Type 0
MoveFits objects (goes_to q l) = Fits objects l.world
MoveFits objects (waits_at number t q l) = Fits objects l.world
MoveFits objects (is_refused l r) = Unit {0}

each_fits : {A : Type 0} (objects : Objects) (l : Local) (go : A → Moved) (r : Result A Refusal) → ((a : A) → r ≡ Ok a → MoveFits objects (go a)) → MoveFits objects (or_refused l go r)
each_fits objects l go (Ok a) follow = follow a refl
each_fits objects l go (Err r) follow = tt

reported_fits : (here : Context) (s : Severity) (text : List ℕ) (q : ProcessPlace) (l : Local) → Fits here.objects l.world → MoveFits here.objects (reported_at here s text q l)
reported_fits here severity.Failure text q l h = tt
reported_fits here severity.Note text q l h = record { queues = h.queues; elements = h.elements }
reported_fits here severity.Warning text q l h = record { queues = h.queues; elements = h.elements }
reported_fits here severity.Error text q l h = record { queues = h.queues; elements = h.elements }

asserted_fits : (objects : Objects) (t : Bool) (report : Moved) (q : ProcessPlace) (l : Local) → Fits objects l.world → MoveFits objects report → MoveFits objects (asserted_at t report q l)
asserted_fits objects true report q l h told = h
asserted_fits objects false report q l h told = told

pub moved_fits : (here : Context) (p : Process) (l : Local) → IsReady here p l → (ps : List ℕ) (c : Surroundings) (k : ℕ) (layer : Layer) → IsAllowed here.objects p ps layer → Fits here.objects l.world
    → MoveFits here.objects (moved here l p.statements c k layer)
moved_fits here p l ready ps c k (Statement-F.SignalAssignment i constraint m wave) allowed h =
    each_fits here.objects l (goes_to (at c (k + 1))) (signal_assignment here l i constraint m wave) (assigned_fits here p l ready ps i constraint m wave allowed h)
moved_fits here p l ready ps c k (Statement-F.VariableAssignment i constraint e) allowed h =
    each_fits here.objects l (goes_to (at c (k + 1))) (variable_assignment here l i constraint e) (variable_fits here l i constraint e h)
moved_fits here p l ready ps c k (Statement-F.If branches last) allowed h = each_fits here.objects l _ (branch_number here l branches) (λ _ _. h)
moved_fits here p l ready ps c k (Statement-F.Case e alternatives) allowed h = each_fits here.objects l _ (evaluated here l e) (λ _ _. h)
moved_fits here p l ready ps c k (Statement-F.Loop condition body) allowed h = h
moved_fits here p l ready ps c k (Statement-F.For q left direction right body) allowed h = each_fits here.objects l _ (loop_range here l left direction right) (λ _ _. h)
moved_fits here p l ready ps c k (Statement-F.Exit condition) allowed h = each_fits here.objects l _ (holds here l condition) (λ _ _. h)
moved_fits here p l ready ps c k (Statement-F.Next condition) allowed h = each_fits here.objects l _ (holds here l condition) (λ _ _. h)
moved_fits here p l ready ps c k (Statement-F.Wait number on condition timeout) allowed h = each_fits here.objects l _ (timeout_of here l timeout) (λ _ _. h)
moved_fits here p l ready ps c k (Statement-F.Assert e text s) allowed h =
    each_fits here.objects l (λ (v : Val). asserted_at (is_true v) (reported_at here s text (at c (k + 1)) l) (at c (k + 1)) l) (evaluated here l e)
    (λ v _. asserted_fits here.objects (is_true v) (reported_at here s text (at c (k + 1)) l) (at c (k + 1)) l h (reported_fits here s text (at c (k + 1)) l h))
moved_fits here p l ready ps c k (Statement-F.Report text s) allowed h = reported_fits here s text (at c (k + 1)) l h
moved_fits here p l ready ps c k (Statement-F.Break elements condition) allowed h =
    each_fits here.objects l (goes_to (at c (k + 1))) (holds here l condition >>= break_by here l elements) (broken_fits here p l ps elements (holds here l condition) allowed.0 h)
moved_fits here p l ready ps c k Statement-F.Null allowed h = h
