-- A process stays ready.
use Rattle.std.proofs.Common.{◌≡◌, refl, sym, subst, ℕ, ◌+◌, ◌<◌, Bool, true, false, not, ◌&&◌, nat_eq, ℤ, pos, if◌then◌else◌, List, [], ◌++◌, length, Option, Some, None, Result, Ok, Err, slice_set}
use Rattle.std.specs.Prelude.{IsTrue, IfSome}
use Rattle.std.specs.List.{slice_get, list_any}
use Rattle.std.specs.Ordering.{int_eq}
use Rattle.std.proofs.lemmas.Option.{slice_get_within, get_or_from_slice_get}
use Rattle.std.proofs.lemmas.List.Elements.{All-get_or}
use Rattle.message_codes.specs.Codes.{range}
use Rattle.fix_core.specs.Passes.{◌>>=◌}
use Rattle.ams_value.specs.declared.val.Val.{Val}
use Rattle.ams_value.specs.declared.val.Val.TheVariants as val
use Rattle.ams_value.specs.declared.value_type.ValueType.{ValueType}
use Rattle.ams_value.specs.declared.value_type.ValueType.TheVariants as kind
use Rattle.ams_value.specs.Types.{is_in_range}
use Rattle.ams_value.specs.Values.{is_true}
use Rattle.flat_expr.specs.declared.expr.FlatExpr.{FlatExpr}
use Rattle.flat_expr.specs.declared.expr.Direction.{Direction}
use Rattle.flat_expr.specs.declared.subtype.Constraint.{Constraint}
use Rattle.flat_expr.specs.Subtype.{lies_in}
use Rattle.flat_expr.specs.declared.statement.Alternative.{Alternative}
use Rattle.flat_expr.specs.declared.statement.BreakElement.{BreakElement}
use Rattle.flat_expr.specs.declared.statement.WaveElement.{WaveElement}
use Rattle.flat_expr.specs.declared.statement.DelayMechanism.{DelayMechanism}
use Rattle.flat_expr.specs.declared.statement.Severity.{Severity}
use Rattle.flat_expr.specs.declared.statement.Severity.TheVariants as severity
use Rattle.flat_expr.specs.declared.statement.Statement.{Statement}
use Rattle.flat_expr.specs.declared.statement.Statement.TheOpen.{Statement-F}
use Rattle.flat_design.specs.declared.objects.Process.{Process}
use Rattle.step_data.specs.declared.outcome.Refusal.{Refusal}
use Rattle.design_meaning.specs.Typed.{IsOfType, Reads}
use Rattle.design_meaning.specs.Value.{value_of}
use Rattle.design_meaning.specs.declared.fault.EvalFault.{EvalFault}
use Rattle.value_types.proofs.Typing.{values_are_typed}
use Rattle.cycle_meaning.specs.Task.{Layer}
use Rattle.cycle_meaning.specs.World.{Context, Local, readings_at, evaluated, holds, of_fault, refusal, refused_where}
use Rattle.cycle_meaning.specs.Statements.{signal_assignment, variable_assignment, limit_of, transactions, assigned, constraint_of, break_by, elements_of, with_elements, integer_of, is_empty, timeout_of}
use Rattle.cycle_meaning.specs.Processes.{with_parameter, parameter_of, stepped}
use Rattle.design_rules.specs.Ways.{layer_at, inner_body, HasOwn}
use Rattle.design_rules.specs.Types.{sizes_of, process_scope, IsExpression}
use Rattle.design_rules.specs.Statements.{IsAllowed}
use Rattle.process_laws.specs.Resumed.{Surroundings, outermost, inside, body_in, AreOf}
use Rattle.process_laws.proofs.Places.{parameters_round}
use Rattle.process_laws.proofs.HeldMoves.{get_set_same}
use Rattle.statement_values.specs.declared.range.LoopRange.{LoopRange}
use Rattle.statement_values.specs.LoopRanges.{range_between, loop_range, IsOnWay}
use Rattle.statement_values.proofs.RangeLaws.{lead}
use Rattle.statement_lists.specs.Branches.{branch_number}
use Rattle.statement_lists.specs.Alternatives.{alternative_number}
use Rattle.process_place.specs.ProcessPlace.{ProcessPlace, at, turning, IsIn}
use Rattle.process_place.specs.Moves.{Coming, begins_at, turns_to, starts_again, by_truth, past_end, begun_or, coming_at, first_turned, coming, Moved, goes_to, waits_at, is_refused, or_refused, chosen_at, ranged_at, reported_at, asserted_at, behind_loop_at, end_of_turn_at, moved}
use Rattle.process_ready.specs.Allowed.{IsInteger, LeadRound, MayBegin, LeadAt}
use Rattle.process_ready.specs.Ready.{IsReady, GoesReady, StaysReady}
use Rattle.process_ready.proofs.Allowed.{allowed_at, own_at, safe_at, each_can, as_many}
use Rattle.process_ready.proofs.Typing.{ready_with}
use Rattle.process_ready.proofs.Ways.{lead_other, alone, lead_behind, lead_end, parameter_there, further_way, further_integer, in_range_integer, integer_in_range}

-- ---- values

of_value : (here : Context) (r : Result Val EvalFault) (v : Val) → of_fault here r ≡ Ok v → r ≡ Ok v
of_value here (Ok a) v e = cc
of_value here (Err f) v e = absurd cc

typed_value : (here : Context) (p : Process) (l : Local) → IsReady here p l → (ps : List ℕ) (k : ValueType) (e : FlatExpr) → IsExpression here.objects p ps k e → (v : Val) → evaluated here l e ≡ Ok v →
    IsOfType (sizes_of here.objects) k v
typed_value here p l ready ps k e x v is =
    values_are_typed (process_scope here.objects p) (readings_at here l) e k v ready.reads x.typed (of_value here (value_of e (readings_at here l)) v is)

integer_typed : (sizes : List ℕ) (v : Val) → IsOfType sizes kind.Integer v → IsInteger (integer_of v)
integer_typed sizes (val.Int i) typed = integer_in_range i typed.range
integer_typed sizes (val.Bool _) typed = absurd (let e : kind.Boolean ≡ kind.Integer = typed.kind_is in cc)
integer_typed sizes (val.Bit _) typed = absurd (let e : kind.Bit ≡ kind.Integer = typed.kind_is in cc)
integer_typed sizes (val.Real _) typed = absurd (let e : kind.Real ≡ kind.Integer = typed.kind_is in cc)
integer_typed sizes (val.Time _) typed = absurd (let e : kind.Time ≡ kind.Integer = typed.kind_is in cc)
integer_typed sizes (val.Enum n _) typed = absurd (let e : kind.Enumeration n ≡ kind.Integer = typed.kind_is in cc)
integer_typed sizes (val.Bits n _) typed = absurd (let e : kind.BitVector n ≡ kind.Integer = typed.kind_is in cc)

typed_integer : (sizes : List ℕ) (i : ℤ) → IsInteger i → IsOfType sizes kind.Integer (val.Int i)
typed_integer sizes i h = record { kind_is = refl; range = in_range_integer sizes i h }

-- ---- the parameter of a loop

-- a loop of the text gives its parameter a value
with_turn : (here : Context) (p : Process) (l : Local) → IsReady here p l → (c : Surroundings) (k q : ℕ) (left : FlatExpr) (direction : Direction) (right : FlatExpr) (body : List Statement) (last : ℤ)
    → AreOf p.statements c → layer_at k (body_in p.statements c) ≡ Some (Statement-F.For q left direction right body) → LeadRound l.variables c
    → (b : ℕ) (i : ℤ) → q < length l.variables → IsOnWay direction i last → IsInteger i → IsInteger last
    → GoesReady here p (with_parameter q i l) (at (inside c k b (Statement-F.For q left direction right body) last) 0)
with_turn here p l ready c k q left direction right body last of_text is way b i there on small small_last =
    let layer : Layer = Statement-F.For q left direction right body in
    let allowed : IsAllowed here.objects p (parameters_round c ++ []) layer = allowed_at here p l ready c k layer of_text is in
    let own : HasOwn (parameters_round c ++ []) layer = own_at here p l ready c k layer of_text is in
    record {
      ready = ready_with here p l ready q allowed.parameter (val.Int i) allowed.parameter_is (subst (λ z. IsOfType (sizes_of here.objects) z (val.Int i)) (sym allowed.kind_is) (typed_integer (sizes_of here.objects) i small));
      way = (
        lead_other l.variables q (val.Int i) c (alone (nat_eq q) (parameters_round c) own) way,
        (i, get_set_same l.variables q (val.Int i) there, on, small_last),
      );
    }

-- the value of a parameter is an integer of its type
parameter_small : (here : Context) (p : Process) (l : Local) → IsReady here p l → (q : ℕ) (i : ℤ) → slice_get l.variables q ≡ Some (val.Int i) → IsInteger i
parameter_small here p l ready q i is =
    integer_in_range i (subst (λ w. IsTrue (is_in_range (sizes_of here.objects) w)) (get_or_from_slice_get l.variables q (val.Int i) (val.Int i) is)
    (All-get_or (λ w. IsTrue (is_in_range (sizes_of here.objects) w)) l.variables q (val.Int i) (slice_get_within l.variables q (val.Int i) is) ready.reads.variables_range))

-- ---- what counts next

abbrev Comes : Context → Process → Local → Coming → Type 0
Comes here p l (begins_at s c k) = LeadRound l.variables c
Comes here p l (turns_to q turned) = GoesReady here p turned q
Comes here p l _ = Unit {0}

comes_begun : (here : Context) (p : Process) (l : Local) (o : Option Statement) (c : Surroundings) (k : ℕ) (others : Coming) → LeadRound l.variables c → Comes here p l others → Comes here p l (begun_or o c k others)
comes_begun here p l (Some s) c k others way h = way
comes_begun here p l None c k others way h = h

comes_truth : (here : Context) (p : Process) (l : Local) (r : Result Bool Refusal) (turn others : Coming) → Comes here p l turn → Comes here p l others → Comes here p l (by_truth r turn others)
comes_truth here p l (Ok true) turn others a b = a
comes_truth here p l (Ok false) turn others a b = b
comes_truth here p l (Err r) turn others a b = tt

comes_test : (here : Context) (p : Process) (l : Local) (t : Bool) (a b : Coming) → (t ≡ true → Comes here p l a) → (t ≡ false → Comes here p l b) → Comes here p l (if t then a else b)
comes_test here p l true a b x y = x refl
comes_test here p l false a b x y = y refl

comes_past : (here : Context) (p : Process) (l : Local) → IsReady here p l → (c : Surroundings) (k b : ℕ) (layer : Layer) (last : ℤ) (others : Coming)
    → AreOf p.statements c → layer_at k (body_in p.statements c) ≡ Some layer → LeadRound l.variables (inside c k b layer last) → Comes here p l others
    → Comes here p l (past_end here l (inside c k b layer last) layer last others)
comes_past here p l ready c k b (Statement-F.Loop condition body) last others of_text is way h =
    comes_truth here p l (holds here l condition) (turns_to (at (inside c k b (Statement-F.Loop condition body) last) 0) l) others (record { ready = ready; way = way }) h
comes_past here p l ready c k b (Statement-F.For q left direction right body) last others of_text is way h =
    let i : ℤ = way.1.0 in
    let value_is : parameter_of l q ≡ i = parameter_there l q i way.1.1 in
    let small : IsInteger i = parameter_small here p l ready q i way.1.1 in
    rw value_is
    (comes_test here p l (int_eq i last) others
    (turns_to (at (inside c k b (Statement-F.For q left direction right body) last) 0) (with_parameter q (stepped direction i) l)) (λ _. h)
    (λ differs. with_turn here p l ready c k q left direction right body last of_text is way.0 b (stepped direction i) (slice_get_within l.variables q (val.Int i) way.1.1)
    (further_way direction i last way.1.2 differs) (further_integer direction i last way.1.2 differs small way.1.3) way.1.3))
comes_past here p l ready c k b (Statement-F.SignalAssignment _ _ _ _) last others of_text is way h = h
comes_past here p l ready c k b (Statement-F.VariableAssignment _ _ _) last others of_text is way h = h
comes_past here p l ready c k b (Statement-F.If _ _) last others of_text is way h = h
comes_past here p l ready c k b (Statement-F.Case _ _) last others of_text is way h = h
comes_past here p l ready c k b (Statement-F.Exit _) last others of_text is way h = h
comes_past here p l ready c k b (Statement-F.Next _) last others of_text is way h = h
comes_past here p l ready c k b (Statement-F.Wait _ _ _ _) last others of_text is way h = h
comes_past here p l ready c k b (Statement-F.Assert _ _ _) last others of_text is way h = h
comes_past here p l ready c k b (Statement-F.Report _ _) last others of_text is way h = h
comes_past here p l ready c k b (Statement-F.Break _ _) last others of_text is way h = h
comes_past here p l ready c k b Statement-F.Null last others of_text is way h = h

comes_from : (here : Context) (p : Process) (l : Local) → IsReady here p l → (c : Surroundings) (k : ℕ) → AreOf p.statements c → LeadRound l.variables c → Comes here p l (coming_at here l p.statements c k)
unfolding coming_at
comes_from here p l ready outermost k of_text way = comes_begun here p l (slice_get p.statements k) outermost k starts_again tt tt
comes_from here p l ready (inside c j b layer last) k of_text way =
    comes_begun here p l (slice_get (inner_body b layer) k) (inside c j b layer last) k
    (past_end here l (inside c j b layer last) layer last (coming_at here l p.statements c (j + 1))) way
    (comes_past here p l ready c j b layer last (coming_at here l p.statements c (j + 1)) of_text.0 of_text.1 way (comes_from here p l ready c (j + 1) of_text.0 way.0))

comes_first : (here : Context) (p : Process) (l : Local) → IsReady here p l → (c : Surroundings) (k : ℕ) (layer : Layer) (from last : ℤ)
    → AreOf p.statements c → layer_at k (body_in p.statements c) ≡ Some layer → LeadRound l.variables c → MayBegin l.variables layer from last → Comes here p l (first_turned l c k layer from last)
comes_first here p l ready c k (Statement-F.For q left direction right body) from last of_text is way may =
    with_turn here p l ready c k q left direction right body last of_text is way 0 from may.0 may.1 may.2 may.3
comes_first here p l ready c k (Statement-F.SignalAssignment _ _ _ _) from last of_text is way may = tt
comes_first here p l ready c k (Statement-F.VariableAssignment _ _ _) from last of_text is way may = tt
comes_first here p l ready c k (Statement-F.If _ _) from last of_text is way may = tt
comes_first here p l ready c k (Statement-F.Case _ _) from last of_text is way may = tt
comes_first here p l ready c k (Statement-F.Loop _ _) from last of_text is way may = tt
comes_first here p l ready c k (Statement-F.Exit _) from last of_text is way may = tt
comes_first here p l ready c k (Statement-F.Next _) from last of_text is way may = tt
comes_first here p l ready c k (Statement-F.Wait _ _ _ _) from last of_text is way may = tt
comes_first here p l ready c k (Statement-F.Assert _ _ _) from last of_text is way may = tt
comes_first here p l ready c k (Statement-F.Report _ _) from last of_text is way may = tt
comes_first here p l ready c k (Statement-F.Break _ _) from last of_text is way may = tt
comes_first here p l ready c k Statement-F.Null from last of_text is way may = tt

comes : (here : Context) (p : Process) (l : Local) (q : ProcessPlace) → IsIn p.statements q → GoesReady here p l q → Comes here p l (coming here l p.statements q)
comes here p l (at c k) there h = comes_from here p l h.ready c k there h.way
comes here p l (turning c k layer from last) there h = comes_first here p l h.ready c k layer from last there.0 there.1 h.way.0 h.way.1

-- ---- a statement

abbrev Leaves : Context → Process → Moved → Type 0
Leaves here p (goes_to q l) = GoesReady here p l q
Leaves here p (waits_at number t q l) = GoesReady here p l q
Leaves here p (is_refused l r) = Unit {0}

leaves_ok : {A : Type 0} (Q : A → Type 0) (here : Context) (p : Process) (l : Local) (go : A → Moved) (r : Result A Refusal) → ((a : A) → r ≡ Ok a → Q a) → ((a : A) → Q a → Leaves here p (go a)) → Leaves here p (or_refused l go r)
leaves_ok Q here p l go (Ok a) gives follow = follow a (gives a refl)
leaves_ok Q here p l go (Err r) gives follow = tt

-- the world changes, but not what the process reads
abbrev SeesSame : Local → Local → Type 0
SeesSame l after = (after.world.signals ≡ l.world.signals) × (after.world.thresholds ≡ l.world.thresholds) × (after.world.domain ≡ l.world.domain) × (after.variables ≡ l.variables)

same_readings : (here : Context) (l after : Local) → SeesSame l after → readings_at here after ≡ readings_at here l
same_readings here l after same = cc

still_ready : (here : Context) (p : Process) (l after : Local) (c : Surroundings) (k : ℕ) → IsReady here p l → LeadRound l.variables c → SeesSame l after → GoesReady here p after (at c k)
still_ready here p l after c k ready way same =
    record {
      ready = record {
        process_is = ready.process_is;
        rules = ready.rules;
        reads = subst (Reads (process_scope here.objects p)) (sym (same_readings here l after same)) ready.reads;
      };
      way = subst (λ vs. LeadRound vs c) (sym same.3) way;
    }

pub by_steps : {A B : Type 0} (Q : B → Type 0) (m : Result A Refusal) (f : A → Result B Refusal) → ((a : A) (b : B) → m ≡ Ok a → f a ≡ Ok b → Q b) → (b : B) → (m >>= f) ≡ Ok b → Q b
by_steps Q (Ok a) f h b e = h a b refl e
by_steps Q (Err r) f h b e = absurd cc

assigned_same : (here : Context) (l : Local) (i : ℕ) (c : Constraint) (m : DelayMechanism) (wave : List WaveElement) (after : Local) → signal_assignment here l i c m wave ≡ Ok after → SeesSame l after
assigned_same here l i c m wave =
    let fits : Val → Bool = λ v. lies_in c v && lies_in (constraint_of (slice_get here.objects.signals i)) v in
    by_steps (SeesSame l) (limit_of here l m) (λ limit. transactions here l fits limit None wave >>= (λ new. Ok (assigned here i m limit new l)))
    (λ limit b _. by_steps (SeesSame l) (transactions here l fits limit None wave) (λ new. Ok (assigned here i m limit new l))
    (λ new after _ e. let same : assigned here i m limit new l ≡ after = cc in subst (SeesSame l) same (refl, refl, refl, refl)) b)

broken_same : (here : Context) (l : Local) (elements : List BreakElement) (holding : Result Bool Refusal) (after : Local) → (holding >>= break_by here l elements) ≡ Ok after → SeesSame l after
broken_same here l elements (Err r) after e = absurd cc
broken_same here l elements (Ok false) after e = let same : l ≡ after = cc in subst (SeesSame l) same (refl, refl, refl, refl)
broken_same here l elements (Ok true) after e =
    by_steps (SeesSame l) (elements_of here l l.world.elements elements) (λ made. Ok (with_elements here made l))
    (λ made b _ e. let same : with_elements here made l ≡ b = cc in subst (SeesSame l) same (refl, refl, refl, refl)) after e

value_assigned : (here : Context) (p : Process) (l : Local) → IsReady here p l → (ps : List ℕ) (i : ℕ) (c : Constraint) (e : FlatExpr) → IsAllowed here.objects p ps (Statement-F.VariableAssignment i c e)
    → (round : Surroundings) (k : ℕ) → list_any (nat_eq i) (parameters_round round) ≡ false → LeadRound l.variables round
    → (after : Local) → variable_assignment here l i c e ≡ Ok after → GoesReady here p after (at round k)
value_assigned here p l ready ps i c e allowed round k other way =
    by_steps (λ a. GoesReady here p a (at round k)) (evaluated here l e) (λ v. refused_where (not (lies_in c v)) (refusal here range) v >>= (λ tested. Ok (record l { variables = slice_set l.variables i tested })))
    (λ v b value_is. by_steps (λ a. GoesReady here p a (at round k)) (refused_where (not (lies_in c v)) (refusal here range) v) (λ tested. Ok (record l { variables = slice_set l.variables i tested }))
    (λ tested after passes e.
    let same : v ≡ tested = tested_is (not (lies_in c v)) (refusal here range) v tested passes in
    let made : record l { variables = slice_set l.variables i tested } ≡ after = cc in
    subst (λ a. GoesReady here p a (at round k)) made
    (record {
      ready = ready_with here p l ready i allowed.variable tested allowed.variable_is (subst (IsOfType (sizes_of here.objects) allowed.variable.kind) same (typed_value here p l ready ps allowed.variable.kind _ allowed.value v value_is));
      way = lead_other l.variables i tested round other way;
    })) b)
  where
    tested_is : (t : Bool) (r : Refusal) (a b : Val) → refused_where t r a ≡ Ok b → a ≡ b
    tested_is true r a b e = absurd cc
    tested_is false r a b e = cc

stays_at : (here : Context) (p : Process) (l : Local) (q : ProcessPlace) → IsReady here p l → LeadAt l.variables q → Leaves here p (goes_to q l)
stays_at here p l q ready way = record { ready = ready; way = way }

reported_stays : (here : Context) (p : Process) (l : Local) (c : Surroundings) (k : ℕ) (s : Severity) (text : List ℕ) → IsReady here p l → LeadRound l.variables c → Leaves here p (reported_at here s text (at c k) l)
reported_stays here p l c k severity.Failure text ready way = tt
reported_stays here p l c k severity.Note text ready way = still_ready here p l _ c k ready way (refl, refl, refl, refl)
reported_stays here p l c k severity.Warning text ready way = still_ready here p l _ c k ready way (refl, refl, refl, refl)
reported_stays here p l c k severity.Error text ready way = still_ready here p l _ c k ready way (refl, refl, refl, refl)

asserted_stays : (here : Context) (p : Process) (l : Local) (c : Surroundings) (k : ℕ) (t : Bool) (report : Moved) → IsReady here p l → LeadRound l.variables c → Leaves here p report → Leaves here p (asserted_at t report (at c k) l)
asserted_stays here p l c k true report ready way h = stays_at here p l (at c k) ready way
asserted_stays here p l c k false report ready way h = h

chosen_stays : (here : Context) (p : Process) (l : Local) (c : Surroundings) (k : ℕ) (e : FlatExpr) (alternatives : List Alternative) (o : Option ℕ) → IsReady here p l → LeadRound l.variables c
    → Leaves here p (goes_to (chosen_at c k (Statement-F.Case e alternatives) o) l)
chosen_stays here p l c k e alternatives (Some b) ready way = stays_at here p l _ ready (way, tt)
chosen_stays here p l c k e alternatives None ready way = stays_at here p l _ ready way

by_test : (here : Context) (p : Process) (l : Local) (t : Bool) (a b : ProcessPlace) → IsReady here p l → LeadAt l.variables a → LeadAt l.variables b → Leaves here p (goes_to (if t then a else b) l)
by_test here p l true a b ready x y = stays_at here p l a ready x
by_test here p l false a b ready x y = stays_at here p l b ready y

-- the range of a loop of the text
abbrev Begins : Context → Local → ℕ → Direction → Option LoopRange → Type 0
Begins here l q direction None = Unit {0}
Begins here l q direction (Some r) = IsOnWay direction r.first r.last × IsInteger r.first × IsInteger r.last

range_begins : (here : Context) (l : Local) (q : ℕ) (direction : Direction) (empty : Bool) (a b : ℤ) → IsInteger a → IsInteger b → (empty ≡ false → IsOnWay direction a b) →
    Begins here l q direction (if empty then None else Some (record { first = a; last = b }))
range_begins here l q direction true a b x y on = tt
range_begins here l q direction false a b x y on = (on refl, x, y)

on_way : (direction : Direction) (a b : ℤ) (empty : Bool) → is_empty direction a b ≡ empty → IfSome (if empty then None else Some (record { first = a; last = b })) (λ (range : LoopRange). IsOnWay direction range.first range.last) → empty ≡ false → IsOnWay direction a b
on_way direction a b true is h e = absurd cc
on_way direction a b false is h e = h

ranged : (here : Context) (p : Process) (l : Local) → IsReady here p l → (ps : List ℕ) (q : ℕ) (left : FlatExpr) (direction : Direction) (right : FlatExpr) (body : List Statement)
    → IsAllowed here.objects p ps (Statement-F.For q left direction right body) → (o : Option LoopRange) → loop_range here l left direction right ≡ Ok o → Begins here l q direction o
ranged here p l ready ps q left direction right body allowed =
    by_steps (Begins here l q direction) (evaluated here l left) (λ a. evaluated here l right >>= (λ b. Ok (range_between direction (integer_of a) (integer_of b))))
    (λ a o left_is. by_steps (Begins here l q direction) (evaluated here l right) (λ b. Ok (range_between direction (integer_of a) (integer_of b)))
    (λ b o right_is e.
    let same : range_between direction (integer_of a) (integer_of b) ≡ o = cc in
    let x : IsInteger (integer_of a) = integer_typed (sizes_of here.objects) a (typed_value here p l ready ps kind.Integer left allowed.begins a left_is) in
    let y : IsInteger (integer_of b) = integer_typed (sizes_of here.objects) b (typed_value here p l ready ps kind.Integer right allowed.ends b right_is) in
    subst (Begins here l q direction) same
    (range_begins here l q direction (is_empty direction (integer_of a) (integer_of b)) (integer_of a) (integer_of b) x y
    (on_way direction (integer_of a) (integer_of b) (is_empty direction (integer_of a) (integer_of b)) refl (lead direction (integer_of a) (integer_of b))))) o)

ranged_stays : (here : Context) (p : Process) (l : Local) (c : Surroundings) (k q : ℕ) (left : FlatExpr) (direction : Direction) (right : FlatExpr) (body : List Statement) (o : Option LoopRange)
    → IsReady here p l → LeadRound l.variables c → q < length l.variables → Begins here l q direction o → Leaves here p (goes_to (ranged_at c k (Statement-F.For q left direction right body) o) l)
ranged_stays here p l c k q left direction right body None ready way there h = stays_at here p l _ ready way
ranged_stays here p l c k q left direction right body (Some r) ready way there h = stays_at here p l _ ready (way, (there, h.0, h.1, h.2))

leaves : (here : Context) (p : Process) (l : Local) → IsReady here p l → (c : Surroundings) (k : ℕ) (layer : Layer) → AreOf p.statements c → layer_at k (body_in p.statements c) ≡ Some layer → LeadRound l.variables c
    → Leaves here p (moved here l p.statements c k layer)
leaves here p l ready c k (Statement-F.SignalAssignment i constraint m wave) of_text is way =
    leaves_ok (SeesSame l) here p l (goes_to (at c (k + 1))) (signal_assignment here l i constraint m wave) (assigned_same here l i constraint m wave) (λ after same. still_ready here p l after c (k + 1) ready way same)
leaves here p l ready c k (Statement-F.VariableAssignment i constraint e) of_text is way =
    leaves_ok (λ after. GoesReady here p after (at c (k + 1))) here p l (goes_to (at c (k + 1))) (variable_assignment here l i constraint e)
    (value_assigned here p l ready (parameters_round c ++ []) i constraint e (allowed_at here p l ready c k (Statement-F.VariableAssignment i constraint e) of_text is) c (k + 1)
    (alone (nat_eq i) (parameters_round c) (safe_at here p l ready c k (Statement-F.VariableAssignment i constraint e) of_text is)) way)
    (λ after h. h)
leaves here p l ready c k (Statement-F.If branches last) of_text is way =
    leaves_ok (λ b. Unit {0}) here p l (λ (b : ℕ). goes_to (at (inside c k b (Statement-F.If branches last) (pos 0)) 0) l) (branch_number here l branches) (λ b _. tt) (λ b _. stays_at here p l _ ready (way, tt))
leaves here p l ready c k (Statement-F.Case e alternatives) of_text is way =
    leaves_ok (λ v. Unit {0}) here p l (λ (v : Val). goes_to (chosen_at c k (Statement-F.Case e alternatives) (alternative_number alternatives v)) l) (evaluated here l e) (λ v _. tt)
    (λ v _. chosen_stays here p l c k e alternatives (alternative_number alternatives v) ready way)
leaves here p l ready c k (Statement-F.Loop condition body) of_text is way = stays_at here p l _ ready (way, tt)
leaves here p l ready c k (Statement-F.For q left direction right body) of_text is way =
    let allowed : IsAllowed here.objects p (parameters_round c ++ []) (Statement-F.For q left direction right body) = allowed_at here p l ready c k (Statement-F.For q left direction right body) of_text is in
    leaves_ok (Begins here l q direction) here p l (λ (range : Option LoopRange). goes_to (ranged_at c k (Statement-F.For q left direction right body) range) l) (loop_range here l left direction right)
    (ranged here p l ready (parameters_round c ++ []) q left direction right body allowed)
    (λ o h. ranged_stays here p l c k q left direction right body o ready way (subst (λ n. q < n) (sym (as_many here p l ready)) (slice_get_within p.variables q allowed.parameter allowed.parameter_is)) h)
leaves here p l ready c k (Statement-F.Exit condition) of_text is way =
    leaves_ok (λ b. Unit {0}) here p l (λ (b : Bool). goes_to (if b then behind_loop_at p.statements c else at c (k + 1)) l) (holds here l condition) (λ b _. tt)
    (λ b _. by_test here p l b (behind_loop_at p.statements c) (at c (k + 1)) ready (lead_behind l.variables p.statements c way) way)
leaves here p l ready c k (Statement-F.Next condition) of_text is way =
    leaves_ok (λ b. Unit {0}) here p l (λ (b : Bool). goes_to (if b then end_of_turn_at p.statements c else at c (k + 1)) l) (holds here l condition) (λ b _. tt)
    (λ b _. by_test here p l b (end_of_turn_at p.statements c) (at c (k + 1)) ready (lead_end l.variables p.statements c way) way)
leaves here p l ready c k (Statement-F.Wait number on condition timeout) of_text is way =
    leaves_ok (λ t. Unit {0}) here p l (λ (t : Option ℕ). waits_at number t (at c (k + 1)) l) (timeout_of here l timeout) (λ t _. tt) (λ t _. record { ready = ready; way = way })
leaves here p l ready c k (Statement-F.Assert e text s) of_text is way =
    leaves_ok (λ v. Unit {0}) here p l (λ (v : Val). asserted_at (is_true v) (reported_at here s text (at c (k + 1)) l) (at c (k + 1)) l) (evaluated here l e) (λ v _. tt)
    (λ v _. asserted_stays here p l c (k + 1) (is_true v) (reported_at here s text (at c (k + 1)) l) ready way (reported_stays here p l c (k + 1) s text ready way))
leaves here p l ready c k (Statement-F.Report text s) of_text is way = reported_stays here p l c (k + 1) s text ready way
leaves here p l ready c k (Statement-F.Break elements condition) of_text is way =
    leaves_ok (SeesSame l) here p l (goes_to (at c (k + 1))) (holds here l condition >>= break_by here l elements) (broken_same here l elements (holds here l condition)) (λ after same. still_ready here p l after c (k + 1) ready way same)
leaves here p l ready c k Statement-F.Null of_text is way = stays_at here p l _ ready way

pub stays : StaysReady
stays =
    record {
      can = each_can;
      begins = λ here p l q there h s c k is. subst (Comes here p l) is (comes here p l q there h);
      turns = λ here p l q there h next turned is. subst (Comes here p l) is (comes here p l q there h);
      goes = λ here p l ready c k layer of_text layer_is way next after is. subst (Leaves here p) is (leaves here p l ready c k layer of_text layer_is way);
      waits = λ here p l ready c k layer of_text layer_is way number t next after is. subst (Leaves here p) is (leaves here p l ready c k layer of_text layer_is way);
    }
