-- The worked design keeps each promise.
use Rattle.std.proofs.Common.{◌≡◌, ◌<◌, ◌≤◌, refl, ap, sym, ◌∙◌, subst, ℕ, zero, suc, pos, Bool, true, false, IsTrue, List, [], ◌∷◌, ◌++◌, length, Option, Some, None, arith}
use Rattle.std.specs.Prelude.{codes, if◌then◌else◌}
use Rattle.std.specs.List.{All}
use Rattle.std.proofs.lemmas.List.Elements.{All-nil, All-cons}
use Rattle.ams_value.specs.declared.val.Val.{Val}
use Rattle.ams_value.specs.declared.val.Val.TheVariants as val
use Rattle.ams_value.specs.declared.value_type.ValueType.{ValueType}
use Rattle.ams_value.specs.declared.value_type.ValueType.TheVariants as kind
use Rattle.flat_expr.specs.declared.expr.SignalName.TheVariants.{Signal}
use Rattle.flat_expr.specs.declared.expr.Direction.TheVariants.{To}
use Rattle.flat_expr.specs.declared.expr.Unknown.{Unknown}
use Rattle.flat_expr.specs.declared.expr.Unknown.TheVariants as unknown
use Rattle.flat_expr.specs.declared.expr.FlatExpr.TheOpen.{FlatExpr-F}
use Rattle.flat_expr.specs.declared.expr.FlatExpr.TheVariants as e
use Rattle.flat_expr.specs.declared.expr.FlatExpr.TheVariants.{rolls-Literal, rolls-Unknown}
use Rattle.flat_expr.specs.declared.expr.FlatExpr.TheFolds.{fold-FlatExpr, fold-roll-FlatExpr}
use Rattle.flat_expr.specs.declared.subtype.Constraint.TheVariants.{Whole}
use Rattle.flat_expr.specs.declared.statement.DelayMechanism.TheVariants.{Transport}
use Rattle.flat_expr.specs.declared.statement.Statement.{Statement, out-Statement}
use Rattle.flat_expr.specs.declared.statement.Statement.TheOpen.{Statement-F}
use Rattle.flat_expr.specs.declared.statement.Statement.TheViews.{out-roll-Statement}
use Rattle.flat_expr.specs.declared.statement.Statement.TheVariants as s
use Rattle.flat_expr.specs.declared.statement.Statement.TheVariants.{rolls-For, rolls-Wait, rolls-SignalAssignment, rolls-Break}
use Rattle.flat_design.specs.declared.objects.PathStep.{PathStep}
use Rattle.flat_design.specs.declared.objects.WaitPlace.{WaitPlace}
use Rattle.flat_design.specs.declared.objects.Equation.TheVariants.{Pair}
use Rattle.flat_design.specs.Limits.{frame_limit}
use Rattle.flat_design.specs.Reads.{is_read, frame_of}
use Rattle.design_meaning.specs.Typed.{Scope, type_at, HasType}
use Rattle.cycle_meaning.specs.Task.{Layer}
use Rattle.design_rules.specs.Ways.{EachStatement, AreWaysRight, AreParametersSafe, IsSafe, HasOwn, Nests}
use Rattle.design_rules.specs.Types.{process_scope, equation_scope, named_at, IsVisible, IsExpression}
use Rattle.design_rules.specs.Branches.{HasFewBranches}
use Rattle.design_rules.specs.Equations.{IsPair, stands_at, is_in_equations, IsEquation}
use Rattle.design_rules.specs.Statements.{IsAllowed, IsWaveElement, IsSignalAssignment, IsForLoop, IsSignalName, IsBreakElement}
use Rattle.design_rules.specs.Building.{EachIn, HoldsAt, AreRightIn, IsRightAt}
use Rattle.design_rules.specs.Design.{IsEnumeration, IsSignal, IsQuantity, IsThreshold, IsRamp, IsVariable, AreDriversUsed, IsProcess, IsSolvable, KeepsLimits, literal_limit, domain_type}
use Rattle.design_rules.specs.Worked.{parameter, signal, quantity, slope, top, high, to_zero, waits_twice, raises, breaks, worked_process, worked_design, WorkedDesign}
use Rattle.design_rules.proofs.Each.{whole_each, none_each, one_more_each}
use Rattle.design_rules.proofs.Ways.{whole_is_right, none_is_right, one_more_is_right}

-- ---- expressions

fold-literal : (A : Type 0) (step : FlatExpr-F A → A) (v : Val) → fold-FlatExpr A step (e.Literal v) ≡ step (FlatExpr-F.Literal v)
fold-literal A step v = ap (fold-FlatExpr A step) (sym (rolls-Literal v)) ∙ fold-roll-FlatExpr A step (FlatExpr-F.Literal v)

fold-unknown : (A : Type 0) (step : FlatExpr-F A → A) (u : Unknown) → fold-FlatExpr A step (e.Unknown u) ≡ step (FlatExpr-F.Unknown u)
fold-unknown A step u = ap (fold-FlatExpr A step) (sym (rolls-Unknown u)) ∙ fold-roll-FlatExpr A step (FlatExpr-F.Unknown u)

literal_is : (scope : Scope) (v : Val) (k : ValueType) → type_at scope (FlatExpr-F.Literal v) ≡ Some k → HasType scope (e.Literal v) k
literal_is scope v k h = fold-literal (Option ValueType) (type_at scope) v ∙ h

-- a literal in a process
literal_in : (ps : List ℕ) (v : Val) (k : ValueType) → type_at (process_scope worked_design worked_process) (FlatExpr-F.Literal v) ≡ Some k
    → IsExpression worked_design worked_process ps k (e.Literal v)
literal_in ps v k h =
    record {
      typed = literal_is (process_scope worked_design worked_process) v k h;
      visible = subst (All (IsVisible worked_process.variables ps)) (sym (fold-literal (List ℕ) named_at v)) (All-nil (IsVisible worked_process.variables ps));
    }

-- ---- statements, opened

out_wait : out-Statement (s.Wait 0 (Signal 0 ∷ []) None None) ≡ Statement-F.Wait 0 (Signal 0 ∷ []) None None
out_wait = ap out-Statement (sym (rolls-Wait 0 (Signal 0 ∷ []) None None)) ∙ out-roll-Statement (Statement-F.Wait 0 (Signal 0 ∷ []) None None)

abbrev for_layer : Layer
for_layer = Statement-F.For 0 (e.Literal (val.Int (pos 0))) To (e.Literal (val.Int (pos 1))) (s.Wait 0 (Signal 0 ∷ []) None None ∷ [])

out_for : out-Statement waits_twice ≡ for_layer
out_for =
    ap out-Statement (sym (rolls-For 0 (e.Literal (val.Int (pos 0))) To (e.Literal (val.Int (pos 1))) (s.Wait 0 (Signal 0 ∷ []) None None ∷ []))) ∙ out-roll-Statement for_layer

abbrev assignment_layer : Layer
assignment_layer = Statement-F.SignalAssignment 0 Whole Transport (high ∷ [])

out_raises : out-Statement raises ≡ assignment_layer
out_raises = ap out-Statement (sym (rolls-SignalAssignment 0 Whole Transport (high ∷ []))) ∙ out-roll-Statement assignment_layer

abbrev break_layer : Layer
break_layer = Statement-F.Break (to_zero ∷ []) None

out_breaks : out-Statement breaks ≡ break_layer
out_breaks = ap out-Statement (sym (rolls-Break (to_zero ∷ []) None)) ∙ out-roll-Statement break_layer

-- ---- any rule for the statements of the process, by its cases

abbrev rules_in : (List ℕ → Layer → Type 0) → Type 0
rules_in P = P [] for_layer × P (0 ∷ []) (Statement-F.Wait 0 (Signal 0 ∷ []) None None) × P [] assignment_layer × P [] break_layer

each_worked : (P : List ℕ → Layer → Type 0) → rules_in P → EachStatement P worked_process.statements
each_worked P h =
    let inner : EachIn P (0 ∷ []) (s.Wait 0 (Signal 0 ∷ []) None None ∷ []) =
    one_more_each P (0 ∷ []) [] (s.Wait 0 (Signal 0 ∷ []) None None) (none_each P (0 ∷ [])) (subst (HoldsAt P (0 ∷ [])) (sym out_wait) (h.1, λ b k. absurd k)) in
    let first : EachIn P [] (waits_twice ∷ []) = one_more_each P [] [] waits_twice (none_each P []) (subst (HoldsAt P []) (sym out_for) (h.0, λ b k. inner)) in
    let second : EachIn P [] (waits_twice ∷ raises ∷ []) = one_more_each P [] (waits_twice ∷ []) raises first (subst (HoldsAt P []) (sym out_raises) (h.2, λ b k. absurd k)) in
    whole_each P worked_process.statements (one_more_each P [] (waits_twice ∷ raises ∷ []) breaks second (subst (HoldsAt P []) (sym out_breaks) (h.3, λ b k. absurd k)))

for_allowed : IsForLoop worked_design worked_process [] 0 (e.Literal (val.Int (pos 0))) (e.Literal (val.Int (pos 1)))
for_allowed =
    record {
      parameter = parameter;
      parameter_is = refl;
      is_parameter = refl;
      kind_is = refl;
      begins = literal_in [] (val.Int (pos 0)) kind.Integer refl;
      ends = literal_in [] (val.Int (pos 1)) kind.Integer refl;
    }

wave_allowed : IsWaveElement worked_design worked_process [] kind.Bit high
wave_allowed = record { value = literal_in [] (val.Bit true) kind.Bit refl; delay = tt }

assignment_allowed : IsSignalAssignment worked_design worked_process [] 0 Whole Transport (high ∷ [])
assignment_allowed =
    record {
      signal = signal;
      signal_is = refl;
      driven = refl;
      subtype = tt;
      limit = tt;
      some = omega arith;
      elements = All-cons (IsWaveElement worked_design worked_process [] kind.Bit) high [] wave_allowed (All-nil (IsWaveElement worked_design worked_process [] kind.Bit));
    }

dot_used : IsTrue (is_in_equations worked_design (unknown.Dot 0))
dot_used = rw (fold-unknown Bool (stands_at (unknown.Dot 0)) (unknown.Dot 0)) refl

break_allowed : IsBreakElement worked_design worked_process [] to_zero
break_allowed =
    record {
      selector = record { dot = 0; dot_is = refl; used = dot_used };
      quantity = omega arith;
      value = literal_in [] (val.Real (pos 0)) kind.Real refl;
    }

statements_allowed : EachStatement (IsAllowed worked_design worked_process) worked_process.statements
statements_allowed =
    each_worked (IsAllowed worked_design worked_process) (
      for_allowed,
      (All-cons (IsSignalName worked_design) (Signal 0) [] (kind.Bit, refl) (All-nil (IsSignalName worked_design)), tt, tt),
      assignment_allowed,
      (All-cons (IsBreakElement worked_design worked_process []) to_zero [] break_allowed (All-nil (IsBreakElement worked_design worked_process [])), tt),
    )

parameters_safe : AreParametersSafe worked_process
parameters_safe = each_worked (IsSafe 1) (omega arith, tt, tt, tt)

loops_nest : Nests worked_process
loops_nest = each_worked HasOwn (refl, tt, tt, tt)

ways_right : AreWaysRight worked_process
ways_right =
    let at_wait : List PathStep = record { statement = 0; branch = 0 } ∷ [] in
    let body : List Statement = s.Wait 0 (Signal 0 ∷ []) None None ∷ [] in
    let waits : List WaitPlace = worked_process.waits in
    let inner : (b : ℕ) → b ≡ 0 → AreRightIn waits (record { statement = 0; branch = b } ∷ []) (0 ∷ []) body =
    λ b zero_it. subst (λ (n : ℕ). AreRightIn waits (record { statement = 0; branch = n } ∷ []) (0 ∷ []) body) (sym zero_it)
    (one_more_is_right waits at_wait (0 ∷ []) [] (s.Wait 0 (Signal 0 ∷ []) None None) (none_is_right waits at_wait (0 ∷ []))
    (subst (IsRightAt waits at_wait (0 ∷ []) 0) (sym out_wait) (refl, λ n h. absurd h))) in
    let first : AreRightIn waits [] [] (waits_twice ∷ []) =
    one_more_is_right waits [] [] [] waits_twice (none_is_right waits [] []) (subst (IsRightAt waits [] [] 0) (sym out_for) (tt, inner)) in
    let second : AreRightIn waits [] [] (waits_twice ∷ raises ∷ []) =
    one_more_is_right waits [] [] (waits_twice ∷ []) raises first (subst (IsRightAt waits [] [] 1) (sym out_raises) (tt, λ n h. absurd h)) in
    whole_is_right worked_process
    (one_more_is_right waits [] [] (waits_twice ∷ raises ∷ []) breaks second (subst (IsRightAt waits [] [] 2) (sym out_breaks) (tt, λ n h. absurd h)))

drivers_used : AreDriversUsed worked_process
drivers_used zero h = ([], [], 1, Whole, Transport, high ∷ [], (refl, ap (λ (x : Layer). Some x) out_raises))
drivers_used (suc i) h = absurd (grind arith)

variable_kept : IsVariable worked_design parameter
variable_kept =
    record {
      declared = record { subtype = tt; initial_is = record { kind_is = refl; range = refl }; lies = refl };
      parameter = λ h. refl;
    }

process_kept : IsProcess worked_design worked_process
process_kept =
    record {
      variables = All-cons (IsVariable worked_design) parameter [] variable_kept (All-nil (IsVariable worked_design));
      statements = statements_allowed;
      drivers = drivers_used;
      ways = ways_right;
      parameters = parameters_safe;
      nests = loops_nest;
    }

-- ---- the objects

few : (b : Bool) → length ((if b then Signal 0 ∷ [] else []) ++ []) ≤ frame_limit
few true = omega arith
few false = omega arith

frame_within : length (frame_of worked_design) ≤ frame_limit
frame_within = few (is_read worked_design (Signal 0))

limits_kept : KeepsLimits worked_design
limits_kept =
    record {
      unknowns = omega arith;
      frame = frame_within;
      signals = omega arith;
      processes = omega arith;
      thresholds = omega arith;
      instances = omega arith;
      branches = All-cons HasFewBranches (Pair slope) [] tt (All-nil HasFewBranches);
    }

abbrev HasRoom : List ℕ → Type 0
HasRoom name = length name ≤ literal_limit

domain_kept : IsEnumeration domain_type
domain_kept =
    record {
      count = omega arith;
      literals = All-cons HasRoom (codes "quiescent_domain") (codes "time_domain" ∷ codes "frequency_domain" ∷ []) (omega arith)
          (All-cons HasRoom (codes "time_domain") (codes "frequency_domain" ∷ []) (omega arith) (All-cons HasRoom (codes "frequency_domain") [] (omega arith) (All-nil HasRoom)));
    }

signal_kept : IsSignal worked_design signal
signal_kept = record { subtype = tt; initial_is = record { kind_is = refl; range = refl }; lies = refl }

quantity_kept : IsQuantity worked_design quantity
quantity_kept = record { terminals = tt; initial = omega arith }

slope_kept : IsPair worked_design slope
slope_kept =
    record {
      left = fold-unknown (Option ValueType) (type_at (equation_scope worked_design)) (unknown.Dot 0) ∙ refl;
      right = literal_is (equation_scope worked_design) (val.Real (pos 1000000000000000000)) kind.Real refl;
    }

abbrev IsDot : ℕ → Type 0
IsDot q = q < 1

pub worked_is_design : WorkedDesign
worked_is_design =
    record {
      numbers = record {
        signals = omega arith;
        quantities = omega arith;
        nodes = omega arith;
        equations = omega arith;
        dots = omega arith;
        thresholds = omega arith;
      };
      limits = limits_kept;
      domain = refl;
      enumeration_count = omega arith;
      enumerations = All-cons IsEnumeration domain_type [] domain_kept (All-nil IsEnumeration);
      signals = All-cons (IsSignal worked_design) signal [] signal_kept (All-nil (IsSignal worked_design));
      quantities = All-cons (IsQuantity worked_design) quantity [] quantity_kept (All-nil (IsQuantity worked_design));
      dots = All-cons IsDot 0 [] (omega arith) (All-nil IsDot);
      dots_once = λ i j d lt le. absurd (omega arith);
      thresholds = All-nil (IsThreshold worked_design);
      thresholds_once = λ i j d lt le. absurd (omega arith);
      equations = All-cons (IsEquation worked_design) (Pair slope) [] slope_kept (All-nil (IsEquation worked_design));
      count = refl;
      instances = All-cons IsSolvable top [] refl (All-nil IsSolvable);
      processes = All-cons (IsProcess worked_design) worked_process [] process_kept (All-nil (IsProcess worked_design));
      drivers_once = λ i j d lt le. absurd (omega arith);
      ramps = All-nil (IsRamp worked_design);
    }
