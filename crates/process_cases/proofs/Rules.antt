-- The process is well formed, and ready at its first statement.
use Rattle.std.proofs.Common.{◌≡◌, ◌<◌, ◌≤◌, ◌≢◌, refl, ap, sym, ◌∙◌, subst, ℕ, zero, suc, pos, Bool, false, List, [], ◌∷◌, Option, Some, None, slice_set, arith}
use Rattle.std.specs.Prelude.{IsTrue}
use Rattle.std.specs.List.{All}
use Rattle.std.proofs.lemmas.List.Elements.{All-nil, All-cons}
use Rattle.fix_core.specs.Units.{most_ticks}
use Rattle.ams_value.specs.declared.val.Val.{Val}
use Rattle.ams_value.specs.declared.val.Val.TheVariants as val
use Rattle.ams_value.specs.declared.value_type.ValueType.{ValueType}
use Rattle.ams_value.specs.declared.value_type.ValueType.TheVariants as kind
use Rattle.ams_value.specs.Types.{type_of, is_in_range}
use Rattle.flat_expr.specs.declared.expr.FlatExpr.{FlatExpr}
use Rattle.flat_expr.specs.declared.expr.FlatExpr.TheOpen.{FlatExpr-F}
use Rattle.flat_expr.specs.declared.expr.FlatExpr.TheVariants as e
use Rattle.flat_expr.specs.declared.expr.FlatExpr.TheVariants.{rolls-Literal}
use Rattle.flat_expr.specs.declared.expr.FlatExpr.TheFolds.{fold-FlatExpr, fold-roll-FlatExpr}
use Rattle.flat_expr.specs.declared.statement.Severity.TheVariants.{Note}
use Rattle.flat_expr.specs.declared.statement.Statement.{Statement, out-Statement}
use Rattle.flat_expr.specs.declared.statement.Statement.TheOpen.{Statement-F}
use Rattle.flat_expr.specs.declared.statement.Statement.TheViews.{out-roll-Statement}
use Rattle.flat_expr.specs.declared.statement.Statement.TheVariants as s
use Rattle.flat_expr.specs.declared.statement.Statement.TheVariants.{rolls-Loop, rolls-Wait, rolls-Exit, rolls-Report, rolls-Null}
use Rattle.flat_design.specs.declared.objects.WaitPlace.{WaitPlace}
use Rattle.step_data.specs.declared.breaks.Element.{Element}
use Rattle.step_data.specs.declared.event.Event.{Event}
use Rattle.step_data.specs.declared.trans.Trans.{Trans}
use Rattle.design_meaning.specs.Readings.{Seen}
use Rattle.design_meaning.specs.Typed.{type_at}
use Rattle.cycle_meaning.specs.Task.{Layer}
use Rattle.design_rules.specs.Ways.{EachStatement, AreWaysRight, AreParametersSafe, IsSafe, HasOwn, Nests}
use Rattle.design_rules.specs.Types.{sizes_of, process_scope, named_at, IsVisible, IsExpression}
use Rattle.design_rules.specs.Statements.{IsAllowed, IsSignalName, IsText}
use Rattle.design_rules.specs.Building.{EachIn, HoldsAt, AreRightIn, IsRightAt}
use Rattle.design_rules.specs.Design.{IsVariable, AreDriversUsed, IsProcess}
use Rattle.design_rules.proofs.Each.{whole_each, none_each, one_more_each}
use Rattle.design_rules.proofs.Ways.{whole_is_right, none_is_right, one_more_is_right}
use Rattle.proc_exec.specs.Running.{StandsReady}
use Rattle.process_rest.specs.Resting.{IsWorld, at_first}
use Rattle.process_rest.proofs.ReadyAgain.{starts_ready}
use Rattle.process_cases.specs.Cases.{waits_once, says, waits_for, spins, case_text, case_process, case_objects, case_context, case_local}

-- ---- the delay

fold-literal : (A : Type 0) (step : FlatExpr-F A → A) (v : Val) → fold-FlatExpr A step (e.Literal v) ≡ step (FlatExpr-F.Literal v)
fold-literal A step v = ap (fold-FlatExpr A step) (sym (rolls-Literal v)) ∙ fold-roll-FlatExpr A step (FlatExpr-F.Literal v)

delay_allowed : IsExpression case_objects case_process [] kind.Time (e.Literal (val.Time (pos 5)))
delay_allowed =
    record {
      typed = fold-literal (Option ValueType) (type_at (process_scope case_objects case_process)) (val.Time (pos 5)) ∙ refl;
      visible = subst (All (IsVisible case_process.variables [])) (sym (fold-literal (List ℕ) named_at (val.Time (pos 5)))) (All-nil (IsVisible case_process.variables []));
    }

-- ---- statements, opened

out_loop : (body : List Statement) → out-Statement (s.Loop None body) ≡ Statement-F.Loop None body
out_loop body = ap out-Statement (sym (rolls-Loop None body)) ∙ out-roll-Statement (Statement-F.Loop None body)

out_wait : (number : ℕ) (timeout : Option FlatExpr) → out-Statement (s.Wait number [] None timeout) ≡ Statement-F.Wait number [] None timeout
out_wait number timeout = ap out-Statement (sym (rolls-Wait number [] None timeout)) ∙ out-roll-Statement (Statement-F.Wait number [] None timeout)

out_exit : out-Statement (s.Exit None) ≡ Statement-F.Exit None
out_exit = ap out-Statement (sym (rolls-Exit None)) ∙ out-roll-Statement (Statement-F.Exit None)

out_report : out-Statement says ≡ Statement-F.Report (97 ∷ []) Note
out_report = ap out-Statement (sym (rolls-Report (97 ∷ []) Note)) ∙ out-roll-Statement (Statement-F.Report (97 ∷ []) Note)

out_null : out-Statement s.Null ≡ Statement-F.Null
out_null = ap out-Statement (sym rolls-Null) ∙ out-roll-Statement Statement-F.Null

abbrev wait_and_exit : List Statement
wait_and_exit = s.Wait 0 [] None None ∷ s.Exit None ∷ []

abbrev nothing : List Statement
nothing = s.Null ∷ []

abbrev delay : Option FlatExpr
delay = Some (e.Literal (val.Time (pos 5)))

-- ---- any rule for the statements of the process, by its cases

abbrev rules_in : (List ℕ → Layer → Type 0) → Type 0
rules_in P =
    P [] (Statement-F.Loop None wait_and_exit)
    × P [] (Statement-F.Wait 0 [] None None)
    × P [] (Statement-F.Exit None)
    × P [] (Statement-F.Report (97 ∷ []) Note)
    × P [] (Statement-F.Wait 1 [] None delay)
    × P [] (Statement-F.Loop None nothing)
    × P [] Statement-F.Null

each_case : (P : List ℕ → Layer → Type 0) → rules_in P → EachStatement P case_text
each_case P h =
    let waiting : EachIn P [] (s.Wait 0 [] None None ∷ []) =
    one_more_each P [] [] (s.Wait 0 [] None None) (none_each P []) (subst (HoldsAt P []) (sym (out_wait 0 None)) (h.1, λ b k. absurd k)) in
    let inner : EachIn P [] wait_and_exit =
    one_more_each P [] (s.Wait 0 [] None None ∷ []) (s.Exit None) waiting (subst (HoldsAt P []) (sym out_exit) (h.2, λ b k. absurd k)) in
    let turning : EachIn P [] nothing = one_more_each P [] [] s.Null (none_each P []) (subst (HoldsAt P []) (sym out_null) (h.6, λ b k. absurd k)) in
    let first : EachIn P [] (waits_once ∷ []) = one_more_each P [] [] waits_once (none_each P []) (subst (HoldsAt P []) (sym (out_loop wait_and_exit)) (h.0, λ b k. inner)) in
    let second : EachIn P [] (waits_once ∷ says ∷ []) = one_more_each P [] (waits_once ∷ []) says first (subst (HoldsAt P []) (sym out_report) (h.3, λ b k. absurd k)) in
    let third : EachIn P [] (waits_once ∷ says ∷ waits_for ∷ []) =
    one_more_each P [] (waits_once ∷ says ∷ []) waits_for second (subst (HoldsAt P []) (sym (out_wait 1 delay)) (h.4, λ b k. absurd k)) in
    whole_each P case_text
    (one_more_each P [] (waits_once ∷ says ∷ waits_for ∷ []) spins third (subst (HoldsAt P []) (sym (out_loop nothing)) (h.5, λ b k. turning)))

abbrev IsByte : ℕ → Type 0
IsByte b = (b < 128) × (b ≢ 10)

text_allowed : IsText (97 ∷ [])
text_allowed = All-cons IsByte 97 [] (omega arith, λ same. omega (arith, same)) (All-nil IsByte)

statements_allowed : EachStatement (IsAllowed case_objects case_process) case_text
statements_allowed =
    each_case (IsAllowed case_objects case_process) (
      tt,
      (All-nil (IsSignalName case_objects), tt, tt),
      tt,
      text_allowed,
      (All-nil (IsSignalName case_objects), tt, delay_allowed),
      tt,
      tt,
    )

parameters_safe : AreParametersSafe case_process
parameters_safe = each_case (IsSafe 0) (tt, tt, tt, tt, tt, tt, tt)

loops_nest : Nests case_process
loops_nest = each_case HasOwn (tt, tt, tt, tt, tt, tt, tt)

ways_right : AreWaysRight case_process
ways_right =
    let waits : List WaitPlace = case_process.waits in
    let inner : (b : ℕ) → b ≡ 0 → AreRightIn waits (record { statement = 0; branch = b } ∷ []) [] wait_and_exit =
    λ b zero_it. subst (λ (n : ℕ). AreRightIn waits (record { statement = 0; branch = n } ∷ []) [] wait_and_exit) (sym zero_it)
    (one_more_is_right waits (record { statement = 0; branch = 0 } ∷ []) [] (s.Wait 0 [] None None ∷ []) (s.Exit None)
    (one_more_is_right waits (record { statement = 0; branch = 0 } ∷ []) [] [] (s.Wait 0 [] None None) (none_is_right waits (record { statement = 0; branch = 0 } ∷ []) [])
    (subst (IsRightAt waits (record { statement = 0; branch = 0 } ∷ []) [] 0) (sym (out_wait 0 None)) (refl, λ n h. absurd h)))
    (subst (IsRightAt waits (record { statement = 0; branch = 0 } ∷ []) [] 1) (sym out_exit) (tt, λ n h. absurd h))) in
    let turning : (b : ℕ) → b ≡ 0 → AreRightIn waits (record { statement = 3; branch = b } ∷ []) [] nothing =
    λ b zero_it. one_more_is_right waits (record { statement = 3; branch = b } ∷ []) [] [] s.Null (none_is_right waits (record { statement = 3; branch = b } ∷ []) [])
    (subst (IsRightAt waits (record { statement = 3; branch = b } ∷ []) [] 0) (sym out_null) (tt, λ n h. absurd h)) in
    let first : AreRightIn waits [] [] (waits_once ∷ []) =
    one_more_is_right waits [] [] [] waits_once (none_is_right waits [] []) (subst (IsRightAt waits [] [] 0) (sym (out_loop wait_and_exit)) (tt, inner)) in
    let second : AreRightIn waits [] [] (waits_once ∷ says ∷ []) =
    one_more_is_right waits [] [] (waits_once ∷ []) says first (subst (IsRightAt waits [] [] 1) (sym out_report) (tt, λ n h. absurd h)) in
    let third : AreRightIn waits [] [] (waits_once ∷ says ∷ waits_for ∷ []) =
    one_more_is_right waits [] [] (waits_once ∷ says ∷ []) waits_for second (subst (IsRightAt waits [] [] 2) (sym (out_wait 1 delay)) (refl, λ n h. absurd h)) in
    whole_is_right case_process
    (one_more_is_right waits [] [] (waits_once ∷ says ∷ waits_for ∷ []) spins third (subst (IsRightAt waits [] [] 3) (sym (out_loop nothing)) (tt, turning)))

drivers_used : AreDriversUsed case_process
drivers_used i h = absurd cc

process_kept : IsProcess case_objects case_process
process_kept =
    record {
      variables = All-nil (IsVariable case_objects);
      statements = statements_allowed;
      drivers = drivers_used;
      ways = ways_right;
      parameters = parameters_safe;
      nests = loops_nest;
    }

-- ---- its world

abbrev HasRange : Seen → Type 0
HasRange x = IsTrue (is_in_range (sizes_of case_objects) x.value)

abbrev IsBoolean : Seen → Type 0
IsBoolean x = type_of x.value ≡ kind.Boolean

is_world : (t : ℕ) → t ≤ most_ticks → IsWorld (case_context 0 t) (case_local [] [] false []).world
is_world t early =
    record {
      signals = refl;
      signals_range = All-nil HasRange;
      thresholds = refl;
      thresholds_kind = All-nil IsBoolean;
      domain = refl;
      domain_range = refl;
      quantities = refl;
      references = refl;
      dots = refl;
      now = early;
    }

starts : (t : ℕ) → t ≤ most_ticks → StandsReady (case_context 0 t) (case_local [] [] false []) case_text at_first
starts t early = starts_ready (case_context 0 t) (case_local [] [] false []).world case_process refl process_kept (is_world t early)

pub ready_at : (process t : ℕ) (variables : List Val) (elements : List Element) (broke : Bool) (events : List Event) (text : List Statement)
    → process ≡ 0 → t ≡ 0 → variables ≡ [] → elements ≡ [] → broke ≡ false → events ≡ [] → text ≡ case_text
    → StandsReady (case_context process t) (case_local variables elements broke events) text at_first
ready_at process t variables elements broke events text first time no_variables none still no_events same =
    rw (first, time, no_variables, none, still, no_events, same) (starts 0 (omega arith))

-- no driver has a queue here
pub no_queue : (i : ℕ) (pending : List Trans) → slice_set [] i pending ≡ []
no_queue zero pending = refl
no_queue (suc i) pending = refl
