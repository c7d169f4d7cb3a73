-- The condition of a wait can be evaluated.
use Rattle.std.proofs.Common.{◌≡◌, refl, ap, sym, ◌∙◌, subst, ℕ, pos, List, [], ◌∷◌, ◌++◌, length, map, Option, Some, None, inl, inr, arith}
use Rattle.std.specs.Prelude.{slice_index_or, option_map}
use Rattle.std.specs.List.{slice_get}
use Rattle.std.specs.Option.{ForSome}
use Rattle.std.proofs.lemmas.Bool.{cases_lt}
use Rattle.std.proofs.lemmas.Option.{slice_get-map, get_or_from_slice_get}
use Rattle.ams_value.specs.declared.val.Val.{Val}
use Rattle.ams_value.specs.declared.value_type.ValueType.{ValueType}
use Rattle.ams_value.specs.declared.value_type.ValueType.TheVariants.{Boolean}
use Rattle.flat_expr.specs.declared.expr.FlatExpr.{FlatExpr}
use Rattle.flat_expr.specs.declared.statement.Statement.{Statement, out-Statement}
use Rattle.flat_expr.specs.declared.statement.Statement.TheOpen.{Statement-F}
use Rattle.flat_design.specs.declared.objects.PathStep.{PathStep}
use Rattle.flat_design.specs.declared.objects.WaitPlace.{WaitPlace}
use Rattle.flat_design.specs.declared.objects.Process.{Process}
use Rattle.value_types.proofs.Types.{seen_typed}
use Rattle.expr_eval.specs.Condition.{CanEvaluate}
use Rattle.cycle_meaning.specs.Task.{Layer, branch_body, alternative_body}
use Rattle.cycle_meaning.specs.World.{Context, Local, readings_at}
use Rattle.cycle_meaning.specs.Cycles.{Waiting, waiting_inside, waiting_in, waiting_at}
use Rattle.design_rules.specs.Ways.{layer_of, layer_at}
use Rattle.design_rules.specs.Types.{process_scope, IsExpression}
use Rattle.design_rules.specs.Statements.{MayBe}
use Rattle.process_laws.specs.Resumed.{Surroundings, outermost, inside, body_in, AreOf}
use Rattle.process_laws.proofs.Places.{parameters_round}
use Rattle.process_ready.specs.Ready.{IsReady}
use Rattle.process_ready.proofs.Allowed.{allowed_at}
use Rattle.process_stack.proofs.Rounds.{branch_last, alternative_none}
use Rattle.kernel_world.specs.declared.world.World.{World}
use Rattle.kernel_world.specs.Acting.{context_of, world_of}
use Rattle.resumption.specs.Sleeps.{Sleep, waits_of, waiting_or_none, local_with}
use Rattle.resumption.specs.Waits.{contexts_of, IsThere}
use Rattle.resumption.proofs.Walks.{nowhere}

can_evaluate : (here : Context) (p : Process) (l : Local) → IsReady here p l → (ps : List ℕ) (k : ValueType) (e : FlatExpr) → IsExpression here.objects p ps k e →
    CanEvaluate (readings_at here l) e
can_evaluate here p l ready ps k e x =
    record {
      scope = process_scope here.objects p;
      kind = k;
      typed = x.typed;
      reads = record {
        signals = λ s j on known. seen_typed (process_scope here.objects p) (readings_at here l) s j ready.reads known;
        variables = ready.reads.variables;
        variables_range = ready.reads.variables_range;
        now = ready.reads.now;
      };
    }

may_evaluate : (here : Context) (p : Process) (l : Local) → IsReady here p l → (ps : List ℕ) (k : ValueType) (o : Option FlatExpr) → MayBe here.objects p ps k o →
    ForSome o (CanEvaluate (readings_at here l))
may_evaluate here p l ready ps k None x = λ e is. absurd cc
may_evaluate here p l ready ps k (Some e) x = λ f is. let same : e ≡ f = cc in subst (CanEvaluate (readings_at here l)) same (can_evaluate here p l ready ps k e x)

-- ---- whatever a way leads to

-- the condition of what is waited for, if there is one
abbrev pub CanAsk : Context → Local → Waiting → Type 0
CanAsk here l w = ForSome w.1 (CanEvaluate (readings_at here l))

nothing_asked : (here : Context) (l : Local) → CanAsk here l ([], None)
nothing_asked here l = λ e is. absurd cc

abbrev Leads : Context → Process → Local → (List Statement → Waiting) → Type 0
Leads here p l further = (c : Surroundings) → AreOf p.statements c → CanAsk here l (further (body_in p.statements c))

asked_if : (here : Context) (p : Process) (l : Local) (further : List Statement → Waiting) → Leads here p l further → (c : Surroundings) (k b : ℕ) (branches : List _) (last : List Statement)
    → AreOf p.statements c → layer_at k (body_in p.statements c) ≡ Some (Statement-F.If branches last) → CanAsk here l (further (branch_body branches last b))
asked_if here p l further leads c k b branches last of_text is =
    elim (cases_lt b (length branches)) [
      | inl h ↦ leads (inside c k b (Statement-F.If branches last) (pos 0)) (of_text, is, omega arith)
      | inr h ↦
          let same : branch_body branches last (length branches) ≡ branch_body branches last b = sym (branch_last branches last (length branches) (omega arith)) ∙ branch_last branches last b h in
          subst (λ body. CanAsk here l (further body)) same (leads (inside c k (length branches) (Statement-F.If branches last) (pos 0)) (of_text, is, omega arith))
    ]

asked_case : (here : Context) (p : Process) (l : Local) (further : List Statement → Waiting) → Leads here p l further → further [] ≡ ([], None) → (c : Surroundings) (k b : ℕ) (e : FlatExpr) (alternatives : List _)
    → AreOf p.statements c → layer_at k (body_in p.statements c) ≡ Some (Statement-F.Case e alternatives) → CanAsk here l (further (alternative_body alternatives b))
asked_case here p l further leads empty c k b e alternatives of_text is =
    elim (cases_lt b (length alternatives)) [
      | inl h ↦ leads (inside c k b (Statement-F.Case e alternatives) (pos 0)) (of_text, is, h)
      | inr h ↦ subst (λ w. CanAsk here l w) (sym empty ∙ ap further (alternative_none alternatives b h)) (nothing_asked here l)
    ]

asked_inside : (here : Context) (p : Process) (l : Local) → IsReady here p l → (further : List Statement → Waiting) → Leads here p l further → further [] ≡ ([], None) → (c : Surroundings) (k b : ℕ) (layer : Layer)
    → AreOf p.statements c → layer_at k (body_in p.statements c) ≡ Some layer → CanAsk here l (waiting_inside further b layer)
asked_inside here p l ready further leads empty c k b (Statement-F.If branches last) of_text is = asked_if here p l further leads c k b branches last of_text is
asked_inside here p l ready further leads empty c k b (Statement-F.Case e alternatives) of_text is = asked_case here p l further leads empty c k b e alternatives of_text is
asked_inside here p l ready further leads empty c k b (Statement-F.Loop condition body) of_text is = leads (inside c k 0 (Statement-F.Loop condition body) (pos 0)) (of_text, is, refl)
asked_inside here p l ready further leads empty c k b (Statement-F.For i left direction right body) of_text is =
    leads (inside c k 0 (Statement-F.For i left direction right body) (pos 0)) (of_text, is, refl)
asked_inside here p l ready further leads empty c k b (Statement-F.Wait number on condition timeout) of_text is =
    may_evaluate here p l ready (parameters_round c ++ []) Boolean condition (allowed_at here p l ready c k (Statement-F.Wait number on condition timeout) of_text is).1
asked_inside here p l ready further leads empty c k b (Statement-F.SignalAssignment _ _ _ _) of_text is = nothing_asked here l
asked_inside here p l ready further leads empty c k b (Statement-F.VariableAssignment _ _ _) of_text is = nothing_asked here l
asked_inside here p l ready further leads empty c k b (Statement-F.Exit _) of_text is = nothing_asked here l
asked_inside here p l ready further leads empty c k b (Statement-F.Next _) of_text is = nothing_asked here l
asked_inside here p l ready further leads empty c k b (Statement-F.Assert _ _ _) of_text is = nothing_asked here l
asked_inside here p l ready further leads empty c k b (Statement-F.Report _ _) of_text is = nothing_asked here l
asked_inside here p l ready further leads empty c k b (Statement-F.Break _ _) of_text is = nothing_asked here l
asked_inside here p l ready further leads empty c k b Statement-F.Null of_text is = nothing_asked here l

asked_in : (here : Context) (p : Process) (l : Local) → IsReady here p l → (further : List Statement → Waiting) → Leads here p l further → further [] ≡ ([], None) → (c : Surroundings) (k b : ℕ) (o : Option Statement)
    → AreOf p.statements c → slice_get (body_in p.statements c) k ≡ o → CanAsk here l (waiting_in further b o)
asked_in here p l ready further leads empty c k b None of_text is = nothing_asked here l
asked_in here p l ready further leads empty c k b (Some s) of_text is = asked_inside here p l ready further leads empty c k b (out-Statement s) of_text (ap layer_of is)

asked_along : (here : Context) (p : Process) (l : Local) → IsReady here p l → (path : List PathStep) → Leads here p l (waiting_at path)
unfolding waiting_at
asked_along here p l ready [] = λ c of_text. nothing_asked here l
asked_along here p l ready (step ∷ path) = λ c of_text.
    asked_in here p l ready (waiting_at path) (asked_along here p l ready path) (nowhere path) c step.statement step.branch (slice_get (body_in p.statements c) step.statement) of_text refl

-- ---- the waits of a process

asked_place : (here : Context) (p : Process) (l : Local) → IsReady here p l → (o : Option WaitPlace) → CanAsk here l (waiting_or_none (option_map (λ (w : WaitPlace). waiting_at w.path p.statements) o))
asked_place here p l ready None = nothing_asked here l
asked_place here p l ready (Some w) = asked_along here p l ready w.path outermost tt

asked_number : (here : Context) (p : Process) (l : Local) → IsReady here p l → (n : ℕ) → CanAsk here l (waiting_or_none (slice_get (waits_of p) n))
asked_number here p l ready n =
    subst (λ o. CanAsk here l (waiting_or_none o)) (sym (slice_get-map (λ (w : WaitPlace). waiting_at w.path p.statements) p.waits n)) (asked_place here p l ready (slice_get p.waits n))

row_there : (ps : List Process) (k : ℕ) (p : Process) → slice_get ps k ≡ Some p → slice_index_or (map waits_of ps) k [] ≡ waits_of p
row_there ps k p is = get_or_from_slice_get (map waits_of ps) k (waits_of p) [] (slice_get-map waits_of ps k ∙ ap (option_map waits_of) is)

pub can_ask : (w : World) (k : ℕ) (z : Sleep) (rows : List (List Waiting)) → rows ≡ map waits_of (context_of w).objects.processes → IsThere w k z →
    CanAsk (contexts_of w k) (local_with (world_of w) z) (waiting_or_none (slice_get (slice_index_or rows k []) z.wait))
can_ask w k z rows are there =
    let row : slice_index_or rows k [] ≡ waits_of there.0 = ap (λ (r : List (List Waiting)). slice_index_or r k []) are ∙ row_there (context_of w).objects.processes k there.0 there.1.process_is in
    subst (λ (r : List Waiting). CanAsk (contexts_of w k) (local_with (world_of w) z) (waiting_or_none (slice_get r z.wait))) (sym row) (asked_number (contexts_of w k) there.0 (local_with (world_of w) z) there.1 z.wait)

pub asks : (w : World) (k : ℕ) (z : Sleep) (rows : List (List Waiting)) (vs : List Val) (n : ℕ) (q : Waiting) → rows ≡ map waits_of (context_of w).objects.processes → IsThere w k z
    → vs ≡ z.variables → n ≡ z.wait → q ≡ waiting_or_none (slice_get (slice_index_or rows k []) n) → CanAsk (contexts_of w k) (record { world = world_of w; variables = vs }) q
asks w k z rows vs n q are there same number found =
    subst (λ (v : List Val). CanAsk (contexts_of w k) (record { world = world_of w; variables = v }) q) (sym same)
    (subst (CanAsk (contexts_of w k) (local_with (world_of w) z)) (sym (found ∙ ap (λ i. waiting_or_none (slice_get (slice_index_or rows k []) i)) number)) (can_ask w k z rows are there))
