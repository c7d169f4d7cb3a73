-- The statements that are allowed can be performed.
use Rattle.std.proofs.Common.{◌≡◌, refl, ap, sym, ◌∙◌, subst, ℕ, ◌<◌, List, [], ◌++◌, length, Option, Some, None}
use Rattle.std.specs.List.{slice_get}
use Rattle.std.specs.Option.{ForSome}
use Rattle.std.proofs.lemmas.Option.{slice_get_within}
use Rattle.std.proofs.lemmas.List.{length-map}
use Rattle.std.proofs.lemmas.List.Elements.{All-weaker}
use Rattle.ams_value.specs.declared.value_type.ValueType.{ValueType}
use Rattle.ams_value.specs.declared.value_type.ValueType.TheVariants.{Boolean, Real, Time}
use Rattle.ams_value.specs.Types.{type_of}
use Rattle.flat_expr.specs.declared.expr.FlatExpr.{FlatExpr}
use Rattle.flat_expr.specs.declared.statement.Branch.{Branch, out-Branch}
use Rattle.flat_expr.specs.declared.statement.BreakElement.{BreakElement}
use Rattle.flat_expr.specs.declared.statement.DelayMechanism.{DelayMechanism}
use Rattle.flat_expr.specs.declared.statement.DelayMechanism.TheVariants as mechanism
use Rattle.flat_expr.specs.declared.statement.Statement.{Statement}
use Rattle.flat_expr.specs.declared.statement.Statement.TheOpen.{Statement-F}
use Rattle.flat_design.specs.declared.objects.Variable.{Variable}
use Rattle.flat_design.specs.declared.objects.Process.{Process}
use Rattle.value_types.proofs.Types.{seen_typed}
use Rattle.expr_eval.specs.Condition.{CanEvaluate}
use Rattle.cycle_meaning.specs.Task.{Layer}
use Rattle.cycle_meaning.specs.World.{Context, Local, readings_at}
use Rattle.design_rules.specs.Ways.{layer_at, LeadsTo, IsSafe, HasOwn}
use Rattle.design_rules.specs.Types.{process_scope, IsExpression}
use Rattle.design_rules.specs.Statements.{MayBe, IsWaveElement, IsBreakElement, limit_in, IsAllowed}
use Rattle.process_laws.specs.Resumed.{Surroundings, body_in, AreOf}
use Rattle.process_laws.proofs.Places.{way, parameters_round, leads_on}
use Rattle.statement_values.specs.Limits.{CanEvaluateLimit}
use Rattle.statement_values.specs.Parts.{CanEvaluateElement}
use Rattle.process_ready.specs.Allowed.{CanPerform, EachCan}
use Rattle.process_ready.specs.Ready.{IsReady}

pub leads_to : (top : List Statement) (c : Surroundings) (k : ℕ) (layer : Layer) → AreOf top c → layer_at k (body_in top c) ≡ Some layer →
    LeadsTo (way c ++ []) (parameters_round c ++ []) k layer top
leads_to top c k layer of_text is = leads_on top c of_text [] [] k layer (refl, is)

pub allowed_at : (here : Context) (p : Process) (l : Local) → IsReady here p l → (c : Surroundings) (k : ℕ) (layer : Layer) → AreOf p.statements c → layer_at k (body_in p.statements c) ≡ Some layer →
    IsAllowed here.objects p (parameters_round c ++ []) layer
allowed_at here p l ready c k layer of_text is =
    ready.rules.statements (way c ++ []) (parameters_round c ++ []) k layer (leads_to p.statements c k layer of_text is)

pub own_at : (here : Context) (p : Process) (l : Local) → IsReady here p l → (c : Surroundings) (k : ℕ) (layer : Layer) → AreOf p.statements c → layer_at k (body_in p.statements c) ≡ Some layer →
    HasOwn (parameters_round c ++ []) layer
own_at here p l ready c k layer of_text is = ready.rules.nests (way c ++ []) (parameters_round c ++ []) k layer (leads_to p.statements c k layer of_text is)

pub safe_at : (here : Context) (p : Process) (l : Local) → IsReady here p l → (c : Surroundings) (k : ℕ) (layer : Layer) → AreOf p.statements c → layer_at k (body_in p.statements c) ≡ Some layer →
    IsSafe (length p.variables) (parameters_round c ++ []) layer
safe_at here p l ready c k layer of_text is = ready.rules.parameters (way c ++ []) (parameters_round c ++ []) k layer (leads_to p.statements c k layer of_text is)

can_evaluate : (here : Context) (p : Process) (l : Local) → IsReady here p l → (ps : List ℕ) (k : ValueType) (e : FlatExpr) → IsExpression here.objects p ps k e →
    CanEvaluate (readings_at here l) e
can_evaluate here p l ready ps k e x =
    record {
      scope = process_scope here.objects p;
      kind = k;
      typed = x.typed;
      reads = record {
        signals = λ s j on known. seen_typed (process_scope here.objects p) (readings_at here l) s j ready.reads known;
        variables = ready.reads.variables;
        variables_range = ready.reads.variables_range;
        now = ready.reads.now;
      };
    }

may_evaluate : (here : Context) (p : Process) (l : Local) → IsReady here p l → (ps : List ℕ) (k : ValueType) (o : Option FlatExpr) → MayBe here.objects p ps k o →
    ForSome o (CanEvaluate (readings_at here l))
may_evaluate here p l ready ps k None x = λ e is. absurd cc
may_evaluate here p l ready ps k (Some e) x = λ f is. let same : e ≡ f = cc in subst (CanEvaluate (readings_at here l)) same (can_evaluate here p l ready ps k e x)

may_limit : (here : Context) (p : Process) (l : Local) → IsReady here p l → (ps : List ℕ) (m : DelayMechanism) → MayBe here.objects p ps Time (limit_in m) →
    CanEvaluateLimit (readings_at here l) m
may_limit here p l ready ps mechanism.Transport x = tt
may_limit here p l ready ps (mechanism.Inertial limit) x = may_evaluate here p l ready ps Time limit x

pub as_many : (here : Context) (p : Process) (l : Local) → IsReady here p l → length l.variables ≡ length p.variables
as_many here p l ready =
    sym (length-map l.variables type_of) ∙ (ap length ready.reads.variables ∙ length-map p.variables (λ (x : Variable). x.kind))

variable_there : (here : Context) (p : Process) (l : Local) → IsReady here p l → (i : ℕ) (x : Variable) → slice_get p.variables i ≡ Some x → i < length l.variables
variable_there here p l ready i x is = subst (λ n. i < n) (sym (as_many here p l ready)) (slice_get_within p.variables i x is)

can_perform : (here : Context) (p : Process) (l : Local) → IsReady here p l → (ps : List ℕ) (layer : Layer) → IsAllowed here.objects p ps layer → CanPerform here (readings_at here l) layer
can_perform here p l ready ps (Statement-F.SignalAssignment i c m wave) x = (
  may_limit here p l ready ps m x.limit,
  All-weaker (IsWaveElement here.objects p ps x.signal.kind) (CanEvaluateElement (readings_at here l))
      (λ e h. record { value = can_evaluate here p l ready ps x.signal.kind e.value h.value; delay = may_evaluate here p l ready ps Time e.delay h.delay }) wave x.elements,
  (p, ready.process_is, x.driven),
  x.some,
)
can_perform here p l ready ps (Statement-F.VariableAssignment i c e) x =
    (can_evaluate here p l ready ps x.variable.kind e x.value, variable_there here p l ready i x.variable x.variable_is)
can_perform here p l ready ps (Statement-F.If branches last) x =
    All-weaker (λ (b : Branch). IsExpression here.objects p ps Boolean (out-Branch b).condition) (λ (b : Branch). CanEvaluate (readings_at here l) (out-Branch b).condition)
    (λ b h. can_evaluate here p l ready ps Boolean (out-Branch b).condition h) branches x
can_perform here p l ready ps (Statement-F.Case e alternatives) x = can_evaluate here p l ready ps x.kind e x.typed
can_perform here p l ready ps (Statement-F.Loop condition body) x = may_evaluate here p l ready ps Boolean condition x
can_perform here p l ready ps (Statement-F.For i left direction right body) x =
    (can_evaluate here p l ready ps _ left x.begins, can_evaluate here p l ready ps _ right x.ends, variable_there here p l ready i x.parameter x.parameter_is)
can_perform here p l ready ps (Statement-F.Exit condition) x = may_evaluate here p l ready ps Boolean condition x
can_perform here p l ready ps (Statement-F.Next condition) x = may_evaluate here p l ready ps Boolean condition x
can_perform here p l ready ps (Statement-F.Wait number on condition timeout) x = may_evaluate here p l ready ps Time timeout x.2
can_perform here p l ready ps (Statement-F.Assert e text s) x = can_evaluate here p l ready ps Boolean e x.0
can_perform here p l ready ps (Statement-F.Report text s) x = tt
can_perform here p l ready ps (Statement-F.Break elements condition) x = (
  may_evaluate here p l ready ps Boolean condition x.1,
  All-weaker (IsBreakElement here.objects p ps) (λ (e : BreakElement). CanEvaluate (readings_at here l) e.value) (λ e h. can_evaluate here p l ready ps Real e.value h.value) elements x.0,
)
can_perform here p l ready ps Statement-F.Null x = tt

pub each_can : (here : Context) (p : Process) (l : Local) → IsReady here p l → EachCan here (readings_at here l) p.statements
each_can here p l ready c k layer of_text is = can_perform here p l ready (parameters_round c ++ []) layer (allowed_at here p l ready c k layer of_text is)
