-- What a statement changes of the world.
use Rattle.std.proofs.Common.{◌≡◌, ◌≤◌, refl, ◌∙◌, subst, ℕ, Bool, true, false, not, ◌&&◌, List, [], ◌++◌, Option, Some, None, Result, Ok, Err, slice_set}
use Rattle.std.specs.Prelude.{IfSome, IsTrue}
use Rattle.std.specs.List.{All, slice_get}
use Rattle.std.proofs.lemmas.List.Elements.{All-nil, All-push, All-set}
use Rattle.message_codes.specs.Codes.{range}
use Rattle.fix_core.specs.Passes.{◌>>=◌}
use Rattle.ams_value.specs.declared.val.Val.{Val}
use Rattle.ams_value.specs.Values.{is_true}
use Rattle.flat_expr.specs.declared.expr.FlatExpr.{FlatExpr}
use Rattle.flat_expr.specs.declared.subtype.Constraint.{Constraint}
use Rattle.flat_expr.specs.Subtype.{lies_in}
use Rattle.flat_expr.specs.declared.statement.BreakElement.{BreakElement}
use Rattle.flat_expr.specs.declared.statement.WaveElement.{WaveElement}
use Rattle.flat_expr.specs.declared.statement.DelayMechanism.{DelayMechanism}
use Rattle.flat_expr.specs.declared.statement.Severity.{Severity}
use Rattle.flat_expr.specs.declared.statement.Severity.TheVariants as severity
use Rattle.flat_expr.specs.declared.statement.Statement.{Statement}
use Rattle.flat_expr.specs.declared.statement.Statement.TheOpen.{Statement-F}
use Rattle.step_data.specs.declared.trans.Trans.{Trans}
use Rattle.step_data.specs.declared.event.Event.{Event}
use Rattle.step_data.specs.declared.event.Event.TheVariants as event
use Rattle.step_data.specs.declared.outcome.Refusal.{Refusal}
use Rattle.step_model.specs.System.{System}
use Rattle.step_model.specs.Printing.{can_print}
use Rattle.waveform.specs.Projected.{projected}
use Rattle.driver_set.specs.Queues.{AreLate}
use Rattle.cycle_meaning.specs.Task.{Task, Layer, statements}
use Rattle.cycle_meaning.specs.World.{World, Context, Local, evaluated, holds, refusal, refused_where, time_after, number_of_driver, pending_of, with_event}
use Rattle.cycle_meaning.specs.Statements.{Step, goes_on, waits, refuses, or_refuses, goes, signal_assignment, variable_assignment, limit_of, transactions, assigned, delay_kind_of, rejection, constraint_of, branch_taken, alternative_taken, for_loop, reported, asserted, break_by, elements_of, with_elements, timeout_of, executed}
use Rattle.run_laws.specs.Changes.{ChangesTo}
use Rattle.run_changes.proofs.Waveforms.{by_steps, ok_is, projected_all, element_of, time_is_late, transactions_late}

-- what becomes of a world, and of the times in it
pub record Goes (t : ℕ) (before after : World) : Type 0 where
  pub changes : ChangesTo before after
  pub late : AreLate t before.queues → AreLate t after.queues

pub goes_nowhere : (t : ℕ) (w : World) → Goes t w w
goes_nowhere t w = record { changes = record { signals = refl; thresholds = refl; domain = refl; printable = λ sys h. h }; late = λ h. h }

pub changes_on : (a b c : World) → ChangesTo a b → ChangesTo b c → ChangesTo a c
changes_on a b c f g =
    record {
      signals = g.signals ∙ f.signals;
      thresholds = g.thresholds ∙ f.thresholds;
      domain = g.domain ∙ f.domain;
      printable = λ sys h. g.printable sys (f.printable sys h);
    }

pub goes_further : (t : ℕ) (a b c : World) → Goes t a b → Goes t b c → Goes t a c
goes_further t a b c f g = record { changes = changes_on a b c f.changes g.changes; late = λ h. g.late (f.late h) }

-- a further event that can be printed
told : (t : ℕ) (w : World) (e : Event) → ((sys : System) → IsTrue (can_print sys e)) → Goes t w (with_event e w)
told t w e h =
    record {
      changes = record {
        signals = refl;
        thresholds = refl;
        domain = refl;
        printable = λ sys all. All-push (λ (x : Event). IsTrue (can_print sys x)) w.events e all (h sys);
      };
      late = λ late. late;
    }

-- ---- what a statement leads to

abbrev pub StepGoes : ℕ → World → Step → Type 0
StepGoes t w (goes_on rest l) = Goes t w l.world
StepGoes t w (waits number at rest l) = Goes t w l.world × IfSome at (λ u. t ≤ u)
StepGoes t w (refuses l r) = Goes t w l.world

each_goes : {A : Type 0} (here : Context) (l : Local) (go : A → Step) (r : Result A Refusal) → ((a : A) → r ≡ Ok a → StepGoes here.t l.world (go a)) → StepGoes here.t l.world (or_refuses l go r)
each_goes here l go (Ok a) follow = follow a refl
each_goes here l go (Err r) follow = goes_nowhere here.t l.world

-- ---- signal assignment

AllLate : ℕ → List Trans → Type 0
AllLate t xs = All (λ (x : Trans). t ≤ x.at) xs

assigned_goes : (here : Context) (l : Local) (i : ℕ) (c : Constraint) (m : DelayMechanism) (wave : List WaveElement) (after : Local) → signal_assignment here l i c m wave ≡ Ok after → Goes here.t l.world after.world
assigned_goes here l i c m wave =
    by_steps (λ (after : Local). Goes here.t l.world after.world) (limit_of here l m) (λ limit. transactions here l fits limit None wave >>= (λ new. Ok (assigned here i m limit new l)))
    (λ limit b _. by_steps (λ (after : Local). Goes here.t l.world after.world) (transactions here l fits limit None wave) (λ new. Ok (assigned here i m limit new l))
    (λ new after made e. subst (λ (after : Local). Goes here.t l.world after.world) (ok_is (assigned here i m limit new l) after e)
    (record {
      changes = record { signals = refl; thresholds = refl; domain = refl; printable = λ sys h. h };
      late = λ late. All-set (All (λ (x : Trans). here.t ≤ x.at)) l.world.queues (number_of_driver here.objects i)
          (projected (delay_kind_of m) (rejection here.t limit new) (pending_of here.objects l.world i) new)
          (projected_all (λ (x : Trans). here.t ≤ x.at) (delay_kind_of m) (rejection here.t limit new) (pending_of here.objects l.world i) new
          (element_of (All (λ (x : Trans). here.t ≤ x.at)) l.world.queues (number_of_driver here.objects i) [] (All-nil (λ (x : Trans). here.t ≤ x.at)) late)
          (transactions_late here l fits limit None wave new made)) late;
    })) b)
  where
    fits : Val → Bool
    fits v = lies_in c v && lies_in (constraint_of (slice_get here.objects.signals i)) v

-- ---- variables

variable_goes : (here : Context) (l : Local) (i : ℕ) (c : Constraint) (e : FlatExpr) (after : Local) → variable_assignment here l i c e ≡ Ok after → Goes here.t l.world after.world
variable_goes here l i c e =
    by_steps (λ (after : Local). Goes here.t l.world after.world) (evaluated here l e) (λ v. refused_where (not (lies_in c v)) (refusal here range) v >>= (λ tested. Ok (record l { variables = slice_set l.variables i tested })))
    (λ v b _. by_steps (λ (after : Local). Goes here.t l.world after.world) (refused_where (not (lies_in c v)) (refusal here range) v) (λ tested. Ok (record l { variables = slice_set l.variables i tested }))
    (λ tested after _ is. subst (λ (after : Local). Goes here.t l.world after.world) (ok_is (record l { variables = slice_set l.variables i tested }) after is) (goes_nowhere here.t l.world)) b)

-- ---- reports and breaks

reported_goes : (here : Context) (s : Severity) (text : List ℕ) (rest : List Task) (l : Local) → StepGoes here.t l.world (reported here s text rest l)
reported_goes here severity.Note text rest l = told here.t l.world (event.Report here.t here.n 0 text) (λ sys. refl)
reported_goes here severity.Warning text rest l = told here.t l.world (event.Report here.t here.n 1 text) (λ sys. refl)
reported_goes here severity.Error text rest l = told here.t l.world (event.Report here.t here.n 2 text) (λ sys. refl)
reported_goes here severity.Failure text rest l = told here.t l.world (event.Report here.t here.n 3 text) (λ sys. refl)

asserted_goes : (here : Context) (t : Bool) (report : Step) (rest : List Task) (l : Local) → StepGoes here.t l.world report → StepGoes here.t l.world (asserted t report rest l)
asserted_goes here true report rest l h = goes_nowhere here.t l.world
asserted_goes here false report rest l h = h

broken_goes : (here : Context) (l : Local) (elements : List BreakElement) (holding : Result Bool Refusal) (after : Local) → (holding >>= break_by here l elements) ≡ Ok after → Goes here.t l.world after.world
broken_goes here l elements (Err r) after e = absurd cc
broken_goes here l elements (Ok false) after e = subst (λ (after : Local). Goes here.t l.world after.world) (ok_is l after e) (goes_nowhere here.t l.world)
broken_goes here l elements (Ok true) after e =
    by_steps (λ (after : Local). Goes here.t l.world after.world) (elements_of here l l.world.elements elements) (λ made. Ok (with_elements here made l))
    (λ made b _ is. subst (λ (after : Local). Goes here.t l.world after.world) (ok_is (with_elements here made l) b is)
    (record {
      changes = record {
        signals = refl;
        thresholds = refl;
        domain = refl;
        printable = λ sys all. All-push (λ (x : Event). IsTrue (can_print sys x)) l.world.events (event.Broke here.t here.n made) all refl;
      };
      late = λ late. late;
    })) after e

-- ---- wait

timeout_late : (here : Context) (l : Local) (o : Option FlatExpr) (at : Option ℕ) → timeout_of here l o ≡ Ok at → IfSome at (λ u. here.t ≤ u)
timeout_late here l None at e = subst (λ (o : Option ℕ). IfSome o (λ u. here.t ≤ u)) (ok_is None at e) tt
timeout_late here l (Some d) at e =
    by_steps (λ (o : Option ℕ). IfSome o (λ u. here.t ≤ u)) (evaluated here l d) (λ v. time_after here v >>= (λ u. Ok (Some u)))
    (λ v b _. by_steps (λ (o : Option ℕ). IfSome o (λ u. here.t ≤ u)) (time_after here v) (λ u. Ok (Some u))
    (λ u b u_is is. subst (λ (o : Option ℕ). IfSome o (λ u. here.t ≤ u)) (ok_is (Some u) b is) (time_is_late here v u u_is)) b) at e

-- ---- the statements by cases

pub executed_goes : (here : Context) (l : Local) (rest : List Task) (layer : Layer) → StepGoes here.t l.world (executed here l rest layer)
executed_goes here l rest (Statement-F.SignalAssignment i c m wave) = each_goes here l (goes rest) (signal_assignment here l i c m wave) (assigned_goes here l i c m wave)
executed_goes here l rest (Statement-F.VariableAssignment i c e) = each_goes here l (goes rest) (variable_assignment here l i c e) (variable_goes here l i c e)
executed_goes here l rest (Statement-F.If branches last) =
    each_goes here l (λ (body : List Statement). goes_on (statements body ++ rest) l) (branch_taken here l branches last) (λ _ _. goes_nowhere here.t l.world)
executed_goes here l rest (Statement-F.Case e alternatives) =
    each_goes here l (λ (v : Val). goes_on (statements (alternative_taken alternatives v) ++ rest) l) (evaluated here l e) (λ _ _. goes_nowhere here.t l.world)
executed_goes here l rest (Statement-F.Loop condition body) = goes_nowhere here.t l.world
executed_goes here l rest (Statement-F.For p left direction right body) =
    each_goes here l (λ (turn : List Task). goes_on (turn ++ rest) l) (for_loop here l p left direction right body) (λ _ _. goes_nowhere here.t l.world)
executed_goes here l rest (Statement-F.Exit condition) = each_goes here l _ (holds here l condition) (λ _ _. goes_nowhere here.t l.world)
executed_goes here l rest (Statement-F.Next condition) = each_goes here l _ (holds here l condition) (λ _ _. goes_nowhere here.t l.world)
executed_goes here l rest (Statement-F.Wait number on condition timeout) =
    each_goes here l (λ (at : Option ℕ). waits number at rest l) (timeout_of here l timeout) (λ at is. (goes_nowhere here.t l.world, timeout_late here l timeout at is))
executed_goes here l rest (Statement-F.Assert e text s) =
    each_goes here l (λ (v : Val). asserted (is_true v) (reported here s text rest l) rest l) (evaluated here l e)
    (λ v _. asserted_goes here (is_true v) (reported here s text rest l) rest l (reported_goes here s text rest l))
executed_goes here l rest (Statement-F.Report text s) = reported_goes here s text rest l
executed_goes here l rest (Statement-F.Break elements condition) =
    each_goes here l (goes rest) (holds here l condition >>= break_by here l elements) (broken_goes here l elements (holds here l condition))
executed_goes here l rest Statement-F.Null = goes_nowhere here.t l.world
