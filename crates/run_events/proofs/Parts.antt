-- What a statement evaluates doesn't depend on the events.
use Rattle.std.proofs.Common.{◌≡◌, refl, ap, ◌∙◌, ℕ, Bool, not, ℤ, List, [], ◌∷◌, ◌++◌, Option, Some, None, Result, Ok, Err}
use Rattle.message_codes.specs.Codes.{range, double_break}
use Rattle.fix_core.specs.Passes.{◌>>=◌}
use Rattle.ams_value.specs.declared.val.Val.{Val}
use Rattle.ams_value.specs.Values.{is_true, ticks_of}
use Rattle.flat_expr.specs.declared.expr.FlatExpr.{FlatExpr}
use Rattle.flat_expr.specs.declared.statement.Branch.{Branch, out-Branch}
use Rattle.flat_expr.specs.declared.statement.BreakElement.{BreakElement}
use Rattle.flat_expr.specs.declared.statement.WaveElement.{WaveElement}
use Rattle.flat_expr.specs.declared.statement.DelayMechanism.{DelayMechanism}
use Rattle.flat_expr.specs.declared.statement.DelayMechanism.TheVariants as mechanism
use Rattle.flat_expr.specs.declared.statement.Statement.{Statement}
use Rattle.step_data.specs.declared.trans.Trans.{Trans}
use Rattle.step_data.specs.declared.breaks.Element.{Element}
use Rattle.step_data.specs.Selectors.{has_selector}
use Rattle.step_data.specs.declared.event.Event.{Event}
use Rattle.step_data.specs.declared.outcome.Refusal.{Refusal}
use Rattle.cycle_meaning.specs.World.{Context, Local, refusal, refused_where, evaluated, holds, time_after}
use Rattle.cycle_meaning.specs.Statements.{delay_of, bad_delay, transactions, limit_of, body_if, branch_taken, executed_element, elements_of, timeout_of}
use Rattle.run_laws.specs.Events.{local_behind}

-- ---- calls one after the other

bind_on : {A B : Type 0} (m : Result A Refusal) (f g : A → Result B Refusal) → ((a : A) → f a ≡ g a) → (m >>= f) ≡ (m >>= g)
bind_on (Ok a) f g follow = follow a
bind_on (Err r) f g follow = refl

pub bind_alike : {A B : Type 0} (m n : Result A Refusal) (f g : A → Result B Refusal) → m ≡ n → ((a : A) → f a ≡ g a) → (m >>= f) ≡ (n >>= g)
bind_alike m n f g same follow = ap (λ x. x >>= f) same ∙ bind_on n f g follow

-- ---- the parts

pub holds_alike : (here : Context) (l : Local) (events : List Event) (o : Option FlatExpr) → holds here (local_behind events l) o ≡ holds here l o
holds_alike here l events None = refl
holds_alike here l events (Some e) = refl

delay_alike : (here : Context) (l : Local) (events : List Event) (o : Option FlatExpr) → delay_of here (local_behind events l) o ≡ delay_of here l o
delay_alike here l events None = refl
delay_alike here l events (Some e) = refl

pub timeout_alike : (here : Context) (l : Local) (events : List Event) (o : Option FlatExpr) → timeout_of here (local_behind events l) o ≡ timeout_of here l o
timeout_alike here l events None = refl
timeout_alike here l events (Some e) = refl

pub limit_alike : (here : Context) (l : Local) (events : List Event) (m : DelayMechanism) → limit_of here (local_behind events l) m ≡ limit_of here l m
limit_alike here l events mechanism.Transport = refl
limit_alike here l events (mechanism.Inertial None) = refl
limit_alike here l events (mechanism.Inertial (Some e)) = refl

pub transactions_alike : (here : Context) (l : Local) (events : List Event) (fits : Val → Bool) (limit before : Option ℤ) (wave : List WaveElement) →
    transactions here (local_behind events l) fits limit before wave ≡ transactions here l fits limit before wave
unfolding transactions
transactions_alike here l events fits limit before [] = refl
transactions_alike here l events fits limit before (w ∷ more) =
    bind_on (evaluated here l w.value) (λ v. delay_of here m w.delay >>= (λ d. tested m v d)) (λ v. delay_of here l w.delay >>= (λ d. tested l v d))
    (λ v. bind_alike (delay_of here m w.delay) (delay_of here l w.delay) (tested m v) (tested l v) (delay_alike here l events w.delay)
    (λ d. bind_on (refused_where (not (fits v)) (refusal here range) v) (delayed m d) (delayed l d)
    (λ u. bind_on (refused_where (bad_delay limit before (ticks_of d)) (refusal here range) (ticks_of d)) (timed m d u) (timed l d u)
    (λ delay. bind_on (time_after here d) (λ at. later m at u delay) (λ at. later l at u delay)
    (λ at. ap (λ (r : Result (List Trans) Refusal). r >>= (λ others. Ok (record { at = at; value = u } ∷ others))) (transactions_alike here l events fits limit (Some delay) more))))))
  where
    m : Local
    m = local_behind events l

    later : Local → ℕ → Val → ℤ → Result (List Trans) Refusal
    later k at u delay = transactions here k fits limit (Some delay) more >>= (λ others. Ok (record { at = at; value = u } ∷ others))

    timed : Local → Val → Val → ℤ → Result (List Trans) Refusal
    timed k d u delay = time_after here d >>= (λ at. later k at u delay)

    delayed : Local → Val → Val → Result (List Trans) Refusal
    delayed k d u = refused_where (bad_delay limit before (ticks_of d)) (refusal here range) (ticks_of d) >>= (λ delay. timed k d u delay)

    tested : Local → Val → Val → Result (List Trans) Refusal
    tested k v d = refused_where (not (fits v)) (refusal here range) v >>= (λ u. delayed k d u)

pub branch_alike : (here : Context) (l : Local) (events : List Event) (branches : List Branch) (last : List Statement) → branch_taken here (local_behind events l) branches last ≡ branch_taken here l branches last
unfolding branch_taken
branch_alike here l events [] last = refl
branch_alike here l events (b ∷ more) last =
    bind_on (evaluated here l (out-Branch b).condition) (λ v. body_if (is_true v) (out-Branch b).body (branch_taken here (local_behind events l) more last)) (λ v. body_if (is_true v) (out-Branch b).body (branch_taken here l more last))
    (λ v. ap (body_if (is_true v) (out-Branch b).body) (branch_alike here l events more last))

pub elements_alike : (here : Context) (l : Local) (events : List Event) (earlier : List Element) (list : List BreakElement) → elements_of here (local_behind events l) earlier list ≡ elements_of here l earlier list
unfolding elements_of
elements_alike here l events earlier [] = refl
elements_alike here l events earlier (e ∷ more) =
    bind_on (evaluated here l e.value) (made_of (local_behind events l)) (made_of l)
    (λ v. bind_on (refused_where (has_selector e.selector earlier) (record { code = double_break; detail = Some e.selector }) (executed_element e v)) (later (local_behind events l)) (later l)
    (λ made. ap (λ (r : Result (List Element) Refusal). r >>= (λ others. Ok (made ∷ others))) (elements_alike here l events (earlier ++ made ∷ []) more)))
  where
    later : Local → Element → Result (List Element) Refusal
    later k made = elements_of here k (earlier ++ made ∷ []) more >>= (λ others. Ok (made ∷ others))

    made_of : Local → Val → Result (List Element) Refusal
    made_of k v = refused_where (has_selector e.selector earlier) (record { code = double_break; detail = Some e.selector }) (executed_element e v) >>= later k
