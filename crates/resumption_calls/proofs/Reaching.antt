-- Whoever isn't called is quiet.
use Rattle.std.proofs.Common.{◌≡◌, refl, ap, sym, ◌∙◌, ℕ, suc, ◌<◌, Bool, true, false, ◌||◌, List, [], ◌∷◌, length, get_or, slice_get, arith}
use Rattle.std.specs.List.{list_any, Contains}
use Rattle.flat_expr.specs.declared.expr.SignalName.{SignalName}
use Rattle.flat_expr.specs.declared.expr.SignalName.TheVariants as name
use Rattle.design_meaning.specs.Readings.{seen_of}
use Rattle.cycle_meaning.specs.World.{World, Context, Local, readings_at}
use Rattle.cycle_meaning.specs.Cycles.{is_timed_out}
use Rattle.resumption.specs.Sleeps.{Sleep, local_with, waiting_or_none}
use Rattle.resumption.specs.Waits.{no_sleep}
use Rattle.resumption_calls.specs.Calls.{is_called, had_event, AreCalled, CallsSuffice}

event_is : (here : Context) (l : Local) (i : SignalName) → (seen_of (readings_at here l) i).event ≡ had_event l.world i
event_is here l (name.Signal i) = refl
event_is here l (name.Threshold k) = refl
event_is here l name.Domain = refl

-- none of some names passes a test that no member passes
none_of : (t : SignalName → Bool) (xs : List SignalName) → ((i : SignalName) → Contains xs i → t i ≡ false) → list_any t xs ≡ false
none_of t [] h = refl
none_of t (x ∷ xs) h =
    ap (λ b. b || list_any t xs) (h x (0, omega arith, refl)) ∙ none_of t xs (λ i c. h i (suc c.0, omega (arith, c.1), c.2))

not_both : (b : Bool) → (b ≡ true → true ≡ false) → b ≡ false
not_both true h = h refl
not_both false h = refl

quiet_timeout : (at : ℕ → Context) (w : World) (lists : SignalName → List ℕ) (sleeps : List Sleep) (called : List ℕ) (j : ℕ) → AreCalled at w lists sleeps called → j < length sleeps → is_called called j ≡ false
    → is_timed_out (at j).t (get_or sleeps j no_sleep).timeout ≡ false
quiet_timeout at w lists sleeps called j are h other =
    not_both (is_timed_out (at j).t (get_or sleeps j no_sleep).timeout) (λ due. sym (are.timeouts j h due) ∙ other)

quiet_name : (at : ℕ → Context) (w : World) (lists : SignalName → List ℕ) (sleeps : List Sleep) (called : List ℕ) (j : ℕ) (here : Context) (l : Local) (i : SignalName) → AreCalled at w lists sleeps called
    → is_called called j ≡ false → l.world ≡ w → is_called (lists i) j ≡ true → (seen_of (readings_at here l) i).event ≡ false
quiet_name at w lists sleeps called j here l i are other same stands =
    event_is here l i ∙ (ap (λ (v : World). had_event v i) same ∙ not_both (had_event w i) (λ event. sym (are.events i j event stands) ∙ other))

pub calls_suffice : CallsSuffice
calls_suffice at w lists rows sleeps called have are = λ j h other. record {
  timeout = quiet_timeout at w lists sleeps called j are h other;
  events = none_of _ (waiting_or_none (slice_get (get_or rows j []) (get_or sleeps j no_sleep).wait)).0
      (λ i c. quiet_name at w lists sleeps called j (at j) (local_with w (get_or sleeps j no_sleep)) i are other refl (have j (get_or sleeps j no_sleep).wait i c));
}
