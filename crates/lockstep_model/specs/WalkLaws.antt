-- Laws of the walk: whatever is replied, the run is the same one, and it comes to its end.
use Rattle.std.specs.Prelude.{◌≡◌, ◌≢◌, ℕ, ◌+◌, ◌<◌, ◌&&◌, ◌||◌, Bool, true, false, not, cond, List, [], ◌∷◌, ◌++◌, refl}
use Rattle.std.proofs.Common.{arith, append_assoc, ap, sym, ◌∙◌}
use Rattle.ams_value.specs.declared.val.Val.{Val}
use Rattle.step_data.specs.declared.tip.Tip.{Tip}
use Rattle.step_data.specs.declared.tip.Attempt.{Attempt}
use Rattle.step_data.specs.declared.event.Event.{Event}
use Rattle.step_data.specs.Steps.{next, is_failed}
use Rattle.lockstep_model.specs.declared.moves.Ask.TheVariants as asks
use Rattle.lockstep_model.specs.declared.moves.Moved.{Moved}
use Rattle.lockstep_model.specs.declared.moves.Moved.TheVariants as says
use Rattle.lockstep_model.specs.Works.{Work, Worked, Tried, events_of, attempts_in, renewals_in}
use Rattle.lockstep_model.specs.Walk.{Walk, Move, Awaited, Ready, Looking, Settling, Broken, Reply, NoReply, Here, Nothing, Consumed, Keeps, Costs, Fits, LooksAhead, StartsTried, proceed, proceed_to, own_first, found_first, led_by, after_consume, was_consumed, has_none, looked, moved_at, moved, here, nothing, weight, moves_left, FallsBelow, Awaits, Begins, begins_said, may_begin}

ready_looks : (awaited : Awaited) (works : List Work) → awaited ≡ Ready → LooksAhead awaited works
ready_looks Ready works e = tt
ready_looks Looking works e = cc
ready_looks (Settling own after) works e = tt
ready_looks Broken works e = tt

looking_looks : (awaited : Awaited) (works : List Work) → awaited ≡ Looking → StartsTried works → LooksAhead awaited works
looking_looks Ready works e h = tt
looking_looks Looking works e h = h
looking_looks (Settling own after) works e h = tt
looking_looks Broken works e h = tt

settling_looks : (own : Bool) (after : Tip) (awaited : Awaited) (works : List Work) → awaited ≡ Settling own after → LooksAhead awaited works
settling_looks own after Ready works e = tt
settling_looks own after Looking works e = cc
settling_looks own after (Settling own' after') works e = tt
settling_looks own after Broken works e = tt

proceed_to-keeps : (works : List Work) (w : Walk) (awaited : Awaited) (tip : Tip) → Keeps (record w { works = works; awaited = awaited; tip = tip }) (proceed_to works (record w { works = works; awaited = awaited; tip = tip }))
proceed_to-keeps [] w awaited tip = record { events = refl; end = refl; ended = (refl, refl); awaits = refl }
proceed_to-keeps (Worked kind events false standing ∷ works) w awaited tip =
    record { events = refl; end = refl; ended = tt; awaits = refl }
proceed_to-keeps (Worked kind events true standing ∷ works) w awaited tip =
    record { events = refl; end = refl; ended = tt; awaits = refl }
proceed_to-keeps (Tried at frame until made crossing events ∷ works) w awaited tip =
    record { events = refl; end = refl; ended = tt; awaits = (refl, tt) }

own_first-keeps : (works : List Work) (w : Walk) (awaited : Awaited) → Keeps (record w { works = works; awaited = awaited }) (own_first works (record w { works = works; awaited = awaited }))
own_first-keeps [] w awaited = proceed_to-keeps [] w awaited w.tip
own_first-keeps (Worked kind events renews standing ∷ works) w awaited =
    proceed_to-keeps (Worked kind events renews standing ∷ works) w awaited w.tip
own_first-keeps (Tried tip frame until made true events ∷ works) w awaited =
    record { events = refl; end = refl; ended = tt; awaits = refl }
own_first-keeps (Tried tip frame until made false events ∷ works) w awaited =
    record { events = refl; end = refl; ended = tt; awaits = (true, next w.tip made, refl) }

-- events before a move that keeps the rest of the works
led_by-keeps : (work : Work) (works : List Work) (events : List Event) (w w' : Walk) (m : Move) → events_of (work ∷ works) ≡ events ++ events_of works → w.works ≡ work ∷ works → w'.works ≡ works → w.end ≡ w'.end → Keeps w' m → Keeps w (led_by events m)
led_by-keeps work works events w w' m e old new end k =
    record {
      events = append_assoc events m.events (events_of m.walk.works)
          ∙ ap (λ es. events ++ es) k.events
          ∙ ap (λ ws. events ++ events_of ws) new
          ∙ sym e
          ∙ ap events_of (sym old);
      end = k.end ∙ sym end;
      ended = k.ended;
      awaits = k.awaits;
    }

found_first-keeps : (works : List Work) (w : Walk) (awaited : Awaited) → Keeps (record w { works = works; awaited = awaited }) (found_first works (record w { works = works; awaited = awaited }))
found_first-keeps [] w awaited = proceed_to-keeps [] w awaited w.tip
found_first-keeps (Worked kind events renews standing ∷ works) w awaited =
    proceed_to-keeps (Worked kind events renews standing ∷ works) w awaited w.tip
found_first-keeps (Tried tip frame until made crossing events ∷ works) w awaited =
    let old : Walk = record w { works = Tried tip frame until made crossing events ∷ works; awaited = awaited } in
    elim (crossing || is_failed made.kind) as
    (λ b. Keeps old (cond b (led_by events (proceed (record old { works = works }))) (record { walk = record old { works = works; awaited = Settling false (next w.tip made) }; says = says.Ask asks.Consume; events = events; computed = 0 }))) [
      | true ↦
          led_by-keeps (Tried tip frame until made crossing events) works events old (record old { works = works })
          (proceed (record old { works = works })) refl refl refl refl (proceed_to-keeps works w awaited w.tip)
      | false ↦
          record { events = refl; end = refl; ended = tt; awaits = (false, next w.tip made, refl) }
    ]

after_consume-keeps : (own : Bool) (after : Tip) (consumed : Bool) (w : Walk) → Keeps w (after_consume own after consumed w)
after_consume-keeps own after consumed w =
    elim (own && (not consumed && not (has_none w.works))) as
    (λ b. Keeps w (cond b (record { walk = record w { awaited = Ready; tip = after }; says = says.Ask asks.Begin; events = []; computed = 0 }) (proceed (record w { awaited = Ready; tip = after })))) [
      | true ↦ record { events = refl; end = refl; ended = tt; awaits = refl }
      | false ↦ like_old (proceed_to-keeps w.works w Ready after)
    ]
  where
    like_old : {m : Move} → Keeps (record w { awaited = Ready; tip = after }) m → Keeps w m
    like_old k = record { events = k.events; end = k.end; ended = k.ended; awaits = k.awaits }

looked-keeps : (reply : Reply) (w : Walk) → Keeps w (looked reply w)
looked-keeps NoReply w = own_first-keeps w.works w w.awaited
looked-keeps (Here a) w = found_first-keeps w.works w w.awaited
looked-keeps Nothing w = own_first-keeps w.works w w.awaited
looked-keeps (Consumed b) w = own_first-keeps w.works w w.awaited

moved_at-keeps : (awaited : Awaited) (reply : Reply) (w : Walk) → Keeps w (moved_at awaited reply w)
moved_at-keeps Ready reply w = proceed_to-keeps w.works w w.awaited w.tip
moved_at-keeps Looking reply w = looked-keeps reply w
moved_at-keeps (Settling own after) reply w = after_consume-keeps own after (was_consumed reply) w
moved_at-keeps Broken reply w = proceed_to-keeps w.works w w.awaited w.tip

-- whatever is replied, the events of a move and then those of the works that it leaves are those of the works before
pub moved_keeps : (w : Walk) (reply : Reply) → Keeps w (moved w reply)
moved_keeps w reply = moved_at-keeps w.awaited reply w

-- a move that used no attempt, and after which less is left
record Passes (works : List Work) (own bound : ℕ) (m : Move) : Type 0 where
  own_is : m.walk.own ≡ own
  attempts : attempts_in m.walk.works ≡ attempts_in works
  falls : FallsBelow bound m.walk m.says

proceed_to-passes : (works : List Work) (bound : ℕ) (w : Walk) → weight works < bound → Passes works w.own bound (proceed_to works (record w { works = works }))
proceed_to-passes [] bound w low = record { own_is = refl; attempts = refl; falls = tt }
proceed_to-passes (Worked kind events renews standing ∷ works) bound w low =
    record { own_is = refl; attempts = refl; falls = low }
proceed_to-passes (Tried tip frame until made crossing events ∷ works) bound w low =
    record { own_is = refl; attempts = refl; falls = low }

-- where no attempt was in the reply, such a move costs nothing
passes-costs : (old : Walk) (reply : Reply) (m : Move) → here reply ≡ 0 → nothing reply ≡ 0 → Passes old.works old.own (moves_left old) m → Costs old reply m
passes-costs old reply m none none' p =
    record {
      spends = λ h. let own = p.own_is in let attempts = p.attempts in omega arith;
      owns = λ h. let own = p.own_is in omega arith;
      falls = p.falls;
    }

own_first-costs : (works : List Work) (w : Walk) → StartsTried works → Costs (record w { works = works; awaited = Looking }) Nothing (own_first works (record w { works = works; awaited = Looking }))
own_first-costs [] w h = absurd h
own_first-costs (Worked kind events renews standing ∷ works) w h = absurd h
own_first-costs (Tried tip frame until made true events ∷ works) w h =
    record { spends = λ h. omega arith; owns = λ h. omega arith; falls = omega arith }
own_first-costs (Tried tip frame until made false events ∷ works) w h =
    record { spends = λ h. omega arith; owns = λ h. omega arith; falls = omega arith }

found_first-costs : (a : Attempt) (works : List Work) (w : Walk) → StartsTried works → Costs (record w { works = works; awaited = Looking }) (Here a) (found_first works (record w { works = works; awaited = Looking }))
found_first-costs a [] w h = absurd h
found_first-costs a (Worked kind events renews standing ∷ works) w h = absurd h
found_first-costs a (Tried tip frame until made crossing events ∷ works) w h =
    let old : Walk = record w { works = Tried tip frame until made crossing events ∷ works; awaited = Looking } in
    elim (crossing || is_failed made.kind) as
    (λ b. Costs old (Here a) (cond b (led_by events (proceed (record old { works = works }))) (record { walk = record old { works = works; awaited = Settling false (next w.tip made) }; says = says.Ask asks.Consume; events = events; computed = 0 }))) [
      | true ↦ skips (proceed_to-passes works (weight works + 3) (record old { works = works }) (omega arith))
      | false ↦ record { spends = λ h. omega arith; owns = λ h. omega arith; falls = omega arith }
    ]
  where
    skips : Passes works w.own (weight works + 3) (proceed (record w { works = works; awaited = Looking })) → Costs (record w { works = Tried tip frame until made crossing events ∷ works; awaited = Looking }) (Here a) (led_by events (proceed (record w { works = works; awaited = Looking })))
    skips p =
        record {
          spends = λ h. let own = p.own_is in let attempts = p.attempts in omega arith;
          owns = λ h. let own = p.own_is in omega arith;
          falls = p.falls;
        }

after_consume-costs : (own : Bool) (after : Tip) (reply : Reply) (consumed : Bool) (w : Walk) → here reply ≡ 0 → nothing reply ≡ 0 → Costs (record w { awaited = Settling own after }) reply (after_consume own after consumed (record w { awaited = Settling own after }))
after_consume-costs own after reply consumed w none none' =
    let old : Walk = record w { awaited = Settling own after } in
    elim (own && (not consumed && not (has_none w.works))) as
    (λ b. Costs old reply (cond b (record { walk = record old { awaited = Ready; tip = after }; says = says.Ask asks.Begin; events = []; computed = 0 }) (proceed (record old { awaited = Ready; tip = after })))) [
      | true ↦ record { spends = λ h. omega arith; owns = λ h. omega arith; falls = omega arith }
      | false ↦
          passes-costs old reply (proceed (record old { awaited = Ready; tip = after })) none none'
          (proceed_to-passes w.works (weight w.works + 2) (record old { awaited = Ready; tip = after }) (omega arith))
    ]

moved_at-costs : (attempt : List Val → Tip → Attempt) (awaited : Awaited) (reply : Reply) (w : Walk) → LooksAhead awaited w.works → awaited ≢ Broken → Fits attempt (record w { awaited = awaited }) awaited reply → Costs (record w { awaited = awaited }) reply (moved_at awaited reply (record w { awaited = awaited }))
moved_at-costs attempt Ready NoReply w h live fits =
    passes-costs (record w { awaited = Ready }) NoReply (proceed (record w { awaited = Ready })) refl refl
    (proceed_to-passes w.works (weight w.works + 1) (record w { awaited = Ready }) (omega arith))
moved_at-costs attempt Ready (Here a) w h live fits = absurd fits
moved_at-costs attempt Ready Nothing w h live fits = absurd fits
moved_at-costs attempt Ready (Consumed b) w h live fits = absurd fits
moved_at-costs attempt Looking NoReply w h live fits = absurd fits
moved_at-costs attempt Looking (Here a) w h live fits = found_first-costs a w.works w h
moved_at-costs attempt Looking Nothing w h live fits = own_first-costs w.works w h
moved_at-costs attempt Looking (Consumed b) w h live fits = absurd fits
moved_at-costs attempt (Settling own after) NoReply w h live fits = absurd fits
moved_at-costs attempt (Settling own after) (Here a) w h live fits = absurd fits
moved_at-costs attempt (Settling own after) Nothing w h live fits = absurd fits
moved_at-costs attempt (Settling own after) (Consumed b) w h live fits =
    after_consume-costs own after (Consumed b) b w refl refl
moved_at-costs attempt Broken reply w h live fits = absurd (live refl)

-- each attempt is found once or made once, and the moves come to an end
pub moved_costs : (attempt : List Val → Tip → Attempt) (w : Walk) (reply : Reply) → LooksAhead w.awaited w.works → w.awaited ≢ Broken → Fits attempt w w.awaited reply → Costs w reply (moved w reply)
moved_costs attempt w reply h live fits = moved_at-costs attempt w.awaited reply w h live fits

-- what a move asks leaves an attempt first where a look is awaited
pub looks_ahead : (w : Walk) (m : Moved) → Awaits w m → LooksAhead w.awaited w.works
looks_ahead w (says.Ended e) h = ready_looks w.awaited w.works h
looks_ahead w (says.Ask asks.None) h = ready_looks w.awaited w.works h
looks_ahead w (says.Ask asks.Begin) h = ready_looks w.awaited w.works h
looks_ahead w (says.Ask (asks.Look until)) h = looking_looks w.awaited w.works h.0 h.1
looks_ahead w (says.Ask asks.Consume) (own, after, e) = settling_looks own after w.awaited w.works e

-- begins of a move that does the next work
record BeginsFrom (works : List Work) (m : Move) : Type 0 where
  same : begins_said m.says + renewals_in m.walk.works ≡ renewals_in works
  none : may_begin m.walk.awaited ≡ 0

proceed_to-begins : (works : List Work) (w : Walk) → BeginsFrom works (proceed_to works (record w { works = works }))
proceed_to-begins [] w = record { same = omega arith; none = refl }
proceed_to-begins (Worked kind events false standing ∷ works) w = record { same = refl; none = refl }
proceed_to-begins (Worked kind events true standing ∷ works) w = record { same = refl; none = refl }
proceed_to-begins (Tried tip frame until made crossing events ∷ works) w = record { same = omega arith; none = refl }

from-begins : (w : Walk) (reply : Reply) (m : Move) → BeginsFrom w.works m → Begins w reply m
from-begins w reply m b =
    let same = b.same in
    let none = b.none in
    record { least = omega arith; most = omega arith }

own_first-begins : (works : List Work) (w : Walk) → StartsTried works → Begins (record w { works = works; awaited = Looking }) Nothing (own_first works (record w { works = works; awaited = Looking }))
own_first-begins [] w h = absurd h
own_first-begins (Worked kind events renews standing ∷ works) w h = absurd h
own_first-begins (Tried tip frame until made true events ∷ works) w h =
    record { least = omega arith; most = omega arith }
own_first-begins (Tried tip frame until made false events ∷ works) w h =
    record { least = omega arith; most = omega arith }

found_first-begins : (a : Attempt) (works : List Work) (w : Walk) → StartsTried works → Begins (record w { works = works; awaited = Looking }) (Here a) (found_first works (record w { works = works; awaited = Looking }))
found_first-begins a [] w h = absurd h
found_first-begins a (Worked kind events renews standing ∷ works) w h = absurd h
found_first-begins a (Tried tip frame until made crossing events ∷ works) w h =
    let old : Walk = record w { works = Tried tip frame until made crossing events ∷ works; awaited = Looking } in
    elim (crossing || is_failed made.kind) as
    (λ b. Begins old (Here a) (cond b (led_by events (proceed (record old { works = works }))) (record { walk = record old { works = works; awaited = Settling false (next w.tip made) }; says = says.Ask asks.Consume; events = events; computed = 0 }))) [
      | true ↦ skips (proceed_to-begins works (record old { works = works }))
      | false ↦ record { least = omega arith; most = omega arith }
    ]
  where
    skips : BeginsFrom works (proceed (record w { works = works; awaited = Looking })) → Begins (record w { works = Tried tip frame until made crossing events ∷ works; awaited = Looking }) (Here a) (led_by events (proceed (record w { works = works; awaited = Looking })))
    skips b =
        let same = b.same in
        let none = b.none in
        record { least = omega arith; most = omega arith }

after_consume-begins : (own : Bool) (after : Tip) (reply : Reply) (consumed : Bool) (w : Walk) → Begins (record w { awaited = Settling own after }) reply (after_consume own after consumed (record w { awaited = Settling own after }))
after_consume-begins false after reply consumed w =
    from-begins (record w { awaited = Settling false after }) reply (proceed (record w { awaited = Ready; tip = after }))
    (proceed_to-begins w.works (record w { awaited = Ready; tip = after }))
after_consume-begins true after reply consumed w =
    let old : Walk = record w { awaited = Settling true after } in
    elim (not consumed && not (has_none w.works)) as
    (λ b. Begins old reply (cond b (record { walk = record old { awaited = Ready; tip = after }; says = says.Ask asks.Begin; events = []; computed = 0 }) (proceed (record old { awaited = Ready; tip = after })))) [
      | true ↦ record { least = omega arith; most = omega arith }
      | false ↦
          from-begins old reply (proceed (record old { awaited = Ready; tip = after }))
          (proceed_to-begins w.works (record old { awaited = Ready; tip = after }))
    ]

moved_at-begins : (attempt : List Val → Tip → Attempt) (awaited : Awaited) (reply : Reply) (w : Walk) → LooksAhead awaited w.works → awaited ≢ Broken → Fits attempt (record w { awaited = awaited }) awaited reply → Begins (record w { awaited = awaited }) reply (moved_at awaited reply (record w { awaited = awaited }))
moved_at-begins attempt Ready reply w h live fits =
    from-begins (record w { awaited = Ready }) reply (proceed (record w { awaited = Ready })) (proceed_to-begins w.works (record w { awaited = Ready }))
moved_at-begins attempt Looking NoReply w h live fits = absurd fits
moved_at-begins attempt Looking (Here a) w h live fits = found_first-begins a w.works w h
moved_at-begins attempt Looking Nothing w h live fits = own_first-begins w.works w h
moved_at-begins attempt Looking (Consumed b) w h live fits = absurd fits
moved_at-begins attempt (Settling own after) reply w h live fits =
    after_consume-begins own after reply (was_consumed reply) w
moved_at-begins attempt Broken reply w h live fits = absurd (live refl)

-- a begin for each work that renews, and at most one more for each own attempt
pub moved_begins : (attempt : List Val → Tip → Attempt) (w : Walk) (reply : Reply) → LooksAhead w.awaited w.works → w.awaited ≢ Broken → Fits attempt w w.awaited reply → Begins w reply (moved w reply)
moved_begins attempt w reply h live fits = moved_at-begins attempt w.awaited reply w h live fits
