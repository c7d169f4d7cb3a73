-- What a move of the engine keeps and costs, by the laws of the walk; and that after the end nothing changes.
use Rattle.std.specs.Prelude.{◌≡◌, ◌≢◌, ◌&&◌, ◌||◌, true, false, not, cond, List, [], refl}
use Rattle.std.proofs.Common.{ap, sym, subst, ◌∙◌}
use Rattle.ams_value.specs.declared.val.Val.{Val}
use Rattle.step_data.specs.declared.tip.Tip.{Tip}
use Rattle.step_data.specs.declared.tip.Attempt.{Attempt}
use Rattle.step_data.specs.declared.outcome.End.{End}
use Rattle.step_data.specs.Steps.{next, is_failed}
use Rattle.step_model.specs.System.{System}
use Rattle.lockstep_model.specs.declared.moves.Ask.TheVariants as asks
use Rattle.lockstep_model.specs.declared.moves.Moved.{Moved}
use Rattle.lockstep_model.specs.declared.moves.Moved.TheVariants as says
use Rattle.lockstep_model.specs.Works.{Work, Worked, Tried}
use Rattle.lockstep_model.specs.Walk as w
use Rattle.lockstep_model.specs.Walk.{Awaited, Ready, Looking, Settling, Broken, Reply, NoReply, Here, Nothing, Consumed, Keeps, Costs, Begins, Fits}
use Rattle.lockstep_model.specs.WalkLaws.{moved_keeps, moved_costs, moved_begins}
use Rattle.cycle_machine.specs.Held.{Held, Step, Decides, Makes, Stops, next_of}
use Rattle.cycle_machine.specs.Ready.{after, decided, ready, IsReady, ready_ready}
use Rattle.cycle_machine.specs.Moves as moves
use Rattle.cycle_machine.specs.Moves.{Moment, Moving, walk_of, move_of, moving, IsAhead}
use Rattle.cycle_machine.specs.MoveLaws.{moving_is, looks_ahead}

pub moving_keeps : (sys : System) (m : Moment) (reply : Reply) → IsAhead sys m → Keeps (walk_of sys m) (move_of sys (moving sys m reply))
moving_keeps sys m reply t =
    subst (Keeps (walk_of sys m)) (sym (moving_is sys m reply t)) (moved_keeps (walk_of sys m) reply)

pub moving_costs : (attempt : List Val → Tip → Attempt) (sys : System) (m : Moment) (reply : Reply) → IsAhead sys m → m.awaited ≢ Broken → Fits attempt (walk_of sys m) m.awaited reply → Costs (walk_of sys m) reply (move_of sys (moving sys m reply))
moving_costs attempt sys m reply t alive fits =
    subst (Costs (walk_of sys m) reply) (sym (moving_is sys m reply t))
    (moved_costs attempt (walk_of sys m) reply (looks_ahead sys m t) alive fits)

pub moving_begins : (attempt : List Val → Tip → Attempt) (sys : System) (m : Moment) (reply : Reply) → IsAhead sys m → m.awaited ≢ Broken → Fits attempt (walk_of sys m) m.awaited reply → Begins (walk_of sys m) reply (move_of sys (moving sys m reply))
moving_begins attempt sys m reply t alive fits =
    subst (Begins (walk_of sys m) reply) (sym (moving_is sys m reply t))
    (moved_begins attempt (walk_of sys m) reply (looks_ahead sys m t) alive fits)

-- ---- after the end

-- where the end was told nothing comes next
abbrev OverBy : Moved → System → Moment → Type 0
OverBy (says.Ended e) sys m = (m.awaited ≡ Ready) × (next_of sys m.held ≡ Stops e)
OverBy (says.Ask ask) sys m = Unit {0}

abbrev IsOver : System → Moving → Type 0
IsOver sys v = OverBy v.says sys v.moment

proceed_by-over : (sys : System) (s : Step) (m : Moment) → next_of sys m.held ≡ s → IsReady s → IsOver sys (moves.proceed_by s m)
proceed_by-over sys (Decides new) m e r = absurd r
proceed_by-over sys (Makes p (Worked kind events renews standing) new) m e r = tt
proceed_by-over sys (Makes p (Tried tip frame until made crossing events) new) m e r = tt
proceed_by-over sys (Stops end) m e r = (refl, e)

proceed-over : (sys : System) (m : Moment) → IsOver sys (moves.proceed sys m)
proceed-over sys m =
    proceed_by-over sys (next_of sys (ready sys m.held)) (moves.made_ready sys m) refl (ready_ready sys m.held)

own_work-over : (sys : System) (wk : Work) (new : Held) (m : Moment) → IsOver sys (moves.own_work wk new sys m)
own_work-over sys (Worked kind events renews standing) new m = proceed-over sys m
own_work-over sys (Tried tip frame until made crossing events) new m = tt

own_by-over : (sys : System) (s : Step) (m : Moment) → IsOver sys (moves.own_by s sys m)
own_by-over sys (Decides new) m = proceed-over sys m
own_by-over sys (Makes p wk new) m = own_work-over sys wk new m
own_by-over sys (Stops end) m = proceed-over sys m

found_work-over : (sys : System) (wk : Work) (new : Held) (m : Moment) → IsOver sys (moves.found_work wk new sys m)
found_work-over sys (Worked kind events renews standing) new m = proceed-over sys m
found_work-over sys (Tried tip frame until made crossing events) new m =
    elim (crossing || is_failed made.kind) as
    (λ b. IsOver sys (cond b (moves.led events (moves.proceed sys (record m { held = new }))) (record { moment = record m { held = new; awaited = Settling false (next m.tip made) }; says = says.Ask asks.Consume; events = events; computed = 0 }))) [
      | true ↦ proceed-over sys (record m { held = new })
      | false ↦ tt
    ]

found_by-over : (sys : System) (s : Step) (m : Moment) → IsOver sys (moves.found_by s sys m)
found_by-over sys (Decides new) m = proceed-over sys m
found_by-over sys (Makes p wk new) m = found_work-over sys wk new m
found_by-over sys (Stops end) m = proceed-over sys m

moved_at-over : (sys : System) (awaited : Awaited) (reply : Reply) (m : Moment) → IsOver sys (moves.moved_at awaited reply sys m)
moved_at-over sys Ready reply m = proceed-over sys m
moved_at-over sys Looking NoReply m = own_by-over sys (next_of sys m.held) m
moved_at-over sys Looking (Here a) m = found_by-over sys (next_of sys m.held) m
moved_at-over sys Looking Nothing m = own_by-over sys (next_of sys m.held) m
moved_at-over sys Looking (Consumed b) m = own_by-over sys (next_of sys m.held) m
moved_at-over sys (Settling own behind) reply m =
    elim (own && (not (w.was_consumed reply) && not (moves.is_over (next_of sys (ready sys m.held))))) as
    (λ b. IsOver sys (cond b (record { moment = record m { held = ready sys m.held; awaited = Ready; tip = behind }; says = says.Ask asks.Begin; events = []; computed = 0 }) (moves.proceed sys (record m { awaited = Ready; tip = behind })))) [
      | true ↦ tt
      | false ↦ proceed-over sys (record m { awaited = Ready; tip = behind })
    ]
moved_at-over sys Broken reply m = proceed-over sys m

-- what is over is ready
over-ready : (sys : System) (held : Held) (e : End) → next_of sys held ≡ Stops e → ready sys held ≡ held
unfolding ready
over-ready sys held e stops =
    let same : decided sys held ≡ held = ap (λ (s : Step). after s held) stops in
    ap (λ (x : Held). decided sys (decided sys x)) same ∙ ap (λ (x : Held). decided sys x) same ∙ same

-- the move that tells the end, and changes nothing
abbrev pub ends_with : End → Moment → Moving
ends_with e m = record { moment = m; says = says.Ended e; events = []; computed = 0 }

over-again : (sys : System) (m : Moment) (reply : Reply) (e : End) → m.awaited ≡ Ready → next_of sys m.held ≡ Stops e → moving sys m reply ≡ ends_with e m
over-again sys m reply e awaits stops =
    ap (λ (a : Awaited). moves.moved_at a reply sys m) awaits
    ∙ ap (λ (x : Held). moves.proceed_by (next_of sys x) (record m { held = x })) (over-ready sys m.held e stops)
    ∙ ap (λ (s : Step). moves.proceed_by s m) stops
    ∙ ap (λ (a : Awaited). ends_with e (record m { awaited = a })) (sym awaits)

-- once the end was told, every later move tells it again and changes nothing
pub ends_again : (sys : System) (m : Moment) (reply later : Reply) (e : End) → (moving sys m reply).says ≡ says.Ended e → moving sys (moving sys m reply).moment later ≡ ends_with e (moving sys m reply).moment
ends_again sys m reply later e told =
    let over : OverBy (says.Ended e) sys (moving sys m reply).moment = subst (λ (s : Moved). OverBy s sys (moving sys m reply).moment) told (moved_at-over sys m.awaited reply m) in
    over-again sys (moving sys m reply).moment later e over.0 over.1
