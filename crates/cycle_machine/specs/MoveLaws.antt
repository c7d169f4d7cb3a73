-- The moves of the engine are those of the walk of the run that is left.
use Rattle.std.specs.Prelude.{◌≡◌, ℕ, ◌&&◌, ◌||◌, Bool, true, false, not, cond, [], refl}
use Rattle.std.proofs.Common.{ap, sym, subst, ◌∙◌}
use Rattle.step_data.specs.declared.tip.Tip.{Tip}
use Rattle.step_data.specs.declared.outcome.End.{End}
use Rattle.step_data.specs.Steps.{next, is_failed}
use Rattle.step_model.specs.System.{System}
use Rattle.lockstep_model.specs.declared.moves.Ask.TheVariants as asks
use Rattle.lockstep_model.specs.declared.moves.Moved.TheVariants as says
use Rattle.lockstep_model.specs.RunStates.{RunState}
use Rattle.lockstep_model.specs.Works.{Run, Work, Worked, Tried}
use Rattle.lockstep_model.specs.Walk as w
use Rattle.lockstep_model.specs.Walk.{Move, Awaited, Ready, Looking, Settling, Broken, Reply, NoReply, Here, Nothing, Consumed}
use Rattle.cycle_machine.specs.Held.{Held, Step, Decides, Makes, Stops, rest_of, run_of, next_of}
use Rattle.cycle_machine.specs.NextLaws.{next_is}
use Rattle.cycle_machine.specs.Ready.{ready, IsReady, ready_is, ready_ready}
use Rattle.cycle_machine.specs.Moves as moves
use Rattle.cycle_machine.specs.Moves.{Moment, walk_with, walk_of, move_of, IsTried, AheadOf, IsAhead}

-- the moves of a moment's walk, where another run is left
abbrev proceeds : Moment → Run → Move
proceeds m r = w.proceed (walk_with r m)

abbrev looks : ℕ → Moment → Run → Move
looks until m r =
    record { walk = walk_with r (record m { awaited = Looking }); says = says.Ask (asks.Look until); events = []; computed = 0 }

abbrev ends : End → Moment → Run → Move
ends e m r = record { walk = walk_with r (record m { awaited = Ready }); says = says.Ended e; events = []; computed = 0 }

proceed_by-is : (sys : System) (s : Step) (m : Moment) → IsReady s → rest_of sys m.held ≡ run_of sys s → move_of sys (moves.proceed_by s m) ≡ proceeds m (rest_of sys m.held)
proceed_by-is sys (Decides new) m r e = absurd r
proceed_by-is sys (Makes p (Worked kind events renews standing) new) m r e = ap (proceeds m) (sym e)
proceed_by-is sys (Makes p (Tried tip frame until made crossing events) new) m r e =
    ap (looks until m) e ∙ ap (proceeds m) (sym e)
proceed_by-is sys (Stops end) m r e = ap (ends end m) e ∙ ap (proceeds m) (sym e)

proceed-is : (sys : System) (m : Moment) → move_of sys (moves.proceed sys m) ≡ w.proceed (walk_of sys m)
proceed-is sys m =
    let held = ready sys m.held in
    proceed_by-is sys (next_of sys held) (moves.made_ready sys m) (ready_ready sys m.held) (next_is sys held)
    ∙ ap (proceeds m) (ready_is sys m.held)

abbrev owns : Moment → Run → Move
owns m r = w.own_first r.works (walk_with r m)

own_by-is : (sys : System) (s : Step) (m : Moment) → IsTried s → rest_of sys m.held ≡ run_of sys s → move_of sys (moves.own_by s sys m) ≡ owns m (rest_of sys m.held)
own_by-is sys (Decides new) m t e = absurd t
own_by-is sys (Makes p (Worked kind events renews standing) new) m t e = absurd t
own_by-is sys (Makes p (Tried tip frame until made crossing events) new) m t e = ap (owns m) (sym e)
own_by-is sys (Stops end) m t e = absurd t

abbrev finds : Moment → Run → Move
finds m r = w.found_first r.works (walk_with r m)

found_work-is : (sys : System) (p : RunState) (wk : Work) (new : Held) (m : Moment) → IsTried (Makes p wk new) → move_of sys (moves.found_work wk new sys m) ≡ finds m (run_of sys (Makes p wk new))
found_work-is sys p (Worked kind events renews standing) new m t = absurd t
found_work-is sys p (Tried tip frame until made crossing events) new m t =
    elim (crossing || is_failed made.kind) as
    (λ b. move_of sys (cond b (moves.led events (moves.proceed sys (record m { held = new }))) (record { moment = record m { held = new; awaited = Settling false (next m.tip made) }; says = says.Ask asks.Consume; events = events; computed = 0 }))
    ≡ cond b (w.led_by events (w.proceed (walk_with (rest_of sys new) m))) (record { walk = walk_with (rest_of sys new) (record m { awaited = Settling false (next m.tip made) }); says = says.Ask asks.Consume; events = events; computed = 0 })) [
      | true ↦ ap (w.led_by events) (proceed-is sys (record m { held = new }))
      | false ↦ refl
    ]

found_by-is : (sys : System) (s : Step) (m : Moment) → IsTried s → rest_of sys m.held ≡ run_of sys s → move_of sys (moves.found_by s sys m) ≡ finds m (rest_of sys m.held)
found_by-is sys (Decides new) m t e = absurd t
found_by-is sys (Makes p wk new) m t e = found_work-is sys p wk new m t ∙ ap (finds m) (sym e)
found_by-is sys (Stops end) m t e = absurd t

-- nothing is left exactly where nothing comes next
over_by-is : (sys : System) (s : Step) (r : Run) → IsReady s → r ≡ run_of sys s → moves.is_over s ≡ w.has_none r.works
over_by-is sys (Decides new) r ready e = absurd ready
over_by-is sys (Makes p wk new) r ready e = ap (λ (x : Run). w.has_none x.works) (sym e)
over_by-is sys (Stops end) r ready e = ap (λ (x : Run). w.has_none x.works) (sym e)

over-is : (sys : System) (held : Held) → moves.is_over (next_of sys (ready sys held)) ≡ w.has_none (rest_of sys held).works
over-is sys held =
    over_by-is sys (next_of sys (ready sys held)) (rest_of sys held) (ready_ready sys held)
    (sym (ready_is sys held) ∙ next_is sys (ready sys held))

abbrev begins : Moment → Tip → Run → Move
begins m after r =
    record { walk = walk_with r (record m { awaited = Ready; tip = after }); says = says.Ask asks.Begin; events = []; computed = 0 }

settle_by-is : (sys : System) (m : Moment) (after : Tip) (renews : Bool) →
    move_of sys (cond renews (record { moment = record m { held = ready sys m.held; awaited = Ready; tip = after }; says = says.Ask asks.Begin; events = []; computed = 0 }) (moves.proceed sys (record m { awaited = Ready; tip = after })))
    ≡ cond renews (begins m after (rest_of sys m.held)) (w.proceed (walk_of sys (record m { awaited = Ready; tip = after })))
settle_by-is sys m after true = ap (begins m after) (ready_is sys m.held)
settle_by-is sys m after false = proceed-is sys (record m { awaited = Ready; tip = after })

settle-is : (sys : System) (own : Bool) (after : Tip) (consumed : Bool) (m : Moment) → move_of sys (moves.settle own after consumed sys m) ≡ w.after_consume own after consumed (walk_of sys m)
settle-is sys own after consumed m =
    settle_by-is sys m after (own && (not consumed && not (moves.is_over (next_of sys (ready sys m.held)))))
    ∙ ap (λ (b : Bool). cond (own && (not consumed && not b)) (begins m after (rest_of sys m.held)) (w.proceed (walk_of sys (record m { awaited = Ready; tip = after }))))
    (over-is sys m.held)

moved_at-is : (sys : System) (awaited : Awaited) (reply : Reply) (m : Moment) → AheadOf awaited (next_of sys m.held) → move_of sys (moves.moved_at awaited reply sys m) ≡ w.moved_at awaited reply (walk_of sys m)
moved_at-is sys Ready reply m t = proceed-is sys m
moved_at-is sys Looking NoReply m t = own_by-is sys (next_of sys m.held) m t (next_is sys m.held)
moved_at-is sys Looking (Here a) m t = found_by-is sys (next_of sys m.held) m t (next_is sys m.held)
moved_at-is sys Looking Nothing m t = own_by-is sys (next_of sys m.held) m t (next_is sys m.held)
moved_at-is sys Looking (Consumed b) m t = own_by-is sys (next_of sys m.held) m t (next_is sys m.held)
moved_at-is sys (Settling own after) reply m t = settle-is sys own after (w.was_consumed reply) m
moved_at-is sys Broken reply m t = proceed-is sys m

-- whatever is replied, a move is that of the walk
pub moving_is : (sys : System) (m : Moment) (reply : Reply) → IsAhead sys m → move_of sys (moves.moving sys m reply) ≡ w.moved (walk_of sys m) reply
moving_is sys m reply t = moved_at-is sys m.awaited reply m t

-- ---- where a look is awaited an attempt comes next

proceed_by-ahead : (sys : System) (s : Step) (m : Moment) → next_of sys m.held ≡ s → IsReady s → IsAhead sys (moves.proceed_by s m).moment
proceed_by-ahead sys (Decides new) m e r = absurd r
proceed_by-ahead sys (Makes p (Worked kind events renews standing) new) m e r = tt
proceed_by-ahead sys (Makes p (Tried tip frame until made crossing events) new) m e r = subst IsTried (sym e) tt
proceed_by-ahead sys (Stops end) m e r = tt

proceed-ahead : (sys : System) (m : Moment) → IsAhead sys (moves.proceed sys m).moment
proceed-ahead sys m =
    proceed_by-ahead sys (next_of sys (ready sys m.held)) (moves.made_ready sys m) refl (ready_ready sys m.held)

own_work-ahead : (sys : System) (wk : Work) (new : Held) (m : Moment) → IsAhead sys (moves.own_work wk new sys m).moment
own_work-ahead sys (Worked kind events renews standing) new m = proceed-ahead sys m
own_work-ahead sys (Tried tip frame until made true events) new m = tt
own_work-ahead sys (Tried tip frame until made false events) new m = tt

own_by-ahead : (sys : System) (s : Step) (m : Moment) → IsAhead sys (moves.own_by s sys m).moment
own_by-ahead sys (Decides new) m = proceed-ahead sys m
own_by-ahead sys (Makes p wk new) m = own_work-ahead sys wk new m
own_by-ahead sys (Stops end) m = proceed-ahead sys m

found_work-ahead : (sys : System) (wk : Work) (new : Held) (m : Moment) → IsAhead sys (moves.found_work wk new sys m).moment
found_work-ahead sys (Worked kind events renews standing) new m = proceed-ahead sys m
found_work-ahead sys (Tried tip frame until made crossing events) new m =
    elim (crossing || is_failed made.kind) as
    (λ b. IsAhead sys (cond b (moves.led events (moves.proceed sys (record m { held = new }))) (record { moment = record m { held = new; awaited = Settling false (next m.tip made) }; says = says.Ask asks.Consume; events = events; computed = 0 })).moment) [
      | true ↦ proceed-ahead sys (record m { held = new })
      | false ↦ tt
    ]

found_by-ahead : (sys : System) (s : Step) (m : Moment) → IsAhead sys (moves.found_by s sys m).moment
found_by-ahead sys (Decides new) m = proceed-ahead sys m
found_by-ahead sys (Makes p wk new) m = found_work-ahead sys wk new m
found_by-ahead sys (Stops end) m = proceed-ahead sys m

settle-ahead : (sys : System) (own : Bool) (after : Tip) (consumed : Bool) (m : Moment) → IsAhead sys (moves.settle own after consumed sys m).moment
settle-ahead sys own after consumed m =
    elim (own && (not consumed && not (moves.is_over (next_of sys (ready sys m.held))))) as
    (λ b. IsAhead sys (cond b (record { moment = record m { held = ready sys m.held; awaited = Ready; tip = after }; says = says.Ask asks.Begin; events = []; computed = 0 }) (moves.proceed sys (record m { awaited = Ready; tip = after }))).moment) [
      | true ↦ tt
      | false ↦ proceed-ahead sys (record m { awaited = Ready; tip = after })
    ]

moved_at-ahead : (sys : System) (awaited : Awaited) (reply : Reply) (m : Moment) → IsAhead sys (moves.moved_at awaited reply sys m).moment
moved_at-ahead sys Ready reply m = proceed-ahead sys m
moved_at-ahead sys Looking NoReply m = own_by-ahead sys (next_of sys m.held) m
moved_at-ahead sys Looking (Here a) m = found_by-ahead sys (next_of sys m.held) m
moved_at-ahead sys Looking Nothing m = own_by-ahead sys (next_of sys m.held) m
moved_at-ahead sys Looking (Consumed b) m = own_by-ahead sys (next_of sys m.held) m
moved_at-ahead sys (Settling own after) reply m = settle-ahead sys own after (w.was_consumed reply) m
moved_at-ahead sys Broken reply m = proceed-ahead sys m

pub moving_ahead : (sys : System) (m : Moment) (reply : Reply) → IsAhead sys (moves.moving sys m reply).moment
moving_ahead sys m reply = moved_at-ahead sys m.awaited reply m

-- so the walk looks ahead as its laws ask
ahead-looks : (sys : System) (awaited : Awaited) (s : Step) (r : Run) → r ≡ run_of sys s → AheadOf awaited s → w.LooksAhead awaited r.works
ahead-looks sys Ready s r e t = tt
ahead-looks sys Looking (Decides new) r e t = absurd t
ahead-looks sys Looking (Makes p (Worked kind events renews standing) new) r e t = absurd t
ahead-looks sys Looking (Makes p (Tried tip frame until made crossing events) new) r e t =
    subst (λ (x : Run). w.StartsTried x.works) (sym e) tt
ahead-looks sys Looking (Stops end) r e t = absurd t
ahead-looks sys (Settling own after) s r e t = tt
ahead-looks sys Broken s r e t = tt

pub looks_ahead : (sys : System) (m : Moment) → IsAhead sys m → w.LooksAhead m.awaited (walk_of sys m).works
looks_ahead sys m t = ahead-looks sys m.awaited (next_of sys m.held) (rest_of sys m.held) (next_is sys m.held) t
