-- The events are given back.
use Rattle.std.proofs.Common.{ap, sym, ◌∙◌, subst, List, Result, Ok, Err}
use Rattle.std.specs.Prelude.{OnOk}
use Rattle.step_data.specs.declared.event.Event.{Event}
use Rattle.process_callers.specs.Calling.{AreEvents}
use Rattle.cycle_meaning.specs.World.{Local}
use Rattle.kernel_world.specs.Acting.{local_of}
use Rattle.kernel_cycle.proofs.calling.call_processes.Goals as goal

pub returns-clause-local : goal.returns-clause-local
returns-clause-local c =
    c.events_are_given_back.ensures (local_of c.args.world.now) (local_of c.exchange_events.new.self) (local_of c.exchange_events-2.new.self) c.args.events.now c.exchange_events.new.events
    c.exchange_events.ensures.local c.exchange_events.ensures.before c.exchange_events-2.ensures.local

pub returns-clause-events : goal.returns-clause-events
returns-clause-events c = c.exchange_events-2.ensures.before ∙ ap (λ (l : Local). l.world.events) c.exchange_events.ensures.local

on_ok : {A E : Type 0} (r : Result A E) (P Q : Type 0) → (P → Q) → OnOk r P → OnOk r Q
on_ok (Ok a) P Q f h = f h
on_ok (Err e) P Q f h = tt

pub returns-clause-calls : goal.returns-clause-calls
returns-clause-calls c =
    on_ok c.call-answer.result _ _
    (λ h at w sleeps n moment times events. h at w sleeps n moment times (subst (λ (l : List Event). AreEvents c.args.callers.now w c.args.now n l) (sym c.exchange_events.ensures.before) events))
    c.call-answer.ensures.calls
