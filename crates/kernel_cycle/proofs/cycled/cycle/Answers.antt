use Rattle.std.proofs.Common.{refl, ap, sym, ◌∙◌, subst}
use Rattle.flat_design.specs.declared.objects.Objects.{Objects}
use Rattle.step_model.specs.System.{CycleOutcome}
use Rattle.cycle_meaning.specs.World.{Context}
use Rattle.cycle_meaning.specs.Cycles.{world_of as begun_world, cycle, first_digital}
use Rattle.next_cycle.specs.Next.{timeouts_of, NoneIsEarlier}
use Rattle.process_runs.specs.Kept.{states_kept, CanRun}
use Rattle.kernel_world.specs.Acting.{context_of, world_of}
use Rattle.kernel_state.specs.State.{objects_of, state_of}
use Rattle.kernel_cycle.specs.Ending.{CycleEnds}
use Rattle.kernel_cycle.proofs.Fronts.{front_added, front_of_front}
use Rattle.kernel_cycle.proofs.Beginning.{left, behind_none, can_later, world_begun, are_events, outcome}
use Rattle.kernel_cycle.proofs.GoesOn.{built_stays}
use Rattle.kernel_cycle.proofs.cycled.cycle.Goals as goal

pub begin-requires-clause-late : goal.begin-requires-clause-late
begin-requires-clause-late c = c.next_is_first.ensures.transactions (state_of c.args.parts.now) c.args.t c.requires.next

pub go_on-requires-clause-moment : goal.go_on-requires-clause-moment
go_on-requires-clause-moment c = ap (λ (h : Context). h.t) c.begin.ensures.context

pub go_on-requires-clause-built : goal.go_on-requires-clause-built
go_on-requires-clause-built c =
    built_stays c.args.parts.now (record c.args.parts.now { world = c.begin.new.self }) (ap (λ (h : Context). h.objects) c.begin.ensures.context) refl refl refl c.requires.going.built

pub go_on-requires-clause-can : goal.go_on-requires-clause-can
go_on-requires-clause-can c =
    let k = c.args.parts.now in
    let same = ap (λ (h : Context). h.objects) c.begin.ensures.context in
    let begun = begun_world (objects_of k) (state_of k) c.args.t c.args.n c.args.x.now c.args.to_time in
    let ew = c.in-Ok.ensures.world (state_of k) (left k) ∙ behind_none (world_of k.world).events begun c.requires.events in
    let typed = world_begun (objects_of k) c.args.t c.args.n c.args.x.now (context_of c.begin.new.self) (context_of k.world) (world_of c.begin.new.self) begun c.begin.ensures.context refl ew c.requires.world in
    subst (λ (o : Objects). CanRun (context_of c.begin.new.self) (world_of c.begin.new.self) o.processes k.kept.items) (sym same)
    (can_later (context_of k.world) (context_of c.begin.new.self) (world_of k.world) (world_of c.begin.new.self) (objects_of k).processes k.kept.items same typed c.requires.going.can)

pub go_on-requires-clause-timeouts : goal.go_on-requires-clause-timeouts
go_on-requires-clause-timeouts c =
    let k = c.args.parts.now in
    c.requires.going.timeouts ∙ ap (λ (o : Objects). timeouts_of (states_kept o.processes k.kept.items)) (sym (ap (λ (h : Context). h.objects) c.begin.ensures.context))

pub go_on-requires-clause-early : goal.go_on-requires-clause-early
go_on-requires-clause-early c =
    subst (NoneIsEarlier c.args.t) (sym c.requires.going.timeouts) (c.next_is_first.ensures.timeouts (state_of c.args.parts.now) c.args.t c.requires.next)

pub go_on-requires-clause-events : goal.go_on-requires-clause-events
go_on-requires-clause-events c =
    let k = c.args.parts.now in
    let begun = begun_world (objects_of k) (state_of k) c.args.t c.args.n c.args.x.now c.args.to_time in
    let ew = c.in-Ok.ensures.world (state_of k) (left k) ∙ behind_none (world_of k.world).events begun c.requires.events in
    let typed = world_begun (objects_of k) c.args.t c.args.n c.args.x.now (context_of c.begin.new.self) (context_of k.world) (world_of c.begin.new.self) begun c.begin.ensures.context refl ew c.requires.world in
    are_events (objects_of k) (state_of k) c.args.t c.args.n c.args.x.now c.args.to_time (context_of c.begin.new.self) (world_of c.begin.new.self) k.callers
    (ap (λ (h : Context). h.objects) c.begin.ensures.context) (ap (λ (h : Context). h.n) c.begin.ensures.context) ew typed c.requires.going.built.lists.callers

pub returns-in_default-clause-ends : goal.returns-in_default-clause-ends
returns-in_default-clause-ends c =
    let k = c.args.parts.now in
    let begun = begun_world (objects_of k) (state_of k) c.args.t c.args.n c.args.x.now c.args.to_time in
    front_of_front (world_of c.begin.new.self).events begun.events (cycle (objects_of k) (state_of k) c.args.t c.args.n c.args.x.now c.args.to_time).events
    (front_added (world_of k.world).events (world_of c.begin.new.self).events begun.events c.requires.events (c.in_default.ensures.front (state_of k) (left k)))
    (c.events_are_only_added.ensures.cycles c.runs_do_not_read_events.ensures.runs (objects_of k) (state_of k) c.args.t c.args.n c.args.x.now c.args.to_time)

pub returns-in_default-clause-objects : goal.returns-in_default-clause-objects
returns-in_default-clause-objects c = ap (λ (h : Context). h.objects) c.begin.ensures.context

pub returns-clause-ends : goal.returns-clause-ends
returns-clause-ends c =
    let k = c.args.parts.now in
    let same = ap (λ (h : Context). h.objects) c.begin.ensures.context in
    let begun = begun_world (objects_of k) (state_of k) c.args.t c.args.n c.args.x.now c.args.to_time in
    let ew = c.in-Ok.ensures.world (state_of k) (left k) ∙ behind_none (world_of k.world).events begun c.requires.events in
    subst (λ (e : CycleOutcome). CycleEnds e c.go_on.new.parts c.go_on.result)
    (outcome (objects_of k) (state_of k) c.args.t c.args.n c.args.x.now c.args.to_time (context_of k.world) (record k { world = c.begin.new.self }) c.begin.ensures.context refl ew)
    (c.go_on.ensures.ends (state_of k) (ap (λ (o : Objects). (first_digital o).ramps) (sym same)) (ap (λ (o : Objects). states_kept o.processes k.kept.items) (sym same)))

pub returns-clause-objects : goal.returns-clause-objects
returns-clause-objects c = c.go_on.ensures.objects ∙ ap (λ (h : Context). h.objects) c.begin.ensures.context
