use Rattle.std.proofs.Common.{◌≡◌, ap, sym, ◌∙◌}
use Rattle.std.specs.Prelude.{map}
use Rattle.flat_design.specs.declared.objects.Objects.{Objects}
use Rattle.cycle_meaning.specs.World.{Local, Context}
use Rattle.cycle_meaning.specs.Cycles.{first_digital}
use Rattle.std.specs.Global.{Vec}
use Rattle.process_callers.specs.Calling.{unless_due}
use Rattle.process_runs.specs.Kept.{Kept}
use Rattle.kernel_world.specs.Acting.{context_of, world_of}
use Rattle.kernel_state.specs.State.{objects_of, states_of}
use Rattle.kernel_cycle.proofs.Leaving.{lists_stay}
use Rattle.kernel_cycle.proofs.GoesOn.{marks_count, can_stays, resumes_stay, times_stay, run_ends, look_ends}
use Rattle.kernel_cycle.proofs.going.go_on.Goals as goal

pub run_resumed-requires-clause-lists : goal.run_resumed-requires-clause-lists
run_resumed-requires-clause-lists c =
    lists_stay c.args.parts.now c.find_resumed.new.parts (ap (λ (h : Context). h.objects) c.find_resumed.ensures.context) c.find_resumed.ensures.waits c.find_resumed.ensures.callers c.requires.built.lists

pub run_resumed-requires-clause-marks : goal.run_resumed-requires-clause-marks
run_resumed-requires-clause-marks c =
    marks_count c.find_resumed.new.parts.resumed.items c.args.parts.now.resumed.items (objects_of c.args.parts.now) (objects_of c.find_resumed.new.parts) c.find_resumed.ensures.count c.requires.built.resumed
    (ap (λ (h : Context). h.objects) c.find_resumed.ensures.context)

pub run_resumed-requires-clause-called : goal.run_resumed-requires-clause-called
run_resumed-requires-clause-called c = c.in-Ok.ensures.called

pub run_resumed-requires-clause-can : goal.run_resumed-requires-clause-can
run_resumed-requires-clause-can c =
    let k = c.args.parts.now in
    let j = c.find_resumed.new.parts in
    can_stays (context_of k.world) (context_of j.world) (world_of k.world) (world_of j.world) j.kept.items k.kept.items c.find_resumed.ensures.context (ap (λ (l : Local). l.world) c.find_resumed.ensures.local)
    (ap (λ (v : Vec Kept). v.items) c.find_resumed.ensures.kept) c.requires.can

pub run_resumed-requires-clause-resume : goal.run_resumed-requires-clause-resume
run_resumed-requires-clause-resume c =
    let k = c.args.parts.now in
    let j = c.find_resumed.new.parts in
    resumes_stay (context_of k.world) (context_of j.world) (world_of k.world) (world_of j.world) j.kept.items k.kept.items _ c.find_resumed.ensures.context (ap (λ (l : Local). l.world) c.find_resumed.ensures.local)
    (ap (λ (v : Vec Kept). v.items) c.find_resumed.ensures.kept) c.in-Ok.ensures.found.0

pub run_resumed-requires-clause-timeouts : goal.run_resumed-requires-clause-timeouts
run_resumed-requires-clause-timeouts c =
    let k = c.args.parts.now in
    let j = c.find_resumed.new.parts in
    times_stay (context_of k.world) (context_of j.world) j.kept.items k.kept.items c.args.now j.timeouts k.timeouts c.find_resumed.ensures.context (ap (λ (v : Vec Kept). v.items) c.find_resumed.ensures.kept)
    c.requires.moment c.in-Ok.ensures.found.1 c.requires.timeouts

pub returns-in-Ok-clause-ends : goal.returns-in-Ok-clause-ends
returns-in-Ok-clause-ends c = λ d ramps processes.
    let k = c.args.parts.now in
    let j = c.find_resumed.new.parts in
    run_ends d k j c.run_resumed.new.parts c.run_resumed.result c.find_resumed.ensures.context (ap (λ (l : Local). l.world) c.find_resumed.ensures.local) (ap (λ (v : Vec Kept). v.items) c.find_resumed.ensures.kept)
    processes c.in-Ok.ensures.found.0
    (c.run_resumed.ensures.ends d (ramps ∙ ap (λ (o : Objects). (first_digital o).ramps) (sym (ap (λ (h : Context). h.objects) c.find_resumed.ensures.context))))

pub returns-in-Ok-clause-objects : goal.returns-in-Ok-clause-objects
returns-in-Ok-clause-objects c = c.run_resumed.ensures.objects ∙ ap (λ (h : Context). h.objects) c.find_resumed.ensures.context

pub returns-in-Err-clause-ends : goal.returns-in-Err-clause-ends
returns-in-Err-clause-ends c = λ d ramps processes.
    let k = c.args.parts.now in
    let j = c.find_resumed.new.parts in
    look_ends (c.events_are_only_added.ensures.runs c.runs_do_not_read_events.ensures.runs) d k j (states_of k) j.resumed.items (j.timeouts ≡ map (unless_due c.args.now) k.timeouts) c.in-Err.fault (ap (λ (l : Local). l.world) c.find_resumed.ensures.local) processes
    c.in-Err.ensures.found

pub returns-in-Err-clause-objects : goal.returns-in-Err-clause-objects
returns-in-Err-clause-objects c = ap (λ (h : Context). h.objects) c.find_resumed.ensures.context
