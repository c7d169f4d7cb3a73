use Rattle.std.proofs.Common.{◌≡◌, refl, ap, sym, ◌∙◌, subst, Bool, List, length}
use Rattle.std.specs.Prelude.{replicate, false}
use Rattle.std.specs.Vec.{with_items}
use Rattle.std.proofs.lemmas.List.{with_items_is}
use Rattle.flat_design.specs.declared.objects.Objects.{Objects}
use Rattle.flat_design.specs.declared.objects.Process.{Process}
use Rattle.process_runs.specs.Kept.{Kept, CanRun}
use Rattle.cycle_timeouts.specs.Entered.{entered}
use Rattle.timeout_entry.specs.Kept.{timeouts_kept}
use Rattle.kernel_world.specs.Acting.{context_of, world_of}
use Rattle.kernel_state.specs.declared.parts.KernelParts.{KernelParts}
use Rattle.kernel_state.specs.State.{objects_of}
use Rattle.kernel_cycle.proofs.Marks.{marks_so}
use Rattle.kernel_cycle.proofs.Runs.{due_count, ran_so, run_fails, entry_fails, run_cycled}
use Rattle.kernel_cycle.proofs.running.run_resumed.Goals as goal

pub run_called-ran-requires-clause-resumed : goal.run_called-ran-requires-clause-resumed
run_called-ran-requires-clause-resumed c =
    rw c.as_slice-marks.ensures.value (c.requires.marks ∙ ap (λ (l : List Process). length l) (sym (c.processes-processes.ensures ∙ ap (λ (o : Objects). o.processes) c.flat-flat.ensures)))

pub run_called-ran-requires-clause-can : goal.run_called-ran-requires-clause-can
run_called-ran-requires-clause-can c =
    let k = c.args.parts.now in
    rw c.as_mut_slice-kept.ensures.value
    (subst (λ (l : List Process). CanRun (context_of k.world) (world_of k.world) l k.kept.items) (sym (c.processes-processes.ensures ∙ ap (λ (o : Objects). o.processes) c.flat-flat.ensures)) c.requires.can)

pub run_called-ran-requires-clause-called : goal.run_called-ran-requires-clause-called
run_called-ran-requires-clause-called c =
    let k = c.args.parts.now in
    marks_so (length (objects_of k).processes) (length c.processes-processes.result.now) c.as_slice-called.result.now k.called.items c.as_slice-marks.result.now k.resumed.items
    (ap (λ (l : List Process). length l) (c.processes-processes.ensures ∙ ap (λ (o : Objects). o.processes) c.flat-flat.ensures)) c.as_slice-called.ensures.value c.as_slice-marks.ensures.value c.requires.called

pub enter_called-requires-clause-kept : goal.enter_called-requires-clause-kept
enter_called-requires-clause-kept c =
    let k = c.args.parts.now in
    rw c.as_slice-waiting.ensures.value
    (ap (λ (l : List Kept). length l) (with_items_is k.kept c.run_called-ran.new.kept (c.run_called-ran.auto.kept ∙ c.as_mut_slice-kept.ensures.len))
    ∙ c.in-Ok.ensures.can.count ∙ ap (λ (l : List Process). length l) (c.processes-processes.ensures ∙ ap (λ (o : Objects). o.processes) c.flat-flat.ensures)
    ∙ sym (due_count (context_of k.world).t (objects_of k).processes k.kept.items k.timeouts c.requires.can.count c.requires.timeouts))

pub enter_called-requires-clause-ran : goal.enter_called-requires-clause-ran
enter_called-requires-clause-ran c =
    let k = c.args.parts.now in
    rw c.as_slice-resumed.ensures.value
    (c.requires.marks ∙ sym (due_count (context_of k.world).t (objects_of k).processes k.kept.items k.timeouts c.requires.can.count c.requires.timeouts))

pub enter_called-requires-clause-called : goal.enter_called-requires-clause-called
enter_called-requires-clause-called c =
    let k = c.args.parts.now in
    marks_so (length (objects_of k).processes) (length k.timeouts) c.as_slice-called.result.now k.called.items c.as_slice-resumed.result.now k.resumed.items
    (due_count (context_of k.world).t (objects_of k).processes k.kept.items k.timeouts c.requires.can.count c.requires.timeouts) c.as_slice-called.ensures.value c.as_slice-resumed.ensures.value c.requires.called

pub unmark-requires : goal.unmark-requires
unmark-requires c =
    let k = c.args.parts.now in
    marks_so (length (objects_of k).processes) (length c.as_mut_slice-all.result.now) c.as_slice-called.result.now k.called.items c.as_mut_slice-all.result.now k.resumed.items
    (ap (λ (l : List Bool). length l) c.as_mut_slice-all.ensures.value ∙ c.requires.marks) c.as_slice-called.ensures.value c.as_mut_slice-all.ensures.value c.requires.called

pub returns-in_default-clause-ends : goal.returns-in_default-clause-ends
returns-in_default-clause-ends c = λ d ramps.
    let k = c.args.parts.now in
    let after : KernelParts = record k { world = c.run_called-ran.new.world; kept = with_items k.kept c.run_called-ran.new.kept; timeouts = c.enter_called.new.timeouts; room = c.run_called-ran.new.room } in
    entry_fails d (context_of k.world) k.world.timed c.processes-processes.result.now c.as_mut_slice-kept.result.now k.kept.items c.run_called-ran.new.kept c.as_slice-marks.result.now k.resumed.items (world_of k.world) after
    (c.processes-processes.ensures ∙ ap (λ (o : Objects). o.processes) c.flat-flat.ensures) c.as_mut_slice-kept.ensures.value c.as_slice-marks.ensures.value c.in-Ok.ensures.ran

pub returns-in-Ok-enter_called-clause-ends : goal.returns-in-Ok-enter_called-clause-ends
returns-in-Ok-enter_called-clause-ends c = λ d ramps.
    let k = c.args.parts.now in
    let ps = c.processes-processes.result.now in
    let marks : List Bool = c.unmark.new.resumed in
    let after : KernelParts = record k { world = c.run_called-ran.new.world; kept = with_items k.kept c.run_called-ran.new.kept; timeouts = c.enter_called.new.timeouts; resumed = with_items k.resumed marks; room = c.run_called-ran.new.room } in
    let waiting : after.kept.items ≡ c.run_called-ran.new.kept = with_items_is k.kept c.run_called-ran.new.kept (c.run_called-ran.auto.kept ∙ c.as_mut_slice-kept.ensures.len) in
    let blank : after.resumed.items ≡ marks = with_items_is k.resumed marks (c.unmark.auto.resumed ∙ c.as_mut_slice-all.ensures.len) in
    run_cycled c.state_is_left.ensures (c.domain_stays.ensures c.runs_change_drivers_and_breaks_alone.ensures.runs) c.entered_timeouts_are_of_states.ensures.runs k after ps d
    (c.processes-processes.ensures ∙ ap (λ (o : Objects). o.processes) c.flat-flat.ensures) c.requires.lists refl refl c.requires.marks c.requires.can c.requires.resume c.requires.timeouts
    (ran_so (context_of k.world) ps c.as_mut_slice-kept.result.now k.kept.items c.run_called-ran.new.kept after.kept.items c.as_slice-marks.result.now k.resumed.items (world_of k.world) (world_of after.world)
    c.as_mut_slice-kept.ensures.value c.as_slice-marks.ensures.value waiting c.in-Ok.ensures.ran)
    (subst (λ (l : List Kept). CanRun (context_of after.world) (world_of after.world) ps l) (sym waiting) c.in-Ok.ensures.can) c.run_called-ran.ensures.context
    (c.in-Ok-enter_called.ensures.entered ∙ ap (λ (l : List Kept). entered k.timeouts (timeouts_kept l) c.as_slice-resumed.result.now) c.as_slice-waiting.ensures.value
    ∙ ap (λ (l : List Bool). entered k.timeouts (timeouts_kept after.kept.items) l) c.as_slice-resumed.ensures.value)
    (blank ∙ c.unmark.ensures ∙ ap (λ (l : List Bool). replicate (length l) false) c.as_mut_slice-all.ensures.value) ramps

pub returns-in-Err-clause-ends : goal.returns-in-Err-clause-ends
returns-in-Err-clause-ends c = λ d ramps.
    let k = c.args.parts.now in
    let after : KernelParts = record k { world = c.run_called-ran.new.world; kept = with_items k.kept c.run_called-ran.new.kept; room = c.run_called-ran.new.room } in
    run_fails d (context_of k.world) k.world.timed c.processes-processes.result.now c.as_mut_slice-kept.result.now k.kept.items c.run_called-ran.new.kept c.as_slice-marks.result.now k.resumed.items (world_of k.world) after c.in-Err.fault
    (c.processes-processes.ensures ∙ ap (λ (o : Objects). o.processes) c.flat-flat.ensures) c.as_mut_slice-kept.ensures.value c.as_slice-marks.ensures.value c.in-Err.ensures.ran
