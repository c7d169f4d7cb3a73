use Rattle.std.proofs.Common.{◌≡◌, refl, ap, sym, ◌∙◌, subst, List, length}
use Rattle.std.specs.Vec.{with_items}
use Rattle.std.proofs.lemmas.List.{with_items_is}
use Rattle.flat_design.specs.declared.objects.Objects.{Objects}
use Rattle.flat_design.specs.declared.objects.Process.{Process}
use Rattle.cycle_meaning.specs.World.{Context, Local}
use Rattle.cycle_meaning.specs.Cycles.{all_ran}
use Rattle.process_runs.specs.Kept.{Kept, states_kept, CanRun}
use Rattle.timeout_entry.specs.Kept.{timeouts_kept}
use Rattle.kernel_world.specs.Acting.{context_of, world_of}
use Rattle.kernel_state.specs.declared.parts.KernelParts.{KernelParts}
use Rattle.kernel_cycle.proofs.Starts.{start_asked, first_fails, first_unentered, first_cycled}
use Rattle.kernel_cycle.proofs.starting.start.Goals as goal

pub start_processes-ran-requires : goal.start_processes-ran-requires
start_processes-ran-requires c =
    let k = c.args.parts.now in
    rw c.as_mut_slice-kept.ensures.value
    (start_asked (context_of k.world) (context_of c.take_point.new.self) c.args.x.now c.processes-processes.result.now k.kept.items (world_of c.take_point.new.self)
    c.take_point.ensures.context c.requires.context c.requires.delta
    (c.processes-processes.ensures ∙ ap (λ (o : Objects). o.processes) (c.flat-flat.ensures ∙ ap (λ (h : Context). h.objects) c.take_point.ensures.context))
    (ap (λ (l : Local). l.world) c.take_point.ensures.local ∙ c.requires.world) c.requires.built.lists.few c.requires.design.processes c.requires.kept c.requires.typed)

pub enter_all-requires-clause-kept : goal.enter_all-requires-clause-kept
enter_all-requires-clause-kept c =
    let k = c.args.parts.now in
    rw c.as_slice-waiting.ensures.value
    (ap (λ (l : List Kept). length l) (with_items_is k.kept c.start_processes-ran.new.kept (c.start_processes-ran.auto.kept ∙ c.as_mut_slice-kept.ensures.len))
    ∙ c.in-Ok.ensures.can.count
    ∙ ap (λ (l : List Process). length l) (c.processes-processes.ensures ∙ ap (λ (o : Objects). o.processes) (c.flat-flat.ensures ∙ ap (λ (h : Context). h.objects) c.take_point.ensures.context))
    ∙ sym c.requires.timeouts)

pub enter_all-requires-clause-few : goal.enter_all-requires-clause-few
enter_all-requires-clause-few c = rw c.requires.timeouts c.requires.built.lists.few

pub returns-in_default-clause-ends : goal.returns-in_default-clause-ends
returns-in_default-clause-ends c =
    let k = c.args.parts.now in
    let after : KernelParts = record k { world = c.start_processes-ran.new.world; kept = with_items k.kept c.start_processes-ran.new.kept; timeouts = c.enter_all.new.timeouts; room = c.start_processes-ran.new.room } in
    first_unentered (context_of k.world) (context_of c.take_point.new.self) c.args.x.now c.processes-processes.result.now c.start_processes-ran.new.kept (world_of c.take_point.new.self) after
    c.take_point.ensures.context c.requires.context c.requires.delta
    (c.processes-processes.ensures ∙ ap (λ (o : Objects). o.processes) (c.flat-flat.ensures ∙ ap (λ (h : Context). h.objects) c.take_point.ensures.context))
    (ap (λ (l : Local). l.world) c.take_point.ensures.local ∙ c.requires.world) c.in-Ok.ensures.ran

pub returns-in-Ok-enter_all-clause-ends : goal.returns-in-Ok-enter_all-clause-ends
returns-in-Ok-enter_all-clause-ends c =
    let k = c.args.parts.now in
    let after : KernelParts = record k { world = c.start_processes-ran.new.world; kept = with_items k.kept c.start_processes-ran.new.kept; timeouts = c.enter_all.new.timeouts; room = c.start_processes-ran.new.room } in
    let waiting : after.kept.items ≡ c.start_processes-ran.new.kept = with_items_is k.kept c.start_processes-ran.new.kept (c.start_processes-ran.auto.kept ∙ c.as_mut_slice-kept.ensures.len) in
    first_cycled c.state_is_left.ensures c.runs_change_drivers_and_breaks_alone.ensures.starts c.entered_timeouts_are_of_states.ensures.starts k after (context_of c.take_point.new.self) (world_of c.take_point.new.self) c.args.x.now c.processes-processes.result.now
    c.take_point.ensures.context c.requires.context c.requires.delta
    (c.processes-processes.ensures ∙ ap (λ (o : Objects). o.processes) (c.flat-flat.ensures ∙ ap (λ (h : Context). h.objects) c.take_point.ensures.context))
    (ap (λ (l : Local). l.world) c.take_point.ensures.local ∙ c.requires.world) c.requires.built refl refl refl
    (c.in-Ok.ensures.ran ∙ ap (λ (l : List Kept). all_ran (world_of after.world) (states_kept c.processes-processes.result.now l)) (sym waiting))
    (subst (λ (l : List Kept). CanRun (context_of after.world) (world_of after.world) c.processes-processes.result.now l) (sym waiting) c.in-Ok.ensures.can) c.start_processes-ran.ensures.context
    (c.in-Ok-enter_all.ensures.entered ∙ ap timeouts_kept c.as_slice-waiting.ensures.value)

pub returns-in-Err-clause-ends : goal.returns-in-Err-clause-ends
returns-in-Err-clause-ends c =
    let k = c.args.parts.now in
    let after : KernelParts = record k { world = c.start_processes-ran.new.world; kept = with_items k.kept c.start_processes-ran.new.kept; room = c.start_processes-ran.new.room } in
    first_fails (context_of k.world) (context_of c.take_point.new.self) c.args.x.now c.processes-processes.result.now c.start_processes-ran.new.kept (world_of c.take_point.new.self) after c.in-Err.fault
    c.take_point.ensures.context c.requires.context c.requires.delta
    (c.processes-processes.ensures ∙ ap (λ (o : Objects). o.processes) (c.flat-flat.ensures ∙ ap (λ (h : Context). h.objects) c.take_point.ensures.context))
    (ap (λ (l : Local). l.world) c.take_point.ensures.local ∙ c.requires.world) c.in-Err.ensures.ran
