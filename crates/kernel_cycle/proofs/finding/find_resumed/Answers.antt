use Rattle.std.proofs.Common.{ℕ, refl, ap, sym, ◌∙◌, subst}
use Rattle.std.specs.Prelude.{replicate, false, Ok}
use Rattle.std.proofs.lemmas.List.{with_items_is}
use Rattle.cycle_meaning.specs.World.{Local}
use Rattle.kernel_world.specs.Acting.{context_of, world_of}
use Rattle.resumption.specs.Waits.{answered}
use Rattle.process_callers.specs.Callers.{AreWithin}
use Rattle.kernel_state.specs.State.{objects_of}
use Rattle.kernel_cycle.proofs.Found.{times_count, can_here, have_here, waits_here, within_here, called_here, found_here, marks_here}
use Rattle.kernel_cycle.proofs.finding.find_resumed.Goals as goal

pub call_processes-requires-clause-within : goal.call_processes-requires-clause-within
call_processes-requires-clause-within c =
    let k = c.args.parts.now in
    subst (λ (n : ℕ). AreWithin n k.callers) (sym (times_count (objects_of k).processes k.kept.items k.timeouts c.requires.can.count c.requires.timeouts)) c.requires.built.lists.callers.within

pub look-looked-requires-clause-can : goal.look-looked-requires-clause-can
look-looked-requires-clause-can c =
    let k = c.args.parts.now in
    rw c.as_slice-kept.ensures.value
    (can_here (context_of k.world) (context_of c.call_processes.new.world) (world_of k.world) (world_of c.call_processes.new.world) k.kept.items
    c.call_processes.ensures.context (ap (λ (l : Local). l.world) c.call_processes.ensures.local) c.requires.can)

pub look-looked-requires-clause-waits : goal.look-looked-requires-clause-waits
look-looked-requires-clause-waits c =
    let k = c.args.parts.now in
    waits_here (context_of k.world) (context_of c.call_processes.new.world) k.waits c.call_processes.ensures.context c.requires.built.lists.waits

pub look-looked-requires-clause-callers : goal.look-looked-requires-clause-callers
look-looked-requires-clause-callers c =
    let k = c.args.parts.now in
    rw c.as_slice-kept.ensures.value
    (have_here (context_of k.world) (context_of c.call_processes.new.world) k.callers _ c.call_processes.ensures.context c.requires.can.count c.requires.built.lists.callers.callers)

pub look-looked-requires-clause-rises : goal.look-looked-requires-clause-rises
look-looked-requires-clause-rises c = rw c.as_slice-called.ensures.value c.in-Ok.ensures.rises

pub look-looked-requires-clause-within : goal.look-looked-requires-clause-within
look-looked-requires-clause-within c =
    let k = c.args.parts.now in
    rw (c.as_slice-kept.ensures.value, c.as_slice-called.ensures.value)
    (within_here (objects_of k).processes k.kept.items k.timeouts c.call_processes.new.called.items c.requires.can.count c.requires.timeouts c.in-Ok.ensures.within)

pub look-looked-requires-clause-calls : goal.look-looked-requires-clause-calls
look-looked-requires-clause-calls c =
    let k = c.args.parts.now in
    rw (c.as_slice-kept.ensures.value, c.as_slice-called.ensures.value)
    (called_here (context_of k.world) (context_of c.call_processes.new.world) (world_of k.world) (world_of c.call_processes.new.world) k.callers (objects_of k).processes k.kept.items k.timeouts c.args.now
    c.call_processes.new.called.items c.call_processes.ensures.context (ap (λ (l : Local). l.world) c.call_processes.ensures.local) c.requires.moment c.requires.can.count c.requires.timeouts c.requires.events
    c.in-Ok.ensures.calls)

pub look-looked-requires-clause-room : goal.look-looked-requires-clause-room
look-looked-requires-clause-room c =
    rw c.as_slice-kept.ensures.value
    (c.as_mut_slice-resumed.ensures.value ∙ c.requires.built.resumed ∙ ap (λ (n : ℕ). replicate n false) (sym c.requires.can.count))

pub returns-in-Ok-looked-clause-found : goal.returns-in-Ok-looked-clause-found
returns-in-Ok-looked-clause-found c =
    let k = c.args.parts.now in (
      found_here (context_of k.world) (context_of c.call_processes.new.world) (world_of k.world) (world_of c.call_processes.new.world) k.kept.items c.look-looked.result c.look-looked.new.resumed
          c.call_processes.ensures.context (ap (λ (l : Local). l.world) c.call_processes.ensures.local) (rw c.as_slice-kept.ensures.value at c.look-looked.ensures.found)
          ∙ ap (λ r. answered r c.look-looked.new.resumed) c.in-Ok-looked.is
          ∙ ap Ok (sym (with_items_is k.resumed c.look-looked.new.resumed (c.look-looked.ensures.count ∙ c.as_mut_slice-resumed.ensures.len))),
      c.in-Ok.ensures.timeouts,
    )

pub returns-in-Err-clause-found : goal.returns-in-Err-clause-found
returns-in-Err-clause-found c =
    let k = c.args.parts.now in
    found_here (context_of k.world) (context_of c.call_processes.new.world) (world_of k.world) (world_of c.call_processes.new.world) k.kept.items c.look-looked.result c.look-looked.new.resumed
    c.call_processes.ensures.context (ap (λ (l : Local). l.world) c.call_processes.ensures.local) (rw c.as_slice-kept.ensures.value at c.look-looked.ensures.found)
    ∙ ap (λ r. answered r c.look-looked.new.resumed) c.in-Err.is

pub returns-in-Ok-looked-clause-called : goal.returns-in-Ok-looked-clause-called
returns-in-Ok-looked-clause-called c =
    let k = c.args.parts.now in
    marks_here (context_of k.world) (context_of c.call_processes.new.world) (objects_of k).processes k.kept.items k.timeouts c.call_processes.new.called.items c.as_slice-called.result.now c.look-looked.new.resumed _
    c.call_processes.ensures.context refl c.as_slice-called.ensures.value (with_items_is k.resumed c.look-looked.new.resumed (c.look-looked.ensures.count ∙ c.as_mut_slice-resumed.ensures.len))
    c.requires.can.count c.requires.timeouts c.in-Ok.ensures.rises c.in-Ok.ensures.within c.in-Ok-looked.ensures.marked
