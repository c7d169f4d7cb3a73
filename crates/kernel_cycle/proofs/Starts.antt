-- The first runs.
use Rattle.std.proofs.Common.{◌≡◌, refl, ap, sym, ◌∙◌, subst, ℕ, ◌<◌, ◌^◌, Bool, false, ℤ, List, length, Result, Ok, Err, arith}
use Rattle.std.specs.List.{All}
use Rattle.flat_design.specs.declared.objects.Objects.{Objects}
use Rattle.flat_design.specs.declared.objects.Process.{Process}
use Rattle.step_model.specs.System.{ProcessState}
use Rattle.design_meaning.specs.Readings.{Seen}
use Rattle.cycle_meaning.specs.World.{World as CycleWorld, Context}
use Rattle.cycle_meaning.specs.Cycles.{Ran_of, all_ran, context_at, first_world, first_digital, start_all, ended, start}
use Rattle.design_rules.specs.Design.{IsProcess}
use Rattle.kernel_world.specs.Acting.{context_of, world_of}
use Rattle.kernel_world.specs.Reading.{domain_value}
use Rattle.process_rest.specs.Resting.{IsWorld}
use Rattle.process_runs.specs.Kept.{Kept, numbered, states_kept, AreUnstarted, CanRun, CanStart}
use Rattle.process_runs.specs.Ran.{AllEnd}
use Rattle.cycle_parts.specs.Left.{IsStateLeft}
use Rattle.timeout_entry.specs.Kept.{timeouts_kept, StartsAreEntered}
use Rattle.run_laws.specs.Changes.{world_behind, StartsChange}
use Rattle.statement_lists.specs.declared.fault.ListFault.{ListFault}
use Rattle.statement_lists.specs.declared.fault.ListFault.TheVariants as fault
use Rattle.kernel_state.specs.declared.parts.KernelParts.{KernelParts}
use Rattle.kernel_state.specs.State.{objects_of, IsBuilt}
use Rattle.kernel_cycle.specs.Ending.{CycleEnds}
use Rattle.kernel_cycle.proofs.Leaving.{same_domain, ends_early, ends_behind, moment_stays, objects_stay, lists_stay, going, cycled}

pub can_start : (here : Context) (w : CycleWorld) (ps : List Process) (ks : List Kept) → ps ≡ here.objects.processes → length ps < 2 ^ 32 → All (IsProcess here.objects) ps → IsWorld here w → AreUnstarted ps ks
    → CanStart 0 here w ps ks
can_start here w ps ks same few rules world un = record {
  processes = same;
  few = few;
  count = un.count;
  rules = rules;
  world = world;
  waiting = λ i p k h at_p at_k. absurd (omega (arith, h));
  unstarted = λ i p k h at_p at_k. un.each i p k at_p at_k;
}

-- the context of the start
abbrev at_start : Objects → ℕ → ℕ → List ℤ → ℕ → Context
at_start objects t n x k = record { objects = objects; process = k; t = t; n = n; x = x }

pub world_typed : (first here : Context) (x : List ℤ) (w : CycleWorld) → here ≡ record first { x = x } → first.t ≡ 0 → first.n ≡ 0 → w ≡ first_world first.objects
    → ((k : ℕ) → IsWorld (context_at first.objects 0 0 x k) (first_world first.objects)) → IsWorld here w
world_typed first here x w e et en ew h =
    subst (λ (c : Context). IsWorld c w) (sym (e ∙ ap (λ (t : ℕ). at_start first.objects t first.n x first.process) et ∙ ap (λ (n : ℕ). at_start first.objects 0 n x first.process) en))
    (subst (IsWorld (context_at first.objects 0 0 x first.process)) (sym ew) (h first.process))

pub start_so : (first here : Context) (x : List ℤ) (ps : List Process) (w : CycleWorld) → here ≡ record first { x = x } → first.t ≡ 0 → first.n ≡ 0 → ps ≡ first.objects.processes → w ≡ first_world first.objects
    → start_all (numbered here) 0 ps w ≡ start_all (context_at first.objects 0 0 x) 0 first.objects.processes (first_world first.objects)
start_so first here x ps w e et en ep ew =
    ap (λ (h : Context). start_all (numbered h) 0 ps w) e
    ∙ ap (λ (t : ℕ). start_all (at_start first.objects t first.n x) 0 ps w) et
    ∙ ap (λ (n : ℕ). start_all (at_start first.objects 0 n x) 0 ps w) en
    ∙ ap (λ (l : List Process). start_all (context_at first.objects 0 0 x) 0 l w) ep
    ∙ ap (start_all (context_at first.objects 0 0 x) 0 first.objects.processes) ew

pub start_ends : (objects : Objects) (x : List ℤ) (e : Ran_of) (k : KernelParts) (r : Result Unit ListFault) → e ≡ start_all (context_at objects 0 0 x) 0 objects.processes (first_world objects)
    → CycleEnds (ended (first_digital objects) 0 false e) k r → CycleEnds (start objects x) k r
unfolding start
start_ends objects x e k r same h = subst (λ (q : Ran_of). CycleEnds (ended (first_digital objects) 0 false q) k r) same h

-- DOMAIN stays as it was at first
pub still_quiescent : StartsChange → (objects : Objects) (at : ℕ → Context) (ps : List Process) (w left : CycleWorld) (states : List ProcessState) (timed : Bool) → w ≡ first_world objects
    → start_all at 0 ps w ≡ all_ran left states → left.domain.value ≡ domain_value timed → timed ≡ false
still_quiescent law objects at ps w left states timed ew ran value =
    same_domain timed false
    (sym value ∙ ap (λ (r : Ran_of). (world_behind r).domain.value) (sym ran) ∙ ap (λ (s : Seen). s.value) (law at 0 ps w).domain ∙ ap (λ (v : CycleWorld). v.domain.value) ew)

-- ---- how the start ends

pub first_fails : (first here : Context) (x : List ℤ) (ps : List Process) (js : List Kept) (w : CycleWorld) (after : KernelParts) (f : ListFault) → here ≡ record first { x = x } → first.t ≡ 0 → first.n ≡ 0
    → ps ≡ first.objects.processes → w ≡ first_world first.objects → AllEnd (start_all (numbered here) 0 ps w) (world_of after.world) (states_kept ps js) (Err f) → CycleEnds (start first.objects x) after (Err f)
first_fails first here x ps js w after f e et en ep ew h =
    start_ends first.objects x (start_all (numbered here) 0 ps w) after (Err f) (start_so first here x ps w e et en ep ew)
    (ends_early (first_digital first.objects) 0 false (start_all (numbered here) 0 ps w) after (world_of after.world) (states_kept ps js) f refl h)

pub first_unentered : (first here : Context) (x : List ℤ) (ps : List Process) (js : List Kept) (w : CycleWorld) (after : KernelParts) → here ≡ record first { x = x } → first.t ≡ 0 → first.n ≡ 0
    → ps ≡ first.objects.processes → w ≡ first_world first.objects → start_all (numbered here) 0 ps w ≡ all_ran (world_of after.world) (states_kept ps js) → CycleEnds (start first.objects x) after (Err fault.Memory)
first_unentered first here x ps js w after e et en ep ew ran =
    start_ends first.objects x (start_all (numbered here) 0 ps w) after (Err fault.Memory) (start_so first here x ps w e et en ep ew)
    (ends_behind (first_digital first.objects) 0 false (start_all (numbered here) 0 ps w) (world_of after.world) (states_kept ps js) ran)

pub first_cycled : IsStateLeft → StartsChange → StartsAreEntered → (before after : KernelParts) (here : Context) (w : CycleWorld) (x : List ℤ) (ps : List Process) → here ≡ record (context_of before.world) { x = x }
    → (context_of before.world).t ≡ 0 → (context_of before.world).n ≡ 0 → ps ≡ (objects_of before).processes → w ≡ first_world (objects_of before)
    → IsBuilt before → after.waits ≡ before.waits → after.callers ≡ before.callers → after.resumed.items ≡ before.resumed.items
    → start_all (numbered here) 0 ps w ≡ all_ran (world_of after.world) (states_kept ps after.kept.items) → CanRun (context_of after.world) (world_of after.world) ps after.kept.items
    → numbered (context_of after.world) 0 ≡ numbered here 0 → after.timeouts ≡ timeouts_kept after.kept.items → CycleEnds (start (objects_of before) x) after (Ok tt)
first_cycled left_law change_law times_law before after here w x ps e et en ep ew built waits callers marks ran can ex entering =
    let objects = objects_of before in
    let able : CanRun (context_of after.world) (world_of after.world) objects.processes after.kept.items = subst (λ (l : List Process). CanRun (context_of after.world) (world_of after.world) l after.kept.items) ep can in
    let whole : start_all (numbered here) 0 ps w ≡ all_ran (world_of after.world) (states_kept objects.processes after.kept.items) = ran ∙ ap (λ (l : List Process). all_ran (world_of after.world) (states_kept l after.kept.items)) ep in
    let eo : objects_of after ≡ objects = objects_stay (context_of after.world) here ex ∙ ap (λ (h : Context). h.objects) e in
    let now : (context_of after.world).t ≡ 0 = moment_stays (context_of after.world) here ex ∙ ap (λ (h : Context). h.t) e ∙ et in
    let timed : after.world.timed ≡ false = still_quiescent change_law objects (numbered here) ps w (world_of after.world) (states_kept objects.processes after.kept.items) after.world.timed ew whole refl in
    start_ends objects x (start_all (numbered here) 0 ps w) after (Ok tt) (start_so (context_of before.world) here x ps w e et en ep ew)
    (cycled left_law objects (first_digital objects) 0 false (start_all (numbered here) 0 ps w) after refl eo now timed whole
    (going objects after eo (lists_stay before after eo waits callers built.lists) (marks ∙ built.resumed) able (entering ∙ times_law objects.processes after.kept.items able.count)))

-- ---- what the first runs ask

pub start_asked : (first here : Context) (x : List ℤ) (ps : List Process) (ks : List Kept) (w : CycleWorld) → here ≡ record first { x = x } → first.t ≡ 0 → first.n ≡ 0 → ps ≡ first.objects.processes → w ≡ first_world first.objects
    → length first.objects.processes < 2 ^ 32 → All (IsProcess first.objects) first.objects.processes → AreUnstarted first.objects.processes ks
    → ((k : ℕ) → IsWorld (context_at first.objects 0 0 x k) (first_world first.objects)) → CanStart 0 here w ps ks
start_asked first here x ps ks w e et en ep ew few rules un typed =
    let eo : here.objects ≡ first.objects = ap (λ (h : Context). h.objects) e in
    can_start here w ps ks (ep ∙ ap (λ (o : Objects). o.processes) (sym eo)) (subst (λ (l : List Process). length l < 2 ^ 32) (sym ep) few)
    (subst (λ (o : Objects). All (IsProcess o) ps) (sym eo) (subst (λ (l : List Process). All (IsProcess first.objects) l) (sym ep) rules))
    (world_typed first here x w e et en ew typed) (subst (λ (l : List Process). AreUnstarted l ks) (sym ep) un)
