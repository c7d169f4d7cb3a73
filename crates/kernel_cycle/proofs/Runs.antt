-- The runs of a cycle, and what they leave.
use Rattle.std.proofs.Common.{◌≡◌, refl, ap, sym, ◌∙◌, subst, ℕ, suc, Bool, List, [], ◌∷◌, map, length, Option, Ok, Err}
use Rattle.std.specs.Prelude.{replicate, false}
use Rattle.flat_design.specs.declared.objects.Process.{Process}
use Rattle.step_model.specs.System.{Digital}
use Rattle.cycle_meaning.specs.World.{World as CycleWorld, Context}
use Rattle.cycle_meaning.specs.Cycles.{Ran_of, all_ran, resumes, run_all, ended, first_digital}
use Rattle.next_cycle.specs.Next.{timeouts_of}
use Rattle.process_runs.specs.Kept.{Kept, numbered, states_kept, CanRun}
use Rattle.process_runs.specs.Ran.{AllEnd}
use Rattle.process_callers.specs.Calling.{unless_due}
use Rattle.cycle_timeouts.specs.Entered.{entered}
use Rattle.cycle_parts.specs.Left.{DomainStays, IsStateLeft}
use Rattle.timeout_entry.specs.Kept.{timeouts_kept, RunsAreEntered}
use Rattle.statement_lists.specs.declared.fault.ListFault.{ListFault}
use Rattle.statement_lists.specs.declared.fault.ListFault.TheVariants as fault
use Rattle.kernel_world.specs.Acting.{context_of, world_of}
use Rattle.kernel_state.specs.declared.parts.KernelParts.{KernelParts}
use Rattle.kernel_state.specs.State.{objects_of, states_of, HasLists}
use Rattle.kernel_cycle.specs.Ending.{IsCycled, CycleEnds}
use Rattle.kernel_cycle.proofs.Leaving.{ends_early, ends_behind, moment_stays, objects_stay, lists_stay, going, cycled, states_length, times_length}

-- ---- as many

due_length : (now : ℕ) (times : List (Option ℕ)) → length (map (unless_due now) times) ≡ length times
due_length now [] = refl
due_length now (t ∷ times) = ap suc (due_length now times)

pub due_count : (now : ℕ) (ps : List Process) (ks : List Kept) (times : List (Option ℕ)) → length ks ≡ length ps → times ≡ map (unless_due now) (timeouts_of (states_kept ps ks)) → length times ≡ length ps
due_count now ps ks times count e = ap length e ∙ due_length now (timeouts_of (states_kept ps ks)) ∙ times_length (states_kept ps ks) ∙ states_length ps ks count

-- ---- the processes are those of the design

abbrev runs_of : Context → List Process → List Kept → List Bool → CycleWorld → Ran_of
runs_of here ps ks bs w = run_all (numbered here) 0 ps (states_kept ps ks) bs w

-- the runs of the slices are those of the parts
runs_same : (here : Context) (ps : List Process) (ms ks : List Kept) (cs bs : List Bool) (w : CycleWorld) → ps ≡ here.objects.processes → ms ≡ ks → cs ≡ bs → runs_of here ps ms cs w ≡ runs_of here here.objects.processes ks bs w
runs_same here ps ms ks cs bs w same em eb =
    ap (λ (l : List Process). runs_of here l ms cs w) same ∙ ap (λ (l : List Kept). runs_of here here.objects.processes l cs w) em ∙ ap (λ (l : List Bool). runs_of here here.objects.processes ks l w) eb

pub ran_so : (here : Context) (ps : List Process) (ms ks js ns : List Kept) (cs bs : List Bool) (w v : CycleWorld) → ms ≡ ks → cs ≡ bs → ns ≡ js → runs_of here ps ms cs w ≡ all_ran v (states_kept ps js)
    → runs_of here ps ks bs w ≡ all_ran v (states_kept ps ns)
ran_so here ps ms ks js ns cs bs w v em eb en ran =
    sym (ap (λ (l : List Kept). runs_of here ps l cs w) em ∙ ap (λ (l : List Bool). runs_of here ps ks l w) eb) ∙ ran ∙ ap (λ (l : List Kept). all_ran v (states_kept ps l)) (sym en)

-- a run that ends early
pub run_fails : (d : Digital) (here : Context) (timed : Bool) (ps : List Process) (ms ks js : List Kept) (cs bs : List Bool) (w : CycleWorld) (after : KernelParts) (f : ListFault) → ps ≡ here.objects.processes → ms ≡ ks → cs ≡ bs
    → AllEnd (runs_of here ps ms cs w) (world_of after.world) (states_kept ps js) (Err f)
    → CycleEnds (ended d here.t timed (runs_of here here.objects.processes ks bs w)) after (Err f)
run_fails d here timed ps ms ks js cs bs w after f same em eb h =
    subst (λ (r : Ran_of). CycleEnds (ended d here.t timed r) after (Err f)) (runs_same here ps ms ks cs bs w same em eb)
    (ends_early d here.t timed (runs_of here ps ms cs w) after (world_of after.world) (states_kept ps js) f refl h)

-- no memory for a timeout
pub entry_fails : (d : Digital) (here : Context) (timed : Bool) (ps : List Process) (ms ks js : List Kept) (cs bs : List Bool) (w : CycleWorld) (after : KernelParts) → ps ≡ here.objects.processes → ms ≡ ks → cs ≡ bs
    → runs_of here ps ms cs w ≡ all_ran (world_of after.world) (states_kept ps js)
    → CycleEnds (ended d here.t timed (runs_of here here.objects.processes ks bs w)) after (Err fault.Memory)
entry_fails d here timed ps ms ks js cs bs w after same em eb ran =
    subst (λ (r : Ran_of). CycleEnds (ended d here.t timed r) after (Err fault.Memory)) (runs_same here ps ms ks cs bs w same em eb)
    (ends_behind d here.t timed (runs_of here ps ms cs w) (world_of after.world) (states_kept ps js) ran)

-- all wait again
pub run_cycled : IsStateLeft → DomainStays → RunsAreEntered → (before after : KernelParts) (ps : List Process) (d : Digital) → ps ≡ (objects_of before).processes
    → HasLists before → after.waits ≡ before.waits → after.callers ≡ before.callers
    → length before.resumed.items ≡ length (objects_of before).processes
    → CanRun (context_of before.world) (world_of before.world) (objects_of before).processes before.kept.items
    → resumes (numbered (context_of before.world)) (world_of before.world) 0 (objects_of before).processes (states_of before) ≡ Ok before.resumed.items
    → before.timeouts ≡ map (unless_due (context_of before.world).t) (timeouts_of (states_of before))
    → runs_of (context_of before.world) ps before.kept.items before.resumed.items (world_of before.world) ≡ all_ran (world_of after.world) (states_kept ps after.kept.items)
    → CanRun (context_of after.world) (world_of after.world) ps after.kept.items
    → numbered (context_of after.world) 0 ≡ numbered (context_of before.world) 0
    → after.timeouts ≡ entered before.timeouts (timeouts_kept after.kept.items) before.resumed.items
    → after.resumed.items ≡ replicate (length before.resumed.items) false
    → d.ramps ≡ (first_digital (objects_of before)).ramps
    → IsCycled (ended d (context_of before.world).t before.world.timed (runs_of (context_of before.world) (objects_of before).processes before.kept.items before.resumed.items (world_of before.world))) after
run_cycled left_law domain_law times_law before after ps d same lists ew ec marks can resume times ran waits ex entering blank ramps =
    let here = context_of before.world in
    let objects = objects_of before in
    let whole : runs_of here objects.processes before.kept.items before.resumed.items (world_of before.world) ≡ all_ran (world_of after.world) (states_kept objects.processes after.kept.items) =
    subst (λ (l : List Process). runs_of here l before.kept.items before.resumed.items (world_of before.world) ≡ all_ran (world_of after.world) (states_kept l after.kept.items)) same ran in
    let able : CanRun (context_of after.world) (world_of after.world) objects.processes after.kept.items = subst (λ (l : List Process). CanRun (context_of after.world) (world_of after.world) l after.kept.items) same waits in
    let eo : objects_of after ≡ objects = objects_stay (context_of after.world) here ex in
    let timed : after.world.timed ≡ before.world.timed =
    domain_law (numbered here) 0 objects.processes (states_of before) (states_kept objects.processes after.kept.items) before.resumed.items (world_of before.world) (world_of after.world)
    before.world.timed after.world.timed before.world.to_time after.world.to_time whole refl refl in
    let now : after.timeouts ≡ timeouts_of (states_kept objects.processes after.kept.items) =
    entering ∙ ap (λ (l : List (Option ℕ)). entered l (timeouts_kept after.kept.items) before.resumed.items) times
    ∙ times_law (numbered here) here.t 0 objects.processes (states_of before) after.kept.items before.resumed.items (world_of before.world) (world_of before.world) (world_of after.world)
    (states_length objects.processes before.kept.items can.count) able.count (λ j. refl) resume whole in
    cycled left_law objects d here.t before.world.timed (runs_of here objects.processes before.kept.items before.resumed.items (world_of before.world)) after ramps eo (moment_stays (context_of after.world) here ex) timed whole
    (going objects after eo (lists_stay before after eo ew ec lists) (blank ∙ ap (λ (n : ℕ). replicate n false) marks) able now)
