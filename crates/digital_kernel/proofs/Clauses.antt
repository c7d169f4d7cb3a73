-- What the start and a cycle of the parts say by the named system.
use Rattle.std.proofs.Common.{◌≡◌, ◌≤◌, ◌<◌, ℕ, ◌||◌, Bool, false, sym, ap, subst, ◌∙◌, List, [], length, Result, Option, arith}
use Rattle.std.specs.Prelude.{ℤ, IsTrue, IfSome}
use Rattle.std.specs.List.{All}
use Rattle.std.proofs.lemmas.List.Elements.{All-nil, All-weaker}
use Rattle.flat_design.specs.declared.objects.Threshold.{Threshold}
use Rattle.flat_design.specs.declared.objects.Objects.{Objects}
use Rattle.flat_design.specs.Order.{unknown_count}
use Rattle.step_data.specs.declared.event.Event.{Event}
use Rattle.step_data.specs.declared.breaks.Element.{Element}
use Rattle.step_data.specs.declared.breaks.ThresholdState.{ThresholdState}
use Rattle.step_data.specs.declared.outcome.Ran.{Ran}
use Rattle.step_model.specs.System.{System, Digital, CycleOutcome}
use Rattle.step_model.specs.Kernel.{cycle_by}
use Rattle.step_model.specs.declared.kernel_stage.KernelStage.{KernelStage}
use Rattle.step_model.specs.declared.kernel_stage.KernelStage.TheVariants.{Going}
use Rattle.cycle_meaning.specs.Cycles.{start, cycle, next_time, threshold_states, kept_in}
use Rattle.design_rules.specs.Design.{IsDesign, IsThreshold}
use Rattle.kernel_world.specs.Acting.{world_of}
use Rattle.run_laws.specs.Values.{AreElements}
use Rattle.run_laws.specs.Safe.{NextIsLater, IsSafe}
use Rattle.kernel_state.specs.declared.parts.KernelParts.{KernelParts}
use Rattle.kernel_state.specs.State.{objects_of, state_of}
use Rattle.digital_kernel.specs.Handing.{HandsOn, stage_left}
use Rattle.digital_kernel.specs.Runs.{RunsAs}
use Rattle.digital_kernel.proofs.Moments.{IsAt, start_at, cycle_at}
use Rattle.digital_kernel.proofs.Promises.{unknowns_known}

pub start_hands : {E : Type 0} (sys : System) (o : Objects) (after : KernelParts) (x : List ℤ) (old new : List Event) (r : Result Ran E) → RunsAs sys o → HandsOn (start o x) after old new r → HandsOn (sys.start x) after old new r
start_hands sys o after x old new r runs h = subst (λ (e : CycleOutcome). HandsOn e after old new r) (ap (λ (f : List ℤ → CycleOutcome). f x) (sym runs.start_is)) h

pub cycle_hands : {E : Type 0} (sys : System) (o : Objects) (d : Digital) (stage : KernelStage) (after : KernelParts) (t n : ℕ) (x : List ℤ) (z : Bool) (old new : List Event) (r : Result Ran E)
    → RunsAs sys o → stage ≡ Going → HandsOn (cycle o d t n x z) after old new r → HandsOn (cycle_by stage sys d t n x z) after old new r
cycle_hands sys o d stage after t n x z old new r runs going h =
    subst (λ (e : CycleOutcome). HandsOn e after old new r)
    (ap (λ (f : Digital → ℕ → ℕ → List ℤ → Bool → CycleOutcome). f d t n x z) (sym runs.cycle_is) ∙ ap (λ (g : KernelStage). cycle_by g sys d t n x z) (sym going)) h

pub start_moment : {E : Type 0} (o : Objects) (after : KernelParts) (x : List ℤ) (old new : List Event) (r : Result Ran E) (now : KernelStage) → now ≡ stage_left r → HandsOn (start o x) after old new r → now ≡ Going → IsAt 0 false (state_of after)
start_moment o after x old new r now is h w = subst (IsAt 0 false) (sym (h.left (sym is ∙ w)).digital) (start_at o x)

pub cycle_moment : {E : Type 0} (o : Objects) (d : Digital) (after : KernelParts) (t n : ℕ) (x : List ℤ) (z : Bool) (old new : List Event) (r : Result Ran E) (now : KernelStage)
    → now ≡ stage_left r → HandsOn (cycle o d t n x z) after old new r → now ≡ Going → IsAt t (d.timed || z) (state_of after)
cycle_moment o d after t n x z old new r now is h w =
    let left = h.left (sym is ∙ w) in
    subst (IsAt t (d.timed || z)) (sym left.digital) (cycle_at o d t n x z _ left.ran)

pub next_known : (sys : System) (o : Objects) (d : Digital) (t : ℕ) → RunsAs sys o → IfSome (sys.next_time d) (λ u. t ≤ u) → IfSome (next_time d) (λ u. t ≤ u)
next_known sys o d t runs h = subst (λ (f : Digital → Option ℕ). IfSome (f d) (λ u. t ≤ u)) runs.next_time_is h

pub next_is : (sys : System) (o : Objects) (d : Digital) (r : Option ℕ) → RunsAs sys o → r ≡ next_time d → r ≡ sys.next_time d
next_is sys o d r runs e = e ∙ ap (λ (f : Digital → Option ℕ). f d) (sym runs.next_time_is)

pub next_later : NextIsLater → (o : Objects) (d : Digital) (r : Option ℕ) → IsSafe o d → r ≡ next_time d → IfSome r (λ u. d.time ≤ u)
next_later law o d r safe e = subst (λ (q : Option ℕ). IfSome q (λ u. d.time ≤ u)) (sym e) (law o d safe)

pub thresholds_known : (sys : System) (o : Objects) (kept : List Bool) (list : List ThresholdState) → RunsAs sys o → IsDesign o → list ≡ threshold_states o.thresholds kept → All (λ (s : ThresholdState). s.unknown < sys.unknowns) list
thresholds_known sys o kept list runs design e =
    subst (λ (n : ℕ). All (λ (s : ThresholdState). s.unknown < n) list) (sym runs.unknowns)
    (subst (All (λ (s : ThresholdState). s.unknown < unknown_count o)) (sym e)
    (unknowns_known o.thresholds kept (length o.quantities) (unknown_count o)
    (All-weaker (IsThreshold o) (λ (k : Threshold). k.quantity < length o.quantities) (λ k h. h.quantity) o.thresholds design.thresholds) (omega arith)))

pub thresholds_are : (sys : System) (k : KernelParts) (list : List ThresholdState) → RunsAs sys (objects_of k) → list ≡ threshold_states (objects_of k).thresholds (kept_in (world_of k.world)) → list ≡ sys.thresholds (state_of k)
thresholds_are sys k list runs e = e ∙ ap (λ (f : Digital → List ThresholdState). f (state_of k)) (sym runs.thresholds_are)

pub breaks_are : (sys : System) (k : KernelParts) (list : List Element) → RunsAs sys (objects_of k) → list ≡ (world_of k.world).elements → list ≡ sys.breaks (state_of k)
breaks_are sys k list runs e = e ∙ ap (λ (f : Digital → List Element). f (state_of k)) (sym runs.breaks_are)

pub elements_known : (sys : System) (o : Objects) (list elements : List Element) → RunsAs sys o → list ≡ elements → AreElements o elements → All (λ (e : Element). IsTrue (sys.is_element e)) list
elements_known sys o list elements runs e h =
    subst (All (λ (e : Element). IsTrue (sys.is_element e))) (sym e) (subst (λ (f : Element → Bool). All (λ (e : Element). IsTrue (f e)) elements) (sym runs.is_element) h)

pub no_elements : (sys : System) (list : List Element) → list ≡ [] → All (λ (e : Element). IsTrue (sys.is_element e)) list
no_elements sys list e = subst (All (λ (e : Element). IsTrue (sys.is_element e))) (sym e) (All-nil (λ (e : Element). IsTrue (sys.is_element e)))
