-- What a kernel promises, from what it handed on and what holds of it.
use Rattle.std.proofs.Common.{◌≡◌, ◌<◌, ℕ, Bool, refl, sym, ap, subst, ◌∙◌, List, [], ◌∷◌, ◌++◌, length, map, Result, Ok, Err, arith}
use Rattle.std.specs.Prelude.{IsTrue, OnOk, OnErr, IfOk, ◌≤◌}
use Rattle.std.specs.List.{All}
use Rattle.std.proofs.lemmas.List.{length-map}
use Rattle.std.proofs.lemmas.List.Elements.{All-nil, All-cons, All-head, All-tail, All-append}
use Rattle.ams_value.specs.declared.val.Val.{Val}
use Rattle.flat_design.specs.declared.objects.Threshold.{Threshold}
use Rattle.flat_design.specs.declared.objects.Objects.{Objects}
use Rattle.flat_design.specs.Reads.{frame_of}
use Rattle.step_data.specs.declared.event.Event.{Event}
use Rattle.step_data.specs.declared.breaks.ThresholdState.{ThresholdState}
use Rattle.step_data.specs.declared.outcome.Ran.{Ran}
use Rattle.step_model.specs.System.{System, Digital, CycleOutcome}
use Rattle.step_model.specs.Printing.{can_print, CanPrint}
use Rattle.step_model.specs.Kernel.{AddsFront, stage_after}
use Rattle.step_model.specs.declared.kernel_stage.KernelStage.{KernelStage}
use Rattle.step_model.specs.declared.kernel_stage.KernelStage.TheVariants.{Lost}
use Rattle.design_meaning.specs.Readings.{Seen}
use Rattle.cycle_meaning.specs.Cycles.{is_on, kept_in, threshold_states, frame, first_digital}
use Rattle.design_rules.specs.Design.{IsDesign}
use Rattle.process_rest.specs.Resting.{IsWorld}
use Rattle.frame_values.specs.Frames.{value_by, FramesAreFilled}
use Rattle.kernel_world.specs.Reading.{domain_value}
use Rattle.kernel_world.specs.Acting.{context_of, world_of}
use Rattle.run_laws.specs.Safe.{PrintsValues}
use Rattle.run_laws.specs.Values.{ValuesFit, FrameFits, FirstFrameFits}
use Rattle.kernel_state.specs.declared.parts.KernelParts.{KernelParts}
use Rattle.kernel_state.specs.State.{objects_of, state_of}
use Rattle.digital_kernel.specs.Handing.{stage_left}
use Rattle.digital_kernel.specs.Runs.{RunsAs}
use Rattle.digital_kernel.proofs.Exchanged.{same_domain}

-- ---- the stage

pub stage_is : {E : Type 0} (r : Result Ran E) (o : CycleOutcome) (now : KernelStage) → now ≡ stage_left r → IfOk r (λ ran. ran ≡ o.ran) → OnOk r (now ≡ stage_after o.ran)
stage_is (Ok ran) o now e h = e ∙ ap stage_after h
stage_is (Err x) o now e h = tt

pub is_lost : {E : Type 0} (r : Result Ran E) (now : KernelStage) → now ≡ stage_left r → OnErr r (now ≡ Lost)
is_lost (Ok ran) now e = tt
is_lost (Err x) now e = e

-- ---- events that can be printed

prints_front : (sys : System) (front rest : List Event) → CanPrint sys (front ++ rest) → CanPrint sys front
prints_front sys [] rest h = All-nil (λ (e : Event). IsTrue (can_print sys e))
prints_front sys (x ∷ front) rest h =
    All-cons (λ (e : Event). IsTrue (can_print sys e)) x front (All-head (λ (e : Event). IsTrue (can_print sys e)) x (front ++ rest) h)
    (prints_front sys front rest (All-tail (λ (e : Event). IsTrue (can_print sys e)) x (front ++ rest) h))

pub stays_printable : {E : Type 0} (sys : System) (old new added : List Event) (r : Result Ran E) → CanPrint sys added → OnOk r (new ≡ old ++ added) → OnErr r (AddsFront old new added) → CanPrint sys old → CanPrint sys new
stays_printable sys old new added (Ok ran) all given front before =
    subst (CanPrint sys) (sym given) (All-append (λ (e : Event). IsTrue (can_print sys e)) old added before all)
stays_printable sys old new added (Err x) all given front before =
    subst (CanPrint sys) (sym front.new_is)
    (All-append (λ (e : Event). IsTrue (can_print sys e)) old front.front before
    (prints_front sys front.front front.is_front.0 (subst (CanPrint sys) (sym front.is_front.1) all)))

pub prints_values : (sys : System) (objects : Objects) → RunsAs sys objects → PrintsValues objects sys
prints_values sys objects runs v h = subst (λ (f : Val → Bool). IsTrue (f v)) (sym runs.is_printable) h

-- ---- the frame

on_states : (ks : List Threshold) (kept : List Bool) → length kept ≡ length ks → map (λ (s : ThresholdState). s.on) (threshold_states ks kept) ≡ kept
on_states [] [] e = refl
on_states [] (b ∷ kept) e = absurd (omega arith)
on_states (k ∷ ks) [] e = absurd (omega arith)
on_states (k ∷ ks) (b ∷ kept) e = ap (λ l. b ∷ l) (on_states ks kept (omega arith))

pub framed : FramesAreFilled → (sys : System) (k : KernelParts) (signals : List Val) (list : List ThresholdState) (timed : Bool) (out : List Val) → RunsAs sys (objects_of k) → IsWorld (context_of k.world) (world_of k.world)
    → signals ≡ map (λ (s : Seen). s.value) (world_of k.world).signals → list ≡ threshold_states (objects_of k).thresholds (kept_in (world_of k.world)) → domain_value timed ≡ (world_of k.world).domain.value
    → out ≡ map (value_by signals list timed) (frame_of (objects_of k)) → out ≡ sys.frame (state_of k)
framed law sys k signals list timed out runs w es el et eo =
    eo ∙ ap (λ (v : List Val). map (value_by v list timed) (frame_of (objects_of k))) es
    ∙ ap (λ (b : Bool). map (value_by (state_of k).signals list b) (frame_of (objects_of k))) (same_domain timed k.world.timed et)
    ∙ law (objects_of k) (state_of k) list
    (ap (λ (l : List ThresholdState). map (λ (s : ThresholdState). s.on) l) el ∙ on_states (objects_of k).thresholds (kept_in (world_of k.world)) (length-map (world_of k.world).thresholds (λ (s : Seen). is_on s.value) ∙ w.thresholds))
    ∙ ap (λ (f : Digital → List Val). f (state_of k)) (sym runs.frame_is)

pub first_framed : (sys : System) (objects : Objects) (out : List Val) → RunsAs sys objects → out ≡ frame objects (first_digital objects) → out ≡ sys.frame sys.unstarted
first_framed sys objects out runs e =
    e ∙ ap (λ (f : Digital → List Val). f (first_digital objects)) (sym runs.frame_is) ∙ ap sys.frame (sym runs.unstarted)

pub frame_fits : FrameFits → (sys : System) (objects : Objects) (d : Digital) (out : List Val) → RunsAs sys objects → IsDesign objects → ValuesFit objects d.signals d.queues → out ≡ sys.frame d → IsTrue (sys.is_frame out)
frame_fits law sys objects d out runs design fit e =
    subst (λ (v : List Val). IsTrue (sys.is_frame v)) (ap (λ (f : Digital → List Val). f d) (sym runs.frame_is) ∙ sym e)
    (subst (λ (f : List Val → Bool). IsTrue (f (frame objects d))) (sym runs.is_frame) (law objects d design fit))

pub first_fits : FirstFrameFits → (sys : System) (objects : Objects) (out : List Val) → RunsAs sys objects → IsDesign objects → out ≡ frame objects (first_digital objects) → IsTrue (sys.is_frame out)
first_fits law sys objects out runs design e =
    subst (λ (v : List Val). IsTrue (sys.is_frame v)) (sym e) (subst (λ (f : List Val → Bool). IsTrue (f (frame objects (first_digital objects)))) (sym runs.is_frame) (law objects design))

-- ---- thresholds and break elements

pub unknowns_known : (ks : List Threshold) (kept : List Bool) (q n : ℕ) → All (λ (k : Threshold). k.quantity < q) ks → q ≤ n → All (λ (s : ThresholdState). s.unknown < n) (threshold_states ks kept)
unknowns_known [] kept q n all h = All-nil (λ (s : ThresholdState). s.unknown < n)
unknowns_known (k ∷ ks) [] q n all h =
    All-cons (λ (s : ThresholdState). s.unknown < n) _ (threshold_states ks []) (let g : k.quantity < q = All-head (λ (k : Threshold). k.quantity < q) k ks all in omega arith)
    (unknowns_known ks [] q n (All-tail (λ (k : Threshold). k.quantity < q) k ks all) h)
unknowns_known (k ∷ ks) (b ∷ kept) q n all h =
    All-cons (λ (s : ThresholdState). s.unknown < n) _ (threshold_states ks kept) (let g : k.quantity < q = All-head (λ (k : Threshold). k.quantity < q) k ks all in omega arith)
    (unknowns_known ks kept q n (All-tail (λ (k : Threshold). k.quantity < q) k ks all) h)
