use Rattle.std.proofs.Common.{◌≡◌, ◌∙◌, ap, sym, subst, List, length, map}
use Rattle.std.proofs.lemmas.List.{length-map}
use Rattle.ams_value.specs.declared.val.Val.{Val}
use Rattle.flat_expr.specs.declared.expr.SignalName.{SignalName}
use Rattle.flat_design.specs.declared.objects.Objects.{Objects}
use Rattle.flat_design.specs.Reads.{frame_of}
use Rattle.step_data.specs.declared.breaks.ThresholdState.{ThresholdState}
use Rattle.step_model.specs.Kernel.{KernelState}
use Rattle.cycle_meaning.specs.Cycles.{first_digital, frame}
use Rattle.frame_values.specs.Frames.{value_by}
use Rattle.kernel_state.specs.State.{objects_of, state_of}
use Rattle.digital_kernel.proofs.Promises.{framed, first_framed, frame_fits, first_fits}
use Rattle.digital_kernel.proofs.kernel.DigitalKernelKernel.frame.Goals as goal

pub fill_frame-requires : goal.fill_frame-requires
fill_frame-requires g c =
    c.requires ∙ c.self.invariant.runs.frame_len ∙ sym (ap (λ (l : List SignalName). length l) (c.frame.ensures ∙ ap frame_of c.flat.ensures))

pub returns-in-Going-clause-value : goal.returns-in-Going-clause-value
returns-in-Going-clause-value g c = λ w.
    let k = c.self.inside.parts in
    let out : c.fill_frame.new.out ≡ map (value_by c.signal_values.result.now c.threshold_list.result.now c.is_timed.result) (frame_of (objects_of k)) =
    c.fill_frame.ensures
    ∙ ap (λ (l : List ThresholdState). map (value_by c.signal_values.result.now l c.is_timed.result) c.frame.result.now) c.as_slice.ensures
    ∙ ap (λ (l : List SignalName). map (value_by c.signal_values.result.now c.threshold_list.result.now c.is_timed.result) l) (c.frame.ensures ∙ ap frame_of c.flat.ensures) in
    subst (λ (s : KernelState). c.fill_frame.new.out ≡ (g.D.Design.system 0).frame s.digital) c.self.view_is
    (framed c.frames_are_filled.ensures (g.D.Design.system 0) k c.signal_values.result.now c.threshold_list.result.now c.is_timed.result c.fill_frame.new.out c.self.invariant.runs (c.self.invariant.going c.in-Going.is).going.can.world
    c.signal_values.ensures c.threshold_list.ensures c.is_timed.ensures out)

pub returns-in-Going-clause-fits : goal.returns-in-Going-clause-fits
returns-in-Going-clause-fits g c =
    let k = c.self.inside.parts in
    let cycling = c.self.invariant.going c.in-Going.is in
    let out : c.fill_frame.new.out ≡ map (value_by c.signal_values.result.now c.threshold_list.result.now c.is_timed.result) (frame_of (objects_of k)) =
    c.fill_frame.ensures
    ∙ ap (λ (l : List ThresholdState). map (value_by c.signal_values.result.now l c.is_timed.result) c.frame.result.now) c.as_slice.ensures
    ∙ ap (λ (l : List SignalName). map (value_by c.signal_values.result.now c.threshold_list.result.now c.is_timed.result) l) (c.frame.ensures ∙ ap frame_of c.flat.ensures) in
    frame_fits c.worlds_have_values_of_their_types.ensures.frame (g.D.Design.system 0) (objects_of k) (state_of k) c.fill_frame.new.out c.self.invariant.runs c.self.invariant.design cycling.safe.values
    (framed c.frames_are_filled.ensures (g.D.Design.system 0) k c.signal_values.result.now c.threshold_list.result.now c.is_timed.result c.fill_frame.new.out c.self.invariant.runs cycling.going.can.world
    c.signal_values.ensures c.threshold_list.ensures c.is_timed.ensures out)

pub returns-in-Going-clause-length : goal.returns-in-Going-clause-length
returns-in-Going-clause-length g c =
    ap (λ (l : List Val). length l) c.fill_frame.ensures ∙ length-map c.frame.result.now (value_by c.signal_values.result.now c.as_slice.result.now c.is_timed.result)
    ∙ ap (λ (l : List SignalName). length l) (c.frame.ensures ∙ ap frame_of c.flat.ensures) ∙ sym c.self.invariant.runs.frame_len

pub fill_first_frame-requires : goal.fill_first_frame-requires
fill_first_frame-requires g c = c.requires ∙ c.self.invariant.runs.frame_len ∙ sym (ap (λ (o : Objects). length (frame_of o)) c.flat-in_default.ensures)

pub returns-in_default-clause-first : goal.returns-in_default-clause-first
returns-in_default-clause-first g c = λ w.
    first_framed (g.D.Design.system 0) (objects_of c.self.inside.parts) c.fill_first_frame.new.out c.self.invariant.runs
    (c.fill_first_frame.ensures ∙ ap (λ (o : Objects). frame o (first_digital o)) c.flat-in_default.ensures)

pub returns-in_default-clause-fits : goal.returns-in_default-clause-fits
returns-in_default-clause-fits g c =
    first_fits c.worlds_have_values_of_their_types.ensures.first_frame (g.D.Design.system 0) (objects_of c.self.inside.parts) c.fill_first_frame.new.out c.self.invariant.runs c.self.invariant.design
    (c.fill_first_frame.ensures ∙ ap (λ (o : Objects). frame o (first_digital o)) c.flat-in_default.ensures)
