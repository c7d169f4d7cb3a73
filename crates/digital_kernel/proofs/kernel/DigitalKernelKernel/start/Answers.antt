use Rattle.std.proofs.Common.{◌∙◌, ap, sym}
use Rattle.step_model.specs.Kernel.{KernelState}
use Rattle.cycle_meaning.specs.Cycles.{start}
use Rattle.kernel_state.specs.State.{objects_of}
use Rattle.digital_kernel.proofs.Kept.{stays_kernel}
use Rattle.digital_kernel.proofs.Promises.{stage_is, is_lost, stays_printable}
use Rattle.digital_kernel.proofs.Clauses.{start_hands, start_moment}
use Rattle.digital_kernel.proofs.kernel.DigitalKernelKernel.start.Goals as goal

pub start-ran-requires-clause-unstarted : goal.start-ran-requires-clause-unstarted
start-ran-requires-clause-unstarted g c = c.self.invariant.unstarted (ap (λ (s : KernelState). s.stage) c.self.view_is ∙ c.requires.stage)

pub start-ran-requires-clause-point : goal.start-ran-requires-clause-point
start-ran-requires-clause-point g c = c.requires.point ∙ c.self.invariant.runs.unknowns

pub invariant_of-self : goal.invariant_of-self
invariant_of-self g c =
    let k = c.self.inside.parts in
    stays_kernel (g.D.Design.system 0) k c.start-ran.new.parts c.self.inside.stage c.stage_left-self-inside.result c.self.inside.none (start (objects_of k) c.args.x.now) c.args.out.now c.start-ran.new.out c.start-ran.result
    c.self.invariant c.stage_left-self-inside.ensures c.start-ran.ensures.hands c.start-ran.ensures.safe c.start-ran.ensures.objects c.start-ran.ensures.own

pub returns-clause-ran : goal.returns-clause-ran
returns-clause-ran g c =
    (start_hands (g.D.Design.system 0) (objects_of c.self.inside.parts) c.start-ran.new.parts c.args.x.now c.args.out.now c.start-ran.new.out c.start-ran.result c.self.invariant.runs c.start-ran.ensures.hands).ran

pub returns-clause-stage : goal.returns-clause-stage
returns-clause-stage g c =
    let h = start_hands (g.D.Design.system 0) (objects_of c.self.inside.parts) c.start-ran.new.parts c.args.x.now c.args.out.now c.start-ran.new.out c.start-ran.result c.self.invariant.runs c.start-ran.ensures.hands in
    stage_is c.start-ran.result ((g.D.Design.system 0).start c.args.x.now) c.stage_left-self-inside.result c.stage_left-self-inside.ensures h.ran

pub returns-clause-digital : goal.returns-clause-digital
returns-clause-digital g c = λ w.
    let h = start_hands (g.D.Design.system 0) (objects_of c.self.inside.parts) c.start-ran.new.parts c.args.x.now c.args.out.now c.start-ran.new.out c.start-ran.result c.self.invariant.runs c.start-ran.ensures.hands in
    (h.left (sym c.stage_left-self-inside.ensures ∙ w)).digital

pub returns-clause-events : goal.returns-clause-events
returns-clause-events g c =
    (start_hands (g.D.Design.system 0) (objects_of c.self.inside.parts) c.start-ran.new.parts c.args.x.now c.args.out.now c.start-ran.new.out c.start-ran.result c.self.invariant.runs c.start-ran.ensures.hands).given

pub returns-clause-printable : goal.returns-clause-printable
returns-clause-printable g c =
    let h = c.start-ran.ensures.hands in
    stays_printable (g.D.Design.system 0) c.args.out.now c.start-ran.new.out (start (objects_of c.self.inside.parts) c.args.x.now).events c.start-ran.result
    (c.events_can_be_printed.ensures.start (objects_of c.self.inside.parts) (g.D.Design.system 0) c.args.x.now) h.given h.front

pub returns-clause-time : goal.returns-clause-time
returns-clause-time g c = λ w.
    (start_moment (objects_of c.self.inside.parts) c.start-ran.new.parts c.args.x.now c.args.out.now c.start-ran.new.out c.start-ran.result c.stage_left-self-inside.result c.stage_left-self-inside.ensures c.start-ran.ensures.hands w).time

pub returns-clause-domain : goal.returns-clause-domain
returns-clause-domain g c = λ w.
    (start_moment (objects_of c.self.inside.parts) c.start-ran.new.parts c.args.x.now c.args.out.now c.start-ran.new.out c.start-ran.result c.stage_left-self-inside.result c.stage_left-self-inside.ensures c.start-ran.ensures.hands w).domain

pub returns-clause-lost : goal.returns-clause-lost
returns-clause-lost g c = is_lost c.start-ran.result c.stage_left-self-inside.result c.stage_left-self-inside.ensures

pub returns-clause-front : goal.returns-clause-front
returns-clause-front g c =
    (start_hands (g.D.Design.system 0) (objects_of c.self.inside.parts) c.start-ran.new.parts c.args.x.now c.args.out.now c.start-ran.new.out c.start-ran.result c.self.invariant.runs c.start-ran.ensures.hands).front
