use Rattle.std.proofs.Common.{◌≡◌, ◌∙◌, ap, sym, subst}
use Rattle.std.specs.Prelude.{IfSome, ◌≤◌, ◌||◌}
use Rattle.step_model.specs.Kernel.{KernelState, cycle_of}
use Rattle.step_model.specs.declared.kernel_stage.KernelStage.TheVariants.{Going}
use Rattle.cycle_meaning.specs.Cycles.{cycle}
use Rattle.kernel_state.specs.State.{objects_of, state_of}
use Rattle.digital_kernel.specs.Handing.{HandsOn}
use Rattle.digital_kernel.proofs.Kept.{stays_kernel}
use Rattle.digital_kernel.proofs.Promises.{stage_is, is_lost, stays_printable, prints_values}
use Rattle.digital_kernel.proofs.Clauses.{cycle_hands, cycle_moment, next_known}
use Rattle.digital_kernel.proofs.kernel.DigitalKernelKernel.cycle.Goals as goal

pub cycle-ran-requires-clause-cycling : goal.cycle-ran-requires-clause-cycling
cycle-ran-requires-clause-cycling g c =
    c.self.invariant.going c.in-Going.is

pub cycle-ran-requires-clause-next : goal.cycle-ran-requires-clause-next
cycle-ran-requires-clause-next g c =
    let going : c.args.self.now.stage ≡ Going = ap (λ (s : KernelState). s.stage) (sym c.self.view_is) ∙ c.in-Going.is in
    next_known (g.D.Design.system 0) (objects_of c.self.inside.parts) (state_of c.self.inside.parts) c.args.t c.self.invariant.runs
    (subst (λ (s : KernelState). IfSome ((g.D.Design.system 0).next_time s.digital) (λ u. c.args.t ≤ u)) (sym c.self.view_is) (c.requires.next going))

pub cycle-ran-requires-clause-point : goal.cycle-ran-requires-clause-point
cycle-ran-requires-clause-point g c =
    c.requires.point ∙ c.self.invariant.runs.unknowns

pub invariant_of-self : goal.invariant_of-self
invariant_of-self g c =
    stays_kernel (g.D.Design.system 0) c.self.inside.parts c.cycle-ran.new.parts c.self.inside.stage c.stage_left-self-inside.result c.self.inside.none (cycle (objects_of c.self.inside.parts) (state_of c.self.inside.parts) c.args.t c.args.n c.args.x.now c.args.to_time) c.args.out.now c.cycle-ran.new.out c.cycle-ran.result
    c.self.invariant c.stage_left-self-inside.ensures c.cycle-ran.ensures.hands c.cycle-ran.ensures.safe c.cycle-ran.ensures.objects c.cycle-ran.ensures.own

pub returns-in-Going-clause-ran : goal.returns-in-Going-clause-ran
returns-in-Going-clause-ran g c =
    let h = subst (λ (s : KernelState). HandsOn (cycle_of (g.D.Design.system 0) s c.args.t c.args.n c.args.x.now c.args.to_time) c.cycle-ran.new.parts c.args.out.now c.cycle-ran.new.out c.cycle-ran.result) c.self.view_is
    (cycle_hands (g.D.Design.system 0) (objects_of c.self.inside.parts) (state_of c.self.inside.parts) c.self.inside.stage c.cycle-ran.new.parts c.args.t c.args.n c.args.x.now c.args.to_time c.args.out.now c.cycle-ran.new.out c.cycle-ran.result c.self.invariant.runs c.in-Going.is c.cycle-ran.ensures.hands) in h.ran

pub returns-in-Going-clause-stage : goal.returns-in-Going-clause-stage
returns-in-Going-clause-stage g c =
    let h = subst (λ (s : KernelState). HandsOn (cycle_of (g.D.Design.system 0) s c.args.t c.args.n c.args.x.now c.args.to_time) c.cycle-ran.new.parts c.args.out.now c.cycle-ran.new.out c.cycle-ran.result) c.self.view_is
    (cycle_hands (g.D.Design.system 0) (objects_of c.self.inside.parts) (state_of c.self.inside.parts) c.self.inside.stage c.cycle-ran.new.parts c.args.t c.args.n c.args.x.now c.args.to_time c.args.out.now c.cycle-ran.new.out c.cycle-ran.result c.self.invariant.runs c.in-Going.is c.cycle-ran.ensures.hands) in
    stage_is c.cycle-ran.result (cycle_of (g.D.Design.system 0) c.args.self.now c.args.t c.args.n c.args.x.now c.args.to_time) c.stage_left-self-inside.result c.stage_left-self-inside.ensures h.ran

pub returns-in-Going-clause-digital : goal.returns-in-Going-clause-digital
returns-in-Going-clause-digital g c =
    let h = subst (λ (s : KernelState). HandsOn (cycle_of (g.D.Design.system 0) s c.args.t c.args.n c.args.x.now c.args.to_time) c.cycle-ran.new.parts c.args.out.now c.cycle-ran.new.out c.cycle-ran.result) c.self.view_is
    (cycle_hands (g.D.Design.system 0) (objects_of c.self.inside.parts) (state_of c.self.inside.parts) c.self.inside.stage c.cycle-ran.new.parts c.args.t c.args.n c.args.x.now c.args.to_time c.args.out.now c.cycle-ran.new.out c.cycle-ran.result c.self.invariant.runs c.in-Going.is c.cycle-ran.ensures.hands) in λ w. (h.left (sym c.stage_left-self-inside.ensures ∙ w)).digital

pub returns-in-Going-clause-events : goal.returns-in-Going-clause-events
returns-in-Going-clause-events g c =
    let h = subst (λ (s : KernelState). HandsOn (cycle_of (g.D.Design.system 0) s c.args.t c.args.n c.args.x.now c.args.to_time) c.cycle-ran.new.parts c.args.out.now c.cycle-ran.new.out c.cycle-ran.result) c.self.view_is
    (cycle_hands (g.D.Design.system 0) (objects_of c.self.inside.parts) (state_of c.self.inside.parts) c.self.inside.stage c.cycle-ran.new.parts c.args.t c.args.n c.args.x.now c.args.to_time c.args.out.now c.cycle-ran.new.out c.cycle-ran.result c.self.invariant.runs c.in-Going.is c.cycle-ran.ensures.hands) in h.given

pub returns-in-Going-clause-front : goal.returns-in-Going-clause-front
returns-in-Going-clause-front g c =
    let h = subst (λ (s : KernelState). HandsOn (cycle_of (g.D.Design.system 0) s c.args.t c.args.n c.args.x.now c.args.to_time) c.cycle-ran.new.parts c.args.out.now c.cycle-ran.new.out c.cycle-ran.result) c.self.view_is
    (cycle_hands (g.D.Design.system 0) (objects_of c.self.inside.parts) (state_of c.self.inside.parts) c.self.inside.stage c.cycle-ran.new.parts c.args.t c.args.n c.args.x.now c.args.to_time c.args.out.now c.cycle-ran.new.out c.cycle-ran.result c.self.invariant.runs c.in-Going.is c.cycle-ran.ensures.hands) in h.front

pub returns-in-Going-clause-printable : goal.returns-in-Going-clause-printable
returns-in-Going-clause-printable g c =
    let h = c.cycle-ran.ensures.hands in
    stays_printable (g.D.Design.system 0) c.args.out.now c.cycle-ran.new.out (cycle (objects_of c.self.inside.parts) (state_of c.self.inside.parts) c.args.t c.args.n c.args.x.now c.args.to_time).events c.cycle-ran.result
    (c.events_can_be_printed.ensures.cycle (objects_of c.self.inside.parts) (g.D.Design.system 0) (state_of c.self.inside.parts) c.args.t c.args.n c.args.x.now c.args.to_time (prints_values (g.D.Design.system 0) (objects_of c.self.inside.parts) c.self.invariant.runs) (c.self.invariant.going c.in-Going.is).safe.values) h.given h.front

pub returns-in-Going-clause-time : goal.returns-in-Going-clause-time
returns-in-Going-clause-time g c =
    λ w. (cycle_moment (objects_of c.self.inside.parts) (state_of c.self.inside.parts) c.cycle-ran.new.parts c.args.t c.args.n c.args.x.now c.args.to_time c.args.out.now c.cycle-ran.new.out c.cycle-ran.result c.stage_left-self-inside.result c.stage_left-self-inside.ensures c.cycle-ran.ensures.hands w).time

pub returns-in-Going-clause-domain : goal.returns-in-Going-clause-domain
returns-in-Going-clause-domain g c =
    λ w. (cycle_moment (objects_of c.self.inside.parts) (state_of c.self.inside.parts) c.cycle-ran.new.parts c.args.t c.args.n c.args.x.now c.args.to_time c.args.out.now c.cycle-ran.new.out c.cycle-ran.result c.stage_left-self-inside.result c.stage_left-self-inside.ensures c.cycle-ran.ensures.hands w).domain ∙ ap (λ (s : KernelState). s.digital.timed || c.args.to_time) c.self.view_is

pub returns-in-Going-clause-lost : goal.returns-in-Going-clause-lost
returns-in-Going-clause-lost g c =
    is_lost c.cycle-ran.result c.stage_left-self-inside.result c.stage_left-self-inside.ensures

pub returns-in-Going-clause-again : goal.returns-in-Going-clause-again
returns-in-Going-clause-again g c =
    let going : c.args.self.now.stage ≡ Going = ap (λ (s : KernelState). s.stage) (sym c.self.view_is) ∙ c.in-Going.is in λ r e. absurd (cc)

pub returns-in-Going-clause-dead : goal.returns-in-Going-clause-dead
returns-in-Going-clause-dead g c =
    let going : c.args.self.now.stage ≡ Going = ap (λ (s : KernelState). s.stage) (sym c.self.view_is) ∙ c.in-Going.is in λ e. absurd (cc)

pub returns-in-Going-clause-silent : goal.returns-in-Going-clause-silent
returns-in-Going-clause-silent g c =
    let going : c.args.self.now.stage ≡ Going = ap (λ (s : KernelState). s.stage) (sym c.self.view_is) ∙ c.in-Going.is in λ e. absurd (e going)

pub returns-in-Going-clause-stays : goal.returns-in-Going-clause-stays
returns-in-Going-clause-stays g c =
    let going : c.args.self.now.stage ≡ Going = ap (λ (s : KernelState). s.stage) (sym c.self.view_is) ∙ c.in-Going.is in λ e. absurd (e going)
