-- What holds of the kernel behind a start or a cycle.
use Rattle.std.proofs.Common.{◌≡◌, ℕ, pos, sym, ap, subst, ◌∙◌, List, [], length, replicate, Option, None, Result, Ok, Err}
use Rattle.std.proofs.lemmas.List.{length-replicate}
use Rattle.flat_design.specs.declared.objects.Objects.{Objects}
use Rattle.flat_design.specs.Order.{unknown_count}
use Rattle.step_data.specs.declared.event.Event.{Event}
use Rattle.step_data.specs.declared.breaks.Element.{Element}
use Rattle.step_data.specs.declared.outcome.Ran.{Ran}
use Rattle.step_data.specs.declared.outcome.Ran.TheVariants.{Done, Refused}
use Rattle.step_model.specs.System.{System, CycleOutcome}
use Rattle.step_model.specs.declared.kernel_stage.KernelStage.{KernelStage}
use Rattle.step_model.specs.declared.kernel_stage.KernelStage.TheVariants.{Unstarted, Going}
use Rattle.cycle_meaning.specs.World.{Context}
use Rattle.cycle_meaning.specs.Cycles.{context_at, first_world}
use Rattle.design_rules.specs.Design.{IsDesign}
use Rattle.process_runs.specs.Kept.{AreUnstarted}
use Rattle.kernel_world.specs.Acting.{context_of, world_of}
use Rattle.run_laws.specs.Safe.{IsSafe}
use Rattle.kernel_state.specs.declared.parts.KernelParts.{KernelParts}
use Rattle.kernel_state.specs.State.{objects_of, state_of, IsBuilt}
use Rattle.digital_kernel.specs.Handing.{HandsOn, stage_left}
use Rattle.digital_kernel.specs.Runs.{RunsAs, IsKernel}

never_unstarted : {E : Type 0} (r : Result Ran E) → stage_left r ≡ Unstarted → ⊥
never_unstarted (Ok (Done b)) e = cc
never_unstarted (Ok (Refused f)) e = cc
never_unstarted (Err x) e = cc

pub stays_kernel : {E : Type 0} (sys : System) (k after : KernelParts) (stage now : KernelStage) (none : List Element) (e : CycleOutcome) (old new : List Event) (r : Result Ran E)
    → IsKernel sys k stage none → now ≡ stage_left r → HandsOn e after old new r → (stage_left r ≡ Going → IsSafe (objects_of after) (state_of after))
    → objects_of after ≡ objects_of k → after.events ≡ [] → IsKernel sys after now none
stays_kernel sys k after stage now none e old new r h is hands safe eo own = record {
  design = subst IsDesign (sym eo) h.design;
  runs = subst (RunsAs sys) (sym eo) h.runs;
  events = own;
  none_is = h.none_is;
  unstarted = λ u. absurd (never_unstarted r (sym is ∙ u));
  going = λ u.
      let w : stage_left r ≡ Going = sym is ∙ u in
      record { going = (hands.left w).going; idle = (hands.left w).idle; safe = safe w };
}

-- the parts of a design before its start
pub first_kernel : (sys : System) (o : Objects) (k : KernelParts) (none : List Element) → IsDesign o → RunsAs sys o → IsBuilt k → k.events ≡ [] → context_of k.world ≡ context_at o 0 0 (replicate (unknown_count o) (pos 0)) 0
    → world_of k.world ≡ first_world o → AreUnstarted o.processes k.kept.items → k.timeouts ≡ replicate (length o.processes) None → none ≡ [] → IsKernel sys k Unstarted none
first_kernel sys o k none design runs built events context world kept timeouts empty =
    let eo : objects_of k ≡ o = ap (λ (h : Context). h.objects) context in
    record {
      design = subst IsDesign (sym eo) design;
      runs = subst (RunsAs sys) (sym eo) runs;
      events = events;
      none_is = empty;
      unstarted = λ u. record {
        built = built;
        t = ap (λ (h : Context). h.t) context;
        n = ap (λ (h : Context). h.n) context;
        world = world ∙ ap first_world (sym eo);
        kept = subst (λ (q : Objects). AreUnstarted q.processes k.kept.items) (sym eo) kept;
        timeouts = ap (λ (l : List (Option ℕ)). length l) timeouts ∙ length-replicate (length o.processes) None ∙ ap (λ (q : Objects). length q.processes) (sym eo);
      };
      going = λ u. absurd (cc);
    }
