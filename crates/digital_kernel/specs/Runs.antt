-- The digital side of a design's system, and what holds of its kernel.
use Rattle.std.specs.Prelude.{◌≡◌, [], length, List}
use Rattle.flat_design.specs.declared.objects.Objects.{Objects}
use Rattle.flat_design.specs.Order.{unknown_count}
use Rattle.flat_design.specs.Reads.{frame_of}
use Rattle.step_data.specs.declared.outcome.Options.{Options}
use Rattle.step_data.specs.declared.breaks.Element.{Element}
use Rattle.step_model.specs.System.{System}
use Rattle.step_model.specs.declared.kernel_stage.KernelStage.{KernelStage}
use Rattle.step_model.specs.declared.kernel_stage.KernelStage.TheVariants.{Unstarted, Going}
use Rattle.cycle_meaning.specs.Cycles.{first_digital, first_world, start, cycle, next_time, frame, thresholds, breaks}
use Rattle.design_rules.specs.Design.{IsDesign}
use Rattle.system_model.specs.System.{are_values_of, is_element, is_printable, system_of}
use Rattle.process_runs.specs.Kept.{AreUnstarted}
use Rattle.kernel_world.specs.Acting.{context_of, world_of}
use Rattle.run_laws.specs.Safe.{IsSafe}
use Rattle.kernel_state.specs.declared.parts.KernelParts.{KernelParts}
use Rattle.kernel_state.specs.State.{objects_of, state_of, IsBuilt, IsGoing}

-- a system has the digital side of a design
pub record RunsAs (sys : System) (objects : Objects) : Type 0 where
  pub unknowns : sys.unknowns ≡ unknown_count objects
  pub frame_len : sys.frame_len ≡ length (frame_of objects)
  pub is_frame : sys.is_frame ≡ are_values_of objects (frame_of objects)
  pub is_element : sys.is_element ≡ is_element objects
  pub is_printable : sys.is_printable ≡ is_printable objects
  pub unstarted : sys.unstarted ≡ first_digital objects
  pub start_is : sys.start ≡ start objects
  pub cycle_is : sys.cycle ≡ cycle objects
  pub next_time_is : sys.next_time ≡ next_time
  pub frame_is : sys.frame ≡ frame objects
  pub thresholds_are : sys.thresholds ≡ thresholds objects
  pub breaks_are : sys.breaks ≡ breaks

-- the system of a design is one
abbrev pub SystemsAreRun : Type 0
SystemsAreRun = (objects : Objects) (options : Options) → RunsAs (system_of objects options) objects

-- the parts before the start
pub record IsUnstarted (k : KernelParts) : Type 0 where
  pub built : IsBuilt k
  pub t : (context_of k.world).t ≡ 0
  pub n : (context_of k.world).n ≡ 0
  pub world : world_of k.world ≡ first_world (objects_of k)
  pub kept : AreUnstarted (objects_of k).processes k.kept.items
  pub timeouts : length k.timeouts ≡ length (objects_of k).processes

-- the parts between two cycles
pub record IsCycling (k : KernelParts) : Type 0 where
  pub going : IsGoing k
  pub idle : (world_of k.world).events ≡ []
  pub safe : IsSafe (objects_of k) (state_of k)

-- what holds of the kernel at every moment
pub record IsKernel (sys : System) (k : KernelParts) (stage : KernelStage) (none : List Element) : Type 0 where
  pub design : IsDesign (objects_of k)
  pub runs : RunsAs sys (objects_of k)
  pub events : k.events ≡ []
  pub none_is : none ≡ []
  pub unstarted : stage ≡ Unstarted → IsUnstarted k
  pub going : stage ≡ Going → IsCycling k
