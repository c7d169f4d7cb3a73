-- What holds of the solver and of the kernel at every moment.
use Rattle.std.specs.Prelude.{◌≡◌, ◌<◌, ℕ, ◌≤◌, min, Bool, List, length}
use Rattle.std.proofs.Common.{arith}
use Rattle.step_model.specs.Counts.{greatest_count}
use Rattle.step_model.specs.System.{System}
use Rattle.step_model.specs.declared.kernel_stage.KernelStage.{KernelStage}
use Rattle.step_model.specs.declared.kernel_stage.KernelStage.TheVariants.{Unstarted}
use Rattle.listed_models.specs.declared.rows.CycleRow.{CycleRow}
use Rattle.listed_models.specs.Listing.{RunsAs}

-- how many trials and attempts a solver has made
abbrev pub count_of : ℕ → ℕ
count_of made = min made greatest_count

pub count-bounded : (made : ℕ) → count_of made ≤ greatest_count
count-bounded made = omega arith

-- a kernel stands behind one of its listed cycles, before the start at the first
pub record IsSound (sys : System) (cycles : List CycleRow) (reads : Bool) (stage : KernelStage) (at : ℕ) : Type 0 where
  pub runs : RunsAs sys cycles reads
  pub listed : at < length cycles
  pub first : stage ≡ Unstarted → at ≡ 0
