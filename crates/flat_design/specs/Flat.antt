-- What holds of each flat design.
use Rattle.std.specs.Prelude.{◌≡◌, ◌<◌, List, length}
use Rattle.flat_expr.specs.declared.expr.SignalName.{SignalName}
use Rattle.flat_design.specs.declared.objects.Objects.{Objects}
use Rattle.flat_design.specs.Reads.{frame_of}

-- each object has a number below 2 ^ 32
pub record HasNumbers (objects : Objects) : Type 0 where
  pub signals : length objects.signals < 4294967296
  pub quantities : length objects.quantities < 4294967296
  pub nodes : length objects.nodes < 4294967296
  pub equations : length objects.equations < 4294967296
  pub dots : length objects.dots < 4294967296
  pub thresholds : length objects.thresholds < 4294967296

pub record IsFlat (objects : Objects) (frame : List SignalName) : Type 0 where
  pub numbers : HasNumbers objects
  pub frame_is : frame ≡ frame_of objects
