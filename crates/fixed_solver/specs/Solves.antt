-- The analogue side of a design's system.
use Rattle.std.specs.Prelude.{◌≡◌, length}
use Rattle.flat_design.specs.declared.objects.Objects.{Objects}
use Rattle.flat_design.specs.Order.{unknown_count}
use Rattle.flat_design.specs.Reads.{frame_of}
use Rattle.step_data.specs.declared.outcome.Options.{Options}
use Rattle.step_model.specs.System.{System}
use Rattle.design_meaning.specs.Steps.{choose, trial, settle, selections_of}
use Rattle.system_model.specs.System.{are_values_of, is_element, initial_values, system_of}

-- a system has the analogue side of a design with its options
pub record SolvesAs (sys : System) (objects : Objects) (options : Options) : Type 0 where
  pub unknowns : sys.unknowns ≡ unknown_count objects
  pub frame_len : sys.frame_len ≡ length (frame_of objects)
  pub choices : sys.choices ≡ length (selections_of objects.equations)
  pub is_frame : sys.is_frame ≡ are_values_of objects (frame_of objects)
  pub is_element : sys.is_element ≡ is_element objects
  pub initial : sys.initial ≡ initial_values objects
  pub trial : sys.trial ≡ trial objects options
  pub settle : sys.settle ≡ settle objects options
  pub choose : sys.choose ≡ choose objects
  pub options_are : sys.options ≡ options

-- the system of a design is one
abbrev pub SystemsAreSolved : Type 0
SystemsAreSolved = (objects : Objects) (options : Options) → SolvesAs (system_of objects options) objects options
