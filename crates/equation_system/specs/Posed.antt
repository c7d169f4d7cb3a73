-- The problem that a set is to Newton's method.
use Rattle.std.specs.Prelude.{ℕ, List}
use Rattle.ams_value.specs.declared.val.Val.{Val}
use Rattle.flat_design.specs.declared.objects.Objects.{Objects}
use Rattle.flat_design.specs.Order.{unknowns}
use Rattle.step_data.specs.declared.breaks.Element.{Element}
use Rattle.step_data.specs.declared.outcome.ChooseKind.{ChooseKind}
use Rattle.design_meaning.specs.Equations.{rows_of, Augmentation}
use Rattle.design_meaning.specs.Newton.{Problem}
use Rattle.design_meaning.specs.Reading.{readings_of}
use Rattle.augmentation_rows.specs.Sets.{set_by}
use Rattle.equation_system.specs.declared.posed.PosedSet.{PosedSet}

-- a set under a frame at a time, with its break elements and the chosen branches: `problem` of `design_meaning`, by the tolerance alone
abbrev pub problem_by : Objects → List Val → ChooseKind → ℕ → Augmentation → List Element → List ℕ → ℕ → Problem
problem_by objects frame kind t set elements branches tolerance =
    record {
      rows = rows_of objects branches set elements;
      unknowns = unknowns objects;
      reads = readings_of objects frame kind t;
      tol = tolerance;
    }

abbrev pub problem_of : PosedSet → Problem
problem_of s = problem_by s.system.now s.frame.now s.kind s.time (set_by s.set.now) s.elements.now s.branches.now s.tolerance
