use Rattle.solver_designs.proofs.Designs.{capacitor_is_design, slope_is_design, level_is_design}
use Rattle.solver_designs.proofs.designs_are_well_formed.Goals as goal

pub returns-clause-capacitor : goal.returns-clause-capacitor
returns-clause-capacitor c = capacitor_is_design

pub returns-clause-slope : goal.returns-clause-slope
returns-clause-slope c = slope_is_design

pub returns-clause-level : goal.returns-clause-level
returns-clause-level c = level_is_design
