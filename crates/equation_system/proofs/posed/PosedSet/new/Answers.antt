use Rattle.system_model.specs.System.{is_element}
use Rattle.equation_system.proofs.Keeping.{branches_pass, all_pass, step_passes}
use Rattle.equation_system.proofs.posed.PosedSet.new.Goals as goal

pub invariant_of-result : goal.invariant_of-result
invariant_of-result c = record {
  frame_fits = c.requires.frame;
  are_branches = branches_pass c.args.system.now.equations c.args.branches.now c.requires.branches;
  are_elements = all_pass (is_element c.args.system.now) c.args.elements.now c.requires.elements;
  has_step = step_passes c.args.set.now c.requires.step;
}
