-- What concurrent and simultaneous statements make, by kind.
use Rattle.ams_tree.specs.declared.concurrent.ConcurrentStatement.TheVariants as conc
use Rattle.flat_design.specs.declared.objects.Equation.{Equation}
use Rattle.flat_design.specs.declared.objects.Objects.{Objects}
use Rattle.flat_design.specs.declared.objects.Process.{Process}
use Rattle.elab_meaning.specs.declared.part.Part.{Part}
use Rattle.elab_meaning.specs.declared.part.Part.TheVariants.{Kept, Wrong, Hidden}
use Rattle.unit_meaning.specs.Concurrent.{process_of, equation_of}
use Rattle.design_rules.specs.Equations.{IsEquation}
use Rattle.design_rules.specs.Design.{IsProcess}
use Rattle.part_laws.specs.Parts.{OnKept}
use Rattle.equation_laws.proofs.Equations.{statements_make_equations}
use Rattle.length_laws.proofs.Lengths.{branches_have_one_length}
use Rattle.made_laws.proofs.Whole.{processes_are_made}
use Rattle.wave_laws.proofs.Whole.{assignments_make_processes}
use Rattle.concurrent_laws.specs.Concurrent.{IsMade, ConcurrentStatementsAreMade}

-- ---- parts

module _ (objects : Objects) where
  process_is : (q : Part Process) → OnKept (IsProcess objects) q → IsMade objects (process_of q)
  process_is (Kept p) h = h
  process_is Wrong h = tt
  process_is Hidden h = tt

  equation_is : (q : Part Equation) → OnKept (IsEquation objects) q → IsMade objects (equation_of q)
  equation_is (Kept p) h = h
  equation_is Wrong h = tt
  equation_is Hidden h = tt

-- ---- by kind

pub concurrent_statements_are_made : ConcurrentStatementsAreMade
concurrent_statements_are_made objects w Also scope label (conc.Process p) n at cases written none room = process_is objects _ (processes_are_made.processes objects w Also scope label p n at written none room)
concurrent_statements_are_made objects w Also scope label (conc.Assign x delay all last when) n at cases written none room =
    process_is objects _ (assignments_make_processes objects w scope x delay all last when n at.holds written.0 written.1 room)
concurrent_statements_are_made objects w Also scope label (conc.Assert a) n at cases written none room = process_is objects _ (processes_are_made.assertions objects w scope a n at.holds at.texts room)
concurrent_statements_are_made objects w Also scope label (conc.Break place elements names when) n at cases written none room =
    process_is objects _ (processes_are_made.breaks objects w scope place elements names when n at.holds at.selectors room)
concurrent_statements_are_made objects w Also scope label (conc.Equation q) n at cases written none room = equation_is objects _ ((statements_make_equations.simple_one objects w scope q n at.holds.fits).right room)
concurrent_statements_are_made objects w Also scope label (conc.If place all last) n at cases written none room =
    equation_is objects _ (branches_have_one_length.if_kept objects w scope place all last n at.holds.fits (record { faults = none; room = room }))
concurrent_statements_are_made objects w Also scope label (conc.Case place x all) n at cases written none room =
    equation_is objects _ (branches_have_one_length.case_kept objects w scope place x all n at.holds.fits cases.values (cases.counts x n) written.0 (record { faults = none; room = room }))
concurrent_statements_are_made objects w Also scope label (conc.Instance i) n at cases written none room = tt
