-- Concurrent and simultaneous statements that are no instances.
use Rattle.std.specs.Prelude.{Bool, true, false, List, [], ◌∷◌, Option, Some, None}
use Rattle.ams_tree.specs.declared.expression.Name.{Name}
use Rattle.ams_tree.specs.declared.concurrent.ConcurrentStatement.{ConcurrentStatement}
use Rattle.ams_tree.specs.declared.concurrent.ConcurrentStatement.TheVariants as conc
use Rattle.flat_design.specs.declared.objects.Equation.{Equation}
use Rattle.flat_design.specs.declared.objects.Process.{Process}
use Rattle.name_scope.specs.declared.scope.Scope.{Scope}
use Rattle.elab_meaning.specs.declared.fault.Notes.{Notes}
use Rattle.elab_meaning.specs.declared.part.Part.{Part}
use Rattle.elab_meaning.specs.declared.part.Part.TheVariants.{Kept, Wrong, Hidden}
use Rattle.unit_meaning.specs.declared.draft.Made.{Made}
use Rattle.unit_meaning.specs.declared.draft.Made.TheVariants as made
use Rattle.unit_meaning.specs.Settings.{Setting}
use Rattle.unit_meaning.specs.Processes.{process, concurrent_assignment, concurrent_assertion, concurrent_break}
use Rattle.unit_meaning.specs.Simultaneous.{simple, if_statement, case_statement}

abbrev pub process_of : Part Process → Made
process_of (Kept p) = made.Process p
process_of _ = made.Nothing

abbrev pub process_made : Notes × Part Process → Notes × Made
process_made found = (found.0, process_of found.1)

abbrev pub equation_of : Part Equation → Made
equation_of (Kept q) = made.Equation q
equation_of _ = made.Nothing

abbrev pub equation_made : Notes × Part Equation → Notes × Made
equation_made found = (found.0, equation_of found.1)

abbrev pub concurrent : Setting → Scope → Option Name → ConcurrentStatement → Notes → Notes × Made
concurrent w scope label (conc.Process p) n = process_made (process w scope label p n)
concurrent w scope label (conc.Assign x delay all last when) n = process_made (concurrent_assignment w scope x delay all last when n)
concurrent w scope label (conc.Assert a) n = process_made (concurrent_assertion w scope a n)
concurrent w scope label (conc.Break place elements names when) n = process_made (concurrent_break w scope place elements names when n)
concurrent w scope label (conc.Equation q) n = equation_made (simple w scope q n)
concurrent w scope label (conc.If place all last) n = equation_made (if_statement w scope place all last n)
concurrent w scope label (conc.Case place x all) n = equation_made (case_statement w scope place x all n)
concurrent w scope label (conc.Instance i) n = (n, made.Nothing)
