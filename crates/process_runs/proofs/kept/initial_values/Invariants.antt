use Rattle.std.proofs.Common.{◌≡◌, map, take}
use Rattle.flat_design.specs.declared.objects.Variable.{Variable}
use Rattle.process_runs.proofs.kept.initial_values.Given as goal

abbrev pub invariant-loop-variable : goal.invariant-loop-variable
invariant-loop-variable l = l.values.items ≡ map (λ (x : Variable). x.initial) (take l.variable-index l.variables)
