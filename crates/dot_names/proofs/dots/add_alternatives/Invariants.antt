use Rattle.std.proofs.Common.{◌≡◌, ◌++◌, drop}
use Rattle.std.specs.List.{flat_map}
use Rattle.ams_tree.specs.declared.concurrent.SimultaneousAlternative.{SimultaneousAlternative}
use Rattle.unit_meaning.specs.Simultaneous as spec
use Rattle.dot_names.proofs.dots.add_alternatives.Given as goal

abbrev pub invariant-loop-alternative : goal.invariant-loop-alternative
invariant-loop-alternative l =
    l.dots ++ spec.dots_in_equations (flat_map (λ (b : SimultaneousAlternative). b.equations) (drop l.alternative-index l.alternatives))
    ≡ l.fn.dots ++ spec.dots_in_equations (flat_map (λ (b : SimultaneousAlternative). b.equations) l.alternatives)
