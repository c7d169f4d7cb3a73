use Rattle.std.proofs.Common.{◌≡◌, ◌++◌, ℕ, List, map, drop}
use Rattle.std.specs.List.{flat_map}
use Rattle.unit_meaning.specs.Simultaneous as spec
use Rattle.dot_names.proofs.dots.+dots.Given as goal

abbrev pub invariant-add_all-loop-expr : goal.invariant-add_all-loop-expr
invariant-add_all-loop-expr l =
    l.dots ++ flat_map (λ (xs : List ℕ). xs) (map spec.dots_in (drop l.expr-index l.exprs)) ≡ l.fn.dots ++ flat_map (λ (xs : List ℕ). xs) (map spec.dots_in l.exprs)
