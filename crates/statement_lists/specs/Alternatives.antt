-- The alternative of a case that a process takes.
use Rattle.std.specs.Prelude.{◌≡◌, ℕ, Bool, List, [], Option, Some, None}
use Rattle.std.specs.List.{list_any, position}
use Rattle.ams_value.specs.declared.val.Val.{Val}
use Rattle.ams_value.specs.Values.{equals}
use Rattle.flat_expr.specs.declared.statement.Alternative.{Alternative, out-Alternative}
use Rattle.flat_expr.specs.declared.statement.Statement.{Statement}
use Rattle.cycle_meaning.specs.Task.{alternative_body}
use Rattle.cycle_meaning.specs.Statements.{alternative_taken}

-- the alternative names the value
abbrev pub names : Val → Alternative → Bool
names v a = list_any (equals v) (out-Alternative a).choices

abbrev pub has_others : Alternative → Bool
has_others a = (out-Alternative a).others

abbrev pub else_number : Option ℕ → Option ℕ → Option ℕ
else_number (Some b) others = Some b
else_number None others = others

-- the number of the alternative that names the value, else of the one with `others`
abbrev pub alternative_number : List Alternative → Val → Option ℕ
alternative_number alternatives v = else_number (position (names v) alternatives) (position has_others alternatives)

abbrev pub numbered_body : List Alternative → Option ℕ → List Statement
numbered_body alternatives (Some b) = alternative_body alternatives b
numbered_body alternatives None = []

-- a case leads to the statements of that alternative
abbrev pub AlternativesAreTaken : Type 0
AlternativesAreTaken = (alternatives : List Alternative) (v : Val) → alternative_taken alternatives v ≡ numbered_body alternatives (alternative_number alternatives v)
