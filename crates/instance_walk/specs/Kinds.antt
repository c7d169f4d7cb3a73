-- Statements of an instance by their kind.
use Rattle.std.specs.Prelude.{ℕ, nat_lt, if◌then◌else◌, List, Option, Some, None, Result, Ok}
use Rattle.ams_tree.specs.declared.expression.Name.{Name}
use Rattle.ams_tree.specs.declared.concurrent.ConcurrentStatement.{ConcurrentStatement}
use Rattle.ams_tree.specs.declared.concurrent.ConcurrentStatement.TheVariants as conc
use Rattle.ams_tree.specs.declared.concurrent.Instance.{Instance as Written}
use Rattle.ams_tree.specs.declared.design.DesignUnit.{DesignUnit}
use Rattle.flat_design.specs.Limits.{instance_limit}
use Rattle.name_scope.specs.declared.scope.Scope.{Scope}
use Rattle.unit_meaning.specs.declared.site.Refusal.{Refusal}
use Rattle.unit_meaning.specs.declared.site.Site.{Site}
use Rattle.unit_meaning.specs.Concurrent.{concurrent}
use Rattle.unit_meaning.specs.Settings.{Setting}
use Rattle.unit_meaning.specs.Walk.{Entering, Around, request_of, with_statement, numbering}

abbrev pub around_at : Setting → Scope → List ℕ → ℕ → Around
around_at w scope path number = record { setting = w; scope = scope; path = path; number = number }

-- an instance with its label; without one it breaks a rule that is noted before
abbrev pub instance_walked : Entering → List DesignUnit → Around → Option Name → Written → Site → Result Site Refusal
instance_walked inner units at (Some x) i s = inner (request_of at.setting units at.scope at.path at.number x i s) s
instance_walked inner units at None i s = Ok s

abbrev pub numbered : Around → Option Name → ConcurrentStatement → Site → Result Site Refusal
numbered at label x s = Ok (with_statement (concurrent at.setting at.scope label x (numbering s)) s)

-- `statement_walked` by the kind of the statement first
abbrev pub by_kind : Entering → List DesignUnit → Around → Option Name → ConcurrentStatement → Site → Result Site Refusal
by_kind inner units at label (conc.Instance i) s = instance_walked inner units at label i s
by_kind inner units at label x s = numbered at label x s

-- the number of an instance behind so many, where a design may have one more
abbrev pub number_within : ℕ → Option ℕ
number_within count = if nat_lt count instance_limit then Some count else None
