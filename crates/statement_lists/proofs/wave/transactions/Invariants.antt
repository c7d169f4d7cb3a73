use Rattle.std.proofs.Common.{◌≡◌, drop}
use Rattle.std.specs.Prelude.{None}
use Rattle.fix_core.specs.Passes.{joined}
use Rattle.cycle_meaning.specs.Statements.{transactions}
use Rattle.statement_values.specs.Parts.{fits_both}
use Rattle.statement_lists.proofs.wave.transactions.Given as goal

-- the transactions so far, and those of the elements that are left
abbrev pub invariant-loop-element : goal.invariant-loop-element
invariant-loop-element g l =
    let made = transactions (g.A.Activation.context l.at) (g.A.Activation.local l.at) (fits_both l.subtypes) l.limit in
    made None l.elements ≡ joined l.found.items (made l.before (drop l.element-index l.elements))
