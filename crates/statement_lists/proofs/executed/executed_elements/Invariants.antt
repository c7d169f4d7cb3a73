use Rattle.std.proofs.Common.{◌≡◌, ◌++◌, drop}
use Rattle.fix_core.specs.Passes.{joined}
use Rattle.cycle_meaning.specs.Statements.{elements_of}
use Rattle.statement_lists.proofs.executed.executed_elements.Given as goal

-- the elements so far, and those that are left behind them
abbrev pub invariant-loop-element : goal.invariant-loop-element
invariant-loop-element g l =
    let made = elements_of (g.A.Activation.context l.at) (g.A.Activation.local l.at) in
    made l.earlier l.elements ≡ joined l.made (made (l.earlier ++ l.made) (drop l.element-index l.elements))
