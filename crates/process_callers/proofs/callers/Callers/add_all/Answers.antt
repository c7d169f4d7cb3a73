use Rattle.std.proofs.Common.{◌≡◌, ◌++◌, ◌∷◌, [], List, take, get_or, sym, subst, arith}
use Rattle.std.proofs.lemmas.List.{take_more, take_all}
use Rattle.flat_expr.specs.declared.expr.SignalName.{SignalName}
use Rattle.process_callers.specs.Growing.{Grows}
use Rattle.process_callers.proofs.Putting.{grows_more}
use Rattle.process_callers.proofs.callers.Callers.add_all.Goals as goal

pub loop-name-preserved : goal.loop-name-preserved
loop-name-preserved c = λ count lt.
    subst (λ (l : List SignalName). Grows count c.args.process l c.args.self.now c.add.new.self) (sym (take_more c.args.names.now c.loop-name.name-index _ c.loop-name-test.true))
    (grows_more count c.args.process (take c.loop-name.name-index c.args.names.now) _ c.args.self.now c.loop-name.self c.add.new.self (c.loop-name.invariant count lt) (c.in_ok-add.ensures count lt))

pub returns : goal.returns
returns c = λ count lt.
    subst (λ (l : List SignalName). Grows count c.args.process l c.args.self.now c.loop-name.self) (take_all c.loop-name.name-index c.args.names.now (omega arith)) (c.loop-name.invariant count lt)
