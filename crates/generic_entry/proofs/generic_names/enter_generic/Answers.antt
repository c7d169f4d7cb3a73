use Rattle.std.proofs.Common.{subst}
use Rattle.unit_meaning.specs.Walk.{generic_entered}
use Rattle.generic_entry.specs.Entering.{Enters}
use Rattle.generic_entry.proofs.generic_names.enter_generic.Goals as goal

pub returns-in-Some-clause-entered : goal.returns-in-Some-clause-entered
returns-in-Some-clause-entered c =
    subst (λ o. Enters (generic_entered c.args.valued.now c.args.has_default o c.args.name c.args.book.now) c.enter_actual.result c.enter_actual.new.book) c.in-Some.ensures.value
    (c.enter_actual.ensures.entered c.args.has_default)
