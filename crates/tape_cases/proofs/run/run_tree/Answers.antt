use Rattle.tape_cases.proofs.Evaluable.{typed_is_evaluable}
use Rattle.tape_cases.proofs.run.run_tree.Goals as goal

pub value-requires : goal.value-requires
value-requires c = typed_is_evaluable _ _ _ _ c.args.expr.now _ c.requires.time c.requires.kind
