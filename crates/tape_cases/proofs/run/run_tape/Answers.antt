use Rattle.tape_cases.proofs.Evaluable.{typed_is_evaluable}
use Rattle.tape_cases.proofs.run.run_tape.Goals as goal

pub slopes-requires-clause-evaluable : goal.slopes-requires-clause-evaluable
slopes-requires-clause-evaluable c = typed_is_evaluable _ _ _ _ c.args.expr.now _ c.requires.time c.requires.kind
