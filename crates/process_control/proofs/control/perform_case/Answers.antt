use Rattle.std.proofs.Common.{◌≡◌, ℕ, refl, ap, Option, Some, Ok}
use Rattle.ams_value.specs.declared.val.Val.{Val}
use Rattle.flat_expr.specs.declared.statement.Statement.TheOpen.{Statement-F}
use Rattle.cycle_meaning.specs.World.{evaluated}
use Rattle.statement_lists.specs.Alternatives.{alternative_number}
use Rattle.process_place.specs.Moves.{goes_to, chosen_at}
use Rattle.process_stack.specs.Stacks.{round_of}
use Rattle.process_control.proofs.Entering.{or_performs}
use Rattle.process_control.proofs.control.perform_case.Goals as goal

pub returns-in-Some-clause-performs : goal.returns-in-Some-clause-performs
returns-in-Some-clause-performs g c =
    let l = g.A.Activation.local c.args.at.now in
    let found : evaluated (g.A.Activation.context c.args.at.now) l c.args.expression.now ≡ Ok c.in-Ok.value = (let value = c.evaluated.ensures in let is = c.in-Ok.is in cc) in
    let number : alternative_number c.args.alternatives.now c.in-Ok.value ≡ Some c.in-Some.number = (let slice = c.as_slice.ensures in let number = c.alternative_number.ensures in let is = c.in-Some.is in cc) in
    or_performs {A = Val} l (λ (v : Val). goes_to (chosen_at (round_of c.args.text.now c.args.stack.now.frames) c.args.stack.now.next (Statement-F.Case c.args.expression.now c.args.alternatives.now) (alternative_number c.args.alternatives.now v)) l)
    (evaluated (g.A.Activation.context c.args.at.now) l c.args.expression.now) c.in-Ok.value found c.args.text.now c.args.stack.now c.enter.new.stack (Statement-F.Case c.args.expression.now c.args.alternatives.now) c.in-Some.number 0 c.enter.result
    c.requires.begun (ap (λ (o : Option ℕ). goes_to (chosen_at (round_of c.args.text.now c.args.stack.now.frames) c.args.stack.now.next (Statement-F.Case c.args.expression.now c.args.alternatives.now) o) l) number) c.enter.ensures
