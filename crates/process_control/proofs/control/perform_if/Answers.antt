use Rattle.std.proofs.Common.{◌≡◌, ℕ, refl, pos, Ok}
use Rattle.flat_expr.specs.declared.statement.Statement.TheOpen.{Statement-F}
use Rattle.process_laws.specs.Resumed.{inside}
use Rattle.statement_lists.specs.Branches.{branch_number}
use Rattle.process_place.specs.ProcessPlace.{at}
use Rattle.process_place.specs.Moves.{goes_to}
use Rattle.process_stack.specs.Stacks.{round_of}
use Rattle.process_control.proofs.Entering.{or_performs}
use Rattle.process_control.proofs.control.perform_if.Goals as goal

pub returns-in-Ok-clause-performs : goal.returns-in-Ok-clause-performs
returns-in-Ok-clause-performs g c =
    let l = g.A.Activation.local c.args.at.now in
    let found : branch_number (g.A.Activation.context c.args.at.now) l c.args.branches.now ≡ Ok c.in-Ok.branch = (let slice = c.as_slice.ensures in let number = c.branch_number.ensures in let is = c.in-Ok.is in cc) in
    or_performs {A = ℕ} l (λ (b : ℕ). goes_to (at (inside (round_of c.args.text.now c.args.stack.now.frames) c.args.stack.now.next b (Statement-F.If c.args.branches.now c.args.last.now) (pos 0)) 0) l)
    (branch_number (g.A.Activation.context c.args.at.now) l c.args.branches.now) c.in-Ok.branch found c.args.text.now c.args.stack.now c.enter.new.stack (Statement-F.If c.args.branches.now c.args.last.now) c.in-Ok.branch 0 c.enter.result
    c.requires.begun refl c.enter.ensures
