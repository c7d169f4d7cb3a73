use Rattle.std.proofs.Common.{◌≡◌, Option, Some, Ok, rules, sym, ◌∙◌}
use Rattle.std.proofs.lemmas.Int.{to_z-of_z}
use mir.Syntax.{w32}
use mir.Val.{SFits, of_z, to_z}
use Rattle.flat_expr.specs.declared.statement.Statement.TheOpen.{Statement-F}
use Rattle.statement_values.specs.LoopRanges.{loop_range}
use Rattle.process_control.proofs.Entering.{ranged_performs, loop_there}
use Rattle.process_control.proofs.control.perform_for.Goals as goal

pub returns-in-Ok-clause-performs : goal.returns-in-Ok-clause-performs
returns-in-Ok-clause-performs g c =
    let l = g.A.Activation.local c.args.at.now in
    let first : SFits w32 c.in-Ok-Some.range.first = search rules in
    let last : SFits w32 c.in-Ok-Some.range.last = search rules in
    let found : loop_range (g.A.Activation.context c.args.at.now) l c.args.left.now c.args.direction c.args.right.now ≡ Ok (Some c.in-Ok-Some.range) =
    (let range = c.loop_range.ensures in let is = c.in-Ok-Some.is in let inner = c.in-Ok-Some.field-0-is in cc) in
    ranged_performs l _ c.in-Ok-Some.range found c.args.text.now c.args.stack.now c.begin_loop.new.self (Statement-F.For c.args.number c.args.left.now c.args.direction c.args.right.now c.args.body.now)
    (to_z w32 (of_z w32 c.in-Ok-Some.range.first)) (to_z w32 (of_z w32 c.in-Ok-Some.range.last)) c.requires.begun (to_z-of_z w32 c.in-Ok-Some.range.first first) (to_z-of_z w32 c.in-Ok-Some.range.last last) c.in-Ok.ensures.ok

pub returns-in-Ok-clause-first : goal.returns-in-Ok-clause-first
returns-in-Ok-clause-first g c =
    loop_there c.args.text.now c.args.stack.now c.begin_loop.new.self c.args.number c.args.left.now c.args.direction c.args.right.now c.args.body.now
    (to_z w32 (of_z w32 c.in-Ok-Some.range.first)) (to_z w32 (of_z w32 c.in-Ok-Some.range.last)) c.requires.begun c.in-Ok.ensures.ok
