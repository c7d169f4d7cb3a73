use Rattle.std.proofs.Common.{◌≡◌, ap, sym, ◌∙◌, Some, None, Ok, Err, rules, take, length, ◌-◌, ◌+◌}
use mir.Syntax.{w32}
use mir.Val.{SFits}
use Rattle.flat_expr.specs.declared.statement.Statement.{out-Statement}
use Rattle.process_place.specs.Moves.{coming_at, turns_to}
use Rattle.process_stack.specs.Stacks.{round_of}
use Rattle.process_control.specs.declared.next.End.TheVariants as end
use Rattle.process_control.specs.Coming.{turned, past_by}
use Rattle.process_control.proofs.Passing.{begins_here, found_here, past_round, last_cast, turn_place, left_there, inside_old, none_round}
use Rattle.process_control.proofs.next.+coming_from.Goals as goal

pub returns-in-Some-clause-coming : goal.returns-in-Some-clause-coming
returns-in-Some-clause-coming g t c =
    begins_here (g.A.Activation.context c.args.at.now) (g.A.Activation.local c.args.at.now) c.args.text.now (round_of c.args.text.now c.args.stack.now.frames) c.args.stack.now.next c.in-Some.statement.now
    (found_here c.args.text.now c.frames.result.now c.args.stack.now.frames c.next.result c.args.stack.now.next c.body_at-body.result.now (Some c.in-Some.statement.now) c.frames.ensures c.body_at-body.ensures c.next.ensures c.in-Some.ensures.value)

pub returns-in-None-innermost-clause-coming : goal.returns-in-None-innermost-clause-coming
returns-in-None-innermost-clause-coming g t c =
    none_round (g.A.Activation.context c.args.at.now) (g.A.Activation.local c.args.at.now) c.args.text.now c.frames-in-None.result.now c.args.stack.now.frames c.args.stack.now.next c.frames-in-None.ensures c.in-None-innermost.ensures
    (found_here c.args.text.now c.frames.result.now c.args.stack.now.frames c.next.result c.args.stack.now.next c.body_at-body.result.now None c.frames.ensures c.body_at-body.ensures c.next.ensures c.in-None.ensures.value)

pub returns-in-Ok-Turn-clause-coming : goal.returns-in-Ok-Turn-clause-coming
returns-in-Ok-Turn-clause-coming g t c =
    let here = g.A.Activation.context c.args.at.now in
    let l = g.A.Activation.local c.args.at.now in
    let top = c.args.text.now in
    let old = c.args.stack.now.frames in
    let frame = c.in-Some-innermost.round.frame in
    let layer = out-Statement c.in-Some-innermost.round.statement.now in
    let others = coming_at here l top (round_of top (take (length old - 1) old)) (frame.statement + 1) in
    let fits : SFits w32 frame.last = search rules in
    let result : c.end_inside.result ≡ Ok (end.Turn c.in-Ok-Turn.parameter) = (let is = c.in-Ok-Turn.is in let inner = c.in-Ok-Turn.field-0-is in cc) in
    past_round here l top old c.args.stack.now.next frame layer (inside_old top c.frames-in-None.result.now old frame layer c.frames-in-None.ensures c.in-Some-innermost.ensures.0)
    (found_here top c.frames.result.now old c.next.result c.args.stack.now.next c.body_at-body.result.now None c.frames.ensures c.body_at-body.ensures c.next.ensures c.in-None.ensures.value)
    ∙ (last_cast here l (round_of top old) layer frame.last others fits
    ∙ (c.end_inside.ensures.past (round_of top old) others
    ∙ (ap (past_by (round_of top old) l others) result
    ∙ ap (λ q. turns_to q (turned c.in-Ok-Turn.parameter l)) (turn_place top c.args.stack.now c.turn.new.self c.requires.first c.turn.ensures))))

pub returns-in-Ok-Left-clause-coming : goal.returns-in-Ok-Left-clause-coming
returns-in-Ok-Left-clause-coming g t c =
    let here = g.A.Activation.context c.args.at.now in
    let l = g.A.Activation.local c.args.at.now in
    let top = c.args.text.now in
    let old = c.args.stack.now.frames in
    let frame = c.in-Some-innermost.round.frame in
    let layer = out-Statement c.in-Some-innermost.round.statement.now in
    let others = coming_at here l top (round_of top (take (length old - 1) old)) (frame.statement + 1) in
    let fits : SFits w32 frame.last = search rules in
    let result : c.end_inside.result ≡ Ok end.Left = (let is = c.in-Ok-Left.is in let inner = c.in-Ok-Left.field-0-is in cc) in
    past_round here l top old c.args.stack.now.next frame layer (inside_old top c.frames-in-None.result.now old frame layer c.frames-in-None.ensures c.in-Some-innermost.ensures.0)
    (found_here top c.frames.result.now old c.next.result c.args.stack.now.next c.body_at-body.result.now None c.frames.ensures c.body_at-body.ensures c.next.ensures c.in-None.ensures.value)
    ∙ (last_cast here l (round_of top old) layer frame.last others fits
    ∙ (c.end_inside.ensures.past (round_of top old) others
    ∙ (ap (past_by (round_of top old) l others) result
    ∙ (left_there here l top c.args.stack.now c.leave.new.self (frame.statement + 1) c.in-Some-innermost.round.behind c.leave.ensures c.in-Some-innermost.ensures.1 ∙ c.coming_from.ensures.coming))))

pub returns-in-Err-clause-coming : goal.returns-in-Err-clause-coming
returns-in-Err-clause-coming g t c =
    let here = g.A.Activation.context c.args.at.now in
    let l = g.A.Activation.local c.args.at.now in
    let top = c.args.text.now in
    let old = c.args.stack.now.frames in
    let frame = c.in-Some-innermost.round.frame in
    let layer = out-Statement c.in-Some-innermost.round.statement.now in
    let others = coming_at here l top (round_of top (take (length old - 1) old)) (frame.statement + 1) in
    let fits : SFits w32 frame.last = search rules in
    past_round here l top old c.args.stack.now.next frame layer (inside_old top c.frames-in-None.result.now old frame layer c.frames-in-None.ensures c.in-Some-innermost.ensures.0)
    (found_here top c.frames.result.now old c.next.result c.args.stack.now.next c.body_at-body.result.now None c.frames.ensures c.body_at-body.ensures c.next.ensures c.in-None.ensures.value)
    ∙ (last_cast here l (round_of top old) layer frame.last others fits
    ∙ (c.end_inside.ensures.past (round_of top old) others ∙ ap (past_by (round_of top old) l others) c.in-Err.is))
