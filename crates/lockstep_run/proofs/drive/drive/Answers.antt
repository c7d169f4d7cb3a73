use Rattle.std.proofs.Common.{◌≡◌, ap, sym, subst, ◌∙◌, arith}
use Rattle.step_model.specs.System.{attempt as attempt_of}
use Rattle.lockstep_model.specs.Walk.{Walk, Reply, Fits, moved, reply_of}
use Rattle.lockstep_model.specs.Works.{events_of}
use Rattle.mixed_cycle.specs.Moving.{FitsIn}
use Rattle.trace_sink.specs.PutsLaws.{written_rest}
use Rattle.trace_lines.specs.Lines.{event_lines}
use Rattle.trace_lines.specs.Rest.{written_lines, lines_fail}
use Rattle.lockstep_run.specs.Replies.{awaited_reply, reply_has_room}
use Rattle.lockstep_run.proofs.MoveLines.{move_lines}
use Rattle.lockstep_run.proofs.drive.drive.Goals as goal

pub loop-end-preserved : goal.loop-end-preserved
loop-end-preserved g c =
    let sys = g.D.Design.system 0 in
    let walk = c.loop-end.engine.walk in
    let r = reply_of c.loop-end.answer in
    let enums = c.args.enums.now in
    let new = c.turn.new.engine.walk in
    record {
      fits = subst (λ (reply : Reply). Fits (attempt_of sys) new new.awaited reply) (sym c.reply_to-answer.ensures) (awaited_reply (attempt_of sys) new c.in-Ok.said c.in-Ok.ensures.awaits);
      has_room = subst (λ (reply : Reply). FitsIn sys.unknowns reply) (sym c.reply_to-answer.ensures) (reply_has_room sys.unknowns c.in-Ok.said);
      list = c.in-Ok.ensures.list;
      written = written_rest _ _ _ _ _
          (written_lines _ _ _ _ (event_lines enums (moved walk r).events) (event_lines enums (events_of (moved walk r).walk.works))
          (written_rest _ _ _ _ _ c.loop-end.invariant.written (move_lines enums walk r)) c.in-Ok.ensures.puts.ok)
          (ap (λ (v : Walk). event_lines enums (events_of v.works)) (sym c.in-Ok.ensures.walk));
      later = let l = c.turn.ensures.puts.later in let m = c.loop-end.invariant.later in omega arith;
      end = c.in-Ok.ensures.end ∙ c.loop-end.invariant.end;
    }

pub returns-in-Err-clause-puts : goal.returns-in-Err-clause-puts
returns-in-Err-clause-puts g c =
    let walk = c.loop-end.engine.walk in
    let r = reply_of c.loop-end.answer in
    let enums = c.args.enums.now in
    lines_fail c.turn.result c.in-Err.fault _ _ _ _ (event_lines enums (moved walk r).events) (event_lines enums (events_of (moved walk r).walk.works)) _ _ _
    (written_rest _ _ _ _ _ c.loop-end.invariant.written (move_lines enums walk r)) c.turn.ensures.puts c.loop-end.invariant.later c.in-Err.is
