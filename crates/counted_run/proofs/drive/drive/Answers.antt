use Rattle.std.proofs.Common.{ap, sym, subst, ◌∙◌}
use Rattle.step_model.specs.System.{attempt as attempt_of}
use Rattle.lockstep_model.specs.declared.moves.Moved.{Moved}
use Rattle.lockstep_model.specs.Walk.{Walk, Reply, Fits, Awaits, Falls, here, moves_left, reply_of}
use Rattle.lockstep_model.specs.Works.{events_of, attempts_in}
use Rattle.mixed_cycle.specs.Moving.{FitsIn}
use Rattle.run_counts.specs.Counts.{gained, total}
use Rattle.counted_run.specs.Replies.{awaited_reply, reply_has_room, reply_is_empty}
use Rattle.counted_run.proofs.MoveCounts.{move_counts, room_left, spent}
use Rattle.counted_run.proofs.drive.drive.Goals as goal

pub loop-said-preserved : goal.loop-said-preserved
loop-said-preserved g c =
    let sys = g.D.Design.system 0 in
    let walk = c.loop-said.engine.walk in
    let r = reply_of c.loop-said.answer in
    let new = c.turn.new.engine.walk in
    let did = c.in_ok-said.ensures in
    let before = c.loop-said.invariant in
    record {
      fits = subst (λ (reply : Reply). Fits (attempt_of sys) new new.awaited reply) (sym c.reply_to-answer.ensures)
          (awaited_reply (attempt_of sys) new c.in-Ask.ask (subst (λ (m : Moved). Awaits new m) c.in-Ask.is did.awaits));
      has_room = subst (λ (reply : Reply). FitsIn sys.unknowns reply) (sym c.reply_to-answer.ensures) (reply_has_room sys.unknowns c.in-Ask.ask);
      empty = ap here c.reply_to-answer.ensures ∙ reply_is_empty c.in-Ask.ask;
      list = did.list;
      counted = ap (λ (w : Walk). gained c.turn.new.counts (events_of w.works)) did.walk
          ∙ move_counts c.loop-said.counts c.turn.new.counts walk r did.counts ∙ before.counted;
      few = room_left (total c.loop-said.counts) (total c.turn.new.counts) (moves_left walk) (moves_left new)
          (subst (λ (m : Moved). Falls walk new m) c.in-Ask.is did.falls) did.few before.few;
      attempts = spent walk.own (attempts_in walk.works) new.own (attempts_in new.works) (here r) _ did.spends before.empty before.attempts c.requires.attempts;
      end = did.end ∙ before.end;
    }
