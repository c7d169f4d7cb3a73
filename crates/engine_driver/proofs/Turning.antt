-- The numbers of the engine's seat behind one more round.
use Rattle.std.proofs.Common.{◌≡◌, ℕ, ◌+◌, ◌<◌, ◌≤◌, ◌^◌, sym, subst, refl}
use Rattle.step_data.specs.declared.tip.Attempt.{Attempt}
use Rattle.lockstep_model.specs.declared.moves.Moved.{Moved}
use Rattle.lockstep_model.specs.Walk as w
use Rattle.lockstep_model.specs.Walk.{Walk, Move, Spends, OwnsOne, Begins, begins_said, may_begin, nothing}
use Rattle.lockstep_model.specs.Works.{attempts_in, renewals_in}
use Rattle.engine_replies.specs.declared.reply.Reply.{Reply}
use Rattle.engine_replies.specs.Replying.{reply_by}
use Rattle.runahead_worker.specs.declared.seats.LineSeat.{LineSeat}
use Rattle.engine_driver.specs.Said.{ReplyFor, RisesBy, rises_said, seat_said}
use Rattle.engine_driver.specs.Standing.{Counted, counted_on}

least_on : (old new : Walk) (reply : w.Reply) (m : Move) (said : Moved) → Begins old reply m → new ≡ m.walk → said ≡ m.says → renewals_in old.works ≤ begins_said said + renewals_in new.works
least_on old new reply m said b walk says =
    subst (λ (y : Walk). renewals_in old.works ≤ begins_said said + renewals_in y.works) (sym walk)
    (subst (λ (x : Moved). renewals_in old.works ≤ begins_said x + renewals_in m.walk.works) (sym says) b.least)

most_on : (old new : Walk) (reply : w.Reply) (m : Move) (said : Moved) → Begins old reply m → new ≡ m.walk → said ≡ m.says → begins_said said + renewals_in new.works + may_begin new.awaited ≤ renewals_in old.works + may_begin old.awaited + nothing reply
most_on old new reply m said b walk says =
    subst (λ (y : Walk). begins_said said + renewals_in y.works + may_begin y.awaited ≤ renewals_in old.works + may_begin old.awaited + nothing reply) (sym walk)
    (subst (λ (x : Moved). begins_said x + renewals_in m.walk.works + may_begin m.walk.awaited ≤ renewals_in old.works + may_begin old.awaited + nothing reply) (sym says) b.most)

pub counted_turn : {J : Type 0} (first old new : Walk) (reply : w.Reply) (m : Move) (said : Moved) (r : Reply) (found : Attempt) (s s' : LineSeat J) → attempts_in first.works < 2 ^ 62 → Counted first old reply s → Spends old new reply → OwnsOne old new reply → Begins old reply m → new ≡ m.walk → said ≡ m.says → ReplyFor said r → s' ≡ seat_said said r s → Counted first new (reply_by r found) s'
counted_turn {J = J} first old new reply m said r found s s' few c spends owns begins walk says kind seat =
    counted_on (attempts_in first.works) first old new reply (reply_by r found) (begins_said said) s s' refl few c spends owns (least_on old new reply m said begins walk says) (most_on old new reply m said begins walk says)
    (subst (λ (x : LineSeat J). RisesBy said (reply_by r found) s x) (sym seat) (rises_said said r found s kind))
