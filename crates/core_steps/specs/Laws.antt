-- Each attempt is found or made once.
use Rattle.std.specs.Prelude.{◌≡◌, ℕ, ◌+◌, ◌<◌, ◌≤◌, ◌^◌, ◌==◌, true, false, cond, List, [], ◌∷◌, ◌++◌, Option, Some, None, refl}
use Rattle.std.proofs.Common.{arith, ap, ◌∙◌}
use Rattle.ams_value.specs.declared.val.Val.{Val}
use Rattle.step_data.specs.declared.tip.Attempt.{Attempt}
use Rattle.step_data.specs.declared.tip.Tip.{Tip}
use Rattle.step_data.specs.Steps.{next}
use Rattle.step_model.specs.System.{System, attempt}
use Rattle.lockstep_model.specs.declared.moves.Ask.TheVariants as asks
use Rattle.lockstep_model.specs.declared.moves.Moved.{Moved}
use Rattle.lockstep_model.specs.declared.moves.Moved.TheVariants as says
use Rattle.lockstep_model.specs.Walk as w
use Rattle.lockstep_model.specs.Walk.{Walk, Reply, Spends, here}
use Rattle.lockstep_model.specs.Works.{attempts_in}
use Rattle.timeline.specs.declared.line.Line.{Line}
use Rattle.timeline.specs.declared.line.Looked.TheVariants as looks
use Rattle.timeline.specs.Jobs.{Due}
use Rattle.timeline.specs.declared.journal.Call.TheVariants as calls
use Rattle.timeline.specs.declared.journal.Counts.{Counts}
use Rattle.timeline.specs.declared.journal.Who.TheVariants.{Engine, Worker}
use Rattle.timeline.specs.Notes.{Told, more, counted}
use Rattle.timeline.specs.Line.{noted, take_reply, take_code, after_publish, is_stale, is_here, first_end, without_first, look_reply, after_look, can_consume, after_consume}
use Rattle.core_hands.specs.Moves.{Led, found_by, reply_said, line_said, line_worked}

-- an attempt that was found is counted as reused
look_reused : (made : Attempt) (l : Line) (tip : Tip) (frame : List Val) (until : ℕ) → l.journal.counts.reused < 2 ^ 63 → (after_look l tip frame until).journal.counts.reused ≡ l.journal.counts.reused + here (found_by made (look_reply l tip frame until))
look_reused made l tip frame until small =
    elim (is_here l tip frame until) as
    (λ b. (cond b (noted Engine calls.Look 0 (first_end l.log.items) l) (noted Engine calls.Look 1 0 l)).journal.counts.reused ≡ l.journal.counts.reused + here (found_by made (cond b looks.Here looks.Nothing))) [
      | true ↦ omega arith
      | false ↦ omega arith
    ]

first_reused : (l : Line) (log : List Attempt) → (without_first l log).journal ≡ l.journal
first_reused l [] = refl
first_reused l (a ∷ log) = refl

consume_reused : (l : Line) (tip : Tip) (frame : List Val) → (after_consume l tip frame).journal.counts.reused ≡ l.journal.counts.reused
consume_reused l tip frame =
    elim (can_consume l tip frame) as
    (λ b. (cond b (noted Engine calls.Consume 0 (first_end l.log.items) (without_first l l.log.items)) (noted Engine calls.Consume 1 0 l)).journal.counts.reused ≡ l.journal.counts.reused) [
      | true ↦ ap (λ (j : Told). j.counts.reused) (first_reused l l.log.items)
      | false ↦ refl
    ]

-- the calls of the engine count what they found
pub said_reused : (sys : System) (said : Moved) (y : Walk) (l : Line) → l.journal.counts.reused < 2 ^ 63 → (line_said said y l).journal.counts.reused ≡ l.journal.counts.reused + here (reply_said sys said y l)
said_reused sys (says.Ended e) y l small = omega arith
said_reused sys (says.Ask asks.None) y l small = omega arith
said_reused sys (says.Ask asks.Begin) y l small = omega arith
said_reused sys (says.Ask (asks.Look until)) y l small = look_reused (attempt sys y.frame y.tip) l y.tip y.frame until small
said_reused sys (says.Ask asks.Consume) y l small = let same = consume_reused l y.tip y.frame in omega arith

take_reused : (code : ℕ) (c : Counts) → (counted calls.Take code c).reused ≡ c.reused
take_reused code c =
    elim (code == 0) as
    (λ b. (cond b (record c { taken = more c.taken }) (cond (code == 1) (record c { closed = more c.closed }) c)).reused ≡ c.reused) [
      | true ↦ refl
      | false ↦
          elim (code == 1) as (λ b. (cond b (record c { closed = more c.closed }) c).reused ≡ c.reused) [
            | true ↦ refl
            | false ↦ refl
          ]
    ]

publish_reused : (l : Line) (job : Due) (a : Attempt) → (after_publish l job a).journal.counts.reused ≡ l.journal.counts.reused
publish_reused l job a =
    elim (is_stale l job) as
    (λ b. (cond b (noted Worker calls.Publish 1 a.end l) (noted Worker calls.Publish 0 a.end (record l { log = record l.log { items = l.log.items ++ a ∷ [] }; ahead = next l.ahead a }))).journal.counts.reused ≡ l.journal.counts.reused) [
      | true ↦ refl
      | false ↦ refl
    ]

-- those of the worker count none
pub worked_reused : (sys : System) (hand : Option Due) (l : Line) → (line_worked sys hand l).journal.counts.reused ≡ l.journal.counts.reused
worked_reused sys None l = take_reused (take_code (take_reply l)) l.journal.counts
worked_reused sys (Some job) l = publish_reused l job (attempt sys job.frame job.tip)

-- the attempts that were used, found or own ones, and those still to be used, are so many together; one that was found and
-- isn't used yet counts twice
pub record Balanced (total : ℕ) (led : Led) (l : Line) : Type 0 where
  pub sum : led.walk.own + (l.journal.counts.reused + attempts_in led.walk.works) ≡ total + here led.reply
  pub room : total < 2 ^ 62

here-most : (reply : Reply) → here reply ≤ 1
here-most w.NoReply = omega arith
here-most (w.Here a) = omega arith
here-most w.Nothing = omega arith
here-most (w.Consumed b) = omega arith

pub led_balances : (sys : System) (total : ℕ) (old new : Led) (l l' : Line) (said : Moved) → new.reply ≡ reply_said sys said new.walk l → l' ≡ line_said said new.walk l → Spends old.walk new.walk old.reply → Balanced total old l → Balanced total new l'
led_balances sys total old new l l' said reply line spends b =
    let sum = b.sum in
    let room = b.room in
    let most = here-most old.reply in
    let reused : l'.journal.counts.reused ≡ l.journal.counts.reused + here (reply_said sys said new.walk l) =
    ap (λ (x : Line). x.journal.counts.reused) line ∙ said_reused sys said new.walk l (omega arith) in
    let found : here new.reply ≡ here (reply_said sys said new.walk l) = ap here reply in
    let spent : new.walk.own + attempts_in new.walk.works + here old.reply ≡ old.walk.own + attempts_in old.walk.works = spends (omega arith) in
    record { sum = omega arith; room = room }

pub worked_balances : (sys : System) (total : ℕ) (led : Led) (hand : Option Due) (l l' : Line) → l' ≡ line_worked sys hand l → Balanced total led l → Balanced total led l'
worked_balances sys total led hand l l' line b =
    let sum = b.sum in
    let reused : l'.journal.counts.reused ≡ l.journal.counts.reused = ap (λ (x : Line). x.journal.counts.reused) line ∙ worked_reused sys hand l in
    record { sum = omega arith; room = b.room }
