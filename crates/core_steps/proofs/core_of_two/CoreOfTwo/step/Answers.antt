use Rattle.std.proofs.Common.{◌≡◌, ◌∙◌, ℕ, ap, refl, sym, subst}
use Rattle.lockstep_model.specs.declared.moves.Moved.{Moved}
use Rattle.lockstep_model.specs.Walk.{moved}
use Rattle.timeline.specs.declared.line.Line.{Line}
use Rattle.timeline.specs.Kept.{PartLine}
use Rattle.core_hands.specs.Moves.{Led, line_led, line_said, reply_said}
use Rattle.core_steps.specs.States.{State}
use Rattle.core_steps.specs.Laws.{Balanced, led_balances}
use Rattle.core_steps.proofs.core_of_two.CoreOfTwo.step.Goals as goal

pub returns-in_ok-said-in-D-clause-balanced : goal.returns-in_ok-said-in-D-clause-balanced
returns-in_ok-said-in-D-clause-balanced g c =
    let old : Led = c.self.inside.leader in
    let new : Led = c.drive.new.self in
    let line : Line = c.self.inside.line.line in
    let said : Moved = (moved old.walk old.reply).says in
    let led = c.in_ok-said-in-D.ensures.led in
    let reply : new.reply ≡ reply_said (g.D.Design.system 0) said new.walk line =
    subst (λ (x : Led). x.reply ≡ reply_said (g.D.Design.system 0) said x.walk line) (sym led) refl in
    let behind : c.drive.new.line.line ≡ line_said said new.walk line =
    ap (λ (x : PartLine). x.line) c.in_ok-said-in-D.ensures.line ∙ subst (λ (x : Led). line_led old line ≡ line_said said x.walk line) (sym led) refl in
    subst (λ (s : State). (total : ℕ) → Balanced total s.led s.line → Balanced total new c.drive.new.line.line) c.self.view_is
    (λ total b. led_balances (g.D.Design.system 0) total old new line c.drive.new.line.line said reply behind c.in_ok-said-in-D.ensures.spends b)
