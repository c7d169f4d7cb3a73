-- The reply to what a move asks is one that is awaited.
use Rattle.std.specs.Prelude.{◌≡◌, refl}
use Rattle.std.proofs.Common.{sym, subst}
use Rattle.step_model.specs.System.{System, attempt}
use Rattle.lockstep_model.specs.declared.moves.Ask.TheVariants as asks
use Rattle.lockstep_model.specs.declared.moves.Moved.{Moved}
use Rattle.lockstep_model.specs.declared.moves.Moved.TheVariants as says
use Rattle.lockstep_model.specs.Walk as w
use Rattle.lockstep_model.specs.Walk.{Walk, Reply, Fits, Awaits, Awaited}
use Rattle.timeline.specs.declared.line.Line.{Line}
use Rattle.timeline.specs.declared.line.Looked.{Looked}
use Rattle.timeline.specs.declared.line.Looked.TheVariants as looks
use Rattle.timeline.specs.Line.{look_reply, can_consume}
use Rattle.mixed_cycle.specs.Asking.{StepsFrom, AsksFrom}
use Rattle.engine_replies.specs.Replying.{fits_ready, fits_nothing, fits_here, fits_consumed}
use Rattle.core_hands.specs.Moves.{found_by, reply_said}

pub steps_ready : (sys : System) (y : Walk) → y.awaited ≡ w.Ready → AsksFrom y.awaited sys y.frame y.tip → StepsFrom sys y.frame y.tip
steps_ready sys y e asks = subst (λ (a : Awaited). AsksFrom a sys y.frame y.tip) e asks

fits_found : (sys : System) (y : Walk) (looked : Looked) → y.awaited ≡ w.Looking → Fits (attempt sys) y y.awaited (found_by (attempt sys y.frame y.tip) looked)
fits_found sys y looks.Here e = fits_here (attempt sys) y (attempt sys y.frame y.tip) e refl
fits_found sys y looks.Nothing e = fits_nothing (attempt sys) y e

-- the reply to what a move says is one that is awaited
pub fits_said : (sys : System) (said : Moved) (y : Walk) (l : Line) → Awaits y said → Fits (attempt sys) y y.awaited (reply_said sys said y l)
fits_said sys (says.Ended e) y l h = fits_ready (attempt sys) y h
fits_said sys (says.Ask asks.None) y l h = fits_ready (attempt sys) y h
fits_said sys (says.Ask asks.Begin) y l h = fits_ready (attempt sys) y h
fits_said sys (says.Ask (asks.Look until)) y l h = fits_found sys y (look_reply l y.tip y.frame until) h.0
fits_said sys (says.Ask asks.Consume) y l h = fits_consumed (attempt sys) y (can_consume l y.tip y.frame) h

-- after want of memory each reply is
pub fits_broken : (sys : System) (y : Walk) (reply : Reply) → y.awaited ≡ w.Broken → Fits (attempt sys) y y.awaited reply
fits_broken sys y reply e = subst (λ (a : Awaited). Fits (attempt sys) y a reply) (sym e) tt
