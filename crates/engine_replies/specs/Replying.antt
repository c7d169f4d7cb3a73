-- Replies to what an engine asks: each is one that it awaits.
use Rattle.std.specs.Prelude.{◌≡◌, ℕ, List, length, Bool}
use Rattle.std.proofs.Common.{sym, subst}
use Rattle.ams_value.specs.declared.val.Val.{Val}
use Rattle.step_data.specs.declared.tip.Tip.{Tip}
use Rattle.step_data.specs.declared.tip.Attempt.{Attempt}
use Rattle.step_model.specs.System.{System}
use Rattle.lockstep_model.specs.Walk as w
use Rattle.lockstep_model.specs.Walk.{Walk, Awaited, Fits}
use Rattle.mixed_cycle.specs.Asking.{StepsFrom, AsksFrom}
use Rattle.mixed_cycle.specs.Moving.{FitsIn}
use Rattle.engine_replies.specs.declared.reply.Reply.{Reply}
use Rattle.engine_replies.specs.declared.reply.Reply.TheVariants as replies

abbrev pub reply_by : Reply → Attempt → w.Reply
reply_by replies.None made = w.NoReply
reply_by replies.Here made = w.Here made
reply_by replies.Nothing made = w.Nothing
reply_by (replies.Consumed b) made = w.Consumed b

pub fits_ready : (attempt : List Val → Tip → Attempt) (y : Walk) → y.awaited ≡ w.Ready → Fits attempt y y.awaited w.NoReply
fits_ready attempt y e = subst (λ (a : Awaited). Fits attempt y a w.NoReply) (sym e) tt

pub fits_nothing : (attempt : List Val → Tip → Attempt) (y : Walk) → y.awaited ≡ w.Looking → Fits attempt y y.awaited w.Nothing
fits_nothing attempt y e = subst (λ (a : Awaited). Fits attempt y a w.Nothing) (sym e) tt

pub fits_here : (attempt : List Val → Tip → Attempt) (y : Walk) (made : Attempt) → y.awaited ≡ w.Looking → made ≡ attempt y.frame y.tip → Fits attempt y y.awaited (w.Here made)
fits_here attempt y made e is = subst (λ (a : Awaited). Fits attempt y a (w.Here made)) (sym e) is

pub fits_consumed : (attempt : List Val → Tip → Attempt) (y : Walk) (b : Bool) → (own : Bool) × (next : Tip) × (y.awaited ≡ w.Settling own next) → Fits attempt y y.awaited (w.Consumed b)
fits_consumed attempt y b (own, next, e) = subst (λ (a : Awaited). Fits attempt y a (w.Consumed b)) (sym e) tt

pub fits_in : (reply : Reply) (n : ℕ) (made : Attempt) → length made.x ≡ n → FitsIn n (reply_by reply made)
fits_in replies.None n made e = tt
fits_in replies.Here n made e = e
fits_in replies.Nothing n made e = tt
fits_in (replies.Consumed b) n made e = tt

pub steps_looking : (sys : System) (y : Walk) → y.awaited ≡ w.Looking → AsksFrom y.awaited sys y.frame y.tip → StepsFrom sys y.frame y.tip
steps_looking sys y e asks = subst (λ (a : Awaited). AsksFrom a sys y.frame y.tip) e asks
