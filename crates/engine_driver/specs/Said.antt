-- What a call of the line that a move asks for may reply, and what it leaves in the engine's seat.
use Rattle.std.specs.Prelude.{◌≡◌, ◌⊎◌, ℕ, ◌+◌, ◌≤◌, ◌<◌, ◌^◌, Bool, List, min, refl}
use Rattle.std.proofs.Common.{sym, subst, inl, inr, arith}
use Rattle.ams_value.specs.declared.val.Val.{Val}
use Rattle.step_data.specs.declared.tip.Tip.{Tip}
use Rattle.step_data.specs.declared.tip.Attempt.{Attempt}
use Rattle.lockstep_model.specs.declared.moves.Ask.TheVariants as asks
use Rattle.lockstep_model.specs.declared.moves.Moved.{Moved}
use Rattle.lockstep_model.specs.declared.moves.Moved.TheVariants as says
use Rattle.lockstep_model.specs.Walk as w
use Rattle.lockstep_model.specs.Walk.{Walk, Fits, begins_said, here, nothing}
use Rattle.timeline.specs.declared.line.Looked.{Looked}
use Rattle.timeline.specs.declared.line.Looked.TheVariants as looks
use Rattle.engine_replies.specs.declared.reply.Reply.{Reply}
use Rattle.engine_replies.specs.declared.reply.Reply.TheVariants as replies
use Rattle.engine_replies.specs.Replying.{reply_by, fits_nothing, fits_here}
use Rattle.runahead_worker.specs.declared.seats.LineSeat.{LineSeat}
use Rattle.runahead_worker.specs.Seats.{began, looked, called}

-- the replies to a look
abbrev pub IsLookReply : Reply → Type 0
IsLookReply r = (r ≡ replies.Here) ⊎ (r ≡ replies.Nothing)

-- the replies to what a move says
abbrev pub ReplyFor : Moved → Reply → Type 0
ReplyFor (says.Ended e) r = r ≡ replies.None
ReplyFor (says.Ask asks.None) r = r ≡ replies.None
ReplyFor (says.Ask asks.Begin) r = r ≡ replies.None
ReplyFor (says.Ask (asks.Look until)) r = IsLookReply r
ReplyFor (says.Ask asks.Consume) r = (b : Bool) × (r ≡ replies.Consumed b)

abbrev pub looked_of : Reply → Looked
looked_of replies.None = looks.Nothing
looked_of replies.Here = looks.Here
looked_of replies.Nothing = looks.Nothing
looked_of (replies.Consumed b) = looks.Nothing

-- a look's reply, where the attempt that was found is the asked one, is awaited
pub fits_look : (attempt : List Val → Tip → Attempt) (y : Walk) (r : Reply) (made : Attempt) → y.awaited ≡ w.Looking → IsLookReply r → (r ≡ replies.Here → made ≡ attempt y.frame y.tip) → Fits attempt y y.awaited (reply_by r made)
fits_look attempt y r made ready (inl e) is =
    subst (λ (x : Reply). Fits attempt y y.awaited (reply_by x made)) (sym e) (fits_here attempt y made ready (is e))
fits_look attempt y r made ready (inr e) is =
    subst (λ (x : Reply). Fits attempt y y.awaited (reply_by x made)) (sym e) (fits_nothing attempt y ready)

module _ {J : Type 0} where
  -- the engine's seat behind the call that a move asks for
  abbrev pub seat_said : Moved → Reply → LineSeat J → LineSeat J
  seat_said (says.Ended e) r s = s
  seat_said (says.Ask asks.None) r s = s
  seat_said (says.Ask asks.Begin) r s = began s
  seat_said (says.Ask (asks.Look until)) r s = looked (looked_of r) s
  seat_said (says.Ask asks.Consume) r s = called s

  -- by how much the numbers of a seat rose: begins, looks that answered Here, and looks that answered Nothing
  pub record Rises (begins found missed : ℕ) (s s' : LineSeat J) : Type 0 where
    pub begins_up : min (s.begins + begins) 18446744073709551615 ≤ s'.begins
    pub begins_most : s'.begins ≤ s.begins + begins
    pub reused_is : s.reused < 2 ^ 63 → s'.reused ≡ s.reused + found
    pub missed_is : s.missed < 2 ^ 63 → s'.missed ≡ s.missed + missed

  abbrev pub RisesBy : Moved → w.Reply → LineSeat J → LineSeat J → Type 0
  RisesBy said reply s s' = Rises (begins_said said) (here reply) (nothing reply) s s'

  rises_look : (r : Reply) (until : ℕ) (made : Attempt) (s : LineSeat J) → IsLookReply r → RisesBy (says.Ask (asks.Look until)) (reply_by r made) s (looked (looked_of r) s)
  rises_look r until made s (inl e) =
      rw e (record { begins_up = omega arith; begins_most = omega arith; reused_is = λ h. omega arith; missed_is = λ h. omega arith })
  rises_look r until made s (inr e) =
      rw e (record { begins_up = omega arith; begins_most = omega arith; reused_is = λ h. omega arith; missed_is = λ h. omega arith })

  rises_same : (begins found missed : ℕ) (s s' : LineSeat J) → begins ≡ 0 → found ≡ 0 → missed ≡ 0 → s'.begins ≡ s.begins → s'.reused ≡ s.reused → s'.missed ≡ s.missed → Rises begins found missed s s'
  rises_same begins found missed s s' a b c d e f =
      record { begins_up = omega arith; begins_most = omega arith; reused_is = λ h. omega arith; missed_is = λ h. omega arith }

  pub rises_said : (said : Moved) (r : Reply) (made : Attempt) (s : LineSeat J) → ReplyFor said r → RisesBy said (reply_by r made) s (seat_said said r s)
  rises_said (says.Ended e) r made s is = rw is (rises_same 0 0 0 s s refl refl refl refl refl refl)
  rises_said (says.Ask asks.None) r made s is = rw is (rises_same 0 0 0 s s refl refl refl refl refl refl)
  rises_said (says.Ask asks.Begin) r made s is =
      rw is (record { begins_up = omega arith; begins_most = omega arith; reused_is = λ h. omega arith; missed_is = λ h. omega arith })
  rises_said (says.Ask (asks.Look until)) r made s is = rises_look r until made s is
  rises_said (says.Ask asks.Consume) r made s (b, is) = rw is (rises_same 0 0 0 s (called s) refl refl refl refl refl refl)
