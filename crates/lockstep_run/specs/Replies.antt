-- What is replied where nothing is saved ahead.
use Rattle.std.specs.Prelude.{ℕ, List, true}
use Rattle.ams_value.specs.declared.val.Val.{Val}
use Rattle.step_data.specs.declared.tip.Tip.{Tip}
use Rattle.step_data.specs.declared.tip.Attempt.{Attempt}
use Rattle.lockstep_model.specs.declared.moves.Ask.TheVariants as asks
use Rattle.lockstep_model.specs.declared.moves.Moved.{Moved}
use Rattle.lockstep_model.specs.declared.moves.Moved.TheVariants as says
use Rattle.lockstep_model.specs.Walk.{Reply, NoReply, Nothing, Consumed, Walk, Awaits, Fits}
use Rattle.mixed_cycle.specs.Moving.{FitsIn}
use Rattle.engine_replies.specs.Replying.{fits_ready, fits_nothing, fits_consumed}

-- no look finds an attempt, and the one that was made counts as used
abbrev pub reply_behind : Moved → Reply
reply_behind (says.Ended e) = NoReply
reply_behind (says.Ask asks.None) = NoReply
reply_behind (says.Ask asks.Begin) = NoReply
reply_behind (says.Ask (asks.Look until)) = Nothing
reply_behind (says.Ask asks.Consume) = Consumed true

-- it is what the engine awaits
pub awaited_reply : (attempt : List Val → Tip → Attempt) (w : Walk) (m : Moved) → Awaits w m → Fits attempt w w.awaited (reply_behind m)
awaited_reply attempt w (says.Ended e) h = fits_ready attempt w h
awaited_reply attempt w (says.Ask asks.None) h = fits_ready attempt w h
awaited_reply attempt w (says.Ask asks.Begin) h = fits_ready attempt w h
awaited_reply attempt w (says.Ask (asks.Look until)) h = fits_nothing attempt w h.0
awaited_reply attempt w (says.Ask asks.Consume) h = fits_consumed attempt w true h

pub reply_has_room : (n : ℕ) (m : Moved) → FitsIn n (reply_behind m)
reply_has_room n (says.Ended e) = tt
reply_has_room n (says.Ask asks.None) = tt
reply_has_room n (says.Ask asks.Begin) = tt
reply_has_room n (says.Ask (asks.Look until)) = tt
reply_has_room n (says.Ask asks.Consume) = tt
