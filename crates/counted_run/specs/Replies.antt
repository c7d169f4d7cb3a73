-- What is replied to an ask where nothing is saved ahead.
use Rattle.std.specs.Prelude.{◌≡◌, ℕ, List, true, refl}
use Rattle.ams_value.specs.declared.val.Val.{Val}
use Rattle.step_data.specs.declared.tip.Tip.{Tip}
use Rattle.step_data.specs.declared.tip.Attempt.{Attempt}
use Rattle.lockstep_model.specs.declared.moves.Ask.{Ask}
use Rattle.lockstep_model.specs.declared.moves.Ask.TheVariants as asks
use Rattle.lockstep_model.specs.declared.moves.Moved.TheVariants as says
use Rattle.lockstep_model.specs.Walk.{Reply, NoReply, Nothing, Consumed, Walk, Awaits, Fits, here}
use Rattle.mixed_cycle.specs.Moving.{FitsIn}
use Rattle.engine_replies.specs.Replying.{fits_ready, fits_nothing, fits_consumed}

-- no look finds an attempt, and the one that was made counts as used
abbrev pub reply_behind : Ask → Reply
reply_behind asks.None = NoReply
reply_behind asks.Begin = NoReply
reply_behind (asks.Look until) = Nothing
reply_behind asks.Consume = Consumed true

-- it is what the engine awaits
pub awaited_reply : (attempt : List Val → Tip → Attempt) (w : Walk) (a : Ask) → Awaits w (says.Ask a) → Fits attempt w w.awaited (reply_behind a)
awaited_reply attempt w asks.None h = fits_ready attempt w h
awaited_reply attempt w asks.Begin h = fits_ready attempt w h
awaited_reply attempt w (asks.Look until) h = fits_nothing attempt w h.0
awaited_reply attempt w asks.Consume h = fits_consumed attempt w true h

pub reply_has_room : (n : ℕ) (a : Ask) → FitsIn n (reply_behind a)
reply_has_room n asks.None = tt
reply_has_room n asks.Begin = tt
reply_has_room n (asks.Look until) = tt
reply_has_room n asks.Consume = tt

-- and it holds no attempt
pub reply_is_empty : (a : Ask) → here (reply_behind a) ≡ 0
reply_is_empty asks.None = refl
reply_is_empty asks.Begin = refl
reply_is_empty (asks.Look until) = refl
reply_is_empty asks.Consume = refl
