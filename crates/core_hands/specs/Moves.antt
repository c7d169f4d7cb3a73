-- A move of the engine with the call of the timeline that it asks for, and a step of the worker.
use Rattle.std.specs.Prelude.{Option, Some, None}
use Rattle.step_data.specs.declared.tip.Attempt.{Attempt}
use Rattle.step_model.specs.System.{System, attempt}
use Rattle.lockstep_model.specs.declared.moves.Ask.{Ask}
use Rattle.lockstep_model.specs.declared.moves.Ask.TheVariants as asks
use Rattle.lockstep_model.specs.declared.moves.Moved.{Moved}
use Rattle.lockstep_model.specs.declared.moves.Moved.TheVariants as says
use Rattle.lockstep_model.specs.Walk as w
use Rattle.lockstep_model.specs.Walk.{Walk, Reply, moved}
use Rattle.timeline.specs.declared.line.Line.{Line}
use Rattle.timeline.specs.declared.line.Looked.{Looked}
use Rattle.timeline.specs.declared.line.Looked.TheVariants as looks
use Rattle.timeline.specs.declared.line.Taken.{Taken}
use Rattle.timeline.specs.declared.line.Taken.TheVariants as takes
use Rattle.timeline.specs.Jobs.{Due}
use Rattle.timeline.specs.Line.{begun, take_reply, after_take, due_of, after_publish, look_reply, after_look, can_consume, after_consume}

-- the walk that is left, and the reply to its last ask
pub record Led : Type 0 where
  pub walk : Walk
  pub reply : Reply

-- the reply to a look for an attempt
abbrev pub found_by : Attempt → Looked → Reply
found_by made looks.Here = w.Here made
found_by made looks.Nothing = w.Nothing

-- the call of the timeline that an ask names: the reply, and the line behind it
abbrev pub reply_to : System → Ask → Walk → Line → Reply
reply_to sys asks.None y l = w.NoReply
reply_to sys asks.Begin y l = w.NoReply
reply_to sys (asks.Look until) y l = found_by (attempt sys y.frame y.tip) (look_reply l y.tip y.frame until)
reply_to sys asks.Consume y l = w.Consumed (can_consume l y.tip y.frame)

abbrev pub line_behind : Ask → Walk → Line → Line
line_behind asks.None y l = l
line_behind asks.Begin y l = begun l y.tip y.frame
line_behind (asks.Look until) y l = after_look l y.tip y.frame until
line_behind asks.Consume y l = after_consume l y.tip y.frame

abbrev pub reply_said : System → Moved → Walk → Line → Reply
reply_said sys (says.Ended e) y l = w.NoReply
reply_said sys (says.Ask ask) y l = reply_to sys ask y l

abbrev pub line_said : Moved → Walk → Line → Line
line_said (says.Ended e) y l = l
line_said (says.Ask ask) y l = line_behind ask y l

-- a move of the engine, and the call that it asks for
abbrev pub led_on : System → Led → Line → Led
led_on sys s l =
    record {
      walk = (moved s.walk s.reply).walk;
      reply = reply_said sys (moved s.walk s.reply).says (moved s.walk s.reply).walk l;
    }

abbrev pub line_led : Led → Line → Line
line_led s l = line_said (moved s.walk s.reply).says (moved s.walk s.reply).walk l

-- a worker's step: it takes a job, or makes the attempt of the one that it has and gives it to the timeline
abbrev pub taken : Taken → Due → Option Due
taken takes.Taken job = Some job
taken takes.Closed job = None
taken takes.Idle job = None
taken takes.Ended job = None
taken takes.Full job = None

abbrev pub hand_worked : Option Due → Line → Option Due
hand_worked None l = taken (take_reply l) (due_of l)
hand_worked (Some job) l = None

abbrev pub line_worked : System → Option Due → Line → Line
line_worked sys None l = after_take l
line_worked sys (Some job) l = after_publish l job (attempt sys job.frame job.tip)
