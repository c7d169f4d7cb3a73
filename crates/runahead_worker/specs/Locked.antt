-- What lies under the lock: the timeline, and whether the worker waits.
use Rattle.std.specs.Prelude.{◌≡◌, ℕ, ◌+◌, ◌-◌, ◌&&◌, Bool, true, false, not, nat_lt, nat_le, if◌then◌else◌, length}
use Rattle.timeline.specs.declared.line.Line.{Line}
use Rattle.timeline.specs.declared.line.Taken.{Taken}
use Rattle.timeline.specs.declared.line.Taken.TheVariants as takes
use Rattle.timeline.specs.Notes.{Told}
use Rattle.timeline.specs.Line.{with_reserved}
use Rattle.runahead_worker.specs.declared.tallies.Tallies.{Tallies}
use Rattle.runahead_worker.specs.Agrees.{Agrees}

pub record Locked : Type 0 where
  pub line : Line
  pub waits : Bool

-- the worker waits behind this answer
abbrev pub waits_after : Taken → Bool
waits_after takes.Taken = false
waits_after takes.Closed = false
waits_after takes.Idle = true
waits_after takes.Ended = true
waits_after takes.Full = true

-- it waits on where no attempt was taken out
abbrev pub waits_behind : Bool → Bool → Bool
waits_behind was waits = not was && waits

-- few places for notes are left, and there may be more
abbrev pub lacks_room : Told → Bool
lacks_room j = not j.cut && (nat_lt (j.reserved - length j.entries) 16384 && nat_le j.reserved 4128768)

abbrev pub roomed : Locked → Locked
roomed s = if lacks_room s.line.journal then record s { line = with_reserved s.line (s.line.journal.reserved + 65536) } else s

-- the timeline is of the part, and goes with the numbers
pub record HeldKept {J : Type 0} (part wanted : ℕ) (l : Line) (t : Tallies J) : Type 0 where
  pub part_is : part ≡ wanted
  pub agrees : Agrees l.journal t
