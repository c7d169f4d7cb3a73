-- Which events can be printed.
use Rattle.std.specs.Prelude.{Bool, true, nat_le, IsTrue, List, All}
use Rattle.step_data.specs.declared.event.Event.{Event}
use Rattle.step_data.specs.declared.event.Event.TheVariants.{Solved, Domain, Cross, Signal, Broke, Report, Branch}
use Rattle.step_model.specs.System.{System}

-- a change of a signal where its value can be, a report where its severity is at most 3, and every other event
abbrev pub can_print : System → Event → Bool
can_print sys (Solved t n x) = true
can_print sys (Domain t n) = true
can_print sys (Cross t n k on) = true
can_print sys (Signal t n i value) = sys.is_printable value
can_print sys (Broke t n elements) = true
can_print sys (Report t n severity text) = nat_le severity 3
can_print sys (Branch t n k b) = true

abbrev pub CanPrint : System → List Event → Type 0
CanPrint sys events = All (λ e. IsTrue (can_print sys e)) events
