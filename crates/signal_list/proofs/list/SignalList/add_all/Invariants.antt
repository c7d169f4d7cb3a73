use Rattle.std.proofs.Common.{◌≡◌, drop}
use Rattle.std.specs.List.{fold}
use Rattle.unit_meaning.specs.Bare.{with_signal}
use Rattle.signal_list.proofs.list.SignalList.add_all.Given as goal

abbrev pub invariant-loop-signal : goal.invariant-loop-signal
invariant-loop-signal l = fold with_signal l.self (drop l.signal-index l.signals) ≡ fold with_signal l.fn.self l.signals
