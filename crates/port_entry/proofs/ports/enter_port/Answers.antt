use Rattle.std.proofs.Common.{sym, subst}
use Rattle.elab_meaning.specs.Parts.{kept}
use Rattle.elab_meaning.specs.Subtypes.{valued}
use Rattle.unit_meaning.specs.Interfaces.{first_place}
use Rattle.unit_meaning.specs.Walk.{names_entered, signal_entered, judged_entry, port_entered}
use Rattle.generic_entry.specs.Entering.{Enters}
use Rattle.port_entry.specs.Entries.{entry_of}
use Rattle.port_entry.proofs.ports.enter_port.Goals as goal

pub returns-in-Signal-clause-entered : goal.returns-in-Signal-clause-entered
returns-in-Signal-clause-entered c =
    subst (λ p. Enters (port_entered c.args.names.now c.args.outer c.args.given.now c.args.first p (entry_of c.args.entry.now)) c.enter_signals.result (entry_of c.enter_signals.new.entry)) (sym c.in-Signal.is)
    (subst (λ names. Enters
    (names_entered (signal_entered c.args.names.now c.in-Signal.mode (kept (valued c.args.names.now c.args.entry.now.book.scope c.in-Signal.indication c.in-Signal.default c.args.entry.now.book.notes).1)) c.args.given.now c.args.first names
    (judged_entry (first_place c.in-Signal.place names) (valued c.args.names.now c.args.entry.now.book.scope c.in-Signal.indication c.in-Signal.default c.args.entry.now.book.notes) (entry_of c.args.entry.now))) c.enter_signals.result
    (entry_of c.enter_signals.new.entry)) c.as_slice-list.ensures
    c.enter_signals.ensures.entered)
