use Rattle.elab_meaning.specs.Declarations.{with_notes}
use Rattle.elab_meaning.specs.Parts.{kept, closed}
use Rattle.elab_meaning.specs.Subtypes.{valued}
use Rattle.unit_meaning.specs.Interfaces.{first_place}
use Rattle.unit_meaning.specs.Walk.{names_entered, signal_entered}
use Rattle.generic_entry.specs.Entering.{Enters}
use Rattle.port_entry.specs.Entries.{entry_of}
use Rattle.port_entry.proofs.Found.{by_parts}
use Rattle.port_entry.proofs.ports.enter_signals.Goals as goal

pub returns-in-Ok-clause-entered : goal.returns-in-Ok-clause-entered
returns-in-Ok-clause-entered c =
    by_parts
    (λ n part. Enters
    (names_entered (signal_entered c.args.names.now c.args.mode (kept part)) c.args.given.now c.args.first c.args.declared.now
    (record (entry_of c.args.entry.now) { book = with_notes (closed (first_place c.args.place c.args.declared.now) part n) c.args.entry.now.book })) c.enter_judged_signals.result
    (entry_of c.enter_judged_signals.new.entry))
    (valued c.args.names.now c.args.entry.now.book.scope c.args.indication.now c.args.default.now c.args.entry.now.book.notes) c.valued.new.notes c.in-Ok.part c.in-Ok.ensures
    c.enter_judged_signals.ensures.entered
