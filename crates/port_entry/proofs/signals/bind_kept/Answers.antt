use Rattle.std.proofs.Common.{Some, sym, subst}
use Rattle.unit_meaning.specs.Walk.{signal_bound}
use Rattle.generic_entry.specs.Entering.{Enters}
use Rattle.port_entry.specs.Entries.{entry_of}
use Rattle.port_entry.proofs.signals.bind_kept.Goals as goal

pub returns-in-Object-clause-entered : goal.returns-in-Object-clause-entered
returns-in-Object-clause-entered c =
    subst (λ a. Enters (signal_bound c.args.mode (Some c.args.valued.now) a c.args.name (entry_of c.args.entry.now)) c.bind_valued.result (entry_of c.bind_valued.new.entry)) (sym c.in-Object.is)
    (c.bind_valued.ensures.entered c.in-Object.field-0)
