use Rattle.std.proofs.Common.{sym, ◌∙◌}
use Rattle.process_effects.proofs.Assigning.{refused_leads, made_leads, is_waveform, rejects_so}
use Rattle.process_effects.proofs.assignment.assign_signal.Goals as goal

pub returns-in-Err-transactions-clause-leads : goal.returns-in-Err-transactions-clause-leads
returns-in-Err-transactions-clause-leads g c =
    refused_leads (g.E.Activation.context c.args.world.now) (g.E.Activation.local c.args.world.now) c.args.signal c.args.written.now c.constraint.result c.args.mechanism.now c.in-Ok.limit c.args.waveform.now c.as_slice.result.now c.in-Err-transactions.fault
    c.constraint.ensures (sym c.limit_of.ensures ∙ c.in-Ok.is) c.as_slice.ensures c.in-Err-transactions.ensures.refused

pub assign-requires-clause-some : goal.assign-requires-clause-some
assign-requires-clause-some g c =
    rw (is_waveform (g.E.Activation.context c.args.world.now) (g.E.Activation.local c.args.world.now) c.args.written.now c.constraint.result c.in-Ok.limit c.args.waveform.now c.as_slice.result.now
    c.transactions.new.found.items c.as_slice-3.result.now c.as_slice.ensures c.as_slice-3.ensures.value c.in-Ok-transactions.ensures.ok).as_many c.requires.3

pub assign-requires-clause-rising : goal.assign-requires-clause-rising
assign-requires-clause-rising g c =
    (is_waveform (g.E.Activation.context c.args.world.now) (g.E.Activation.local c.args.world.now) c.args.written.now c.constraint.result c.in-Ok.limit c.args.waveform.now c.as_slice.result.now
    c.transactions.new.found.items c.as_slice-3.result.now c.as_slice.ensures c.as_slice-3.ensures.value c.in-Ok-transactions.ensures.ok).rising

pub assign-requires-clause-later : goal.assign-requires-clause-later
assign-requires-clause-later g c =
    (is_waveform (g.E.Activation.context c.args.world.now) (g.E.Activation.local c.args.world.now) c.args.written.now c.constraint.result c.in-Ok.limit c.args.waveform.now c.as_slice.result.now
    c.transactions.new.found.items c.as_slice-3.result.now c.as_slice.ensures c.as_slice-3.ensures.value c.in-Ok-transactions.ensures.ok).later

pub returns-in-Ok-assign-clause-leads : goal.returns-in-Ok-assign-clause-leads
returns-in-Ok-assign-clause-leads g c =
    made_leads (g.E.Activation.context c.args.world.now) (g.E.Activation.local c.args.world.now) (g.E.Activation.local c.assign.new.self) c.args.signal c.args.written.now c.constraint.result c.args.mechanism.now c.in-Ok.limit
    c.args.waveform.now c.as_slice.result.now c.transactions.new.found.items c.as_slice-3.result.now c.delay_kind.result c.rejection-reject.result
    c.constraint.ensures (sym c.limit_of.ensures ∙ c.in-Ok.is) c.as_slice.ensures c.as_slice-3.ensures.value c.in-Ok-transactions.ensures.ok c.delay_kind.ensures
    (rejects_so (g.E.Activation.context c.args.world.now) (g.E.Activation.local c.args.world.now) (g.E.Values.readings c.args.world.now) c.time.result c.in-Ok.limit c.transactions.new.found.items c.as_slice-2.result.now c.as_slice-3.result.now
    c.rejection-reject.result (g.met.E.Activation.reads c.args.world.now) c.time.ensures c.as_slice-2.ensures.value c.as_slice-3.ensures.value c.rejection-reject.ensures)
    c.in-Ok-assign.ensures.ok
