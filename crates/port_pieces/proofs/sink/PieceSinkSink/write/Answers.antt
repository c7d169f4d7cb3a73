use Rattle.port_pieces.proofs.sink.PieceSinkSink.write.Goals as goal

pub returns-clause-listed : goal.returns-clause-listed
returns-clause-listed c = λ h.
    let listed = rw (← c.self.view_is) at h in
    let tested = rw (c.deref.ensures.value, c.saturating_add-self-inside.ensures) at c.contains.ensures.value in
    cc
