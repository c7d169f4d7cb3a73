use Rattle.kernel_state.proofs.parts.joined.Goals as goal

pub returns-clause-built : goal.returns-clause-built
returns-clause-built c = record {
  lists = record { waits = c.requires.waits; callers = c.requires.callers; few = c.requires.few };
  resumed = c.requires.resumed;
}
