-- What follows of a call's output.
use Rattle.std.proofs.Common.{◌≡◌, ℕ, List, [], sym, ◌∙◌, inl, inr, ◌⊎◌}
use Rattle.port_base.specs.Told.{with_more_nil}
use Rattle.program_output.specs.Port.{Port, Stays, Gains}
use Rattle.program_output.specs.Output.{HandsOn, Tells, noted}
use Rattle.program_output.specs.declared.status.Status.{Status}

-- what stays has gained nothing
pub gains_nothing : (p : Port) → Stays p → Gains p []
gains_nothing p h = h ∙ sym (with_more_nil p.before)

-- a note beside a trace that stays
pub hands_on_note : (own s : Status) (note : List ℕ) (trace notes : Port) → Stays trace → Tells note own s notes → HandsOn (noted own note) s trace notes
hands_on_note own s note trace notes stays (inl told) = inl (told.0, gains_nothing trace stays, told.1)
hands_on_note own s note trace notes stays (inr failed) = inr (inr (inl (failed.0, gains_nothing trace stays, failed.1)))
