use Rattle.std.proofs.Common.{◌≡◌, IfOk, subst}
use Rattle.ams_spell.proofs.Concurring as written
use Rattle.ams_spell.proofs.call.spell_concurrent.Goals as goal

pub returns-clause-spelled : goal.returns-clause-spelled
returns-clause-spelled c tokens spells = subst (λ kinds. IfOk c.spelled.result (λ spelled. spelled ≡ kinds)) ((written.concurrent spells.0 spells.1).written _ tokens spells.2 spells.3) c.spelled.ensures
