use Rattle.statement_lists.proofs.Rising.{waveforms}
use Rattle.statement_lists.proofs.driver.waveforms_rise.Goals as goal

pub returns : goal.returns
returns c = waveforms
