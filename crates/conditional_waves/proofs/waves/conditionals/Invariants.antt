use Rattle.std.proofs.Common.{◌≡◌, drop}
use Rattle.elab_meaning.specs.Parts.{both}
use Rattle.unit_meaning.specs.Settings.{listed}
use Rattle.unit_meaning.specs.Processes as spec
use Rattle.statement_parts.specs.Lists.{joined}
use Rattle.conditional_waves.proofs.waves.conditionals.Given as goal

abbrev pub invariant-loop-waveform : goal.invariant-loop-waveform
invariant-loop-waveform l =
    let rest = listed (spec.conditional l.setting l.scope l.to l.delay) (drop l.waveform-index l.waveforms) l.notes in
    let whole = listed (spec.conditional l.setting l.scope l.to l.delay) l.waveforms l.fn.notes in
    record {
      notes : rest.0 ≡ whole.0;
      told : both joined l.all rest.1 ≡ whole.1;
    }
